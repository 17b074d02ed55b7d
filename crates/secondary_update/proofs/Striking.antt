-- The strike of a slot that stands in a tree: what it leaves of the tree, and that the mirror of the strike leaves words that hold it. Assumes nothing.
use Rattle.std.specs.Prelude.{if◌then◌else◌}
use Rattle.std.specs.Bool.{MatchBool}
use Prim.Native.Nat.{ℕ, zero, suc, ◌+◌, ◌*◌, ◌-◌, ◌/◌, ◌≤◌, ◌<◌}
use mathlib.Core.Path.{◌≡◌, refl, sym, ap, subst, ◌∙◌}
use mathlib.Core.Bool.{Bool, true, false}
use mathlib.Core.List.{List, append-nil}
use mathlib.Core.Option.{Option, none, some}
use native.Mathlib.Omega.{arith}
use lib.Dec.{eqb}
use lib.ListN.{length}
use borrow.Author.Tests.{lt-leb, eq-eqb, ne_eqb, eqb-true, eqb-false}
use Rattle.model.specs.Lists.{indicator}
use Rattle.model.specs.Axis.{Space, Axis}
use Rattle.model.specs.Register.{Register}
use Rattle.model.specs.Tree.{Tree, leaf, node, weight, depth, marks, least, evenly, Balanced, build, with_left, with_right, strike_leaf, rebalance, rebuilt}
use Rattle.model.specs.Slots.{slot_space, slot_axis}
use Rattle.model.specs.Sheet.{Mark, Box}
use Rattle.model.specs.Laws.{SamenessLaws, AxisLaws, Sorted}
use Rattle.model.proofs.Logic.{by_cases, clash, not-true-false}
use Rattle.model.proofs.Lists.{all_map, count_if-none}
use Rattle.model.proofs.Sorted.{sorted-left, sorted-right}
use Rattle.model.proofs.Slots.{slot_space-sameness, slot_axis-laws}
use Rattle.model.proofs.Tree.{weight-pos, weight-marks, marks-pos, all_above, left-all-below, rebalance-marks, rebalance-weight}
use Rattle.model.proofs.Rebalance.{balanced-rebuilt, balanced-rebalance, rebalance-left, rebalance-right, rebuilt-left, rebuilt-right}
use Rattle.table.proofs.RunSlots.{as_slot-is}
use Rattle.nodes.specs.Arms.{Record, arms, Way, way, way_of, renamed, first_left}
use Rattle.nodes.specs.Ways.{way_at}
use Rattle.nodes.proofs.Balance.{balanced-swap, balanced-less, heavy-none, way-weight}
use Rattle.nodes.specs.Holds.{number, arm_of, times_in, times, Held}
use Rattle.table.specs.After.{After, after}
use Rattle.nodes.proofs.Unchanged.{unchanged-refl}
use Rattle.nodes.proofs.Frames.{Region}
use Rattle.nodes.proofs.Held.{times-node, times-least, held-left, held-right, held-least, least-marks, Leaves}
use Rattle.nodes.proofs.Without.{without, without-append, without-none}
use Rattle.secondary_build.proofs.Building.{rebuild-holds}
use Rattle.secondary_update.specs.Updates.{Strike, strike_of}
use Rattle.secondary_update.specs.Strike.{Striking, node_over, strike_over, fresh_strike, strike_afresh}
use Rattle.secondary_update.specs.Strike.{strike_child, strike_beneath♯, auxiliary, strike♯}
use Rattle.secondary_update.proofs.Node.{over-left, over-right}

-- a slot that would be below itself, were it s, is not s
not_itself : {S : Space Mark Box} (A : Axis Mark Box) (f : ℕ → Mark) → SamenessLaws S → AxisLaws S A → (s q : ℕ)
    → (s ≡ q → A.below (f s) (f s) ≡ true) → eqb s q ≡ false
not_itself A f E O s q h = not-true-false (eqb s q) (λ e. clash (E.self (f s)) (O.apart (f s) (f s) (h (eqb-true s q e))))

module _ {I : Type 0} (A : Axis Mark Box) (f : ℕ → Mark) (s : ℕ) where
  -- the way by the order leads to the slot's own leaf
  abbrev pub Leads : Tree ℕ I → Type 0
  Leads (leaf q) = q ≡ s
  Leads (node i l r) = MatchBool (A.below (f s) (f (least r))) (Leads l) (Leads r)

  -- in an ordered tree it does, for every slot that stands there
  module _ {S : Space Mark Box} (E : SamenessLaws S) (O : AxisLaws S A) where
    pub strike-leads : (t : Tree ℕ I) → Sorted (slot_axis f A) (marks t) → 0 < times s t → Leads t
    strike-leads (leaf q) o h = by_cases (eqb s q) (λ t. sym (eqb-true s q t)) (λ t. absurd (let z = (rw t at h) in omega arith))
    strike-leads (node i l r) o h =
        let E' = slot_space-sameness f S E in
        let O' = slot_axis-laws f S A O in
        by_cases (A.below (f s) (f (least r)))
        (λ t.
        let above = all_above (slot_space f S) E' (slot_axis f A) O' s r t (sorted-right (marks l) (marks r) o) in
        let z = count_if-none (eqb s) (all_map (λ q b. not_itself A f E O s q (λ e. rw (← e) at b)) above) in
        rw t (strike-leads l (sorted-left (marks l) (marks r) o) (omega (arith, times-node s i l r))))
        (λ t.
        let beneath = left-all-below (slot_space f S) E' (slot_axis f A) O' s l r t o in
        let z = count_if-none (eqb s) (all_map (λ q b. not_itself A f E O s q (λ e. rw (← e) at b)) beneath) in
        rw t (strike-leads r (sorted-right (marks l) (marks r) o) (omega (arith, times-node s i l r))))

  module _ (R : Register ℕ Box I) where
    -- what the strike leaves of an inner node
    abbrev pub struck_node : I → Tree ℕ I → Tree ℕ I → Tree ℕ I
    struck_node i l r =
        if A.below (f s) (f (least r))
        then with_left (R.strike s i) (strike_leaf (slot_axis f A) R s l) r
        else with_right (R.strike s i) l (strike_leaf (slot_axis f A) R s r)

    pub strike-node : (i : I) (l r : Tree ℕ I) → strike_leaf (slot_axis f A) R s (node i l r) ≡ some (struck_node i l r)
    strike-node i l r = refl

    -- Along such a way the strike makes the second tree of the first: the slot's own leaf is a child, and goes, or stands deeper.
    pub data Strikes : Tree ℕ I → Tree ℕ I → Type 0 where
      left_goes : {i : I} {r : Tree ℕ I} → A.below (f s) (f (least r)) ≡ true → Strikes (node i (leaf s) r) r
      right_goes : {i : I} {l : Tree ℕ I} → A.below (f s) (f s) ≡ false → Strikes (node i l (leaf s)) l
      in_left : {i : I} {l l' r : Tree ℕ I} → A.below (f s) (f (least r)) ≡ true → Strikes l l'
          → Strikes (node i l r) (node (R.strike s i) l' r)
      in_right : {i : I} {l r r' : Tree ℕ I} → A.below (f s) (f (least r)) ≡ false → Strikes r r'
          → Strikes (node i l r) (node (R.strike s i) l r')

    abbrev StrikesTo : Tree ℕ I → Option (Tree ℕ I) → Type 0
    StrikesTo t none = t ≡ leaf s
    StrikesTo t (some t') = Strikes t t'

    strikes-left : (i : I) (l r : Tree ℕ I) (o : Option (Tree ℕ I)) → A.below (f s) (f (least r)) ≡ true → StrikesTo l o
        → Strikes (node i l r) (with_left (R.strike s i) o r)
    strikes-left i l r none t e = rw e (left_goes t)
    strikes-left i l r (some l') t h = in_left t h

    strikes-right : (i : I) (l r : Tree ℕ I) (o : Option (Tree ℕ I)) → A.below (f s) (f (least r)) ≡ false → StrikesTo r o
        → Strikes (node i l r) (with_right (R.strike s i) l o)
    strikes-right i l r none t e = rw e (right_goes (rw e at t))
    strikes-right i l r (some r') t h = in_right t h

    leads-to : (t : Tree ℕ I) → Leads t → StrikesTo t (strike_leaf (slot_axis f A) R s t)
    leads-to (leaf q) w = ap leaf w
    leads-to (node i l r) w =
        by_cases (A.below (f s) (f (least r)))
        (λ t. rw t (strikes-left i l r (strike_leaf (slot_axis f A) R s l) t (leads-to l (rw t at w))))
        (λ t. rw t (strikes-right i l r (strike_leaf (slot_axis f A) R s r) t (leads-to r (rw t at w))))

    pub leads-strikes : (i : I) (l r : Tree ℕ I) → Leads (node i l r) → Strikes (node i l r) (struck_node i l r)
    leads-strikes i l r w = leads-to (node i l r) w

    pub strikes-times : {t t' : Tree ℕ I} → Strikes t t' → (q : ℕ) → times q t' + indicator (eqb q s) ≡ times q t
    strikes-times (left_goes e) q = omega arith
    strikes-times (right_goes {i = i} {l = l} e) q = omega (arith, times-node q i l (leaf s))
    strikes-times (in_left {i = i} {l = l} {l' = l'} {r = r} e h) q =
        omega (arith, times-node q i l r, times-node q i l' r, strikes-times h q)
    strikes-times (in_right {i = i} {l = l} {r = r} {r' = r'} e h) q =
        omega (arith, times-node q i l r, times-node q i l r', strikes-times h q)

    pub strikes-in : {t t' : Tree ℕ I} → Strikes t t' → 0 < times s t
    strikes-in h = let e = (rw (eq-eqb s s refl) at (strikes-times h s)) in omega arith

    pub strikes-weight : {t t' : Tree ℕ I} → Strikes t t' → weight t' + 1 ≡ weight t
    strikes-weight (left_goes e) = omega arith
    strikes-weight (right_goes e) = omega arith
    strikes-weight (in_left e h) = omega (arith, strikes-weight h)
    strikes-weight (in_right e h) = omega (arith, strikes-weight h)

    pub strikes-depth : {t t' : Tree ℕ I} → Strikes t t' → depth t' ≤ depth t
    strikes-depth (left_goes e) = omega arith
    strikes-depth (right_goes e) = omega arith
    strikes-depth (in_left e h) = omega (arith, strikes-depth h)
    strikes-depth (in_right e h) = omega (arith, strikes-depth h)

    -- it is the model's strike, and leaves the other slots in their order
    pub strikes-leaf : {t t' : Tree ℕ I} → Strikes t t' → strike_leaf (slot_axis f A) R s t ≡ some t'
    strikes-leaf (left_goes e) = rw e
    strikes-leaf (right_goes e) = rw e
    strikes-leaf (in_left e h) = rw (e, strikes-leaf h)
    strikes-leaf (in_right e h) = rw (e, strikes-leaf h)

    pub strikes-marks : {t t' : Tree ℕ I} → Strikes t t' → ((q : ℕ) → times q t ≤ 1) → marks t' ≡ without s (marks t)
    strikes-marks (left_goes {i = i} {r = r} e) once =
        let z = once s in
        rw (eq-eqb s s refl) (sym (without-none s (marks r) (omega (arith, (rw (eq-eqb s s refl) at z)))))
    strikes-marks (right_goes {i = i} {l = l} e) once =
        let z = (rw (times-node s i l (leaf s), eq-eqb s s refl) at (once s)) in
        rw (without-append s (marks l) (marks {I = I} (leaf s)), eq-eqb s s refl, without-none s (marks l) (omega (arith, z)))
        (sym (append-nil (marks l)))
    strikes-marks (in_left {i = i} {l = l} {l' = l'} {r = r} e h) once =
        let z : times_in s (marks r) ≡ 0 = omega (arith, once s, times-node s i l r, strikes-in h) in
        rw (without-append s (marks l) (marks r), strikes-marks h (λ q. omega (arith, once q, times-node q i l r)), without-none s (marks r) z)
    strikes-marks (in_right {i = i} {l = l} {r = r} {r' = r'} e h) once =
        let z : times_in s (marks l) ≡ 0 = omega (arith, once s, times-node s i l r, strikes-in h) in
        rw (without-append s (marks l) (marks r), strikes-marks h (λ q. omega (arith, once q, times-node q i l r)), without-none s (marks l) z)

    -- the least stays, where it is not struck
    pub strikes-least : {t t' : Tree ℕ I} → Strikes t t' → (least t ≡ s → ⊥) → least t' ≡ least t
    strikes-least (left_goes e) n = absurd (n refl)
    strikes-least (right_goes e) n = refl
    strikes-least (in_left e h) n = strikes-least h n
    strikes-least (in_right e h) n = refl

-- where each slot stands once, one of the right child is not the least
pub apart-least : {I : Type 0} (i : I) (l r : Tree ℕ I) (s : ℕ) → ((q : ℕ) → times q (node i l r) ≤ 1) → 0 < times s r → least l ≡ s → ⊥
apart-least i l r s once h e =
    let z = subst (λ q. 0 < times q l) e (times-least l) in
    omega (arith, once s, times-node s i l r)

module _ {I : Type 0} (A : Axis Mark Box) (f : ℕ → Mark) (R : Register ℕ Box I) (place : ℕ → ℕ) (C : ℕ) (s : ℕ) where
  abbrev X : Axis ℕ Box
  X = slot_axis f A

  -- what a strike from t leaves: t' mended, the figure, and t''s least where t's was struck
  pub record LeavesStruck (xs : List ℕ) (t t' : Tree ℕ I) (p : After Strike) : Type 0 where
    pub leaves : Leaves A f place C xs p.out.arm p.words (rebalance (slot_axis f A) R t')
    pub figure : p.out.rebuilt ≡ rebuilt t'
    pub first : least t ≡ s → p.out.first ≡ least t'

  -- the name of a node whose right child is struck: a new one, where the slot was its name
  pub renamed-least : (r r' : Tree ℕ I) (first : ℕ) → Strikes A f s R r r' → least r' < C → (least r ≡ s → first ≡ least r')
      → renamed C (least r) s first ≡ least r'
  unfolding renamed
  renamed-least r r' first k in_c h =
      by_cases (eqb (least r) s)
      (λ t. rw (t, h (eqb-true (least r) s t)) (as_slot-is C (least r') in_c))
      (λ u. rw u (sym (strikes-least A f s R k (eqb-false (least r) s u))))

  -- a child's sibling takes the node's place
  stays : (xs : List ℕ) (t u : Tree ℕ I) (first : ℕ) → Held A f place C xs u → Balanced u → (least t ≡ s → first ≡ least u)
      → LeavesStruck xs t u (after (strike_of (arm_of A f u) 0 first) xs)
  unfolding strike_of
  stays xs t u first h b e = record {
    leaves = rw (balanced-rebalance X R u b) record { is = refl; held = h; frame = unchanged-refl xs };
    figure = sym (balanced-rebuilt u b);
    first = e;
  }

  -- a node that will not be even is built afresh of its other slots
  afresh-holds : (d : ℕ) (t t' : Tree ℕ I) (xs : List ℕ) → Strikes A f s R t t' → Region place C (length xs) → Held A f place C xs t
      → depth t < 40
      → rebalance X R t' ≡ build X R d (marks t') → rebuilt t' ≡ weight t'
      → LeavesStruck xs t t' (strike_afresh A C place s (weight t) (number t) xs)
  unfolding strike_afresh fresh_strike strike_of
  afresh-holds d t t' xs k g h deep e n =
      let w : weight t - 1 ≡ weight t' = omega (arith, strikes-weight A f s R k) in
      let a = rebuild-holds A f place C R s (weight t') d t (marks t') xs g h deep
      (strikes-marks A f s R k h.once) (marks-pos t') (weight-marks t') in
      rw w record {
        leaves = rw e a.0;
        figure = sym n;
        first = λ z. a.1 ∙ ap least (sym e) ∙ least-marks (rebalance X R t') t' (rebalance-marks X R t');
      }

  -- the mirror beneath a node with so many levels to go, and at a node whose children are told
  abbrev beneath : ℕ → Striking
  beneath n = strike_beneath♯ A (auxiliary A) C place (f s) s n

  abbrev child : Striking → ℕ → Way → ℕ → ℕ → List ℕ → After Strike
  child rec name v w n xs = strike_child (auxiliary A) rec C place (f s) s name v 0 w n xs

  -- at a node whose record is sound, the mirror goes by the order
  strike♯-node : (n : ℕ) (i : I) (l r : Tree ℕ I) (xs : List ℕ) → Held A f place C xs (node i l r)
      → strike♯ A (suc n) C place (f s) s (weight l + weight r) (2 * least r + 1) xs
      ≡ (let p : Record = arms (arm_of A f l) (arm_of A f r) in
      child (beneath n) (least r) (way_of p (A.below (f s) (f (least r)))) (weight l + weight r) (2 * least r + 1) xs)
  unfolding strike_beneath♯ way_at
  strike♯-node n i l r xs h =
      let half : (2 * least r + 1) / 2 ≡ least r = omega arith in
      let p : Record = arms (arm_of A f l) (arm_of A f r) in
      let left : Bool = A.below (f s) (f (least r)) in
      let v : Way = way_of p left in
      let w = eq-eqb (v.child.weight + v.sibling.weight) (weight l + weight r) (way-weight p left) in
      rw (
        half,
        lt-leb C (least r) (held-least (held-right h)),
        h.records.0,
        h.marked (least r) (omega (arith, times-node (least r) i l r, times-least r)),
        w,
      )

  -- the slot's leaf is the node's left, or right, child
  left-goes : (rec : Striking) (i : I) (r : Tree ℕ I) (xs : List ℕ) → Held A f place C xs (node i (leaf s) r) → Balanced (node i (leaf s) r)
      → LeavesStruck xs (node i (leaf s) r) r
      (child rec (least r) (way true (arm_of {I = I} A f (leaf s)) (arm_of A f r)) (1 + weight r) (2 * least r + 1) xs)
  unfolding strike_of first_left
  left-goes rec i r xs h b =
      rw (heavy-none (weight r) (weight-pos r)) (stays xs (node i (leaf s) r) r (least r) (held-right h) b.3 (λ e. refl))

  right-goes : (rec : Striking) (i : I) (l : Tree ℕ I) (xs : List ℕ) → Held A f place C xs (node i l (leaf s)) → Balanced (node i l (leaf s))
      → LeavesStruck xs (node i l (leaf s)) l
      (child rec s (way false (arm_of {I = I} A f (leaf s)) (arm_of A f l)) (weight l + 1) (2 * s + 1) xs)
  unfolding strike_of first_left
  right-goes rec i l xs h b =
      rw (heavy-none (weight l) (weight-pos l))
      (stays xs (node i l (leaf s)) l 0 (held-left h) b.2 (λ e. absurd (apart-least i l (leaf s) s h.once (times-least {I = I} (leaf s)) e)))

  module _ (xs : List ℕ) (g : Region place C (length xs)) (rec : Striking) (i : I) (l r : Tree ℕ I) (h : Held A f place C xs (node i l r))
      (b : Balanced (node i l r)) (deep : depth (node i l r) < 40) where
    -- the mirror strikes the left child, or the right one
    abbrev lefts : After Strike
    lefts = child rec (least r) (way true (arm_of A f l) (arm_of A f r)) (weight l + weight r) (2 * least r + 1) xs

    abbrev rights : After Strike
    rights = child rec (least r) (way false (arm_of A f r) (arm_of A f l)) (weight l + weight r) (2 * least r + 1) xs

    node-apart : (z : ℕ) → times z l + times z r ≤ 1
    node-apart z = omega (arith, h.once z, times-node z i l r)

    -- the slot stands deeper on the left, and the node will be even
    left-even : (l' : Tree ℕ I) → Strikes A f s R l l' → evenly l' r ≡ true → LeavesStruck xs l l' (rec 0 (weight l) (number l) xs)
        → LeavesStruck xs (node i l r) (node (R.strike s i) l' r) lefts
    unfolding strike_over node_over strike_of
    left-even l' k even q =
        let j : I = R.strike s i in
        let p : After Strike = rec 0 (weight l) (number l) xs in
        let m : Tree ℕ I = rebalance X R l' in
        let w = strikes-weight A f s R k in
        let less : weight l - 1 ≡ weight l' = omega arith in
        let one : p.out.arm.weight ≡ weight l' = ap (λ a. a.weight) q.leaves.is ∙ rebalance-weight X R l' in
        let same : ((z : ℕ) → times z m ≡ times z l') = λ z. ap (times_in z) (rebalance-marks X R l') in
        let apart : ((z : ℕ) → times z m + times z r ≤ 1) = λ z. omega (arith, same z, node-apart z, strikes-times A f s R k z) in
        rw (less, ← balanced-less (weight l) (weight r) (weight l') b.1 w, even, eq-eqb p.out.arm.weight (weight l') one, q.leaves.is) record {
          leaves = rw (rebalance-left X R j l' r b.3, even) (over-left A f j m r g apart q.leaves (held-right h));
          figure = rw (rebuilt-left j l' r b.3, even) q.figure;
          first = q.first;
        }

    -- or on the right
    right-even : (r' : Tree ℕ I) → Strikes A f s R r r' → evenly l r' ≡ true → LeavesStruck xs r r' (rec 0 (weight r) (number r) xs)
        → LeavesStruck xs (node i l r) (node (R.strike s i) l r') rights
    unfolding strike_over node_over strike_of
    right-even r' k even q =
        let j : I = R.strike s i in
        let p : After Strike = rec 0 (weight r) (number r) xs in
        let m : Tree ℕ I = rebalance X R r' in
        let w = strikes-weight A f s R k in
        let less : weight r - 1 ≡ weight r' = omega arith in
        let one : p.out.arm.weight ≡ weight r' = ap (λ a. a.weight) q.leaves.is ∙ rebalance-weight X R r' in
        let same : ((z : ℕ) → times z m ≡ times z r') = λ z. ap (times_in z) (rebalance-marks X R r') in
        let apart : ((z : ℕ) → times z l + times z m ≤ 1) = λ z. omega (arith, same z, node-apart z, strikes-times A f s R k z) in
        let least-m : least m ≡ least r' = least-marks m r' (rebalance-marks X R r') in
        let in_c : least r' < C = rw (← least-m) (held-least q.leaves.held) in
        let named : renamed C (least r) s p.out.first ≡ least m = renamed-least r r' p.out.first k in_c q.first ∙ sym least-m in
        rw (
          less,
          ← balanced-less (weight r) (weight l) (weight r') (omega (arith, b.0)) w,
          balanced-swap (weight r') (weight l),
          even,
          eq-eqb p.out.arm.weight (weight r') one,
          q.leaves.is,
          named,
        ) record {
          leaves = rw (rebalance-right X R j l r' b.2, even) (over-right A f j l m g apart (held-left h) q.leaves);
          figure = rw (rebuilt-right j l r' b.2, even) q.figure;
          first = λ e. absurd (apart-least i l r s h.once (strikes-in A f s R k) e);
        }

    -- the node will not be even
    left-uneven : (l' : Tree ℕ I) → A.below (f s) (f (least r)) ≡ true → Strikes A f s R l l' → evenly l' r ≡ false
        → LeavesStruck xs (node i l r) (node (R.strike s i) l' r) lefts
    left-uneven l' e k uneven =
        let j : I = R.strike s i in
        let w = strikes-weight A f s R k in
        let many : eqb (weight l) 1 ≡ false = ne_eqb (weight l) 1 (omega (arith, weight-pos l')) in
        let less : weight l - 1 ≡ weight l' = omega arith in
        rw (less, ← balanced-less (weight l) (weight r) (weight l') b.1 w, uneven, many)
        (afresh-holds (least l') (node i l r) (node j l' r) xs (in_left e k) g h deep
        (rw (rebalance-left X R j l' r b.3, uneven)) (rw (rebuilt-left j l' r b.3, uneven)))

    right-uneven : (r' : Tree ℕ I) → A.below (f s) (f (least r)) ≡ false → Strikes A f s R r r' → evenly l r' ≡ false
        → LeavesStruck xs (node i l r) (node (R.strike s i) l r') rights
    right-uneven r' e k uneven =
        let j : I = R.strike s i in
        let w = strikes-weight A f s R k in
        let many : eqb (weight r) 1 ≡ false = ne_eqb (weight r) 1 (omega (arith, weight-pos r')) in
        let less : weight r - 1 ≡ weight r' = omega arith in
        rw (less, ← balanced-less (weight r) (weight l) (weight r') (omega (arith, b.0)) w, balanced-swap (weight r') (weight l), uneven, many)
        (afresh-holds (least l) (node i l r) (node j l r') xs (in_right e k) g h deep
        (rw (rebalance-right X R j l r' b.2, uneven)) (rw (rebuilt-right j l r' b.2, uneven)))

  module _ (xs : List ℕ) (g : Region place C (length xs)) where
    -- along the way
    strikes-holds : (n : ℕ) {t t' : Tree ℕ I} → Strikes A f s R t t' → Held A f place C xs t → Balanced t → depth t < n → depth t < 40
        → LeavesStruck xs t t' (strike♯ A n C place (f s) s (weight t) (number t) xs)
    unfolding way_of
    strikes-holds zero k h b d deep = absurd (omega arith)
    strikes-holds (suc n) (left_goes {i = i} {r = r} e) h b d deep =
        rw (strike♯-node n i (leaf s) r xs h, e) (left-goes (beneath n) i r xs h b)
    strikes-holds (suc n) (right_goes {i = i} {l = l} e) h b d deep =
        rw (strike♯-node n i l (leaf s) xs h, e) (right-goes (beneath n) i l xs h b)
    strikes-holds (suc n) (in_left {i = i} {l = l} {l' = l'} {r = r} e k) h b d deep =
        rw (strike♯-node n i l r xs h, e)
        (by_cases (evenly l' r)
        (λ t. left-even xs g (beneath n) i l r h b deep l' k t (strikes-holds n k (held-left h) b.2 (omega arith) (omega arith)))
        (λ t. left-uneven xs g (beneath n) i l r h b deep l' e k t))
    strikes-holds (suc n) (in_right {i = i} {l = l} {r = r} {r' = r'} e k) h b d deep =
        rw (strike♯-node n i l r xs h, e)
        (by_cases (evenly l r')
        (λ t. right-even xs g (beneath n) i l r h b deep r' k t (strikes-holds n k (held-right h) b.3 (omega arith) (omega arith)))
        (λ t. right-uneven xs g (beneath n) i l r h b deep r' e k t))

    -- THE STRIKE of a slot from a tree of two or more
    pub strike-holds : (n : ℕ) (i : I) (l r : Tree ℕ I) → Leads A f s (node i l r) → Held A f place C xs (node i l r) → Balanced (node i l r)
        → depth (node i l r) < n → depth (node i l r) < 40
        → LeavesStruck xs (node i l r) (struck_node A f s R i l r) (strike♯ A n C place (f s) s (weight l + weight r) (2 * least r + 1) xs)
    strike-holds n i l r w h b d deep = strikes-holds n (leads-strikes A f s R i l r w) h b d deep
