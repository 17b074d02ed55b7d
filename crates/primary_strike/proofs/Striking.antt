-- The strike of a slot that stands in a two-fold tree: the mirror leaves words that hold the model's tree without it. Assumes nothing.
use Prim.Native.Nat.{ℕ, zero, suc, ◌+◌, ◌*◌, ◌-◌, ◌/◌, ◌%◌, ◌≤◌, ◌<◌}
use mathlib.Core.Path.{◌≡◌, refl, sym, ap, ◌∙◌}
use mathlib.Core.Bool.{Bool, true, false}
use mathlib.Core.List.{List}
use native.Mathlib.Omega.{arith}
use lib.Dec.{eqb}
use lib.ListN.{length}
use borrow.Author.Tests.{lt-leb, eq-eqb, ne_eqb}
use Rattle.model.specs.Axis.{Axis}
use Rattle.model.specs.Register.{Register}
use Rattle.model.specs.Sizes.{D, W}
use Rattle.model.specs.Sheet.{Mark, Box, along_x}
use Rattle.model.specs.Slots.{slot_axis}
use Rattle.model.specs.Tree.{leaf, node, weight, depth, least, evenly, rebalance, rebuilt}
use Rattle.model.proofs.Logic.{by_cases}
use Rattle.model.proofs.Tree.{weight-pos, rebalance-marks, rebalance-weight, rebalance-balanced}
use Rattle.model.proofs.Orders.{sheet-sameness, along_x-laws}
use Rattle.model.proofs.Sizes.{D-rises}
use Rattle.model.proofs.Depth.{balanced-depth}
use Rattle.model.proofs.Rebalance.{rebalance-left, rebalance-right, rebuilt-left, rebuilt-right}
use Rattle.table.specs.Layout.{arm_width, main_place, root_place, level_place}
use Rattle.table.specs.Limits.{deepest, damaged}
use Rattle.nodes.specs.Arms.{Record, no_arm, arms, Way, way, way_of, arm_at, renamed, first_left}
use Rattle.nodes.specs.Ways.{way_at}
use Rattle.nodes.specs.Holds.{number, arm_of, times}
use Rattle.table.specs.After.{After}
use Rattle.nodes.proofs.Balance.{balanced-swap, balanced-less, heavy-none, way-weight}
use Rattle.nodes.proofs.Frames.{put_arm-same}
use Rattle.nodes.proofs.Held.{times-node, times-least, held-right, held-least, held-weight, least-marks}
use Rattle.nodes.proofs.Levels.{most-levels, held-depth, held-shallow}
use Rattle.twofold_layout.specs.Rules.{SlotAuxiliary, SlotMain, slot_auxiliary, ByRules}
use Rattle.twofold_layout.specs.TwoFold.{TwoFold}
use Rattle.twofold_layout.proofs.Frames.{TwoFrame, arm-two_frame}
use Rattle.twofold_layout.proofs.Rules.{rules-left, rules-right}
use Rattle.twofold_layout.proofs.Over.{TwoLeavesAt, two-left, two-right, top-level, deeper-level, two-main}
use Rattle.secondary_update.specs.Strike.{Striking, strike_over, strike_child, strike_beneath♯}
use Rattle.secondary_update.proofs.Inserting.{rebuilt-weight}
use Rattle.secondary_update.proofs.Striking.{strike-leads, struck_node, renamed-least, apart-least}
use Rattle.secondary_update.proofs.Striking.{Strikes, left_goes, right_goes, in_left, in_right, leads-strikes, strikes-in, strikes-weight}
use Rattle.secondary_update.specs.Updates.{Strike, strike_of}
use Rattle.primary_strike.specs.Strike.{struck_auxiliary♯, main, main_strike_beneath♯, put_struck, main_strike♯}
use Rattle.twofold_layout.proofs.Node.{root-leaves}
use Rattle.primary_strike.proofs.Steps.{LeavesMain, struck-rules, goes-holds, afresh-holds}
use Rattle.primary_strike.proofs.Steps.{node-struck, struck-long, struck-left, struck-right, left-node, right-node}

-- what the strike of a slot leaves of the tree at the root, where a tree t' remains
pub record LeavesRoot (f : ℕ → Mark) (C : ℕ) (xs : List ℕ) (t' : SlotMain) (p : After ℕ) : Type 0 where
  pub leaves : TwoLeavesAt f C 0 root_place xs p.words (rebalance (slot_axis f along_x) (slot_auxiliary f) t')
  pub figure : p.out ≡ rebuilt t'
  pub sound : p.out ≡ damaged → ⊥

module _ (f : ℕ → Mark) (C : ℕ) (small : C ≤ 65536) (s : ℕ) where
  -- the model's axis and register over slots
  abbrev X : Axis ℕ Box
  X = slot_axis f along_x

  abbrev R : Register ℕ Box SlotAuxiliary
  R = slot_auxiliary f

  -- `rec` strikes t to t' at depth d
  abbrev StruckBy : Striking → ℕ → SlotMain → SlotMain → Type 0
  StruckBy rec d t t' =
      (xs : List ℕ) → length xs ≡ W C → TwoFold f C d xs t → LeavesMain f C s d xs t t' (rec (level_place C d) (weight t) (number t) xs)

  -- the mirror at an inner node of depth d strikes the left child, or the right one
  module _ (rec : Striking) (d : ℕ) (l r : SlotMain) (xs : List ℕ) where
    abbrev lefts : After Strike
    lefts = strike_child main rec C main_place (f s) s (least r) (way true (arm_of along_x f l) (arm_of along_x f r)) (level_place C d) (weight l + weight r)
        (2 * least r + 1) xs

    abbrev rights : After Strike
    rights = strike_child main rec C main_place (f s) s (least r) (way false (arm_of along_x f r) (arm_of along_x f l)) (level_place C d) (weight l + weight r)
        (2 * least r + 1) xs

  -- at a node whose words are right, the mirror goes by the order
  beneath-node : (n d : ℕ) (i : SlotAuxiliary) (l r : SlotMain) (xs : List ℕ) → TwoFold f C d xs (node i l r)
      → main_strike_beneath♯ (suc n) C (f s) s (level_place C d) (weight l + weight r) (2 * least r + 1) xs
      ≡ (let rec : Striking = main_strike_beneath♯ n C (f s) s in
      let v : Way = way_of (arms (arm_of along_x f l) (arm_of along_x f r)) (along_x.below (f s) (f (least r))) in
      strike_child main rec C main_place (f s) s (least r) v (level_place C d) (weight l + weight r) (2 * least r + 1) xs)
  unfolding strike_beneath♯ way_at
  beneath-node n d i l r xs h =
      let half : (2 * least r + 1) / 2 ≡ least r = omega arith in
      let p : Record = arms (arm_of along_x f l) (arm_of along_x f r) in
      let left : Bool = along_x.below (f s) (f (least r)) in
      let v : Way = way_of p left in
      let w = eq-eqb (v.child.weight + v.sibling.weight) (weight l + weight r) (way-weight p left) in
      rw (
        half,
        lt-leb C (least r) (held-least (held-right h.main)),
        h.main.records.0,
        h.main.marked (least r) (omega (arith, times-node (least r) i l r, times-least r)),
        w,
      )

  -- THE STEPS where the slot's leaf is a child of the node
  left-goes : (rec : Striking) (d : ℕ) (i : SlotAuxiliary) (r : SlotMain) (xs : List ℕ) → length xs ≡ W C → TwoFold f C d xs (node i (leaf s) r)
      → ByRules f (node i (leaf s) r) → d + depth (node i (leaf s) r) ≤ D C
      → LeavesMain f C s d xs (node i (leaf s) r) r (lefts rec d (leaf s) r xs)
  unfolding first_left
  left-goes rec d i r xs ln h b deep =
      rw (heavy-none (weight r) (weight-pos r))
      (goes-holds f C small s d r xs (node i (leaf s) r) (least r) ln (two-right h) (rules-right f b) (omega (arith, b.balanced.0))
      (omega arith) (λ e. refl))

  right-goes : (rec : Striking) (d : ℕ) (i : SlotAuxiliary) (l : SlotMain) (xs : List ℕ) → length xs ≡ W C → TwoFold f C d xs (node i l (leaf s))
      → ByRules f (node i l (leaf s)) → d + depth (node i l (leaf s)) ≤ D C
      → LeavesMain f C s d xs (node i l (leaf s)) l (rights rec d l (leaf s) xs)
  unfolding first_left
  right-goes rec d i l xs ln h b deep =
      rw (heavy-none (weight l) (weight-pos l))
      (goes-holds f C small s d l xs (node i l (leaf s)) 0 ln (two-left h) (rules-left f b) (omega (arith, b.balanced.1))
      (omega arith) (λ e. absurd (apart-least i l (leaf s) s h.main.once (times-least {I = SlotAuxiliary} (leaf s)) e)))

  -- THE STEPS where it stands deeper
  module _ (rec : Striking) (d : ℕ) (i : SlotAuxiliary) (l r : SlotMain) (xs : List ℕ) (ln : length xs ≡ W C)
      (h : TwoFold f C d xs (node i l r)) (b : ByRules f (node i l r)) (level : d < D C) where
    abbrev here : SlotAuxiliary
    here = R.strike s i

    low : d < 40
    low = omega (arith, level, most-levels C small)

    -- the node stays even: its auxiliary tree is struck, then one child, and it is written anew
    left-even : (l' : SlotMain) → along_x.below (f s) (f (least r)) ≡ true → Strikes along_x f s R l l' → evenly l' r ≡ true
        → StruckBy rec (suc d) l l'
        → LeavesMain f C s d xs (node i l r) (node here l' r) (lefts rec d l r xs)
    unfolding strike_over strike_of
    left-even l' e k even struck_by =
        let u = node-struck f C small s d i l r xs ln h b level (omega (arith, strikes-in along_x f s R k, times-node s i l r)) in
        let ys : List ℕ = (struck_auxiliary♯ C (f s) s (level_place C d) (least r) xs).words in
        let q = struck_by ys (struck-long f C small s d i l r xs ln h b level u) (struck-left f C small s d i l r xs ln h b level u) in
        let p : After Strike = rec (level_place C (suc d)) (weight l) (number l) ys in
        let m : SlotMain = rebalance X R l' in
        let w = strikes-weight along_x f s R k in
        let less : weight l - 1 ≡ weight l' = omega arith in
        let one : p.out.arm.weight ≡ weight l' = ap (λ a. a.weight) q.leaves.is ∙ rebalance-weight X R l' in
        rw (
          less,
          ← balanced-less (weight l) (weight r) (weight l') b.balanced.1 w,
          even,
          deeper-level C d small low,
          eq-eqb p.out.arm.weight (weight l') one,
          q.leaves.is,
          u.arm,
        ) record {
          leaves = rw (rebalance-left X R here l' r b.balanced.3, even) (left-node f C small s d i l r xs ln h b level u l' p e k q);
          figure = rw (rebuilt-left here l' r b.balanced.3, even) q.figure;
          first = q.first;
        }

    right-even : (r' : SlotMain) → along_x.below (f s) (f (least r)) ≡ false → Strikes along_x f s R r r' → evenly l r' ≡ true
        → StruckBy rec (suc d) r r'
        → LeavesMain f C s d xs (node i l r) (node here l r') (rights rec d l r xs)
    unfolding strike_over strike_of
    right-even r' e k even struck_by =
        let u = node-struck f C small s d i l r xs ln h b level (omega (arith, strikes-in along_x f s R k, times-node s i l r)) in
        let ys : List ℕ = (struck_auxiliary♯ C (f s) s (level_place C d) (least r) xs).words in
        let q = struck_by ys (struck-long f C small s d i l r xs ln h b level u) (struck-right f C small s d i l r xs ln h b level u) in
        let p : After Strike = rec (level_place C (suc d)) (weight r) (number r) ys in
        let m : SlotMain = rebalance X R r' in
        let w = strikes-weight along_x f s R k in
        let less : weight r - 1 ≡ weight r' = omega arith in
        let one : p.out.arm.weight ≡ weight r' = ap (λ a. a.weight) q.leaves.is ∙ rebalance-weight X R r' in
        let first-m : least m ≡ least r' = least-marks m r' (rebalance-marks X R r') in
        let in_c : least r' < C = rw (← first-m) (held-least q.leaves.held.main) in
        let named : renamed C (least r) s p.out.first ≡ least m =
        renamed-least along_x f R main_place C s r r' p.out.first k in_c q.first ∙ sym first-m in
        rw (
          less,
          ← balanced-less (weight r) (weight l) (weight r') (omega (arith, b.balanced.0)) w,
          balanced-swap (weight r') (weight l),
          even,
          deeper-level C d small low,
          eq-eqb p.out.arm.weight (weight r') one,
          q.leaves.is,
          u.arm,
          named,
        ) record {
          leaves = rw (rebalance-right X R here l r' b.balanced.2, even) (right-node f C small s d i l r xs ln h b level u r' p e k q);
          figure = rw (rebuilt-right here l r' b.balanced.2, even) q.figure;
          first = λ z. absurd (apart-least i l r s h.main.once (strikes-in along_x f s R k) z);
        }

    -- the node will not be even: it is built afresh
    left-uneven : (l' : SlotMain) → along_x.below (f s) (f (least r)) ≡ true → Strikes along_x f s R l l' → depth (node i l r) < 40
        → d + depth (rebalance X R (node here l' r)) ≤ D C → evenly l' r ≡ false
        → LeavesMain f C s d xs (node i l r) (node here l' r) (lefts rec d l r xs)
    left-uneven l' e k shallow deep' uneven =
        let w = strikes-weight along_x f s R k in
        let many : eqb (weight l) 1 ≡ false = ne_eqb (weight l) 1 (omega (arith, weight-pos l')) in
        let less : weight l - 1 ≡ weight l' = omega arith in
        rw (less, ← balanced-less (weight l) (weight r) (weight l') b.balanced.1 w, uneven, many)
        (afresh-holds f C small s d (least l') (node i l r) (node here l' r) xs (in_left e k) ln h b shallow deep'
        (rw (rebalance-left X R here l' r b.balanced.3, uneven)) (rw (rebuilt-left here l' r b.balanced.3, uneven)))

    right-uneven : (r' : SlotMain) → along_x.below (f s) (f (least r)) ≡ false → Strikes along_x f s R r r' → depth (node i l r) < 40
        → d + depth (rebalance X R (node here l r')) ≤ D C → evenly l r' ≡ false
        → LeavesMain f C s d xs (node i l r) (node here l r') (rights rec d l r xs)
    right-uneven r' e k shallow deep' uneven =
        let w = strikes-weight along_x f s R k in
        let many : eqb (weight r) 1 ≡ false = ne_eqb (weight r) 1 (omega (arith, weight-pos r')) in
        let less : weight r - 1 ≡ weight r' = omega arith in
        rw (less, ← balanced-less (weight r) (weight l) (weight r') (omega (arith, b.balanced.0)) w, balanced-swap (weight r') (weight l), uneven, many)
        (afresh-holds f C small s d (least l) (node i l r) (node here l r') xs (in_right e k) ln h b shallow deep'
        (rw (rebalance-right X R here l r' b.balanced.2, uneven)) (rw (rebuilt-right here l r' b.balanced.2, uneven)))

    left-deeper : (l' : SlotMain) → along_x.below (f s) (f (least r)) ≡ true → Strikes along_x f s R l l' → depth (node i l r) < 40
        → d + depth (rebalance X R (node here l' r)) ≤ D C → (suc d + depth (rebalance X R l') ≤ D C → StruckBy rec (suc d) l l')
        → LeavesMain f C s d xs (node i l r) (node here l' r) (lefts rec d l r xs)
    left-deeper l' e k shallow deep' struck_by =
        by_cases (evenly l' r)
        (λ even.
        let z = (rw (rebalance-left X R here l' r b.balanced.3, even) at deep') in
        left-even l' e k even (struck_by (omega (arith, z))))
        (λ uneven. left-uneven l' e k shallow deep' uneven)

    right-deeper : (r' : SlotMain) → along_x.below (f s) (f (least r)) ≡ false → Strikes along_x f s R r r' → depth (node i l r) < 40
        → d + depth (rebalance X R (node here l r')) ≤ D C → (suc d + depth (rebalance X R r') ≤ D C → StruckBy rec (suc d) r r')
        → LeavesMain f C s d xs (node i l r) (node here l r') (rights rec d l r xs)
    right-deeper r' e k shallow deep' struck_by =
        by_cases (evenly l r')
        (λ even.
        let z = (rw (rebalance-right X R here l r' b.balanced.2, even) at deep') in
        right-even r' e k even (struck_by (omega (arith, z))))
        (λ uneven. right-uneven r' e k shallow deep' uneven)

  -- along the way
  strikes-beneath : (n : ℕ) {t t' : SlotMain} → Strikes along_x f s R t t' → (d : ℕ) → ByRules f t → d + depth t ≤ D C
      → d + depth (rebalance X R t') ≤ D C
      → depth t < n → depth t < 40 → StruckBy (main_strike_beneath♯ n C (f s) s) d t t'
  unfolding way_of
  strikes-beneath zero k d b deep deep' fuel low = absurd (omega arith)
  strikes-beneath (suc n) (left_goes {i = i} {r = r} e) d b deep deep' fuel low = λ xs ln h.
      rw (beneath-node n d i (leaf s) r xs h, e) (left-goes (main_strike_beneath♯ n C (f s) s) d i r xs ln h b deep)
  strikes-beneath (suc n) (right_goes {i = i} {l = l} e) d b deep deep' fuel low = λ xs ln h.
      rw (beneath-node n d i l (leaf s) xs h, e) (right-goes (main_strike_beneath♯ n C (f s) s) d i l xs ln h b deep)
  strikes-beneath (suc n) (in_left {i = i} {l = l} {l' = l'} {r = r} e k) d b deep deep' fuel low = λ xs ln h.
      rw (beneath-node n d i l r xs h, e)
      (left-deeper (main_strike_beneath♯ n C (f s) s) d i l r xs ln h b (omega (arith, deep)) l' e k low deep'
      (λ z. strikes-beneath n k (suc d) (rules-left f b) (omega (arith, deep)) z (omega (arith, fuel)) (omega (arith, low))))
  strikes-beneath (suc n) (in_right {i = i} {l = l} {r = r} {r' = r'} e k) d b deep deep' fuel low = λ xs ln h.
      rw (beneath-node n d i l r xs h, e)
      (right-deeper (main_strike_beneath♯ n C (f s) s) d i l r xs ln h b (omega (arith, deep)) r' e k low deep'
      (λ z. strikes-beneath n k (suc d) (rules-right f b) (omega (arith, deep)) z (omega (arith, fuel)) (omega (arith, low))))

  -- THE STRIKE beneath a node
  pub strike_beneath-holds : (fuel : ℕ) {t t' : SlotMain} → Strikes along_x f s (slot_auxiliary f) t t' → (d : ℕ) (xs : List ℕ) → length xs ≡ W C
      → TwoFold f C d xs t → ByRules f t → d + depth t ≤ D C
      → d + depth (rebalance (slot_axis f along_x) (slot_auxiliary f) t') ≤ D C → depth t < fuel → depth t < 40
      → LeavesMain f C s d xs t t' (main_strike_beneath♯ fuel C (f s) s (level_place C d) (weight t) (number t) xs)
  strike_beneath-holds fuel k d xs ln h b deep deep' n low = strikes-beneath fuel k d b deep deep' n low xs ln h

  -- the arm goes to the root
  put_holds : (xs : List ℕ) {t t' : SlotMain} (p : After Strike) → Strikes along_x f s R t t' → length xs ≡ W C → ByRules f t
      → LeavesMain f C s 0 xs t t' p
      → LeavesRoot f C xs t' (put_struck p)
  put_holds xs {t = t} {t' = t'} p k ln b q =
      let m : SlotMain = rebalance X R t' in
      let pos : eqb p.out.arm.weight 0 ≡ false = rw q.leaves.is (ne_eqb (weight m) 0 (omega (arith, weight-pos m))) in
      let w : weight m ≤ C = held-weight q.leaves.held.main in
      rw pos record {
        leaves = root-leaves small ln (struck-rules f s k b).auxiliaries q.leaves;
        figure = q.figure;
        sound = λ e. omega (arith, q.figure, rebuilt-weight t', rebalance-weight X R t');
      }

  struck-depth : {t t' : SlotMain} {xs : List ℕ} → Strikes along_x f s R t t' → TwoFold f C 0 xs t → depth (rebalance X R t') ≤ D C
  struck-depth {t = t} {t' = t'} k h =
      let m : SlotMain = rebalance X R t' in
      let w : weight m ≤ C = omega (arith, rebalance-weight X R t', strikes-weight along_x f s R k, held-weight h.main) in
      omega (arith, balanced-depth m (rebalance-balanced X R t'), D-rises (weight m) C w)

  -- THE STRIKE of a slot from a tree of two or more
  pub main_strike-holds : (i : SlotAuxiliary) (l r : SlotMain) (xs : List ℕ) → length xs ≡ W C
      → arm_at xs root_place ≡ arm_of along_x f (node i l r) → TwoFold f C 0 xs (node i l r) → ByRules f (node i l r) → 0 < times s (node i l r)
      → LeavesRoot f C xs (struck_node along_x f s (slot_auxiliary f) i l r) (main_strike♯ C (f s) s xs)
  unfolding main_strike♯
  main_strike-holds i l r xs ln arm h b n =
      let k = leads-strikes along_x f s R i l r (strike-leads along_x f s sheet-sameness along_x-laws (node i l r) b.sorted n) in
      let odd : ((2 * least r + 1) % 2 ≡ 0 → ⊥) = omega arith in
      let low = held-shallow h.main b.balanced small in
      let a = strike_beneath-holds deepest k 0 xs ln h b (omega (arith, held-depth h.main b.balanced)) (omega (arith, struck-depth k h))
      (omega (arith, low)) (omega (arith, low)) in
      rw (arm, ne_eqb ((2 * least r + 1) % 2) 0 odd, top-level C small)
      (put_holds xs (main_strike_beneath♯ deepest C (f s) s (level_place C 0) (weight l + weight r) (2 * least r + 1) xs) k ln b a)

  -- and from a lone leaf, which leaves no tree
  pub main_strike-lone : (q : ℕ) (xs : List ℕ) → length xs ≡ W C → arm_at xs root_place ≡ arm_of {I = SlotAuxiliary} along_x f (leaf q)
      → let p = main_strike♯ C (f s) s xs in
      (arm_at p.words root_place ≡ no_arm) × (p.out ≡ 0) × TwoFrame C 0 (λ z. ⊥) (λ z. ⊥) root_place arm_width xs p.words
  unfolding main_strike♯
  main_strike-lone q xs ln arm =
      let even : (2 * q) % 2 ≡ 0 = omega arith in
      let room : root_place + arm_width ≤ length xs = omega (arith, (two-main small ln).run_room) in
      rw (arm, eq-eqb ((2 * q) % 2) 0 even) (put_arm-same xs root_place no_arm room, refl, arm-two_frame xs root_place no_arm)
