-- The rules over slots are kept: what a main node carries, and the main tree, after building, insertion, strike and rebalancing. The model's laws hold
-- over slots, and are read here by the rules. Assumes nothing.
use Prim.Native.Nat.{ℕ, ◌+◌, ◌≤◌, ◌<◌}
use mathlib.Core.Path.{◌≡◌, refl, sym, ap, ◌∙◌, subst}
use mathlib.Core.Bool.{Bool, true, false}
use mathlib.Core.List.{List, [], ◌∷◌, ◌++◌}
use mathlib.Core.Option.{none, some}
use native.Mathlib.Omega.{arith}
use lib.Dec.{eqb}
use lib.ListN.{length}
use borrow.Author.Tests.{eqb-true}
use Rattle.model.specs.Lists.{count_if, remove_first}
use Rattle.model.specs.Axis.{Space, Axis}
use Rattle.model.specs.Register.{innermost}
use Rattle.model.specs.Tree.{Tree, leaf, node, marks, marks_of, build, insert_leaf, strike_leaf, rebalance}
use Rattle.model.specs.Sheet.{Mark, Box, sheet, along_x, along_y}
use Rattle.model.specs.Slots.{slot_space, slot_axis}
use Rattle.model.specs.Laws.{SameBag, SamenessLaws, Distinct, AxisLaws, Sorted, RegisterLaws}
use Rattle.model.proofs.Logic.{by_cases}
use Rattle.model.proofs.Lists.{same_bag-length, remove_first-length}
use Rattle.model.proofs.Sorted.{distinct_cons, sorted-left, sorted-right, sorted-distinct}
use Rattle.model.proofs.Orders.{sheet-sameness, along_x-laws, along_y-laws}
use Rattle.model.proofs.Tree.{marks-pos, build-marks, build-balanced, rebalance-marks, rebalance-balanced, insert-sorted, strike-sorted}
use Rattle.model.proofs.Slots.{slot_space-sameness, slot_axis-laws}
use Rattle.model.proofs.Carried.{Carried, CarriedOf, build-carried, insert-carried, strike-carried, rebalance-carried}
use Rattle.model.proofs.Fold.{settled_with, fold_bound, innermost-laws, innermost-bag, innermost-represents, Sound, fold-laws, fold-sound, fold-represents}
use Rattle.model.proofs.TwoFold.{both-settled}
use Rattle.nodes.specs.Holds.{times_in, times, CarriesBag}
use Rattle.twofold_layout.specs.Rules.{SlotAuxiliary, SlotMain, slot_auxiliary, AuxiliaryOf, AuxiliariesOf, ByRules}

-- Slots that pass a test: no fewer than one slot of them, and than two.
pub times-pass : (p : ℕ → Bool) (s : ℕ) → p s ≡ true → (l : List ℕ) → times_in s l ≤ count_if p l
times-pass p s e [] = omega arith
times-pass p s e (q ∷ l) =
    by_cases (eqb s q)
    (λ t. rw (t, ← eqb-true s q t, e) (omega (arith, times-pass p s e l)))
    (λ u. rw u (omega (arith, times-pass p s e l)))

two-pass : (p : ℕ → Bool) (s q : ℕ) → p s ≡ true → p q ≡ true → eqb q s ≡ false → (l : List ℕ)
    → times_in s l + times_in q l ≤ count_if p l
two-pass p s q e g z [] = omega arith
two-pass p s q e g z (a ∷ l) =
    by_cases (eqb s a)
    (λ t. rw (t, ← eqb-true s a t, e, z) (omega (arith, two-pass p s q e g z l)))
    (λ u. by_cases (eqb q a)
    (λ v. rw (u, v, ← eqb-true q a v, g) (omega (arith, two-pass p s q e g z l)))
    (λ v. rw (u, v) (omega (arith, two-pass p s q e g z l))))

module _ (f : ℕ → Mark) where
  -- the model's space, axes and laws over slots
  abbrev S : Space ℕ Box
  S = slot_space f sheet

  abbrev X : Axis ℕ Box
  X = slot_axis f along_x

  abbrev Y : Axis ℕ Box
  Y = slot_axis f along_y

  abbrev pub slot_sameness : SamenessLaws (slot_space f sheet)
  slot_sameness = slot_space-sameness f sheet sheet-sameness

  abbrev pub slot_x-laws : AxisLaws (slot_space f sheet) (slot_axis f along_x)
  slot_x-laws = slot_axis-laws f sheet along_x along_x-laws

  abbrev slot_y-laws : AxisLaws S Y
  slot_y-laws = slot_axis-laws f sheet along_y along_y-laws

  -- the main tree's search begins with no side settled, an auxiliary's with the side along x
  abbrev pub slot_unsettled : Box → ℕ → Bool
  slot_unsettled b s = true

  abbrev pub slot_settled : Box → ℕ → Bool
  slot_settled = settled_with (slot_axis f along_x) slot_unsettled

  slot-settled : (b : Box) (s : ℕ) → settled_with Y slot_settled b s ≡ true → S.holds b s ≡ true
  slot-settled b s h = both-settled b (f s) h

  abbrev inmost-laws : RegisterLaws S (innermost S) (settled_with Y slot_settled) (λ n. 0)
  inmost-laws = innermost-laws S (settled_with Y slot_settled) slot-settled

  pub slot_auxiliary-laws : RegisterLaws (slot_space f sheet) (slot_auxiliary f) slot_settled (fold_bound (λ n. 0))
  slot_auxiliary-laws = fold-laws S slot_sameness Y slot_y-laws (innermost S) slot_settled (λ n. 0) inmost-laws

  abbrev AuxiliaryCarried : Tree ℕ (List ℕ) → Type 0
  AuxiliaryCarried = Carried S slot_sameness Y slot_y-laws (innermost S) (settled_with Y slot_settled) (λ n. 0) inmost-laws

  abbrev AuxiliarySound : SlotAuxiliary → List ℕ → Type 0
  AuxiliarySound = Sound S slot_sameness Y slot_y-laws (innermost S) slot_settled (λ n. 0) inmost-laws

  carries-carried : (t : Tree ℕ (List ℕ)) → CarriesBag t → AuxiliaryCarried t
  carries-carried (leaf s) c = tt
  carries-carried (node i l r) c = (
    innermost-represents S (settled_with Y slot_settled) slot-settled i (marks l ++ marks r) c.0,
    carries-carried l c.1,
    carries-carried r c.2,
  )

  carried-carries : (t : Tree ℕ (List ℕ)) → AuxiliaryCarried t → CarriesBag t
  carried-carries (leaf s) c = tt
  carried-carries (node i l r) c = (
    innermost-bag S (settled_with Y slot_settled) slot-settled i (marks l ++ marks r) c.0,
    carried-carries l c.1,
    carried-carries r c.2,
  )

  auxiliary-sound : (l : List ℕ) (o : SlotAuxiliary) → AuxiliaryOf f l o → AuxiliarySound o l
  auxiliary-sound l o a =
      subst (λ o. AuxiliarySound o l) (sym a.is)
      (record { bag = a.bag; sorted = a.sorted; balanced = a.balanced; carried = carries-carried a.tree a.carries })

  sound-auxiliary : (l : List ℕ) (o : SlotAuxiliary) → 0 < length l → AuxiliarySound o l → AuxiliaryOf f l o
  sound-auxiliary l none h s = absurd (omega (arith, same_bag-length [] l s.bag))
  sound-auxiliary l (some t) h s =
      record { tree = t; is = refl; bag = s.bag; sorted = s.sorted; balanced = s.balanced; carries = carried-carries t s.carried }

  -- what an inner main node carries is by the rules just where it is what the model's laws ask
  pub auxiliary-represents : (l : List ℕ) (o : SlotAuxiliary) → AuxiliaryOf f l o → slot_auxiliary-laws.Represents o l
  unfolding slot_auxiliary-laws
  auxiliary-represents l o a =
      fold-represents S slot_sameness Y slot_y-laws (innermost S) slot_settled (λ n. 0) inmost-laws o l (auxiliary-sound l o a)

  pub represents-auxiliary : (l : List ℕ) (o : SlotAuxiliary) → 0 < length l → slot_auxiliary-laws.Represents o l → AuxiliaryOf f l o
  unfolding slot_auxiliary-laws
  represents-auxiliary l o h r =
      sound-auxiliary l o h (fold-sound S slot_sameness Y slot_y-laws (innermost S) slot_settled (λ n. 0) inmost-laws o l r)

  -- single auxiliary trees
  pub auxiliary-alike : (l k : List ℕ) (o : SlotAuxiliary) → SameBag l k → AuxiliaryOf f l o → AuxiliaryOf f k o
  auxiliary-alike l k o e a =
      record { tree = a.tree; is = a.is; bag = λ p. a.bag p ∙ e p; sorted = a.sorted; balanced = a.balanced; carries = a.carries }

  pub auxiliary-distinct : (l : List ℕ) (o : SlotAuxiliary) → AuxiliaryOf f l o → Distinct (slot_space f sheet) l
  auxiliary-distinct l o a q = rw (← a.bag (S.same q)) (sorted-distinct slot_sameness slot_y-laws a.sorted q)

  pub auxiliary-insert-of : (s : ℕ) (l : List ℕ) (o : SlotAuxiliary) → count_if ((slot_space f sheet).same s) l ≡ 0 → AuxiliaryOf f l o
      → AuxiliaryOf f (s ∷ l) ((slot_auxiliary f).insert s o)
  auxiliary-insert-of s l o z a =
      represents-auxiliary (s ∷ l) ((slot_auxiliary f).insert s o) (omega arith)
      (slot_auxiliary-laws.insert s o l (distinct_cons slot_sameness s l z (auxiliary-distinct l o a)) (auxiliary-represents l o a))

  pub auxiliary-strike-of : (s : ℕ) (l : List ℕ) (o : SlotAuxiliary) → 0 < count_if ((slot_space f sheet).same s) l → AuxiliaryOf f l o → 1 < length l
      → AuxiliaryOf f (remove_first ((slot_space f sheet).same s) l) ((slot_auxiliary f).strike s o)
  auxiliary-strike-of s l o h a n =
      represents-auxiliary (remove_first (S.same s) l) ((slot_auxiliary f).strike s o) (omega (arith, remove_first-length (S.same s) l h))
      (slot_auxiliary-laws.strike s o l (auxiliary-distinct l o a) h (auxiliary-represents l o a))

  pub auxiliary-build-of : (l : List ℕ) → 0 < length l → Distinct (slot_space f sheet) l → AuxiliaryOf f l ((slot_auxiliary f).build l)
  auxiliary-build-of l n d = represents-auxiliary l ((slot_auxiliary f).build l) n (slot_auxiliary-laws.build l d)

  pub rules-auxiliary-times : {l : List ℕ} {o : SlotAuxiliary} {u : Tree ℕ (List ℕ)} → AuxiliaryOf f l o → o ≡ some u → (q : ℕ)
      → times q u ≡ times_in q l
  rules-auxiliary-times a e q = ap (λ o. times_in q (marks_of o)) (sym e ∙ a.is) ∙ a.bag (eqb q)

  -- and so for all nodes of a main tree
  abbrev pub SlotCarried : SlotMain → Type 0
  SlotCarried =
      Carried (slot_space f sheet) slot_sameness (slot_axis f along_x) slot_x-laws (slot_auxiliary f) slot_settled (fold_bound (λ n. 0)) slot_auxiliary-laws

  pub auxiliaries-carried : (t : SlotMain) → AuxiliariesOf f t → SlotCarried t
  auxiliaries-carried (leaf s) a = tt
  auxiliaries-carried (node i l r) a =
      (auxiliary-represents (marks l ++ marks r) i a.0, auxiliaries-carried l a.1, auxiliaries-carried r a.2)

  pub carried-auxiliaries : (t : SlotMain) → SlotCarried t → AuxiliariesOf f t
  carried-auxiliaries (leaf s) c = tt
  carried-auxiliaries (node i l r) c =
      (represents-auxiliary (marks l ++ marks r) i (marks-pos (node i l r)) c.0, carried-auxiliaries l c.1, carried-auxiliaries r c.2)

  -- the main tree
  pub rules-left : {i : SlotAuxiliary} {l r : SlotMain} → ByRules f (node i l r) → ByRules f l
  rules-left {l = l} {r = r} b = record { sorted = sorted-left (marks l) (marks r) b.sorted; balanced = b.balanced.2; auxiliaries = b.auxiliaries.1 }

  pub rules-right : {i : SlotAuxiliary} {l r : SlotMain} → ByRules f (node i l r) → ByRules f r
  rules-right {l = l} {r = r} b = record { sorted = sorted-right (marks l) (marks r) b.sorted; balanced = b.balanced.3; auxiliaries = b.auxiliaries.2 }

  pub rules-distinct : {t : SlotMain} → ByRules f t → Distinct (slot_space f sheet) (marks t)
  rules-distinct b = sorted-distinct slot_sameness slot_x-laws b.sorted

  -- a tree in order whose nodes carry the right auxiliary trees is mended to one by the rules
  pub rebalance-rules : (t : SlotMain) → Sorted (slot_axis f along_x) (marks t) → AuxiliariesOf f t
      → ByRules f (rebalance (slot_axis f along_x) (slot_auxiliary f) t)
  rebalance-rules t s a = record {
    sorted = rw (rebalance-marks X (slot_auxiliary f) t) s;
    balanced = rebalance-balanced X (slot_auxiliary f) t;
    auxiliaries =
        carried-auxiliaries (rebalance X (slot_auxiliary f) t)
        (rebalance-carried S slot_sameness X slot_x-laws (slot_auxiliary f) slot_settled (fold_bound (λ n. 0)) slot_auxiliary-laws t
        (sorted-distinct slot_sameness slot_x-laws s) (auxiliaries-carried t a));
  }

  pub build-rules : (d : ℕ) (l : List ℕ) → 0 < length l → Sorted (slot_axis f along_x) l
      → ByRules f (build (slot_axis f along_x) (slot_auxiliary f) d l)
  build-rules d l n s = record {
    sorted = rw (build-marks X (slot_auxiliary f) d l n) s;
    balanced = build-balanced X (slot_auxiliary f) d l n;
    auxiliaries =
        carried-auxiliaries (build X (slot_auxiliary f) d l)
        (build-carried S slot_sameness X slot_x-laws (slot_auxiliary f) slot_settled (fold_bound (λ n. 0)) slot_auxiliary-laws d l n
        (sorted-distinct slot_sameness slot_x-laws s));
  }

  -- a new slot put in
  module _ (s : ℕ) (t : SlotMain) (z : count_if ((slot_space f sheet).same s) (marks t) ≡ 0) (b : ByRules f t) where
    pub insert-ordered : Sorted (slot_axis f along_x) (marks (insert_leaf (slot_axis f along_x) (slot_auxiliary f) s t))
    insert-ordered = insert-sorted S slot_sameness X slot_x-laws (slot_auxiliary f) s t b.sorted z

    pub insert-auxiliaries : AuxiliariesOf f (insert_leaf (slot_axis f along_x) (slot_auxiliary f) s t)
    insert-auxiliaries =
        carried-auxiliaries (insert_leaf X (slot_auxiliary f) s t)
        (insert-carried S slot_sameness X slot_x-laws (slot_auxiliary f) slot_settled (fold_bound (λ n. 0)) slot_auxiliary-laws s t
        b.sorted z (auxiliaries-carried t b.auxiliaries))

    pub insert-rules : ByRules f (rebalance (slot_axis f along_x) (slot_auxiliary f) (insert_leaf (slot_axis f along_x) (slot_auxiliary f) s t))
    insert-rules = rebalance-rules (insert_leaf X (slot_auxiliary f) s t) insert-ordered insert-auxiliaries

  -- a slot struck, where a tree remains
  module _ (s : ℕ) (t : SlotMain) (h : 0 < count_if ((slot_space f sheet).same s) (marks t)) (b : ByRules f t) (u : SlotMain)
      (e : strike_leaf (slot_axis f along_x) (slot_auxiliary f) s t ≡ some u) where
    pub strike-ordered : Sorted (slot_axis f along_x) (marks u)
    strike-ordered =
        subst (λ o. Sorted X (marks_of o)) e (strike-sorted S slot_sameness X slot_x-laws (slot_auxiliary f) s t b.sorted h)

    pub strike-auxiliaries : AuxiliariesOf f u
    strike-auxiliaries =
        carried-auxiliaries u
        (subst (CarriedOf S slot_sameness X slot_x-laws (slot_auxiliary f) slot_settled (fold_bound (λ n. 0)) slot_auxiliary-laws) e
        (strike-carried S slot_sameness X slot_x-laws (slot_auxiliary f) slot_settled (fold_bound (λ n. 0)) slot_auxiliary-laws s t
        b.sorted h (auxiliaries-carried t b.auxiliaries)))

    pub strike-rules : ByRules f (rebalance (slot_axis f along_x) (slot_auxiliary f) u)
    strike-rules = rebalance-rules u strike-ordered strike-auxiliaries

  -- slots and their marks
  module _ {I : Type 0} (s : ℕ) (t : Tree ℕ I) where
    pub slot-count : 0 < times s t → 0 < count_if ((slot_space f sheet).same s) (marks t)
    slot-count h = omega (arith, times-pass (S.same s) s (slot_sameness.self s) (marks t))

    pub new-slot : count_if ((slot_space f sheet).same s) (marks t) ≡ 0 → times s t ≡ 0
    new-slot z = omega (arith, times-pass (S.same s) s (slot_sameness.self s) (marks t))

    -- in a tree in order two slots with the same mark are the same slot
    pub same-slot : Sorted (slot_axis f along_x) (marks t) → 0 < times s t → (q : ℕ) → 0 < times q t
        → (slot_space f sheet).same s q ≡ true → q ≡ s
    same-slot o h q k e =
        by_cases (eqb q s)
        (λ v. eqb-true q s v)
        (λ v. absurd
        (omega (arith, two-pass (S.same s) s q (slot_sameness.self s) e v (marks t), sorted-distinct slot_sameness slot_x-laws o s)))
