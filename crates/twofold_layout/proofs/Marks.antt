-- What a tree over slots says depends on the marks of its own slots only: where f and g agree on them, arms, records, rules and the tree over marks are the
-- same by f and by g. Assumes nothing.
use Prim.Native.Nat.{ℕ, suc, ◌<◌}
use mathlib.Core.Path.{◌≡◌, refl, sym, ap, ap₂, subst, ◌∙◌}
use mathlib.Core.Bool.{true}
use mathlib.Core.List.{List, [], ◌∷◌, ◌++◌, map}
use mathlib.Core.Option
use mathlib.Core.Option.{some}
use native.Mathlib.Omega.{arith}
use lib.Dec.{eqb}
use borrow.Author.Tests.{eq-eqb}
use Rattle.model.specs.Totals.{total}
use Rattle.model.specs.Axis.{Axis}
use Rattle.model.specs.Tree.{Tree, leaf, node, marks, least, greatest}
use Rattle.model.specs.Sheet.{Mark, Box, along_x, along_y}
use Rattle.model.specs.Slots.{slot_axis, map_tree}
use Rattle.model.specs.Laws.{All, nil, cons, Sorted, sorted[], sorted∷}
use Rattle.model.proofs.Lists.{count_if-append}
use Rattle.nodes.specs.Arms.{arms}
use Rattle.table.specs.Grades.{grading}
use Rattle.nodes.specs.Holds.{arm_of, Holds, times_in, times, Held, CarriesBag}
use Rattle.nodes.proofs.Held.{times-node, times-least}
use Rattle.twofold_layout.specs.Rules.{SlotAuxiliary, SlotMain, AuxiliaryOf, AuxiliariesOf, ByRules, marks_main}
use Rattle.twofold_layout.specs.TwoFold.{HoldsAuxiliary, HoldsAuxiliaries, TwoFold}
use Rattle.twofold_layout.proofs.Rules.{rules-auxiliary-times}

module _ (f g : ℕ → Mark) where
  -- agreement on the slots of a list, and of a tree
  abbrev pub SameOn : List ℕ → Type 0
  SameOn l = (s : ℕ) → 0 < times_in s l → f s ≡ g s

  same_head : (s : ℕ) (l : List ℕ) → SameOn (s ∷ l) → f s ≡ g s
  same_head s l same = same s (rw (eq-eqb s s refl) (omega arith))

  same-tail : (s : ℕ) (l : List ℕ) → SameOn (s ∷ l) → SameOn l
  same-tail s l same q h = same q (omega arith)

  same-before : (l r : List ℕ) → SameOn (l ++ r) → SameOn l
  same-before l r same s h = same s (omega (arith, count_if-append (eqb s) l r))

  same_after : (l r : List ℕ) → SameOn (l ++ r) → SameOn r
  same_after l r same s h = same s (omega (arith, count_if-append (eqb s) l r))

  same-bag : (l k : List ℕ) → ((s : ℕ) → times_in s k ≡ times_in s l) → SameOn l → SameOn k
  same-bag l k e same s h = same s (subst (λ n. 0 < n) (e s) h)

  -- WORDS

  grades-marks : (l : List ℕ) → SameOn l → total grading.join (λ s. grading.of (f s)) l ≡ total grading.join (λ s. grading.of (g s)) l
  grades-marks [] same = refl
  grades-marks (s ∷ l) same = rw (same_head s l same, grades-marks l (same-tail s l same))

  module _ {I : Type 0} (A : Axis Mark Box) where
    times-greatest : (t : Tree ℕ I) → 0 < times (greatest t) t
    times-greatest (leaf s) = rw (eq-eqb s s refl) (omega arith)
    times-greatest (node i l r) = omega (arith, times-node (greatest r) i l r, times-greatest r)

    pub arm_of-marks : (t : Tree ℕ I) → SameOn (marks t) → arm_of A f t ≡ arm_of A g t
    arm_of-marks t same = rw (same (least t) (times-least t), same (greatest t) (times-greatest t), grades-marks (marks t) same)

    holds-marks : (place : ℕ → ℕ) (xs : List ℕ) (t : Tree ℕ I) → SameOn (marks t) → Holds A f place xs t → Holds A g place xs t
    holds-marks place xs (leaf s) same h = tt
    holds-marks place xs (node i l r) same h =
        let before = same-before (marks l) (marks r) same in
        let after = same_after (marks l) (marks r) same in
        (h.0 ∙ ap₂ arms (arm_of-marks l before) (arm_of-marks r after), holds-marks place xs l before h.1, holds-marks place xs r after h.2)

    pub held-marks : {place : ℕ → ℕ} {C : ℕ} {xs : List ℕ} (t : Tree ℕ I) → SameOn (marks t) → Held A f place C xs t → Held A g place C xs t
    held-marks {place = place} {xs = xs} t same h = record {
      once = h.once;
      within = h.within;
      marked = λ s k. h.marked s k ∙ same s k;
      records = holds-marks place xs t same h.records;
    }

  auxiliary-marks : {C d name : ℕ} {xs l : List ℕ} {o : SlotAuxiliary} → SameOn l → AuxiliaryOf f l o → HoldsAuxiliary f C d name xs o
      → HoldsAuxiliary g C d name xs o
  auxiliary-marks {l = l} same a h =
      let own : SameOn (marks h.tree) = same-bag l (marks h.tree) (rules-auxiliary-times f a h.is) same in
      record { tree = h.tree; is = h.is; arm = h.arm ∙ arm_of-marks along_y h.tree own; held = held-marks along_y h.tree own h.held }

  auxiliaries-marks : (C d : ℕ) (xs : List ℕ) (t : SlotMain) → SameOn (marks t) → AuxiliariesOf f t → HoldsAuxiliaries f C d xs t
      → HoldsAuxiliaries g C d xs t
  auxiliaries-marks C d xs (leaf s) same a h = tt
  auxiliaries-marks C d xs (node i l r) same a h = (
    auxiliary-marks same a.0 h.0,
    auxiliaries-marks C (suc d) xs l (same-before (marks l) (marks r) same) a.1 h.1,
    auxiliaries-marks C (suc d) xs r (same_after (marks l) (marks r) same) a.2 h.2,
  )

  pub two-marks : {C d : ℕ} {xs : List ℕ} (t : SlotMain) → SameOn (marks t) → AuxiliariesOf f t → TwoFold f C d xs t → TwoFold g C d xs t
  two-marks {C = C} {d = d} {xs = xs} t same a h =
      record { main = held-marks along_x t same h.main; auxiliaries = auxiliaries-marks C d xs t same a h.auxiliaries }

  -- RULES

  below-marks : (A : Axis Mark Box) (s : ℕ) {l : List ℕ} → f s ≡ g s → SameOn l → All (λ q. A.below (f s) (f q) ≡ true) l
      → All (λ q. A.below (g s) (g q) ≡ true) l
  below-marks A s e same nil = nil
  below-marks A s e same (cons {m = q} {l = l} p h) =
      cons (ap₂ A.below (sym e) (sym (same_head q l same)) ∙ p) (below-marks A s e (same-tail q l same) h)

  sorted-marks : (A : Axis Mark Box) {l : List ℕ} → SameOn l → Sorted (slot_axis f A) l → Sorted (slot_axis g A) l
  sorted-marks A same sorted[] = sorted[]
  sorted-marks A same (sorted∷ {m = s} {l = l} h k) =
      sorted∷ (below-marks A s (same_head s l same) (same-tail s l same) h) (sorted-marks A (same-tail s l same) k)

  auxiliary_of-marks : {l : List ℕ} {o : SlotAuxiliary} → SameOn l → AuxiliaryOf f l o → AuxiliaryOf g l o
  auxiliary_of-marks {l = l} same a = record {
    tree = a.tree;
    is = a.is;
    bag = a.bag;
    sorted = sorted-marks along_y (same-bag l (marks a.tree) (λ s. a.bag (eqb s)) same) a.sorted;
    balanced = a.balanced;
    carries = a.carries;
  }

  auxiliaries_of-marks : (t : SlotMain) → SameOn (marks t) → AuxiliariesOf f t → AuxiliariesOf g t
  auxiliaries_of-marks (leaf s) same a = tt
  auxiliaries_of-marks (node i l r) same a = (
    auxiliary_of-marks same a.0,
    auxiliaries_of-marks l (same-before (marks l) (marks r) same) a.1,
    auxiliaries_of-marks r (same_after (marks l) (marks r) same) a.2,
  )

  pub rules-marks : (t : SlotMain) → SameOn (marks t) → ByRules f t → ByRules g t
  rules-marks t same b =
      record { sorted = sorted-marks along_x same b.sorted; balanced = b.balanced; auxiliaries = auxiliaries_of-marks t same b.auxiliaries }

  -- THE TREE OVER MARKS

  map_same : (l : List ℕ) → SameOn l → map f l ≡ map g l
  map_same [] same = refl
  map_same (s ∷ l) same = ap₂ ◌∷◌ (same_head s l same) (map_same l (same-tail s l same))

  tree-same : (t : Tree ℕ (List ℕ)) → SameOn (marks t) → CarriesBag t → map_tree f (map f) t ≡ map_tree g (map g) t
  tree-same (leaf s) same c = ap leaf (same_head s [] same)
  tree-same (node i l r) same c =
      let e = map_same i (same-bag (marks l ++ marks r) i (λ s. c.0 (eqb s)) same) in
      let el = tree-same l (same-before (marks l) (marks r) same) c.1 in
      let er = tree-same r (same_after (marks l) (marks r) same) c.2 in
      rw (e, el, er)

  auxiliary-same : {l : List ℕ} (o : SlotAuxiliary) → SameOn l → AuxiliaryOf f l o
      → Option.map (map_tree f (map f)) o ≡ Option.map (map_tree g (map g)) o
  auxiliary-same {l = l} o same a =
      rw a.is (ap some (tree-same a.tree (same-bag l (marks a.tree) (λ s. a.bag (eqb s)) same) a.carries))

  main-same : (t : SlotMain) → SameOn (marks t) → AuxiliariesOf f t
      → map_tree f (Option.map (map_tree f (map f))) t ≡ map_tree g (Option.map (map_tree g (map g))) t
  main-same (leaf s) same a = ap leaf (same_head s [] same)
  main-same (node i l r) same a =
      let e = auxiliary-same i same a.0 in
      let el = main-same l (same-before (marks l) (marks r) same) a.1 in
      let er = main-same r (same_after (marks l) (marks r) same) a.2 in
      rw (e, el, er)

  pub marks_main-marks : (t : SlotMain) → SameOn (marks t) → ByRules f t → marks_main f (some t) ≡ marks_main g (some t)
  marks_main-marks t same b = ap some (main-same t same b.auxiliaries)
