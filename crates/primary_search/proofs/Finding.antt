-- On words that hold a main tree, the mirror of the finding gives the slot of a mark that stands there, and none for one that does not. Assumes
-- nothing.
use Rattle.std.specs.Bool.{then_some}
use Rattle.std.specs.Prelude.{None, Some, Ok, if◌then◌else◌}
use Prim.Native.Nat.{ℕ, zero, suc, ◌+◌, ◌*◌, ◌/◌, ◌%◌, ◌<◌}
use mathlib.Core.Path.{◌≡◌, refl, ◌∙◌}
use mathlib.Core.Bool.{true, false}
use mathlib.Core.List.{List, ◌++◌}
use native.Mathlib.Omega.{arith}
use lib.Dec.{eqb}
use lib.ListN.{get_or}
use borrow.Author.Tests.{eq-eqb, ne_eqb, eqb-true, lt-leb}
use Rattle.model.specs.Lists.{count_if}
use Rattle.model.specs.Tree.{leaf, node, weight, depth, marks, least}
use Rattle.model.specs.Sheet.{Mark, sheet, same, below_x, along_x}
use Rattle.model.specs.Slots.{slot_space, slot_axis}
use Rattle.model.specs.Laws.{Sorted}
use Rattle.model.proofs.Logic.{by_cases, clash, not-true-false}
use Rattle.model.proofs.Lists.{all_map, count_if-append, count_if-none}
use Rattle.model.proofs.Sorted.{below_alike, sorted-left, sorted-right}
use Rattle.model.proofs.Orders.{sheet-sameness, along_x-laws}
use Rattle.model.proofs.Slots.{slot_space-sameness, slot_axis-laws}
use Rattle.model.proofs.Tree.{weight-pos, all_above, left-all-below}
use Rattle.table.specs.Layout.{capacity_place, main_place, root_place}
use Rattle.table.specs.Marks.{slot_mark}
use Rattle.nodes.specs.Arms.{Arm, arms, arm_at, record_at, way_of}
use Rattle.nodes.specs.Ways.{way_at}
use Rattle.nodes.specs.Holds.{number, arm_of, times, Held}
use Rattle.nodes.proofs.Held.{times-node, times-least, held-least, held-left, held-right}
use Rattle.twofold_layout.specs.Rules.{SlotAuxiliary, SlotMain}
use Rattle.primary_search.specs.Find.{find_leaf, find_node, find_beneath♯, find_root, find♯}
use Rattle.table.specs.Limits.{deepest}

-- the finding goes by sameness and the order alone: marks that are the same are found alike
module _ (m q : Mark) (e : same m q ≡ true) (xs : List ℕ) where
  beneath-alike : (fuel C n : ℕ) → find_beneath♯ fuel xs C m n ≡ find_beneath♯ fuel xs C q n
  unfolding find_beneath♯ find_node find_leaf way_at
  beneath-alike zero C n = refl
  beneath-alike (suc fuel) C n =
      rw (
        sheet-sameness.alike m q e,
        below_alike sheet-sameness along_x-laws m q (slot_mark xs (n / 2)) e,
        beneath-alike fuel C (way_at along_x main_place q (n / 2) xs).child.node,
      )

  pub find-alike : find♯ xs m ≡ find♯ xs q
  unfolding find♯ find_root
  find-alike = rw (beneath-alike deepest (get_or xs capacity_place 0) (arm_at xs root_place).node)

pub find_none : (xs : List ℕ) (m : Mark) → (arm_at xs root_place).weight ≡ 0 → find♯ xs m ≡ Ok None
unfolding find♯ find_root
find_none xs m e = rw (eq-eqb (arm_at xs root_place).weight 0 e)

module _ (f : ℕ → Mark) (C : ℕ) (xs : List ℕ) where
  -- one step down, by the order
  find-leaf : (n s : ℕ) (m : Mark) → s < C → slot_mark xs s ≡ f s → find_beneath♯ (suc n) xs C m (2 * s) ≡ Ok (then_some (same m (f s)) s)
  unfolding find_beneath♯ find_node find_leaf
  find-leaf n s m b e =
      let even : (2 * s) % 2 ≡ 0 = omega arith in
      let half : (2 * s) / 2 ≡ s = omega arith in
      rw (half, lt-leb C s b, eq-eqb ((2 * s) % 2) 0 even, e)

  find-inner : (n name : ℕ) (m : Mark) (l r : Arm) → name < C → record_at xs (main_place name) ≡ arms l r → slot_mark xs name ≡ f name
      → find_beneath♯ (suc n) xs C m (2 * name + 1) ≡ (if below_x m (f name) then find_beneath♯ n xs C m l.node else find_beneath♯ n xs C m r.node)
  unfolding find_beneath♯ find_node way_at way_of
  find-inner n name m l r b e k =
      let odd : ((2 * name + 1) % 2 ≡ 0 → ⊥) = omega arith in
      let half : (2 * name + 1) / 2 ≡ name = omega arith in
      rw (half, lt-leb C name b, ne_eqb ((2 * name + 1) % 2) 0 odd, k, e) (by_cases (below_x m (f name)) (λ t. rw t) (λ t. rw t))

  named : (i : SlotAuxiliary) (l r : SlotMain) → Held along_x f main_place C xs (node i l r) → slot_mark xs (least r) ≡ f (least r)
  named i l r h = h.marked (least r) (omega (arith, times-node (least r) i l r, times-least r))

  -- a slot that stands in the tree is not beneath the child that its mark does not lead to
  module _ (s : ℕ) where
    not_itself : (q : ℕ) → (s ≡ q → below_x (f s) (f s) ≡ true) → eqb s q ≡ false
    not_itself q h = not-true-false (eqb s q) (λ e. clash (sheet-sameness.self (f s)) (along_x-laws.apart (f s) (f s) (h (eqb-true s q e))))

    not_right : (r : SlotMain) → Sorted (slot_axis f along_x) (marks r) → below_x (f s) (f (least r)) ≡ true → times s r ≡ 0
    not_right r o t =
        let E = slot_space-sameness f sheet sheet-sameness in
        let O = slot_axis-laws f sheet along_x along_x-laws in
        count_if-none (eqb s)
        (all_map (λ q b. not_itself q (λ e. rw (← e) at b))
        (all_above (slot_space f sheet) E (slot_axis f along_x) O s r t o))

    not_left : (l r : SlotMain) → Sorted (slot_axis f along_x) (marks l ++ marks r) → below_x (f s) (f (least r)) ≡ false → times s l ≡ 0
    not_left l r o t =
        let E = slot_space-sameness f sheet sheet-sameness in
        let O = slot_axis-laws f sheet along_x along_x-laws in
        count_if-none (eqb s)
        (all_map (λ q b. not_itself q (λ e. rw (← e) at b))
        (left-all-below (slot_space f sheet) E (slot_axis f along_x) O s l r t o))

    found-beneath : (n : ℕ) (t : SlotMain) → depth t < n → Held along_x f main_place C xs t → Sorted (slot_axis f along_x) (marks t) → 0 < times s t
        → find_beneath♯ n xs C (f s) (number t) ≡ Ok (Some s)
    found-beneath zero t d h o k = absurd (omega arith)
    found-beneath (suc n) (leaf q) d h o k =
        by_cases (eqb s q)
        (λ t.
        let e = eqb-true s q t in
        rw (find-leaf n q (f s) (held-least h) (h.marked q (times-least {I = SlotAuxiliary} (leaf q))), ← e, sheet-sameness.self (f s)))
        (λ t. absurd (let z = (rw t at k) in omega arith))
    found-beneath (suc n) (node i l r) d h o k =
        let sum = times-node s i l r in
        let sl = sorted-left (marks l) (marks r) o in
        let sr = sorted-right (marks l) (marks r) o in
        rw (find-inner n (least r) (f s) (arm_of along_x f l) (arm_of along_x f r) (held-least (held-right h)) h.records.0 (named i l r h))
        (by_cases (below_x (f s) (f (least r)))
        (λ t. rw t (found-beneath n l (omega arith) (held-left h) sl (omega (arith, not_right r sr t))))
        (λ t. rw t (found-beneath n r (omega arith) (held-right h) sr (omega (arith, not_left l r o t)))))

  absent-beneath : (m : Mark) (n : ℕ) (t : SlotMain) → depth t < n → Held along_x f main_place C xs t → count_if (λ s. same m (f s)) (marks t) ≡ 0
      → find_beneath♯ n xs C m (number t) ≡ Ok None
  absent-beneath m zero t d h k = absurd (omega arith)
  absent-beneath m (suc n) (leaf q) d h k =
      rw (find-leaf n q m (held-least h) (h.marked q (times-least {I = SlotAuxiliary} (leaf q))))
      (by_cases (same m (f q)) (λ t. absurd (let z = (rw t at k) in omega arith)) (λ t. rw t))
  absent-beneath m (suc n) (node i l r) d h k =
      let sum = count_if-append (λ s. same m (f s)) (marks l) (marks r) in
      let left = absent-beneath m n l (omega arith) (held-left h) (omega arith) in
      let right = absent-beneath m n r (omega arith) (held-right h) (omega arith) in
      rw (find-inner n (least r) m (arm_of along_x f l) (arm_of along_x f r) (held-least (held-right h)) h.records.0 (named i l r h), left, right)
      (by_cases (below_x m (f (least r))) (λ t. rw t) (λ t. rw t))

  module _ (t : SlotMain) (root : arm_at xs root_place ≡ arm_of along_x f t) (capacity : get_or xs capacity_place 0 ≡ C) where
    find-root : (m : Mark) → find♯ xs m ≡ find_beneath♯ 40 xs C m (number t)
    unfolding find♯ find_root
    find-root m = rw (root, ne_eqb (weight t) 0 (omega (arith, weight-pos t)), capacity)

    pub find-holds : Held along_x f main_place C xs t → Sorted (slot_axis f along_x) (marks t) → depth t < 40 → (s : ℕ) → 0 < times s t
        → find♯ xs (f s) ≡ Ok (Some s)
    find-holds h o d s k = find-root (f s) ∙ found-beneath s 40 t d h o k

    pub find_absent : Held along_x f main_place C xs t → depth t < 40 → (m : Mark) → count_if (λ s. same m (f s)) (marks t) ≡ 0
        → find♯ xs m ≡ Ok None
    find_absent h d m k = find-root m ∙ absent-beneath m 40 t d h k
