-- The auxiliary trees of a main tree that the walk passes are those of the rules: each has just the slots beneath its node. Assumes nothing.
use Rattle.std.specs.Prelude.{is_some}
use Rattle.std.proofs.lemmas.Bool.{not-true}
use Prim.Native.Nat.{ℕ, suc, ◌+◌, ◌≤◌, ◌<◌}
use mathlib.Core.Path.{◌≡◌, refl, sym, ap, subst, ◌∙◌}
use mathlib.Core.Bool.{true, false, not}
use mathlib.Core.List.{List, ◌++◌}
use mathlib.Core.Option.{some}
use native.Mathlib.Omega.{arith}
use lib.Dec.{ltb, eqb}
use lib.ListN.{length}
use borrow.Author.Tests.{eqb-true, eqb-false}
use Rattle.model.specs.Lists.{count_if}
use Rattle.model.specs.Sheet.{below_x, along_x, along_y}
use Rattle.model.specs.Tree.{Tree, leaf, node, weight, depth, marks, least, greatest}
use Rattle.model.specs.Slots.{slot_axis}
use Rattle.model.specs.Laws.{SameBag, All, Sorted}
use Rattle.model.proofs.Logic.{by_cases, clash, not-true-false}
use Rattle.model.proofs.Sorted.{sorted-left, sorted-right, sorted-across}
use Rattle.model.proofs.Orders.{along_x-laws, along_y-laws}
use Rattle.model.proofs.Tree.{weight-marks, all-least, all-greatest}
use Rattle.table.specs.Layout.{auxiliary_place, level_place, record_place, level_end}
use Rattle.table.specs.Limits.{deepest}
use Rattle.table.specs.Marks.{slot_mark}
use Rattle.nodes.specs.Arms.{arm_at}
use Rattle.nodes.specs.Holds.{times, Held, CarriesBag}
use Rattle.nodes.proofs.Held.{in-child}
use Rattle.twofold_layout.specs.Levels.{deeper}
use Rattle.twofold_layout.specs.Rules.{SlotAuxiliary, SlotMain, AuxiliaryOf, AuxiliariesOf}
use Rattle.twofold_layout.specs.TwoFold.{HoldsAuxiliary, HoldsAuxiliaries}
use Rattle.twofold_layout.proofs.Over.{deeper-level}
use Rattle.checking.specs.Slots.{live_slot♯}
use Rattle.checking.specs.Span.{any_node}
use Rattle.checking.specs.Trees.{auxiliary_slot♯, auxiliary_span♯, auxiliary_stands♯}
use Rattle.checking.proofs.Comparing.{three_parts}
use Rattle.checking.proofs.Walked.{Tested, Carried, read_tree}
use Rattle.checking.proofs.Reading.{Reads, walk-reads}
use Rattle.nodes.proofs.Counting.{sub-bag}
use Rattle.checking.proofs.LiveSlots.{live-slot}
use Rattle.checking.proofs.WalkedHeld.{slot-member, walked-held}

-- the auxiliary tree that the words have at a main node, each of whose nodes carries the slots beneath it
module _ (xs : List ℕ) where
  abbrev beneath : ℕ → ℕ → Tree ℕ (List ℕ) → Tree ℕ (List ℕ) → List ℕ
  beneath base name l r = marks l ++ marks r

  abbrev pub auxiliary_tree : ℕ → ℕ → Tree ℕ (List ℕ)
  auxiliary_tree base name = read_tree (record_place base) (λ b. b) beneath xs deepest base (arm_at xs (auxiliary_place name))

  carried-carries : (base : ℕ) (t : Tree ℕ (List ℕ)) → Carried (λ b. b) beneath base t → CarriesBag t
  carried-carries base (leaf s) c = tt
  carried-carries base (node i l r) c = (λ p. ap (count_if p) c.0, carried-carries base l c.1, carried-carries base r c.2)

module _ (C live : ℕ) (xs : List ℕ) where
  -- the slots that an auxiliary tree may have
  pub auxiliary-slot : (first last s : ℕ) → auxiliary_slot♯ C live first last xs s ≡ true
      → (live_slot♯ C live xs s ≡ true) × (below_x (slot_mark xs s) (slot_mark xs first) ≡ false)
      × (below_x (slot_mark xs last) (slot_mark xs s) ≡ false)
  auxiliary-slot first last s e =
      let low = below_x (slot_mark xs s) (slot_mark xs first) in
      let high = below_x (slot_mark xs last) (slot_mark xs s) in
      let p = three_parts (live_slot♯ C live xs s) (not low) (not high) e in
      (p.0, not-true low p.1, not-true high p.2)

  pub slot-auxiliary : (first last s : ℕ) → live_slot♯ C live xs s ≡ true → below_x (slot_mark xs s) (slot_mark xs first) ≡ false
      → below_x (slot_mark xs last) (slot_mark xs s) ≡ false → auxiliary_slot♯ C live first last xs s ≡ true
  slot-auxiliary first last s a b c = rw (a, b, c)

  -- all live slots whose marks are from that of the tree's least slot to that of its greatest stand in the tree
  abbrev pub Covers : SlotMain → Type 0
  Covers t = (s : ℕ) → auxiliary_slot♯ C live (least t) (greatest t) xs s ≡ true → 0 < times s t

  -- so it is with the children of a node, since the slots of the other child lie beyond
  module _ (i : SlotAuxiliary) (l r : SlotMain) (o : Sorted (slot_axis (slot_mark xs) along_x) (marks l ++ marks r)) (c : Covers (node i l r)) where
    across : All (λ a. All (λ q. below_x (slot_mark xs a) (slot_mark xs q) ≡ true) (marks r)) (marks l)
    across = sorted-across (marks l) (marks r) o

    covers-left : Covers l
    covers-left s e =
        let a = auxiliary-slot (least l) (greatest l) s e in
        let m = slot_mark xs s in
        let high : below_x (slot_mark xs (greatest r)) m ≡ false =
        not-true-false (below_x (slot_mark xs (greatest r)) m)
        (λ t. clash (along_x-laws.trans (slot_mark xs (greatest l)) (slot_mark xs (greatest r)) m (all-greatest r (all-greatest l across)) t) a.2) in
        in-child s i l r (c s (slot-auxiliary (least l) (greatest r) s a.0 a.1 high))
        (λ h. h)
        (λ h. clash (slot-member xs (all-greatest l across) s h) a.2)

    covers-right : Covers r
    covers-right s e =
        let a = auxiliary-slot (least r) (greatest r) s e in
        let m = slot_mark xs s in
        let low : below_x m (slot_mark xs (least l)) ≡ false =
        not-true-false (below_x m (slot_mark xs (least l)))
        (λ t. clash (along_x-laws.trans m (slot_mark xs (least l)) (slot_mark xs (least r)) t (all-least r (all-least l across))) a.1) in
        in-child s i l r (c s (slot-auxiliary (least l) (greatest r) s a.0 low a.2))
        (λ h. clash (all-least r (slot-member xs across s h)) a.1)
        (λ h. h)

  -- one auxiliary tree
  module _ (base name : ℕ) (i : SlotAuxiliary) (l r : SlotMain) (c : Covers (node i l r))
      (e : auxiliary_stands♯ C live xs base name (weight l + weight r) (least l) (greatest r) ≡ true) where
    stands-pass : ((arm_at xs (auxiliary_place name)).weight ≡ weight l + weight r)
        × (is_some (auxiliary_span♯ deepest base C live (least l) (greatest r) (arm_at xs (auxiliary_place name)) xs) ≡ true)
    stands-pass =
        let a = arm_at xs (auxiliary_place name) in
        let w = weight l + weight r in
        let walk = is_some (auxiliary_span♯ deepest base C live (least l) (greatest r) a xs) in
        let p = three_parts (not (ltb (length xs) (level_end base C))) (eqb a.weight w) walk e in
        (eqb-true a.weight w p.1, p.2)

    stands-reads : Reads along_y along_y-laws C (record_place base) (auxiliary_slot♯ C live (least l) (greatest r) xs) (λ b. b) (λ b name w. any_node) xs
        (beneath xs) deepest base (arm_at xs (auxiliary_place name)) (auxiliary_tree xs base name)
    stands-reads =
        walk-reads along_y along_y-laws C (record_place base) (auxiliary_slot♯ C live (least l) (greatest r) xs) (λ b. b) (λ b name w. any_node) xs
        (beneath xs) deepest base (arm_at xs (auxiliary_place name)) stands-pass.1

    stands-held : Held along_y (slot_mark xs) (record_place base) C xs (auxiliary_tree xs base name)
    stands-held =
        walked-held xs along_y along_y-laws C (λ s h. (live-slot C xs live s (auxiliary-slot (least l) (greatest r) s h).0).0) stands-reads.walked

    -- each of its slots is one of the node's, and they are as many
    stands-bag : SameBag (marks (auxiliary_tree xs base name)) (marks l ++ marks r)
    stands-bag =
        let u = auxiliary_tree xs base name in
        sub-bag (marks u) (marks l ++ marks r)
        (λ s. by_cases (eqb (times s u) 0)
        (λ t. omega (arith, eqb-true (times s u) 0 t))
        (λ f.
        let p : 0 < times s u = omega (arith, eqb-false (times s u) 0 f) in
        omega (arith, stands-held.once s, c s (slot-member xs stands-reads.walked.slots s p))))
        (sym (weight-marks u) ∙ sym (ap (λ a. a.weight) stands-reads.arm) ∙ stands-pass.0 ∙ weight-marks (node i l r))

    stands_of : AuxiliaryOf (slot_mark xs) (marks l ++ marks r) (some (auxiliary_tree xs base name))
    stands_of = record {
      tree = auxiliary_tree xs base name;
      is = refl;
      bag = stands-bag;
      sorted = stands-reads.walked.sorted;
      balanced = stands-reads.walked.balanced;
      carries = carried-carries xs base (auxiliary_tree xs base name) stands-reads.carried;
    }

    stands-holds : (d : ℕ) → base ≡ level_place C d → HoldsAuxiliary (slot_mark xs) C d name xs (some (auxiliary_tree xs base name))
    stands-holds d at = record {
      tree = auxiliary_tree xs base name;
      is = refl;
      arm = stands-reads.arm;
      held = subst (λ b. Held along_y (slot_mark xs) (record_place b) C xs (auxiliary_tree xs base name)) at stands-held;
    }

  -- those of all nodes of a main tree whose root is at depth d
  pub auxiliaries-stand : (base d : ℕ) (t : SlotMain) → C ≤ 65536 → base ≡ level_place C d → d + depth t ≤ deepest
      → Sorted (slot_axis (slot_mark xs) along_x) (marks t) → Covers t → Tested (λ b. deeper b C) (auxiliary_stands♯ C live xs) base t
      → Carried (λ b. deeper b C) (λ b name l r. some (auxiliary_tree xs b name)) base t
      → AuxiliariesOf (slot_mark xs) t × HoldsAuxiliaries (slot_mark xs) C d xs t
  auxiliaries-stand base d (leaf s) small at low o c e k = (tt, tt)
  auxiliaries-stand base d (node i l r) small at low o c e k =
      let next : deeper base C ≡ level_place C (suc d) = ap (λ b. deeper b C) at ∙ deeper-level C d small (omega arith) in
      let ol = sorted-left (marks l) (marks r) o in
      let or = sorted-right (marks l) (marks r) o in
      let left = auxiliaries-stand (deeper base C) (suc d) l small next (omega arith) ol (covers-left i l r o c) e.1 k.1 in
      let right = auxiliaries-stand (deeper base C) (suc d) r small next (omega arith) or (covers-right i l r o c) e.2 k.2 in
      rw k.0 (
        (stands_of base (least r) i l r c e.0, left.0, right.0),
        (stands-holds base (least r) i l r c e.0 d at, left.1, right.1),
      )
