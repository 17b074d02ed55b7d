-- A sound table passes the check: what the walks ask of a tree holds of the trees that the words hold. Assumes nothing.
use Rattle.std.specs.Prelude.{is_some}
use Prim.Native.Nat.{ℕ, suc, ◌+◌, ◌-◌, ◌≤◌, ◌<◌}
use mathlib.Core.Path.{◌≡◌, refl, sym, ap, subst, ◌∙◌}
use mathlib.Core.Bool.{Bool, true, false, ◌&&◌}
use mathlib.Core.List.{List, ◌++◌}
use mathlib.Core.Option.{Option, none, some, some-injective}
use native.Mathlib.Omega.{arith}
use lib.Dec.{ltb}
use lib.ListN.{length}
use borrow.Author.Tests.{eq-eqb, ne_eqb, ltb-true, le-ltb}
use Rattle.model.specs.Sizes.{D, W}
use Rattle.model.specs.Tree.{Tree, leaf, node, weight, depth, marks, marks_of, least, greatest, Balanced}
use Rattle.model.specs.Sheet.{Mark, Main, mark_outside, grade_outside, along_x, along_y, sheet}
use Rattle.model.specs.Slots.{slot_axis, slot_space}
use Rattle.model.specs.Laws.{SameBag, All, Sorted}
use Rattle.model.proofs.Logic.{by_cases}
use Rattle.model.proofs.Lists.{all_left, all_right, all_map, all_both, all_alike, same_bag-length, all-unmapped}
use Rattle.model.proofs.Orders.{along_x-laws, along_y-laws}
use Rattle.model.proofs.Sizes.{capacity-small}
use Rattle.model.proofs.Tree.{weight-marks, weight-pos, none_below, none_above}
use Rattle.table.specs.Layout.{main_place, root_place, level_place, record_place, level_end}
use Rattle.table.specs.Limits.{deepest}
use Rattle.table.specs.Marks.{slot_mark}
use Rattle.nodes.specs.Arms.{arm_at}
use Rattle.nodes.specs.Holds.{arm_of, times_in, Held}
use Rattle.nodes.proofs.Held.{held-weight, held-least, all-times}
use Rattle.nodes.proofs.Levels.{most-levels, held-depth, held-shallow}
use Rattle.twofold_layout.specs.Levels.{top_level, deeper}
use Rattle.twofold_layout.specs.Rules.{SlotAuxiliary, SlotMain, AuxiliaryOf, ByRules}
use Rattle.twofold_layout.specs.TwoFold.{HoldsAuxiliary, TwoFold}
use Rattle.twofold_layout.specs.Sound.{place_at, HoldsTree, TreeByRules, EachOnce, Holding}
use Rattle.table.specs.Header.{capacity_of, live_of}
use Rattle.twofold_layout.proofs.Rules.{slot_sameness, slot_x-laws, rules-left, rules-right}
use Rattle.twofold_layout.proofs.Over.{two-left, two-right, two-level, top-level, deeper-level}
use Rattle.twofold_layout.proofs.Stands.{stands-marks}
use Rattle.twofold_layout.proofs.Sound.{live-slots}
use Rattle.checking.specs.Slots.{live_slot♯}
use Rattle.checking.specs.Span.{any_node}
use Rattle.checking.specs.Trees.{auxiliary_slot♯, auxiliary_span♯, auxiliary_stands♯, main_slot♯, main_span♯}
use Rattle.checking.specs.Check.{root_stands, sound_tree♯}
use Rattle.checking.proofs.Comparing.{three_parts}
use Rattle.checking.proofs.Walked.{Tested}
use Rattle.checking.proofs.Reading.{walk-passes}
use Rattle.checking.proofs.LiveSlots.{inverse-complete, live-slot, slot-live}
use Rattle.checking.proofs.Auxiliaries.{slot-auxiliary}

-- every node passes where nothing is asked
any-tested : {I : Type 0} (base : ℕ) (t : Tree ℕ I) → Tested (λ b. b) (λ b name w. any_node) base t
any-tested base (leaf s) = tt
any-tested base (node i l r) = (refl, any-tested base l, any-tested base r)

module _ (xs : List ℕ) where
  -- the marks, the capacity and the live marks that the words say
  abbrev f : ℕ → Mark
  f = slot_mark xs

  abbrev C : ℕ
  C = capacity_of xs

  abbrev n : ℕ
  n = live_of xs

  abbrev Live : List ℕ → Type 0
  Live l = All (λ s. live_slot♯ C n xs s ≡ true) l

  -- the marks of all these slots are on the sheet and graded
  abbrev Entered : List ℕ → Type 0
  Entered l = All (λ s. (mark_outside (f s) ≡ false) × (grade_outside (f s) ≡ false)) l

  -- a live slot is one of the table, whatever else is asked of it
  live_below : (s : ℕ) (b c : Bool) → (live_slot♯ C n xs s && b && c) ≡ true → s < C
  live_below s b c e = (live-slot C xs n s (three_parts (live_slot♯ C n xs s) b c e).0).0

  -- the slots of a main node pass the test of its auxiliary tree's slots
  auxiliary-slots : (t : SlotMain) → Sorted (slot_axis f along_x) (marks t) → Live (marks t)
      → All (λ s. auxiliary_slot♯ C n (least t) (greatest t) xs s ≡ true) (marks t)
  auxiliary-slots t sorted live =
      let low = none_below (slot_space f sheet) (slot_sameness f) (slot_axis f along_x) (slot_x-laws f) t sorted in
      let high = none_above (slot_space f sheet) (slot_sameness f) (slot_axis f along_x) (slot_x-laws f) t sorted in
      all_map (λ s h. slot-auxiliary C n xs (least t) (greatest t) s h.0 h.1.0 h.1.1) (all_both live (all_both low high))

  module _ (small : C ≤ 65536) (long : length xs ≡ W C) where
    -- the walk through an auxiliary tree of depth d
    auxiliary-walk : (d first last : ℕ) (u : Tree ℕ (List ℕ)) → Sorted (slot_axis f along_y) (marks u) → Balanced u
        → All (λ s. auxiliary_slot♯ C n first last xs s ≡ true) (marks u) → Held along_y f (record_place (level_place C d)) C xs u
        → is_some (auxiliary_span♯ deepest (level_place C d) C n first last (arm_of along_y f u) xs) ≡ true
    auxiliary-walk d first last u sorted balanced slots held =
        ap is_some
        (walk-passes along_y along_y-laws C (record_place (level_place C d)) (auxiliary_slot♯ C n first last xs) (λ b. b) (λ b name w. any_node) xs
        small (λ s e. live_below s _ _ e) deepest (level_place C d) u (omega (arith, held-shallow held balanced small)) (omega (arith, held-weight held))
        (record { sorted = sorted; balanced = balanced; slots = slots; records = held.records; tested = any-tested (level_place C d) u }))

    -- an inner main node's auxiliary tree
    auxiliary-stands : (d : ℕ) → d < D C → (i : SlotAuxiliary) (l r : SlotMain) → Sorted (slot_axis f along_x) (marks l ++ marks r)
        → Live (marks l ++ marks r)
        → HoldsAuxiliary f C d (least r) xs i → AuxiliaryOf f (marks l ++ marks r) i
        → auxiliary_stands♯ C n xs (level_place C d) (least r) (weight l + weight r) (least l) (greatest r) ≡ true
    auxiliary-stands d low i l r sorted live h a =
        let u : Tree ℕ (List ℕ) = h.tree in
        let e : a.tree ≡ u = some-injective a.tree u (sym a.is ∙ h.is) in
        let bag : SameBag (marks u) (marks l ++ marks r) = subst (λ t. SameBag (marks t) (marks l ++ marks r)) e a.bag in
        let many : weight u ≡ weight l + weight r = weight-marks u ∙ same_bag-length (marks u) (marks l ++ marks r) bag
        ∙ sym (weight-marks (node i l r)) in
        let there : level_end (level_place C d) C ≤ length xs =
        omega (arith, (two-level C d (length xs) small low long).room (C - 1) (omega (arith, held-least h.held))) in
        rw (le-ltb (length xs) (level_end (level_place C d) C) there, h.arm, eq-eqb (weight u) (weight l + weight r) many)
        (auxiliary-walk d (least l) (greatest r) u (subst (λ t. Sorted (slot_axis f along_y) (marks t)) e a.sorted) (subst Balanced e a.balanced)
        (all_alike (auxiliary_slot♯ C n (least l) (greatest r) xs) (marks l ++ marks r) (marks u) (λ p. sym (bag p))
        (auxiliary-slots (node i l r) sorted live))
        h.held)

    -- the nodes of a main tree whose root is at depth d
    main-tested : (d : ℕ) (t : SlotMain) → d + depth t ≤ D C → Live (marks t) → TwoFold f C d xs t → ByRules f t
        → Tested (λ b. deeper b C) (auxiliary_stands♯ C n xs) (level_place C d) t
    main-tested d (leaf s) low live h k = tt
    main-tested d (node i l r) low live h k =
        let e : deeper (level_place C d) C ≡ level_place C (suc d) = deeper-level C d small (omega (arith, most-levels C small)) in (
          auxiliary-stands d (omega arith) i l r k.sorted live h.auxiliaries.0 k.auxiliaries.0,
          rw e (main-tested (suc d) l (omega arith) (all_left (marks l) (marks r) live) (two-left h) (rules-left f k)),
          rw e (main-tested (suc d) r (omega arith) (all_right (marks l) (marks r) live) (two-right h) (rules-right f k)),
        )

    -- the walk through the main tree
    main-walk : (t : SlotMain) → Live (marks t) → Entered (marks t) → TwoFold f C 0 xs t → ByRules f t
        → is_some (main_span♯ deepest (top_level C) C n (arm_of along_x f t) xs) ≡ true
    main-walk t live entered h k =
        let shallow : depth t ≤ 38 = held-shallow h.main k.balanced small in
        rw (top-level C small)
        (ap is_some
        (walk-passes along_x along_x-laws C main_place (main_slot♯ C n xs) (λ b. deeper b C) (auxiliary_stands♯ C n xs) xs
        small (λ s e. live_below s _ _ e) deepest (level_place C 0) t (omega arith) (omega (arith, held-weight h.main))
        (record {
          sorted = k.sorted;
          balanced = k.balanced;
          slots = all_map (λ s e. rw (e.0, e.1.0, e.1.1)) (all_both live entered);
          records = h.main.records;
          tested = main-tested 0 t (omega (arith, held-depth h.main k.balanced)) live h k;
        })))

  -- the slots of the tree are live
  tree-live : (t : SlotMain) → ((s : ℕ) → 0 < times_in s (marks t) → s < C) → EachOnce xs (some t) → Live (marks t)
  tree-live t within e =
      all-times (marks t)
      (λ s k. slot-live C xs n s (within s k)
      (by_cases (ltb (place_at xs s) n)
      (λ u. ltb-true (place_at xs s) n u)
      (λ u. absurd (let w = (rw u at (e.live s (within s k))) in omega arith))))

  -- the root, with or without a tree
  root_stands-complete : C ≤ 65536 → length xs ≡ W C → (o : Option SlotMain) → HoldsTree xs o → TreeByRules xs o → Entered (marks_of o)
      → n ≡ length (marks_of o) → EachOnce xs o → root_stands C n (arm_at xs root_place) xs ≡ true
  root_stands-complete small long none h k entered many free = rw (h, many)
  root_stands-complete small long (some t) h k entered many free =
      let w : weight t ≡ n = weight-marks t ∙ sym many in
      rw (h.0, eq-eqb (weight t) n w, ne_eqb n 0 (omega (arith, weight-pos t)))
      (main-walk small long t (tree-live t h.1.main.within free) entered h.1 k)

-- a sound table passes
pub holding-tree : (xs : List ℕ) (T : Main) → Holding xs T → sound_tree♯ (capacity_of xs) (live_of xs) xs ≡ true
holding-tree xs T h =
    let entered =
    all-unmapped (slot_mark xs) (marks_of h.slots)
    (subst (All (λ m. (mark_outside m ≡ false) × (grade_outside m ≡ false)))
    (ap (λ T. marks_of T) (sym h.stands) ∙ stands-marks (slot_mark xs) h.slots) (all_both h.coordinates h.grades)) in
    rw (inverse-complete (capacity_of xs) xs h.free.used)
    (root_stands-complete xs (capacity-small (capacity_of xs) h.capacity) h.long h.slots h.holds h.rules entered (live-slots h) h.free)
