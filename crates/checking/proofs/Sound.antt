-- A table that passes the check is sound. Assumes nothing.
use Rattle.std.specs.Prelude.{is_some}
use Rattle.std.proofs.lemmas.Bool.{and_parts, not-true}
use Prim.Native.Nat.{ℕ, ◌≤◌, ◌<◌}
use mathlib.Core.Path.{◌≡◌, refl, sym, ap, subst, ◌∙◌}
use mathlib.Core.Bool.{true, false, not, ◌||◌}
use mathlib.Core.List.{List, map}
use mathlib.Core.Option.{Option, none, some}
use native.Mathlib.Omega.{arith}
use lib.Dec.{eqb}
use lib.ListN.{length, get_or, length-map}
use borrow.Author.Tests.{lt-ltb, eqb-true}
use Rattle.model.specs.Lists.{indicator}
use Rattle.model.specs.Tree.{marks, marks_of, least, greatest}
use Rattle.model.specs.Sizes.{W, capacity_outside}
use Rattle.model.specs.Sheet.{Mark, Main, mark_outside, grade_outside, along_x}
use Rattle.model.specs.Laws.{All, nil}
use Rattle.model.proofs.Logic.{by_cases}
use Rattle.model.proofs.Lists.{all_map, all-mapped}
use Rattle.model.proofs.Orders.{along_x-laws}
use Rattle.model.proofs.Sizes.{capacity-small}
use Rattle.model.proofs.Tree.{weight-marks}
use Rattle.table.specs.Layout.{open_place, main_place, root_place}
use Rattle.table.specs.Limits.{deepest}
use Rattle.table.specs.Marks.{slot_mark}
use Rattle.nodes.specs.Arms.{arm_at}
use Rattle.nodes.specs.Holds.{times_in, Held}
use Rattle.nodes.proofs.Levels.{held-shallow}
use Rattle.twofold_layout.specs.Levels.{top_level, deeper}
use Rattle.twofold_layout.specs.Rules.{SlotAuxiliary, SlotMain, AuxiliariesOf, marks_main}
use Rattle.twofold_layout.specs.TwoFold.{HoldsAuxiliaries}
use Rattle.twofold_layout.specs.Sound.{place_at, EachOnce, Holding}
use Rattle.table.specs.Header.{capacity_of, live_of}
use Rattle.twofold_layout.proofs.Over.{top-level}
use Rattle.twofold_layout.proofs.Stands.{stands-marks}
use Rattle.checking.specs.Slots.{live_slot♯, inverse♯}
use Rattle.checking.specs.Trees.{auxiliary_stands♯, main_slot♯, main_span♯}
use Rattle.checking.specs.Check.{root_stands, sound_tree♯}
use Rattle.checking.proofs.Comparing.{three_parts}
use Rattle.checking.proofs.Walked.{read_tree}
use Rattle.checking.proofs.Reading.{Reads, walk-reads}
use Rattle.checking.proofs.LiveSlots.{Inverse, inverse-sound, live-once, live-slot}
use Rattle.checking.proofs.WalkedHeld.{slot-member, walked-held}
use Rattle.checking.proofs.Auxiliaries.{auxiliary_tree, auxiliary-slot, Covers, auxiliaries-stand}

-- the main tree that the words have: each inner node carries its auxiliary tree
abbrev carry : List ℕ → ℕ → ℕ → SlotMain → SlotMain → SlotAuxiliary
carry xs base name l r = some (auxiliary_tree xs base name)

abbrev main_tree : List ℕ → SlotMain
main_tree xs = read_tree main_place (λ b. deeper b (capacity_of xs)) (carry xs) xs deepest (top_level (capacity_of xs)) (arm_at xs root_place)

module _ (xs : List ℕ) where
  abbrev C : ℕ
  C = capacity_of xs

  abbrev n : ℕ
  n = live_of xs

  main-slot : (s : ℕ) → main_slot♯ C n xs s ≡ true
      → (live_slot♯ C n xs s ≡ true) × (mark_outside (slot_mark xs s) ≡ false) × (grade_outside (slot_mark xs s) ≡ false)
  main-slot s e =
      let outside = mark_outside (slot_mark xs s) in
      let ungraded = grade_outside (slot_mark xs s) in
      let p = three_parts (live_slot♯ C n xs s) (not outside) (not ungraded) e in
      (p.0, not-true outside p.1, not-true ungraded p.2)

  module _ (is_open : get_or xs open_place 0 ≡ 1) (capacity : capacity_outside C ≡ false) (long : length xs ≡ W C) (within : n ≤ C) (v : Inverse C xs)
      (heavy : (arm_at xs root_place).weight ≡ n) where
    -- as many live slots as there are, each once, are all of them
    each-once : (o : Option SlotMain) → ((s : ℕ) → times_in s (marks_of o) ≤ 1)
        → ((s : ℕ) → 0 < times_in s (marks_of o) → live_slot♯ C n xs s ≡ true)
        → length (marks_of o) ≡ n → EachOnce xs o
    each-once o once live many = record {
      used = v.used;
      place = v.place;
      live = live-once C xs v n within (marks_of o) once (λ s h. live-slot C xs n s (live s h)) many;
    }

    none-holding : n ≡ 0 → Holding xs none
    none-holding z = record {
      is_open = is_open;
      capacity = capacity;
      long = long;
      slots = none;
      stands = refl;
      holds = heavy ∙ z;
      rules = tt;
      coordinates = nil;
      grades = nil;
      live = z;
      free = each-once none (λ s. omega arith) (λ s h. absurd (omega arith)) (sym z);
    }

    module _ (e : is_some (main_span♯ deepest (top_level C) C n (arm_at xs root_place) xs) ≡ true) where
      main-reads : Reads along_x along_x-laws C main_place (main_slot♯ C n xs) (λ b. deeper b C) (auxiliary_stands♯ C n xs) xs
          (carry xs) deepest (top_level C) (arm_at xs root_place) (main_tree xs)
      main-reads =
          walk-reads along_x along_x-laws C main_place (main_slot♯ C n xs) (λ b. deeper b C) (auxiliary_stands♯ C n xs) xs
          (carry xs) deepest (top_level C) (arm_at xs root_place) e

      main-held : Held along_x (slot_mark xs) main_place C xs (main_tree xs)
      main-held = walked-held xs along_x along_x-laws C (λ s h. (live-slot C xs n s (main-slot s h).0).0) main-reads.walked

      main-many : length (marks (main_tree xs)) ≡ n
      main-many = sym (weight-marks (main_tree xs)) ∙ sym (ap (λ a. a.weight) main-reads.arm) ∙ heavy

      main-once : EachOnce xs (some (main_tree xs))
      main-once =
          each-once (some (main_tree xs)) main-held.once (λ s h. (main-slot s (slot-member xs main-reads.walked.slots s h)).0) main-many

      -- every live slot stands in the tree
      main-covers : Covers C n xs (main_tree xs)
      main-covers s a =
          let k = live-slot C xs n s (auxiliary-slot C n xs (least (main_tree xs)) (greatest (main_tree xs)) s a).0 in
          omega (arith, main-once.live s k.0 ∙ ap indicator (lt-ltb (place_at xs s) n k.1))

      main-auxiliaries : AuxiliariesOf (slot_mark xs) (main_tree xs) × HoldsAuxiliaries (slot_mark xs) C 0 xs (main_tree xs)
      main-auxiliaries =
          let w = main-reads.walked in
          let small = capacity-small C capacity in
          auxiliaries-stand C n xs (top_level C) 0 (main_tree xs) small (top-level C small) (omega (arith, held-shallow main-held w.balanced small))
          w.sorted main-covers w.tested main-reads.carried

      main-marked : marks_of (marks_main (slot_mark xs) (some (main_tree xs))) ≡ map (slot_mark xs) (marks (main_tree xs))
      main-marked = stands-marks (slot_mark xs) (some (main_tree xs))

      -- what the test of a slot says of its mark is so of all marks of the tree
      main-marks : (P : Mark → Type 0) → ((s : ℕ) → main_slot♯ C n xs s ≡ true → P (slot_mark xs s))
          → All P (marks_of (marks_main (slot_mark xs) (some (main_tree xs))))
      main-marks P h = subst (All P) (sym main-marked) (all-mapped (slot_mark xs) (all_map h main-reads.walked.slots))

      some-holding : Holding xs (marks_main (slot_mark xs) (some (main_tree xs)))
      some-holding =
          let w = main-reads.walked in
          record {
            is_open = is_open;
            capacity = capacity;
            long = long;
            slots = some (main_tree xs);
            stands = refl;
            holds = (main-reads.arm, record { main = main-held; auxiliaries = main-auxiliaries.1 });
            rules = record { sorted = w.sorted; balanced = w.balanced; auxiliaries = main-auxiliaries.0 };
            coordinates = main-marks (λ m. mark_outside m ≡ false) (λ s h. (main-slot s h).1);
            grades = main-marks (λ m. grade_outside m ≡ false) (λ s h. (main-slot s h).2);
            live = sym (ap length main-marked ∙ length-map (marks (main_tree xs)) (slot_mark xs) ∙ main-many);
            free = main-once;
          }

pub tree-holding : (xs : List ℕ) → get_or xs open_place 0 ≡ 1 → capacity_outside (capacity_of xs) ≡ false → length xs ≡ W (capacity_of xs)
    → live_of xs ≤ capacity_of xs → sound_tree♯ (capacity_of xs) (live_of xs) xs ≡ true → (T : Main) × Holding xs T
tree-holding xs is_open capacity long within e =
    let C = capacity_of xs in
    let n = live_of xs in
    let root = arm_at xs root_place in
    let tree = is_some (main_span♯ deepest (top_level C) C n root xs) in
    let a = and_parts (inverse♯ C xs) (root_stands C n root xs) e in
    let b = and_parts (eqb root.weight n) (eqb n 0 || tree) a.1 in
    let v = inverse-sound C xs a.0 in
    let heavy = eqb-true root.weight n b.0 in
    by_cases (eqb n 0)
    (λ t. (none, none-holding xs is_open capacity long within v heavy (eqb-true n 0 t)))
    (λ f. (marks_main (slot_mark xs) (some (main_tree xs)), some-holding xs is_open capacity long within v heavy (rw f at b.1)))
