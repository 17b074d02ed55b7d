-- An insertion into a sound table, and a strike from one, write only at places of the layout: a word that it leaves unused keeps its value. Assumes nothing.
use Prim.Native.Nat.{ℕ, suc, ◌+◌, ◌<◌}
use mathlib.Core.Path.{◌≡◌, ◌∙◌}
use mathlib.Core.Bool.{false}
use mathlib.Core.List.{List}
use native.Mathlib.Omega.{arith}
use native.Mathlib.Nat.{mul-le-mul_right}
use lib.ListN.{length, get_or}
use Rattle.model.specs.Lists.{count_if}
use Rattle.model.specs.Sizes.{D, W}
use Rattle.model.specs.Tree.{marks_of}
use Rattle.model.specs.Sheet.{Mark, Main, mark_outside, grade_outside, same}
use Rattle.model.proofs.Logic.{by_order}
use Rattle.table.specs.Layout.{arm_width, mark_width, live_place, slot_place, root_place}
use Rattle.nodes.proofs.Unchanged.{Off}
use Rattle.nodes.proofs.Levels.{W-words}
use Rattle.twofold_layout.specs.Sound.{Holding}
use Rattle.table.specs.Header.{capacity_of}
use Rattle.twofold_layout.specs.Gaps.{Unused, in_header, after_runs, in_level}
use Rattle.twofold_layout.proofs.Frames.{OffTwo}
use Rattle.std.specs.Prelude.{Some, Ok}
use Rattle.primary_search.specs.Find.{find♯}
use Rattle.whole_table.specs.Insert.{table_insert♯}
use Rattle.whole_table.specs.Strike.{table_strike♯}
use Rattle.whole_table.proofs.Inserting.{insert-frame, insert-entered}
use Rattle.whole_table.proofs.Slots.{OffLists}
use Rattle.whole_table.proofs.Striking.{strike-frame}

-- AN UNUSED WORD IS APART FROM
module _ {C i : ℕ} where
  -- the number of live marks, and the marks
  off-marks : Unused C i → (i ≡ live_place → ⊥) × ((q : ℕ) → q < C → Off (slot_place q) (slot_place q + mark_width) i)
  off-marks (in_header l h) = omega arith
  off-marks (after_runs l h) = omega arith
  off-marks (in_level d k l h) = omega arith

  -- that number, and the lists of slots
  off-lists : Unused C i → OffLists C i
  off-lists (in_header l h) = omega arith
  off-lists (after_runs l h) = omega arith
  off-lists (in_level d k l h) = omega arith

  -- the main records, the arms of their auxiliary trees, the records of every level, the runs and the root's arm
  off-tree : Unused C i → OffTwo C 0 (λ s. s < C) (λ s. s < C) root_place arm_width i
  off-tree (in_header l h) = omega arith
  off-tree (after_runs l h) = omega arith
  off-tree (in_level d k l h) = record {
    tree = record {
      nodes = omega arith;
      levels = λ e b q low.
          by_order e d
          (λ o. omega (arith, mul-le-mul_right {m = e} {n = d} C (omega arith)))
          (λ is. rw is (omega arith))
          (λ o. omega (arith, mul-le-mul_right {m = suc d} {n = e} C o));
    };
    runs = omega arith;
    spot = omega arith;
  }

  -- and it is one of the table's own words
  pub unused-within : Unused C i → i < W C
  unused-within (in_header l h) = omega (arith, W-words C)
  unused-within (after_runs l h) = omega (arith, W-words C)
  unused-within (in_level d k l h) = omega (arith, W-words C, mul-le-mul_right {m = suc d} {n = D C} C k)

-- THE OPERATIONS, on a sound table

module _ (xs : List ℕ) (T : Main) (h : Holding xs T) (m : Mark) where
  pub insert-unused : mark_outside m ≡ false → grade_outside m ≡ false → count_if (same m) (marks_of T) ≡ 0 → length (marks_of T) < capacity_of xs
      → (i : ℕ) → Unused (capacity_of xs) i → get_or (table_insert♯ m xs).words i 0 ≡ get_or xs i 0
  insert-unused within graded new room i u =
      (insert-frame xs T h m within graded new room).same i (off-tree u) ∙ (insert-entered xs T h m within graded new room).same i (off-marks u)

  pub strike-unused : 0 < count_if (same m) (marks_of T) → (s : ℕ) → find♯ xs m ≡ Ok (Some s)
      → (i : ℕ) → Unused (capacity_of xs) i → get_or (table_strike♯ s xs).words i 0 ≡ get_or xs i 0
  strike-unused has s e i u =
      let a = strike-frame xs T h m has s e in
      a.2.same i (off-lists u) ∙ a.1.same i (off-tree u)
