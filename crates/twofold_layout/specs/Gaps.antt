-- The words of a table that the layout leaves unused (docs/LAYOUT.md, "Words"). Assumes nothing.
use Rattle.std.specs.Prelude.{ℕ, suc, ◌+◌, ◌≤◌, ◌<◌}
use Rattle.model.specs.Sizes.{D}
use Rattle.table.specs.Layout.{arm_width, root_place, slot_place, second_run_place, level_place, record_place}

-- the word i of a table of capacity C is unused
pub data Unused (C : ℕ) (i : ℕ) : Type 0 where
  -- words 8 to 63: after the root's arm, before the slots
  in_header : root_place + arm_width ≤ i → i < slot_place 0 → Unused C i
  -- 64 + 23 C to 64 + 40 C - 1: after the runs, before the levels
  after_runs : second_run_place C C ≤ i → i < level_place C 0 → Unused C i
  -- 64 + 40 C + 24 d C + 10 C to 64 + 40 C + 24 (d + 1) C - 1: after the records of the level d, before the next level
  in_level : (d : ℕ) → d < D C → record_place (level_place C d) C ≤ i → i < level_place C (suc d) → Unused C i
