-- The tests of document 01's table "Where each call may stop" that go by a call's own arguments, with their numbers. Assumes nothing.
use Rattle.std.specs.Prelude.{ℕ, ltb, if◌then◌else◌}
use Rattle.model.specs.Sizes.{W, capacity_outside}
use Rattle.model.specs.Sheet.{Mark, Box, mark_outside, grade_outside, box_crossed}

-- what was asked for, or the number of the refusal
pub data Outcome (A : Type 0) : Type 0 where
  accepted : A → Outcome A
  refused : ℕ → Outcome A

-- open: a table for the capacity c in a run of `lent` words; what it needs of them
unfoldable pub open_table : ℕ → ℕ → Outcome ℕ
open_table c lent = if capacity_outside c then refused 1 else (if ltb lent (W c) then refused 2 else accepted (W c))

-- insert: the mark; "12, grade outside 1 to 100, checked after 5" (R-1)
unfoldable pub enter_mark : Mark → Outcome Mark
enter_mark m = if mark_outside m then refused 5 else (if grade_outside m then refused 12 else accepted m)

-- strike: the mark, named by x, y and tag; a grade is not looked at
unfoldable pub name_mark : Mark → Outcome Mark
name_mark m = if mark_outside m then refused 5 else accepted m

-- count, list: the box
unfoldable pub enter_box : Box → Outcome Box
enter_box b = if box_crossed b then refused 6 else accepted b
