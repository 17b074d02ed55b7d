-- The mirrors of the count in a table: those of either kind of tree (Rattle.nodes.specs.Count), along x, where the arrival at a tree inside the side hands
-- over to its auxiliary tree. Assumes nothing.
use Rattle.std.specs.Prelude.{ℕ, ◌-◌, ◌/◌, ◌%◌, List, leb, ltb, eqb, length, get_or, if◌then◌else◌}
use Rattle.model.specs.Sheet.{Box, along_x, holds}
use Rattle.table.specs.Layout.{capacity_place, main_place, auxiliary_place, root_place, record_width, level_end}
use Rattle.table.specs.Limits.{lost_count}
use Rattle.table.specs.Marks.{slot_mark}
use Rattle.table.specs.Grades.{graded, word}
use Rattle.table.specs.Figures.{arrived}
use Rattle.nodes.specs.Arms.{Arm, arm_at}
use Rattle.secondary_search.specs.Search.{How, count_tree♯}
use Rattle.twofold_layout.specs.Levels.{top_level, deeper}
use Rattle.secondary_search.specs.Count.{count♯}

-- the arrival at the leaf of a slot, at the inner node of a name, and at a node of that number, inside the side: a node that is of no slot is damage, and so is
-- a level that is not all there
unfoldable pub leaf♯ : List ℕ → Box → ℕ → ℕ → ℕ
leaf♯ xs b s tally = let m = slot_mark xs s in if holds b m then arrived tally 1 (word (graded m.grade)) else arrived tally 0 0

-- how many records a level has, from where they begin and end
abbrev pub level_records : ℕ → ℕ → ℕ
level_records base end = (end - base) / record_width

module _ (xs : List ℕ) (capacity : ℕ) (b : Box) where
  unfoldable pub hand_over♯ : ℕ → ℕ → ℕ → ℕ
  hand_over♯ base name tally =
      if ltb (length xs) (level_end base capacity) then lost_count else count♯ xs capacity b base (arm_at xs (auxiliary_place name)) (arrived tally 0 0)

  unfoldable pub handed♯ : ℕ → ℕ → ℕ → ℕ
  handed♯ base n tally =
      if leb capacity (n / 2) then lost_count else (if eqb (n % 2) 0 then leaf♯ xs b (n / 2) tally else hand_over♯ base (n / 2) tally)

-- the main tree has its records in the slots, and the auxiliary trees of each depth their own level
abbrev pub main : How
main = record {
  place = λ base name. main_place name;
  deeper = λ C base. deeper base C;
  take = λ C xs b base a tally. handed♯ xs C b base a.node tally;
}

module _ (xs : List ℕ) (capacity : ℕ) (b : Box) where
  -- from the arm of a tree whose level begins at a word
  unfoldable pub main_search♯ : ℕ → Arm → ℕ
  main_search♯ base a =
      if leb capacity (a.node / 2) then lost_count
      else (if eqb (a.node % 2) 0 then leaf♯ xs b (a.node / 2) 0 else count_tree♯ main along_x capacity xs b base a 0)

  unfoldable pub count_root : Arm → ℕ
  count_root a = if eqb a.weight 0 then 0 else main_search♯ (top_level capacity) a

  -- of the table's tree
  abbrev pub count_from♯ : ℕ
  count_from♯ = count_root (arm_at xs root_place)

-- by the capacity that the words say
unfoldable pub main_count♯ : List ℕ → Box → ℕ
main_count♯ xs b = count_from♯ xs (get_or xs capacity_place 0) b
