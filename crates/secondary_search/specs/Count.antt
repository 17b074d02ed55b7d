-- The mirror of the count in an auxiliary tree: along y, where the arrival at a tree inside the side adds its weight and its grades. Assumes nothing.
use Rattle.std.specs.Prelude.{ℕ, ◌*◌, ◌/◌, ◌≡◌, List, length}
use Rattle.model.specs.Sheet.{Box, along_y}
use Rattle.table.specs.Layout.{record_width, record_place}
use Rattle.table.specs.Figures.{arrived}
use Rattle.nodes.specs.Arms.{Arm}
use Rattle.secondary_search.specs.Search.{How, count_tree♯}

-- words that are the records of a level and nothing else, and how many they are
abbrev pub records : List ℕ → ℕ
records xs = length xs / record_width

abbrev pub Records : List ℕ → Type 0
Records xs = length xs ≡ record_width * records xs

-- an auxiliary tree has all its records in one level
abbrev pub auxiliary : How
auxiliary = record {
  place = record_place;
  deeper = λ C base. base;
  take = λ C xs b base a tally. arrived tally a.weight a.grades;
}

abbrev pub count♯ : List ℕ → ℕ → Box → ℕ → Arm → ℕ → ℕ
count♯ xs capacity b base a tally = count_tree♯ auxiliary along_y capacity xs b base a tally
