-- A count's tally in one number: 2^47 times the marks found, 2^31 times the visits, and the figure of the grades. Assumes nothing.
use Rattle.std.specs.Prelude.{ℕ, ◌+◌, ◌*◌, ◌/◌, ◌%◌, ◌^◌}
use Rattle.table.specs.Grades.{joined}

-- the tally of k marks with the grades' figure g, and v visits
unfoldable pub packed : ℕ → ℕ → ℕ → ℕ
packed k v g = 140737488355328 * k + 2147483648 * v + g

-- one visit more, with w marks and their grades' figure
unfoldable pub arrived : ℕ → ℕ → ℕ → ℕ
arrived tally w g = joined tally (packed w 1 g) % 2 ^ 64

-- what stands in a tally
unfoldable pub found_in : ℕ → ℕ
found_in tally = tally / 140737488355328

unfoldable pub visits_in : ℕ → ℕ
visits_in tally = tally / 2147483648 % 65536

unfoldable pub grades_in : ℕ → ℕ
grades_in tally = tally % 2147483648
