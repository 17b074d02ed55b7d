-- Sum and worst of grades as one figure: 256 times the sum, and the worst, which is below 256. "One law for any such operation to which 0 is neutral covers
-- both figures" (R-1): it covers this one, so nothing but `sum` and `worst` below knows what stands in it. Assumes nothing.
use Rattle.std.specs.Prelude.{ℕ, ◌+◌, ◌*◌, ◌/◌, ◌%◌, max}
use Rattle.model.specs.Totals.{Operation}
use Rattle.model.specs.Sheet.{Mark}

-- the figure of one grade, and of two groups of marks together
unfoldable pub graded : ℕ → ℕ
graded g = 257 * g

unfoldable pub joined : ℕ → ℕ → ℕ
joined p q = 256 * (p / 256 + q / 256) + max (p % 256) (q % 256)

abbrev pub grading : Operation Mark
grading = record { of = λ m. graded m.grade; join = joined }

-- what stands in a figure
unfoldable pub sum_of : ℕ → ℕ
sum_of p = p / 256

unfoldable pub worst_of : ℕ → ℕ
worst_of p = p % 256

-- a figure as a word: sums go round at 2^32, far above those of 65,536 marks
unfoldable pub word : ℕ → ℕ
word p = p % 4294967296

unfoldable pub joined_word : ℕ → ℕ → ℕ
joined_word p q = word (joined p q)
