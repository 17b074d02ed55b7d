-- What the paper calls a number: "A number has 1 to 10 digits, no needless leading zero, and fits a word." (document 01, "The planner and the line
-- program"). proofs/Numerals has that these are the texts `digits` gives. Assumes nothing.
use Rattle.std.specs.Prelude.{ℕ, ◌+◌, ◌-◌, ◌*◌, ◌≤◌, ◌<◌, ◌≡◌, List, [], ◌∷◌, length, get_or}
use Rattle.model.specs.Laws.{All}
use Rattle.lines.specs.Text.{zero_digit}

-- '0' to '9'
abbrev pub Digit : ℕ → Type 0
Digit b = (zero_digit ≤ b) × (b ≤ zero_digit + 9)

-- a word is below 2^32
abbrev pub Word : ℕ → Type 0
Word n = n < 4294967296

-- the number of which v has been read and these digits follow
abbrev pub value_on : ℕ → List ℕ → ℕ
value_on v [] = v
value_on v (b ∷ bs) = value_on (10 * v + (b - zero_digit)) bs

-- a text and the number that it says
pub record Numeral (bs : List ℕ) (v : ℕ) : Type 0 where
  pub digits_only : All Digit bs
  pub at_least_one : 1 ≤ length bs
  pub at_most_ten : length bs ≤ 10
  pub no_needless_zero : get_or bs 0 0 ≡ zero_digit → length bs ≡ 1
  pub value : value_on 0 bs ≡ v
  pub fits_word : Word v
