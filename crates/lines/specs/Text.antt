-- Text as bytes in ASCII: numbers in decimal (document 01, "The planner and the line program"). Assumes nothing.
use Rattle.std.specs.Prelude.{ℕ, zero, suc, ◌+◌, ◌/◌, ◌%◌, List, [], ◌∷◌, ◌++◌, ltb, if◌then◌else◌}

abbrev pub line_feed : ℕ
line_feed = 10

abbrev pub comma : ℕ
comma = 44

-- the digit 0; the digit d is d more
abbrev pub zero_digit : ℕ
zero_digit = 48

-- the last digit of n, and before it the digits of n / 10, where that is not 0; at most as many places as said
unfoldable pub last_digits : ℕ → ℕ → List ℕ
last_digits zero n = []
last_digits (suc places) n = let front = last_digits places (n / 10) in (if ltb n 10 then [] else front) ++ (zero_digit + n % 10) ∷ []

-- a number in decimal, with no needless zero; n + 1 places are enough for n
unfoldable pub digits : ℕ → List ℕ
digits n = last_digits (suc n) n

-- numbers, a comma before each
abbrev pub fields : List ℕ → List ℕ
fields [] = []
fields (n ∷ ns) = comma ∷ digits n ++ fields ns
