-- The lines of an input (document 01, "The planner and the line program": "A line ends in a line feed or the end of input and has at most 48 bytes before
-- it; an empty rest after the last line feed is no line."), and lines in lent bytes. Assumes nothing.
use Rattle.std.specs.Prelude.{ℕ, ◌+◌, ◌≤◌, ◌<◌, ◌≡◌, List, [], ◌∷◌, ◌++◌, leb, eqb, length, take, set, if◌then◌else◌}
use Rattle.std.proofs.Math.Option.{Option, none}
use Rattle.table.specs.After.{After, after}
use Rattle.lines.specs.Text.{line_feed}
use Rattle.lines.specs.Commands.{Command, Reads}

-- the rest after the last line feed
abbrev pub last_line : List ℕ → List (List ℕ)
last_line [] = []
last_line (b ∷ bs) = (b ∷ bs) ∷ []

-- the lines of an input, after bytes that belong to the first of them
abbrev pub lines_after : List ℕ → List ℕ → List (List ℕ)
lines_after begun [] = last_line begun
lines_after begun (b ∷ bs) = if eqb b line_feed then begun ∷ lines_after [] bs else lines_after (begun ++ b ∷ []) bs

abbrev pub lines_of : List ℕ → List (List ℕ)
lines_of input = lines_after [] input

abbrev pub longest_line : ℕ
longest_line = 48

-- what stands between two line feeds, as a command or as none: row 11 is "not a line as below"
pub data TakenAs (line : List ℕ) : Option Command → Type 0 where
  short : {c : Option Command} → length line ≤ longest_line → Reads line c → TakenAs line c
  long : longest_line < length line → TakenAs line none

-- The bytes begun of a line, in lent bytes: the first `len` of those, or 49 for more than there may be.
pub data Gathered (lent : List ℕ) (len : ℕ) (begun : List ℕ) : Type 0 where
  within : longest_line ≤ length lent → len ≤ longest_line → take len lent ≡ begun → Gathered lent len begun
  beyond : longest_line ≤ length lent → len ≡ longest_line + 1 → longest_line < length begun → Gathered lent len begun

-- one byte more: the length, and the lent bytes
unfoldable pub gather : ℕ → ℕ → List ℕ → After ℕ
gather len b lent = if leb longest_line len then after (longest_line + 1) lent else after (len + 1) (set lent len b)
