-- The lines that are commands (document 01, "The planner and the line program"). Assumes nothing.
use Rattle.std.specs.Prelude.{ℕ, ◌≡◌, List, [], ◌∷◌}
use Rattle.std.proofs.Math.Option.{Option, none, some}
use Rattle.model.specs.Sheet.{Mark, Box}
use Rattle.model.specs.Laws.{All}
use Rattle.lines.specs.Text.{fields}
use Rattle.lines.specs.Numerals.{Word}

-- the numbers may be any words: whether they are a mark or a box of the sheet is the call's to say
pub data Command : Type 0 where
  insert : Mark → Command
  strike : (x y tag : ℕ) → Command
  count : Box → Command
  list : Box → Command

-- 'I', 'D', 'C' and 'L'
abbrev pub letter : Command → ℕ
letter (insert m) = 73
letter (strike x y tag) = 68
letter (count b) = 67
letter (list b) = 76

abbrev pub numbers : Command → List ℕ
numbers (insert m) = m.x ∷ m.y ∷ m.tag ∷ m.grade ∷ []
numbers (strike x y tag) = x ∷ y ∷ tag ∷ []
numbers (count b) = b.x1 ∷ b.x2 ∷ b.y1 ∷ b.y2 ∷ []
numbers (list b) = b.x1 ∷ b.x2 ∷ b.y1 ∷ b.y2 ∷ []

-- "`D,x,y,tag`, `C,x1,x2,y1,y2`, `L,x1,x2,y1,y2`", and "`I,x,y,tag,grade`" (R-1), without the line feed
abbrev pub written : Command → List ℕ
written c = letter c ∷ fields (numbers c)

-- "and fits a word"
abbrev pub Words : Command → Type 0
Words c = All Word (numbers c)

-- what a line is: the one command of which it is the written form, or none
pub data Reads (line : List ℕ) : Option Command → Type 0 where
  command : {c : Command} → Words c → line ≡ written c → Reads line (some c)
  not_one : ((c : Command) → Words c → line ≡ written c → ⊥) → Reads line none
