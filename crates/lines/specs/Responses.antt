-- What the program prints for a line (document 01, "The planner and the line program"). Assumes nothing.
use Rattle.std.specs.Prelude.{ℕ, List, [], ◌∷◌, ◌++◌, eqb, if◌then◌else◌}
use Rattle.model.specs.Sheet.{Mark}
use Rattle.model.specs.History.{Answer}
use Rattle.lines.specs.Text.{line_feed, digits, fields}
use Rattle.lines.specs.Commands.{Command, insert, strike, count, list, letter}

-- a letter, the numbers after it, and "every line ended by a line feed"
unfoldable pub answer_line : ℕ → List ℕ → List ℕ
answer_line c ns = c ∷ fields ns ++ line_feed ∷ []

-- "or `R,number`"
unfoldable pub refusal_line : ℕ → List ℕ
refusal_line number = answer_line 82 (number ∷ [])

-- number 11: "not a line as below"
abbrev pub not_a_line : List ℕ
not_a_line = refusal_line 11

-- "list lines `x,y,tag,grade`" (R-1)
unfoldable pub mark_line : Mark → List ℕ
mark_line m = digits m.x ++ fields (m.y ∷ m.tag ∷ m.grade ∷ []) ++ line_feed ∷ []

abbrev pub mark_lines : List Mark → List ℕ
mark_lines [] = []
mark_lines (m ∷ l) = mark_line m ++ mark_lines l

-- "It prints `I,live,rebuilt`, `D,live,rebuilt`, .., `L,count,visits` followed by a line .. for each mark", and "`C,count,visits,sum,worst`" (R-1)
abbrev pub figures : Command → Answer → List ℕ
figures (insert m) a = a.live ∷ a.rebuilt ∷ []
figures (strike x y tag) a = a.live ∷ a.rebuilt ∷ []
figures (count b) a = a.k ∷ a.visits ∷ a.sum ∷ a.worst ∷ []
figures (list b) a = a.k ∷ a.visits ∷ []

abbrev pub marks_after : Command → Answer → List Mark
marks_after (insert m) a = []
marks_after (strike x y tag) a = []
marks_after (count b) a = []
marks_after (list b) a = a.listed

unfoldable pub printed : Command → Answer → List ℕ
printed c a = if eqb a.number 0 then answer_line (letter c) (figures c a) ++ mark_lines (marks_after c a) else refusal_line a.number
