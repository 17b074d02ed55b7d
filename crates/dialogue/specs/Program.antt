-- The program `sheet` by the model (document 01, "The planner and the line program"): what is printed for the lines of an input. Assumes nothing.
use Rattle.std.specs.Prelude.{ℕ, ◌≤◌, ◌≡◌, List, [], ◌∷◌, ◌++◌, length}
use Rattle.std.proofs.Math.Option.{none, some}
use Rattle.model.specs.History.{State, answer, next}
use Rattle.twofold_layout.specs.Sound.{Holding}
use Rattle.table.specs.Header.{capacity_of}
use Rattle.register.specs.Performs.{own}
use Rattle.lines.specs.Commands.{Command}
use Rattle.lines.specs.Input.{longest_line, TakenAs}
use Rattle.lines.specs.Responses.{printed, not_a_line}
use Rattle.dialogue.specs.Responding.{call_of}
use Rattle.dialogue.specs.Dialogue.{Dialogue}

-- for lines from a state of the history on: a command's answer by the plain list and the rules' tree; `R,11` for any other line. A list is lent two
-- lists of n words.
pub data Prints (n : ℕ) : State → List (List ℕ) → List ℕ → Type 0 where
  nothing : {s : State} → Prints n s [] []
  command : {s : State} {line : List ℕ} {c : Command} {lines : List (List ℕ)} {more : List ℕ} → TakenAs line (some c)
      → Prints n (next (call_of c n n) s) lines more → Prints n s (line ∷ lines) (printed c (answer (call_of c n n) s) ++ more)
  other : {s : State} {line : List ℕ} {lines : List (List ℕ)} {more : List ℕ} → TakenAs line none
      → Prints n s lines more → Prints n s (line ∷ lines) (not_a_line ++ more)

-- the responses of which the output is made, one for each line
abbrev pub responses : {n : ℕ} {s : State} {lines : List (List ℕ)} {out : List ℕ} → Prints n s lines out → List (List ℕ)
responses nothing = []
responses {n} (command {s = s} {c = c} taken p) = printed c (answer (call_of c n n) s) ∷ responses p
responses (other taken p) = not_a_line ∷ responses p

-- "`sheet` opens 40 marks in 13,184 words with lists of 160 words" (R-1)
abbrev pub marks : ℕ
marks = 40

abbrev pub table_words : ℕ
table_words = 13184

abbrev pub list_words : ℕ
list_words = 160

-- the register when it has been opened
abbrev pub opened : State
opened = record { capacity = marks; plain = []; tree = none }

-- the words and bytes that the program holds when it has opened its table and before it reads
pub record Begun (s : Dialogue) : Type 0 where
  pub capacity : capacity_of s.lent.table ≡ marks
  pub empty : Holding (own s.lent.table) none
  pub first_words : length s.lent.first ≡ list_words
  pub second_words : length s.lent.second ≡ list_words
  pub line_bytes : longest_line ≤ length s.line
  pub no_line : s.len ≡ 0
