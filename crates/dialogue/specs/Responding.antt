-- What a line does: the call that it asks for, on the words that the program holds, and the text printed (document 01, "The planner and the line program").
-- Assumes nothing.
use Rattle.std.specs.Prelude.{ℕ, ◌+◌, ◌*◌, ◌≤◌, ◌<◌, ◌≡◌, List, [], length, Result, Ok, Err}
use Rattle.std.proofs.Math.Option.{Option, none, some}
use Rattle.model.specs.Sheet.{mark}
use Rattle.model.specs.History as history
use Rattle.model.specs.History.{Call, Answer}
use Rattle.register.specs.declared.refusal.Refusal.{Refusal}
use Rattle.register.specs.Answers.{number_of}
use Rattle.register.specs.Performs.{Lent, alone, Performs}
use Rattle.lines.specs.Commands.{Command, insert, strike, count, list}
use Rattle.lines.specs.Input.{TakenAs}
use Rattle.lines.specs.Responses.{printed, not_a_line}

-- the call of a command; a list is lent two lists, of these lengths. A strike does not look at a grade: 0 stands in its place.
abbrev pub call_of : Command → (first second : ℕ) → Call
call_of (insert m) f s = history.insert m
call_of (strike x y tag) f s = history.strike (mark x y tag 0)
call_of (count b) f s = history.count b
call_of (list b) f s = history.list b f s

-- what it is lent of the words held
abbrev pub lent_to : Command → Lent → Lent
lent_to (insert m) w = alone w.table
lent_to (strike x y tag) w = alone w.table
lent_to (count b) w = alone w.table
lent_to (list b) w = w

-- a command performed on the words held
pub record Performed (c : Command) (before after : Lent) (a : Answer) : Type 0 where
  pub performs : Performs (call_of c (length before.first) (length before.second)) (lent_to c before) (lent_to c after) a
  pub first_length : length after.first ≡ length before.first
  pub second_length : length after.second ≡ length before.second

-- what is done for a command, or for none, and the text printed
pub data Does (before after : Lent) (text : List ℕ) : Option Command → Type 0 where
  performed : {c : Command} {a : Answer} → Performed c before after a → text ≡ printed c a → Does before after text (some c)
  turned_away : after ≡ before → text ≡ not_a_line → Does before after text none

-- the response to a line
pub record Responds (line : List ℕ) (before after : Lent) (text : List ℕ) : Type 0 where
  pub command : Option Command
  pub taken : TakenAs line command
  pub does : Does before after text command

-- a response has no more bytes than 46, and 44 for each mark that a first list of so many words has room for
abbrev pub longest_response : ℕ → ℕ
longest_response words = 46 + 11 * words

-- the bytes `out` have room for a response, and numbers of 32 bits count them
abbrev pub Room : (first out : List ℕ) → Type 0
Room first out = (longest_response (length first) ≤ length out) × (length out < 4294967296)

-- a command performed on the words held, by what the call gave, and the text gathered of it: the whole response of an accepted one, nothing of a refusal
pub data Answered (c : Command) (before after : Lent) (text : List ℕ) : Result Unit Refusal → Type 0 where
  accepted : {a : Answer} {u : Unit} → Performed c before after a → text ≡ printed c a → length text ≤ longest_response (length before.first)
      → Answered c before after text (Ok u)
  refused : {a : Answer} {e : Refusal} → Performed c before after a → a.number ≡ number_of e → text ≡ [] → Answered c before after text (Err e)
