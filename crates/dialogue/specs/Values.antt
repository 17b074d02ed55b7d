-- What the crate's values mean. Assumes nothing.
use Rattle.std.specs.Prelude.{ℕ, ◌+◌, ◌≤◌, ◌≡◌, List, ◌++◌, length}
use Rattle.register.specs.Performs.{Lent, lends}
use Rattle.lines.specs.Writing.{text_in, Wrote}
use Rattle.dialogue.specs.Responding.{longest_response}
use Rattle.dialogue.specs.Dialogue as model
use Rattle.dialogue.specs.Dialogue.{dialogue}
use Rattle.dialogue.specs.declared.dialogue.Dialogue.{Dialogue}

-- the words that a dialogue holds
abbrev pub lent_of : Dialogue → Lent
lent_of d = lends d.table.now d.first.now d.second.now

-- and the line that stands open
abbrev pub held_by : Dialogue → model.Dialogue
held_by d = dialogue (lent_of d) d.line.bytes.now d.line.len

-- there is room for one response more
abbrev pub HasRoom : Dialogue → Type 0
HasRoom d = d.responses.len + longest_response (length d.first.now) ≤ length d.responses.bytes.now

-- a dialogue gone on with: it holds the same lent runs, of the same lengths
pub record Keeps (before after : Dialogue) : Type 0 where
  pub table : after.table.ghost_name ≡ before.table.ghost_name
  pub first : after.first.ghost_name ≡ before.first.ghost_name
  pub second : after.second.ghost_name ≡ before.second.ghost_name
  pub line : after.line.bytes.ghost_name ≡ before.line.bytes.ghost_name
  pub out : after.responses.bytes.ghost_name ≡ before.responses.bytes.ghost_name
  pub table_length : length after.table.now ≡ length before.table.now
  pub first_length : length after.first.now ≡ length before.first.now
  pub second_length : length after.second.now ≡ length before.second.now
  pub out_length : length after.responses.bytes.now ≡ length before.responses.bytes.now

-- behind the text gathered one more was written, which stands there whole where there was room for a response; of it that holds
pub record Gathers (before after : Dialogue) (P : List ℕ → Type 0) : Type 0 where
  pub text : List ℕ
  pub wrote : Wrote text before.responses after.responses
  pub gathered : HasRoom before → text_in after.responses ≡ text_in before.responses ++ text
  pub holds : P text
