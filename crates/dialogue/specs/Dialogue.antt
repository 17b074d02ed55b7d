-- A dialogue: the words and bytes that the program holds, and what it does with each byte of the input, with a batch of them and at
-- its end. Assumes nothing.
use Rattle.std.specs.Prelude.{ℕ, ◌+◌, ◌≤◌, ◌<◌, ◌≡◌, ◌≢◌, List, [], ◌∷◌, ◌++◌, length, take}
use Rattle.table.specs.After as words
use Rattle.register.specs.Performs.{Lent}
use Rattle.lines.specs.Text.{line_feed}
use Rattle.lines.specs.Input.{Gathered, gather}
use Rattle.dialogue.specs.Responding.{longest_response, Responds}

-- the table and the two lists; the bytes of the line that stands open, and its length
pub record Dialogue : Type 0 where
  pub lent : Lent
  pub line : List ℕ
  pub len : ℕ

abbrev pub dialogue : Lent → List ℕ → ℕ → Dialogue
dialogue w l n = record { lent = w; line = l; len = n }

-- the response to the line that stands open
abbrev pub RespondsOpen : Dialogue → Lent → List ℕ → Type 0
RespondsOpen s after text = (line : List ℕ) → Gathered s.line s.len line → Responds line s.lent after text

-- a byte of the input, and the text printed for it
pub data Fed (b : ℕ) (before after : Dialogue) (text : List ℕ) : Type 0 where
  ends : b ≡ line_feed → RespondsOpen before after.lent text → after.line ≡ before.line → after.len ≡ 0 → Fed b before after text
  goes_on : b ≢ line_feed → after.lent ≡ before.lent → words.after after.len after.line ≡ gather before.len b before.line → text ≡ []
      → Fed b before after text

-- the end of the input
pub data Ended (before : Dialogue) (after : Lent) (text : List ℕ) : Type 0 where
  rest : before.len ≢ 0 → RespondsOpen before after text → Ended before after text
  no_rest : before.len ≡ 0 → after ≡ before.lent → text ≡ [] → Ended before after text

-- the bytes of an input one after the other, in whatever chunks they are read
pub data FedAll : Dialogue → List ℕ → Dialogue → List ℕ → Type 0 where
  none : {s : Dialogue} → FedAll s [] s []
  then : {b : ℕ} {bs : List ℕ} {s t u : Dialogue} {text more : List ℕ} → Fed b s t text → FedAll t bs u more → FedAll s (b ∷ bs) u (text ++ more)

-- the same, whatever was printed
pub record FedThrough (s : Dialogue) (input : List ℕ) (t : Dialogue) : Type 0 where
  pub text : List ℕ
  pub fed : FedAll s input t text

-- A batch: the first `used` bytes of a chunk are fed, and the first `bytes` of `out` are the text printed for them. It ends before the chunk does only where
-- `out` has no room left for the longest response, and there is room for one at its beginning, so it takes a byte.
pub record Batched (s : Dialogue) (chunk : List ℕ) (used : ℕ) (t : Dialogue) (out : List ℕ) (bytes : ℕ) : Type 0 where
  pub taken : used ≤ length chunk
  pub written : bytes ≤ length out
  pub fed : FedAll s (take used chunk) t (take bytes out)
  pub spent : used ≢ length chunk → length out < bytes + longest_response (length s.lent.first)
  pub some : length chunk ≢ 0 → used ≢ 0

-- a dialogue from its first byte to its end, and all that it prints
pub record Runs (s : Dialogue) (input output : List ℕ) : Type 0 where
  pub last : Dialogue
  pub left : Lent
  pub text : List ℕ
  pub end : List ℕ
  pub fed : FedAll s input last text
  pub ended : Ended last left end
  pub all : output ≡ text ++ end
