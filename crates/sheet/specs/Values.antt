-- What the program's values mean. Assumes nothing.
use Rattle.std.specs.Prelude.{ℕ, ◌≡◌, List, Result, Ok, Err, ⊤}
use Rattle.dialogue.specs.Dialogue.{Dialogue, FedThrough}
use Rattle.sheet.specs.declared.Stop.{Stop}
use Rattle.sheet.specs.declared.Stop.TheVariants as stop

-- After a chunk: every byte of it has been fed, in order; or its responses could not be written.
abbrev pub Answers : Dialogue → List ℕ → Dialogue → Result ⊤ Stop → Type 0
Answers s chunk t (Ok u) = FedThrough s chunk t
Answers s chunk t (Err why) = why ≡ stop.Unwritable
