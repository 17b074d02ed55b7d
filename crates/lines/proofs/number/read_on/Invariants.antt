-- `read_on` meets its contract. The loop keeps: what is left to read goes on from the value read so far. Assumes nothing.
use mathlib.Core.Path.{◌≡◌}
use lib.ListN.{drop}
use Rattle.lines.specs.Reading.{read_on♯}
use Rattle.lines.proofs.number.read_on.Given as goal

abbrev pub invariant-loop-i : goal.invariant-loop-i
invariant-loop-i l = read_on♯ l.value (drop l.i l.line) ≡ read_on♯ l.v l.line
