-- `put_fields` meets its contract. The loop keeps: the numbers before the place are written. Assumes nothing.
use lib.ListN.{take}
use Rattle.lines.specs.Text.{fields}
use Rattle.lines.specs.Writing.{Wrote}
use Rattle.lines.proofs.response.Responses.put_fields.Given as goal

abbrev pub invariant-loop-n : goal.invariant-loop-n
invariant-loop-n l = Wrote (fields (take l.n-index l.numbers)) l.initial.self l.self
