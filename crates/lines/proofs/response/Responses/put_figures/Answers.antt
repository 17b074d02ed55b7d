-- `put_figures` meets its contract. Assumes nothing.
use native.Mathlib.Omega.{arith}
use Rattle.lines.proofs.Responses.{answer-parts, answer-short, words}
use Rattle.lines.proofs.Writing.{wrote_then}
use Rattle.lines.proofs.response.Responses.put_figures.Goals as goal

pub returns-clause-wrote : goal.returns-clause-wrote
returns-clause-wrote c =
    rw (answer-parts c.args.letter c.args.figures.now) at
    (wrote_then (wrote_then c.push.ensures c.put_fields.ensures) c.push-2.ensures)

pub returns-clause-short : goal.returns-clause-short
returns-clause-short c = answer-short c.args.letter c.args.figures.now (words c.args.figures.now (λ i. omega (arith, c.type_inv.figures i)))
