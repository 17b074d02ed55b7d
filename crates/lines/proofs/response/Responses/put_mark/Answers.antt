-- `put_mark` meets its contract. Assumes nothing.
use native.Mathlib.Omega.{arith}
use Rattle.model.specs.Laws.{nil, cons}
use Rattle.geometry.specs.Values.{mark_value}
use Rattle.lines.proofs.Responses.{mark-parts, mark-short}
use Rattle.lines.proofs.Writing.{wrote_then}
use Rattle.lines.proofs.response.Responses.put_mark.Goals as goal

pub returns-clause-wrote : goal.returns-clause-wrote
returns-clause-wrote c =
    rw (mark-parts (mark_value c.args.m)) at
    (wrote_then (wrote_then c.put_number.ensures c.put_fields.ensures) c.push.ensures)

pub returns-clause-short : goal.returns-clause-short
returns-clause-short c =
    mark-short (mark_value c.args.m) (cons (omega arith) (cons (omega arith) (cons (omega arith) (cons (omega arith) nil))))
