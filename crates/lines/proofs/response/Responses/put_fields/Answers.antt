-- `put_fields` meets its contract. Assumes nothing.
use native.Mathlib.Omega.{arith}
use Rattle.lines.proofs.Responses.{fields-more}
use Rattle.lines.proofs.Writing.{wrote_nothing, wrote_then}
use Rattle.lines.proofs.response.Responses.put_fields.Goals as goal

pub loop-n-init : goal.loop-n-init
loop-n-init c = wrote_nothing _ (omega arith) (omega arith)

pub loop-n-preserved : goal.loop-n-preserved
loop-n-preserved c =
    let at = c.loop-n in
    rw (← fields-more c.args.numbers.now at.n-index c.loop-n-test.true)
    (wrote_then at.invariant (wrote_then c.push.ensures c.put_number.ensures))
