-- `answer` meets its contract. Assumes nothing.
use native.Mathlib.Omega.{arith}
use Rattle.dialogue.proofs.Feeding.{fed-none, fed-on}
use Rattle.sheet.proofs.answer.Goals as goal

pub loop-at-init : goal.loop-at-init
loop-at-init g c = (omega arith, fed-none _)

pub loop-at-preserved : goal.loop-at-preserved
loop-at-preserved g c =
    let fed = c.feed_some-at.ensures.fed in (
      omega (arith, fed.taken),
      fed-on c.args.chunk.now c.loop-at.at c.feed_some-at.result c.loop-at.invariant.1 fed,
    )
