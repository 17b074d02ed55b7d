-- `feed_some` meets its contract. Assumes nothing.
use mathlib.Core.Path.{refl}
use native.Mathlib.Omega.{arith}
use Rattle.lines.proofs.Writing.{wrote-fits}
use Rattle.dialogue.specs.Dialogue.{none}
use Rattle.dialogue.specs.Values.{HasRoom}
use Rattle.dialogue.proofs.Feeding.{fed-next, keeps-on}
use Rattle.dialogue.proofs.dialogue.Dialogue.feed_some.Goals as goal

pub loop-used-init : goal.loop-used-init
loop-used-init c = (
  refl,
  record {
    table = refl;
    first = refl;
    second = refl;
    line = refl;
    out = refl;
    table_length = refl;
    first_length = refl;
    second_length = refl;
    out_length = refl;
  },
  λ e. c.clear.ensures.1,
  omega (arith, c.clear.ensures.1),
  rw c.clear.ensures.1 none,
)

pub loop-used-preserved : goal.loop-used-preserved
loop-used-preserved c =
    let now = c.loop-used in
    let fed = c.feed.ensures in
    let room : HasRoom now.self = omega (arith, now.invariant.0, c.room.ensures) in (
      omega (arith, now.invariant.0, fed.keeps.first_length),
      keeps-on now.invariant.1 fed.keeps,
      λ e. absurd (omega arith),
      wrote-fits fed.fed.wrote now.invariant.3 (fed.fed.gathered room),
      rw (fed.fed.gathered room)
          (fed-next c.args.chunk.now now.used c.loop-used-test.true now.invariant.4 fed.fed.holds),
    )
