-- `push` meets its contract. Assumes nothing.
use borrow.Author.Tests.{le-leb, lt-leb}
use Rattle.std.proofs.Math.Seq.{set_out}
use Rattle.lines.specs.Input.{gather}
use Rattle.lines.proofs.input.OpenLine.push.Goals as goal

pub returns-then-self-ge-LONGEST-clause-gathers : goal.returns-then-self-ge-LONGEST-clause-gathers
unfolding gather
returns-then-self-ge-LONGEST-clause-gathers c = rw (le-leb 48 c.args.self.now.len c.if-self-ge-LONGEST.true)

pub returns-then-at-self-clause-gathers : goal.returns-then-at-self-clause-gathers
unfolding gather
returns-then-at-self-clause-gathers c = rw (lt-leb 48 c.args.self.now.len c.if-self-ge-LONGEST.false)

pub returns-else-at-self-clause-gathers : goal.returns-else-at-self-clause-gathers
unfolding gather
returns-else-at-self-clause-gathers c =
    let line = c.args.self.now in
    rw (lt-leb 48 line.len c.if-self-ge-LONGEST.false, set_out line.bytes.now line.len c.args.byte c.if-at-self.false)
