-- `command` meets its contract: a line that is too long has no bytes to be read. Assumes nothing.
use native.Mathlib.Nat.{sub-zero}
use native.Mathlib.Omega.{arith}
use Rattle.lines.specs.Values.{line_of}
use Rattle.lines.proofs.Gathering.{gathered-long, gathered-room, gathered-short}
use Rattle.lines.proofs.input.OpenLine.command.Goals as goal

pub returns-then-self-gt-LONGEST : goal.returns-then-self-gt-LONGEST
returns-then-self-gt-LONGEST c l g =
    let line = c.args.self.now in
    gathered-long line.bytes.now line.len l g c.if-self-gt-LONGEST.true

pub returns-in_err-get : goal.returns-in_err-get
returns-in_err-get c l g =
    let line = c.args.self.now in
    let room = gathered-room line.bytes.now line.len l g in
    rw c.from_residual.ensures (gathered-long line.bytes.now line.len l g (grind (arith, room, c.in_err-get.ensures.lookup)))

pub returns : goal.returns
returns c l g =
    let line = c.args.self.now in
    let got = c.in_ok-get.ensures.lookup.0 in
    gathered-short line.bytes.now line.len l g (omega arith) (line_of c.read.result) (rw (got.2, sub-zero line.len) at c.read.ensures)
