-- `read` meets its contract. Assumes nothing.
use Rattle.lines.proofs.Reading.{reads-line}
use Rattle.lines.proofs.command.read.Goals as goal

pub returns : goal.returns
returns c = rw c.parse.ensures (reads-line c.args.line.now)
