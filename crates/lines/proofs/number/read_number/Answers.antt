-- `read_number` meets its contract. Assumes nothing.
use mathlib.Core.Path.{sym, ◌∙◌}
use native.Mathlib.Omega.{arith}
use lib.ListN.{get_or-eq_default}
use Rattle.lines.proofs.Places.{read_number-zero, read_number-digit, read_number-other}
use Rattle.lines.proofs.number.read_number.Goals as goal

pub returns-in-48 : goal.returns-in-48
returns-in-48 c = sym (read_number-zero c.args.line.now (omega arith))

pub returns-in-49-to-57 : goal.returns-in-49-to-57
returns-in-49-to-57 c =
    rw c.from.ensures at c.read_on.ensures ∙ sym (read_number-digit c.args.line.now (omega arith) (omega arith))

pub returns-in_default : goal.returns-in_default
returns-in_default c =
    let line = c.args.line.now in
    sym (read_number-other line (grind (arith, get_or-eq_default line 0)))
