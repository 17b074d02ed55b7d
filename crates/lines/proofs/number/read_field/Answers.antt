-- `read_field` meets its contract. Assumes nothing.
use mathlib.Core.Path.{sym, ◌∙◌}
use native.Mathlib.Omega.{arith}
use lib.ListN.{get_or-eq_default}
use Rattle.lines.proofs.Places.{read_field-comma, read_field-other}
use Rattle.lines.proofs.number.read_field.Goals as goal

pub returns-in-44 : goal.returns-in-44
returns-in-44 c = c.read_number.ensures ∙ sym (read_field-comma c.args.line.now (omega arith))

pub returns-in_default : goal.returns-in_default
returns-in_default c =
    let line = c.args.line.now in
    sym (read_field-other line (grind (arith, get_or-eq_default line 0)))
