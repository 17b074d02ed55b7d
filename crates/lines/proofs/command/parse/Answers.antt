-- `parse` meets its contract: letter by letter. Assumes nothing.
use mathlib.Core.Path.{sym, ap, ◌∙◌}
use native.Mathlib.Omega.{arith}
use lib.ListN.{get_or-eq_default}
use Rattle.lines.specs.Reading.{some_of, insert_of, strike_of, count_of, list_of}
use Rattle.lines.proofs.Places.{read-insert, read-strike, read-count, read-list, read-other}
use Rattle.lines.proofs.command.parse.Goals as goal

pub returns-in_err-x-in-73 : goal.returns-in_err-x-in-73
returns-in_err-x-in-73 c =
    rw c.from_residual.ensures
    (ap (some_of insert_of) c.in_err-x-in-73.ensures ∙ sym (read-insert c.args.line.now (omega arith)))

pub returns-in_ok-x-in-73 : goal.returns-in_ok-x-in-73
returns-in_ok-x-in-73 c =
    ap (some_of insert_of) c.in_ok-x-in-73.ensures ∙ sym (read-insert c.args.line.now (omega arith))

pub returns-in_err-x-in-68 : goal.returns-in_err-x-in-68
returns-in_err-x-in-68 c =
    rw c.from_residual-in_err-x-in-68.ensures
    (ap (some_of strike_of) c.in_err-x-in-68.ensures ∙ sym (read-strike c.args.line.now (omega arith)))

pub returns-in_ok-x-in-68 : goal.returns-in_ok-x-in-68
returns-in_ok-x-in-68 c =
    ap (some_of strike_of) c.in_ok-x-in-68.ensures ∙ sym (read-strike c.args.line.now (omega arith))

pub returns-in_err-x1-in-67 : goal.returns-in_err-x1-in-67
returns-in_err-x1-in-67 c =
    rw c.from_residual-in_err-x1-in-67.ensures
    (ap (some_of count_of) c.in_err-x1-in-67.ensures ∙ sym (read-count c.args.line.now (omega arith)))

pub returns-in_ok-x1-in-67 : goal.returns-in_ok-x1-in-67
returns-in_ok-x1-in-67 c =
    ap (some_of count_of) c.in_ok-x1-in-67.ensures ∙ sym (read-count c.args.line.now (omega arith))

pub returns-in_err-x1-in-76 : goal.returns-in_err-x1-in-76
returns-in_err-x1-in-76 c =
    rw c.from_residual-in_err-x1-in-76.ensures
    (ap (some_of list_of) c.in_err-x1-in-76.ensures ∙ sym (read-list c.args.line.now (omega arith)))

pub returns-in_ok-x1-in-76 : goal.returns-in_ok-x1-in-76
returns-in_ok-x1-in-76 c =
    ap (some_of list_of) c.in_ok-x1-in-76.ensures ∙ sym (read-list c.args.line.now (omega arith))

pub returns-in_default : goal.returns-in_default
returns-in_default c =
    let line = c.args.line.now in
    let none = get_or-eq_default line 0 {n = 0} (omega arith) in
    sym (read-other line (λ e. omega arith) (λ e. omega arith) (λ e. omega arith) (λ e. omega arith))

pub returns-in_default-2 : goal.returns-in_default-2
returns-in_default-2 c =
    let line = c.args.line.now in
    sym (read-other line (λ e. omega arith) (λ e. omega arith) (λ e. omega arith) (λ e. omega arith))
