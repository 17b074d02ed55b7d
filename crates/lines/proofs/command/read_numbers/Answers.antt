-- `read_numbers` meets its contract. Assumes nothing.
use mathlib.Core.Path.{◌≡◌, sym, ◌∙◌}
use native.Mathlib.Omega.{arith}
use lib.ListN.{length, length-set}
use borrow.Author.Tests.{eqb-true, eqb-false}
use Rattle.lines.specs.Reading.{number}
use Rattle.lines.proofs.Places.{read_numbers-none, read_numbers-more, read_numbers-end, read_numbers-over}
use Rattle.lines.proofs.command.read_numbers.Goals as goal

pub returns-in_err-read : goal.returns-in_err-read
returns-in_err-read g c =
    let at = c.loop-number in
    rw c.from_residual.ensures
    (sym (read_numbers-none at.number-items at.left.now at.number-index g.row.N c.loop-number-test.true (sym c.in_err-read.ensures))
    ∙ at.invariant.1)

pub loop-number-preserved : goal.loop-number-preserved
loop-number-preserved g c =
    let at = c.loop-number in
    let read = c.in_ok-read in (
      length-set at.number-items at.number-index read.read ∙ at.invariant.0,
      sym (read_numbers-more at.number-items at.left.now at.number-index g.row.N c.loop-number-test.true
          (number read.read read.after.now) (sym at.invariant.0) (sym read.ensures))
          ∙ at.invariant.1,
    )

pub returns-then-is_empty : goal.returns-then-is_empty
returns-then-is_empty g c =
    let at = c.loop-number in
    let all : at.number-index ≡ g.row.N = omega arith in
    let none_left = eqb-true (length at.left.now) 0 (sym c.if-is_empty.ensures) in
    sym (read_numbers-end at.number-items at.left.now g.row.N at.invariant.0 none_left) ∙ rw all at at.invariant.1

pub returns-else-is_empty : goal.returns-else-is_empty
returns-else-is_empty g c =
    let at = c.loop-number in
    let all : at.number-index ≡ g.row.N = omega arith in
    let some_left = eqb-false (length at.left.now) 0 (sym c.if-is_empty.ensures) in
    sym (read_numbers-over at.number-items at.left.now g.row.N at.invariant.0 (omega arith)) ∙ rw all at at.invariant.1
