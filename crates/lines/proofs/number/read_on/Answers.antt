-- `read_on` meets its contract. Assumes nothing.
use mathlib.Core.Path.{sym, ◌∙◌}
use native.Mathlib.Omega.{arith}
use Prim.Native.Nat.{◌-◌}
use lib.ListN.{length, drop, length-drop}
use lib.Seq.{take_all}
use Rattle.lines.proofs.Places.{read_on-other, read_on-large, read_on-digit, read_on-end}
use Rattle.lines.proofs.number.read_on.Goals as goal

pub returns-then-not-is_ascii_digit : goal.returns-then-not-is_ascii_digit
returns-then-not-is_ascii_digit c =
    let at = c.loop-i in
    let line = c.args.line.now in
    rw (take_all (length line - at.i) (drop at.i line) (omega (arith, length-drop at.i line)))
    (sym (read_on-other line at.i at.value c.loop-i-test.true (sym c.if-not-is_ascii_digit.ensures.value)) ∙ at.invariant)

pub returns-in_err-checked_mul : goal.returns-in_err-checked_mul
returns-in_err-checked_mul c =
    let at = c.loop-i in
    let digit = sym c.if-not-is_ascii_digit.ensures.value in
    rw c.from_residual.ensures
    (sym (read_on-large c.args.line.now at.i at.value c.loop-i-test.true digit (omega (arith, c.in_err-checked_mul.ensures))) ∙ at.invariant)

pub returns-in_err-value : goal.returns-in_err-value
returns-in_err-value c =
    let at = c.loop-i in
    let digit = sym c.if-not-is_ascii_digit.ensures.value in
    rw c.from_residual-in_err-value.ensures
    (sym (read_on-large c.args.line.now at.i at.value c.loop-i-test.true digit
    (omega (arith, c.in_ok-checked_mul.ensures, c.in_err-value.ensures))) ∙ at.invariant)

pub loop-i-preserved : goal.loop-i-preserved
loop-i-preserved c =
    let at = c.loop-i in
    let digit = sym c.if-not-is_ascii_digit.ensures.value in
    let tens = c.in_ok-checked_mul.ensures in
    let more = c.in_ok-value.ensures in
    sym (read_on-digit c.args.line.now at.i at.value c.loop-i-test.true digit c.in_ok-value.value (omega arith) (omega arith)) ∙ at.invariant

pub returns : goal.returns
returns c =
    let at = c.loop-i in
    sym (read_on-end c.args.line.now at.i at.value c.loop-i-test.false) ∙ at.invariant
