use Rattle.register.proofs.Steps.{stopped, lacking, no_header, a_header}
use Rattle.register.proofs.Own.{part-length}
use Rattle.register.proofs.Reading.{check-not-table, check-unsound, check_sound}
use Rattle.register.proofs.check.check.Goals as goal

pub returns-in_err-own : goal.returns-in_err-own
returns-in_err-own c =
    let k = lacking c.own.result _ _ c.from_residual.result c.in_err-own.ensures.value c.from_residual.ensures.1 in
    rw k.1 (check-not-table _ (no_header _ _ c.own.ensures k.0))

pub slice_bounds-check-end : goal.slice_bounds-check-end
slice_bounds-check-end c = part-length (a_header _ _ c.own.ensures _ c.in_ok-own.ensures.ok_part)

pub returns-in_err-check : goal.returns-in_err-check
returns-in_err-check c =
    rw (stopped _ _ c.from_residual-in_err-check.ensures.1)
    (check-unsound _ (a_header _ _ c.own.ensures _ c.in_ok-own.ensures.ok_part) _ c.in_err-check.ensures)

pub returns : goal.returns
returns c =
    check_sound _ (a_header _ _ c.own.ensures _ c.in_ok-own.ensures.ok_part) _ c.in_ok-check.ensures
