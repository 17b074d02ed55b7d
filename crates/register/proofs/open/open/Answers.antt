use lib.Seq.{length-take-le}
use mathlib.Core.Path.{sym}
use Rattle.table.specs.After.{after}
use Rattle.register.proofs.Steps.{stopped}
use Rattle.register.proofs.Own.{open-fits, open-room}
use Rattle.register.proofs.Branches.{open-turned, open_own}
use Rattle.register.proofs.Opening.{open-performs}
use Rattle.register.proofs.open.open.Goals as goal

pub returns-in_err-own : goal.returns-in_err-own
returns-in_err-own c =
    rw (stopped _ _ c.from_residual.ensures.1) (open-performs _ _ (after _ _) (open-turned _ _ _ c.in_err-own.ensures))

pub slice_bounds-empty-end : goal.slice_bounds-empty-end
slice_bounds-empty-end c = open-fits _ _ _ (sym c.in_ok-own.ensures)

pub slice_bounds-empty-end-2 : goal.slice_bounds-empty-end-2
slice_bounds-empty-end-2 c = sym (length-take-le _ _ (open-fits _ _ _ (sym c.in_ok-own.ensures)))

pub empty-requires : goal.empty-requires
empty-requires c = open-room _ _ _ (sym c.in_ok-own.ensures)

pub returns : goal.returns
returns c = open-performs _ _ (after _ _) (open_own _ _ _ c.in_ok-own.ensures _ c.empty.ensures)
