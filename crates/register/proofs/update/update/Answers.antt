-- `update` meets its contract: a branch for each row, and the change of the table's own words. Assumes nothing.
use mathlib.Core.Path.{ap, ◌∙◌}
use Rattle.register.proofs.Steps.{stopped, lacking, no_header, a_header}
use Rattle.register.proofs.Own.{part-some, part-fits, part-length, part-header}
use Rattle.register.proofs.Branches.{update-not-table, update-turned, update-own}
use Rattle.geometry.specs.Values.{mark_outcome}
use Rattle.register.proofs.update.update.Goals as goal

pub returns-in_err-own : goal.returns-in_err-own
returns-in_err-own g c =
    let k = lacking c.own.result _ _ c.from_residual.result c.in_err-own.ensures.value c.from_residual.ensures.1 in
    rw k.1 (update-not-table _ _ _ (no_header _ _ c.own.ensures k.0))

pub returns-in_err-m : goal.returns-in_err-m
returns-in_err-m g c =
    let o = a_header _ _ c.own.ensures _ c.in_ok-own.ensures.ok_part in
    rw (c.in_err-m.was, stopped _ _ c.from_residual-in_err-m.ensures.1) (update-turned _ _ (part-some o) _)

pub slice_bounds-t-end : goal.slice_bounds-t-end
slice_bounds-t-end g c = part-fits (a_header _ _ c.own.ensures _ c.in_ok-own.ensures.ok_part)

pub slice_bounds-t-end-2 : goal.slice_bounds-t-end-2
slice_bounds-t-end-2 g c = part-length (a_header _ _ c.own.ensures _ c.in_ok-own.ensures.ok_part)

pub change-rebuilt-requires : goal.change-rebuilt-requires
change-rebuilt-requires g c = part-header (a_header _ _ c.own.ensures _ c.in_ok-own.ensures.ok_part)

pub returns : goal.returns
returns g c =
    let o = a_header _ _ c.own.ensures _ c.in_ok-own.ensures.ok_part in
    update-own _ _ (part-some o) _ (ap mark_outcome c.in_ok-m.was) _ _ _ o.words (c.settle.ensures ∙ c.change-rebuilt.ensures)
