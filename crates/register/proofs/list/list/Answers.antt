-- `list` meets its contract: a branch for each row, and the list from the table's own words. Assumes nothing.
use Rattle.register.proofs.Steps.{stopped, lacking, no_header, a_header}
use Rattle.register.proofs.Own.{part-some, part-length, part-header}
use Rattle.register.proofs.Branches.{list-crossed, list-own}
use Rattle.register.specs.Mirrors.{not_table}
use Rattle.register.proofs.Listing.{list-performs}
use mathlib.Core.Path.{refl}
use Rattle.register.proofs.list.list.Goals as goal

pub returns-in_err-own : goal.returns-in_err-own
returns-in_err-own c =
    let k = lacking c.own.result _ _ c.from_residual.result c.in_err-own.ensures.value c.from_residual.ensures.1 in
    rw k.1 (list-performs _ _ _ _ (not_table (no_header _ _ c.own.ensures k.0)) refl refl)

pub returns-in_err-b : goal.returns-in_err-b
returns-in_err-b c =
    let o = a_header _ _ c.own.ensures _ c.in_ok-own.ensures.ok_part in
    rw (stopped _ _ c.from_residual-in_err-b.ensures.1) (list-performs _ _ _ _ (list-crossed _ _ _ _ (part-some o) c.in_err-b.ensures) refl refl)

pub slice_bounds-list_own-end : goal.slice_bounds-list_own-end
slice_bounds-list_own-end c = part-length (a_header _ _ c.own.ensures _ c.in_ok-own.ensures.ok_part)

pub list_own-requires : goal.list_own-requires
list_own-requires c = part-header (a_header _ _ c.own.ensures _ c.in_ok-own.ensures.ok_part)

pub returns : goal.returns
returns c =
    let o = a_header _ _ c.own.ensures _ c.in_ok-own.ensures.ok_part in
    list-performs _ _ _ _ (list-own _ _ _ _ (part-some o) _ c.in_ok-b.ensures _ _ o.words o.visits _ _ _ c.list_own.ensures)
    c.list_own.auto.first c.list_own.auto.second
