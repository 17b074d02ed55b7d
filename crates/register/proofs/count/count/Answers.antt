-- `count` meets its contract: a branch for each row, and the count in the table's own words. Assumes nothing.
use Rattle.register.proofs.Steps.{stopped, lacking, no_header, a_header}
use Rattle.register.proofs.Own.{part-some, part-length, part-header}
use Rattle.register.proofs.Branches.{count-not-table, count-crossed, count-own}
use Rattle.register.proofs.Reading.{count-performs}
use Rattle.register.proofs.count.count.Goals as goal

pub returns-in_err-own : goal.returns-in_err-own
returns-in_err-own c =
    let k = lacking c.own.result _ _ c.from_residual.result c.in_err-own.ensures.value c.from_residual.ensures.1 in
    rw k.1 (count-performs _ _ _ (count-not-table _ _ (no_header _ _ c.own.ensures k.0)))

pub returns-in_err-b : goal.returns-in_err-b
returns-in_err-b c =
    let o = a_header _ _ c.own.ensures _ c.in_ok-own.ensures.ok_part in
    rw (stopped _ _ c.from_residual-in_err-b.ensures.1) (count-performs _ _ _ (count-crossed _ _ (part-some o) c.in_err-b.ensures))

pub slice_bounds-count_own-end : goal.slice_bounds-count_own-end
slice_bounds-count_own-end c = part-length (a_header _ _ c.own.ensures _ c.in_ok-own.ensures.ok_part)

pub count_own-requires : goal.count_own-requires
count_own-requires c = part-header (a_header _ _ c.own.ensures _ c.in_ok-own.ensures.ok_part)

pub returns-in_err-count_own : goal.returns-in_err-count_own
returns-in_err-count_own c =
    let o = a_header _ _ c.own.ensures _ c.in_ok-own.ensures.ok_part in
    rw (stopped _ _ c.from_residual-in_err-count_own.ensures.1)
    (count-performs _ _ _ (count-own _ _ (part-some o) _ c.in_ok-b.ensures _ _ _ o.words o.visits c.in_err-count_own.ensures))

pub returns : goal.returns
returns c =
    let o = a_header _ _ c.own.ensures _ c.in_ok-own.ensures.ok_part in
    count-performs _ _ _ (count-own _ _ (part-some o) _ c.in_ok-b.ensures _ _ _ o.words o.visits c.in_ok-count_own.ensures)
