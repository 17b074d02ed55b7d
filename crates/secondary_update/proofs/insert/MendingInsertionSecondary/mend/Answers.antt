use Rattle.std.proofs.Common.{rules}
use Rattle.std.proofs.lemmas.Result.{err_from_is_err_and}
use Rattle.secondary_update.specs.Insert.{afresh♯, insert_afresh, put_fresh, rebuilt_at}
use Rattle.secondary_update.proofs.insert.MendingInsertionSecondary.mend.Goals as goal

pub returns-in_err-put-clause-is : goal.returns-in_err-put-clause-is
unfolding insert_afresh afresh♯
returns-in_err-put-clause-is c =
    let p = err_from_is_err_and c.from_residual.result c.from_residual.ensures.1 in search rules

pub returns-in_err-fresh-clause-is : goal.returns-in_err-fresh-clause-is
unfolding insert_afresh afresh♯ rebuilt_at put_fresh
returns-in_err-fresh-clause-is c =
    let p = err_from_is_err_and c.from_residual-in_err-fresh.result c.from_residual-in_err-fresh.ensures.1 in search rules

pub returns-clause-is : goal.returns-clause-is
unfolding insert_afresh afresh♯ rebuilt_at put_fresh
returns-clause-is c = search rules
