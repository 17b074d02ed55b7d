use Rattle.std.proofs.Common.{rules}
use Rattle.std.proofs.lemmas.Result.{err_from_is_err_and}
use Rattle.primary_strike.specs.Strike.{main_strike♯}
use Rattle.primary_strike.proofs.strike.strike.Goals as goal

pub returns-then-is_leaf : goal.returns-then-is_leaf
unfolding main_strike♯
returns-then-is_leaf c = search rules

pub returns-in_err-u : goal.returns-in_err-u
unfolding main_strike♯
returns-in_err-u c =
    let p = err_from_is_err_and c.from_residual.result c.from_residual.ensures.1 in search rules

pub returns-then-u-eq0 : goal.returns-then-u-eq0
unfolding main_strike♯
returns-then-u-eq0 c = search rules

pub returns : goal.returns
unfolding main_strike♯
returns c = search rules
