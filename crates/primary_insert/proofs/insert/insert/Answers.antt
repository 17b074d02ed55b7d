use Rattle.std.proofs.Common.{rules}
use Rattle.primary_insert.specs.Insert.{main_insert♯}
use Rattle.primary_insert.proofs.insert.insert.Goals as goal

pub returns-then-root-eq0 : goal.returns-then-root-eq0
unfolding main_insert♯
returns-then-root-eq0 c = search rules

pub returns : goal.returns
unfolding main_insert♯
returns c = search rules
