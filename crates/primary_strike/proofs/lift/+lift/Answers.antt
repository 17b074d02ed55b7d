use Rattle.std.proofs.Common.{rules}
use Rattle.primary_strike.specs.Lift.{lift♯-suc, lift♯-zero}
use Rattle.primary_strike.proofs.lift.+lift.Goals as goal

pub returns-then-fuel-eq0 : goal.returns-then-fuel-eq0
returns-then-fuel-eq0 t c = rw (lift♯-zero _ c.if-fuel-eq0.true)

pub returns-then-is_leaf : goal.returns-then-is_leaf
returns-then-is_leaf t c = rw (lift♯-suc _ c.if-fuel-eq0.false) (search rules)

pub returns-then-lacks_level : goal.returns-then-lacks_level
returns-then-lacks_level t c = rw (lift♯-suc _ c.if-fuel-eq0.false) (search rules)

pub returns : goal.returns
returns t c = rw (lift♯-suc _ c.if-fuel-eq0.false) (search rules)
