use Rattle.std.proofs.Common.{rules}
use Rattle.secondary_update.specs.Strike.{strike_beneath♯-suc, strike_beneath♯-zero}
use Rattle.secondary_update.proofs.walk.+strike_beneath.Goals as goal

pub returns-then-fuel-eq0 : goal.returns-then-fuel-eq0
returns-then-fuel-eq0 g t c = rw (strike_beneath♯-zero _ _ _ _ _ _ _ c.if-fuel-eq0.true)

pub returns-then-capacity-name : goal.returns-then-capacity-name
returns-then-capacity-name g t c = rw (strike_beneath♯-suc _ _ _ _ _ _ _ c.if-fuel-eq0.false) (search rules)

pub returns-then-disagree : goal.returns-then-disagree
returns-then-disagree g t c = rw (strike_beneath♯-suc _ _ _ _ _ _ _ c.if-fuel-eq0.false) (search rules)

pub returns-then-stays_balanced : goal.returns-then-stays_balanced
returns-then-stays_balanced g t c = rw (strike_beneath♯-suc _ _ _ _ _ _ _ c.if-fuel-eq0.false) (search rules)

pub returns : goal.returns
returns g t c = rw (strike_beneath♯-suc _ _ _ _ _ _ _ c.if-fuel-eq0.false) (search rules)
