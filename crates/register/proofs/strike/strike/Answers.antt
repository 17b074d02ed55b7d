use mathlib.Core.Path.{ap, ◌∙◌}
use Rattle.register.specs.Mirrors.{update_own, strike_own♯, strike♯}
use Rattle.register.proofs.Updating.{strike-performs}
use Rattle.register.proofs.strike.strike.Goals as goal

pub returns : goal.returns
unfolding strike♯
returns c =
    strike-performs _ _ _ _ c.update.auto.table
    (c.update.ensures ∙ ap (λ e. update_own e strike_own♯ c.args.table.now) c.named.ensures)
