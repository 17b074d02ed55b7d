use mathlib.Core.Path.{ap, ◌∙◌}
use Rattle.register.specs.Mirrors.{update_own, insert_own♯, insert♯}
use Rattle.register.proofs.Updating.{insert-performs}
use Rattle.register.proofs.insert.insert.Goals as goal

pub returns : goal.returns
unfolding insert♯
returns c =
    insert-performs _ _ _ _ c.update.auto.table
    (c.update.ensures ∙ ap (λ e. update_own e insert_own♯ c.args.table.now) c.new.ensures)
