-- What is gathered is built; where nothing is, there is no tree.
use mathlib.Core.Path.{ap, ◌∙◌}
use native.Mathlib.Omega.{arith}
use Rattle.secondary_build.specs.Build.{rebuild_run, rebuild♯}
use Rattle.secondary_build.proofs.Weights.{build♯-weight}
use Rattle.secondary_build.proofs.build.rebuild.Goals as goal

pub returns-then-gather-clause-is : goal.returns-then-gather-clause-is
unfolding rebuild♯ rebuild_run
returns-then-gather-clause-is c = rw (← c.gather.ensures.is, c.if-gather.true, ← c.build.ensures)

pub returns-then-gather-clause-weight : goal.returns-then-gather-clause-weight
returns-then-gather-clause-weight c =
    let fits = c.gather.ensures.fits c.if-gather.true in (
      ap (λ p. p.out.weight) c.build.ensures
          ∙ build♯-weight _ _ _ _ 0 c.args.many _ (omega arith) fits.0 (omega (arith, c.ranges.many.fits)),
      fits.0,
      fits.1,
    )

pub returns-else-gather-clause-is : goal.returns-else-gather-clause-is
unfolding rebuild♯ rebuild_run
returns-else-gather-clause-is c = rw (← c.gather.ensures.is, c.if-gather.false)
