use Rattle.std.specs.Prelude.{refl}
use Rattle.std.proofs.Common.{arith}
use Rattle.std.proofs.lemmas.Result.{err_from_is_err_and}
use Rattle.secondary_update.specs.Strike.{auxiliary_strike♯, strike_from}
use Rattle.secondary_update.proofs.strike.strike.Goals as goal

pub returns-then-lacks_level : goal.returns-then-lacks_level
unfolding auxiliary_strike♯
returns-then-lacks_level c = rw (← c.lacks_level.ensures.is, c.if-lacks_level.true) (refl, refl)

pub returns-in_err-u : goal.returns-in_err-u
unfolding auxiliary_strike♯ strike_from
returns-in_err-u c =
    let p = err_from_is_err_and c.from_residual.result c.from_residual.ensures.1 in
    rw (
      ← c.lacks_level.ensures.is,
      c.if-lacks_level.false,
      ← c.load_auxiliary-root.ensures,
      ← c.in_err-u.ensures,
      p.1,
    ) (refl, refl)

pub returns-then-u-eq0 : goal.returns-then-u-eq0
unfolding auxiliary_strike♯ strike_from
returns-then-u-eq0 c =
    rw (
      ← c.lacks_level.ensures.is,
      c.if-lacks_level.false,
      ← c.load_auxiliary-root.ensures,
      ← c.in_ok-u.ensures,
    ) (refl, c.if-u-eq0.true)

pub returns : goal.returns
unfolding auxiliary_strike♯ strike_from
returns c =
    rw (
      ← c.lacks_level.ensures.is,
      c.if-lacks_level.false,
      ← c.load_auxiliary-root.ensures,
      ← c.in_ok-u.ensures,
    ) (refl, omega (arith, c.if-u-eq0.false))
