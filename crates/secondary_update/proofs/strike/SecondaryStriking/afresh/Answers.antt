use Rattle.std.proofs.Common.{rules}
use Rattle.secondary_update.specs.Strike.{fresh_strike, strike_afresh}
use Rattle.secondary_update.specs.Updates.{strike_of}
use Rattle.secondary_update.proofs.Outcomes.{rebuilt_unwrap_or}
use Rattle.secondary_update.proofs.strike.SecondaryStriking.afresh.Goals as goal

pub returns : goal.returns
unfolding strike_afresh fresh_strike strike_of
returns c = let e = rebuilt_unwrap_or c.rebuild-fresh.result _ _ c.none.ensures c.unwrap_or.ensures in search rules
