use Rattle.secondary_update.proofs.walk.+strike_beneath.Given as goal

abbrev pub decreases-strike_beneath : goal.decreases-strike_beneath
decreases-strike_beneath g l = l.fuel
