use Rattle.checking.proofs.walk.+span.Given as goal

abbrev pub decreases-span : goal.decreases-span
decreases-span g l = l.fuel
