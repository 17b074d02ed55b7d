use Rattle.secondary_build.proofs.build.+build.Given as goal

abbrev pub decreases-build : goal.decreases-build
decreases-build l = l.n
