use Rattle.secondary_search.proofs.list.Listing.+walk.Given as goal

abbrev pub decreases-walk : goal.decreases-walk
decreases-walk l = l.fuel
