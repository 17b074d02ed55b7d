use Rattle.secondary_search.proofs.list.Listing.+beneath.Given as goal

abbrev pub decreases-beneath : goal.decreases-beneath
decreases-beneath l = l.fuel
