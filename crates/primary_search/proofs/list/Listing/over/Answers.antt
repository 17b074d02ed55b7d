use borrow.Author.Rules.{rules}
use Rattle.primary_search.specs.List.{list_over♯}
use Rattle.primary_search.proofs.list.Listing.over.Goals as goal

pub returns-then-lacks_level : goal.returns-then-lacks_level
unfolding list_over♯
returns-then-lacks_level c = search rules

pub returns : goal.returns
unfolding list_over♯
returns c = search rules
