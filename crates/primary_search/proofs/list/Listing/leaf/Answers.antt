use borrow.Author.Rules.{rules}
use Rattle.primary_search.specs.List.{list_mark, list_leaf♯}
use Rattle.primary_search.proofs.list.Listing.leaf.Goals as goal

pub returns-then-holds : goal.returns-then-holds
unfolding list_leaf♯ list_mark
returns-then-holds c = search rules

pub returns : goal.returns
unfolding list_leaf♯ list_mark
returns c = search rules
