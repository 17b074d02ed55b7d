use borrow.Author.Rules.{rules}
use Rattle.primary_search.specs.List.{list_arm, list_inner, list_children, list_beneath♯-suc}
use Rattle.primary_search.proofs.list.Listing.+beneath.Goals as goal

pub returns : goal.returns
unfolding list_arm list_inner list_children
returns t c = search (rules, list_beneath♯-suc)
