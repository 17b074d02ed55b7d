use borrow.Author.Rules.{rules}
use Rattle.primary_search.specs.Count.{leaf♯}
use Rattle.primary_search.proofs.count.leaf.Goals as goal

pub returns-then-holds : goal.returns-then-holds
unfolding leaf♯
returns-then-holds c = search rules

pub returns : goal.returns
unfolding leaf♯
returns c = search rules
