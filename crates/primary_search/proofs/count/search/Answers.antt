use borrow.Author.Rules.{rules}
use Rattle.primary_search.specs.Count.{main_search♯}
use Rattle.primary_search.proofs.count.search.Goals as goal

pub returns-then-level-s : goal.returns-then-level-s
unfolding main_search♯
returns-then-level-s c = search rules

pub returns-then-is_leaf : goal.returns-then-is_leaf
unfolding main_search♯
returns-then-is_leaf c = search rules

pub returns : goal.returns
unfolding main_search♯
returns c = search rules
