use Rattle.std.proofs.Common.{rules}
use Rattle.checking.specs.Span.{tree_span-zero, tree_span-suc}
use Rattle.checking.proofs.walk.+span.Goals as goal

pub returns-then-fuel-eq0-clause-is : goal.returns-then-fuel-eq0-clause-is
returns-then-fuel-eq0-clause-is g t c = rw (tree_span-zero _ _ _ _ _ _ _ c.if-fuel-eq0.true)

pub returns-then-k-name-clause-is : goal.returns-then-k-name-clause-is
returns-then-k-name-clause-is g t c = rw (tree_span-suc _ _ _ _ _ _ _ c.if-fuel-eq0.false) (search rules)

pub returns-then-is_leaf : goal.returns-then-is_leaf
returns-then-is_leaf g t c = record { is = rw (tree_span-suc _ _ _ _ _ _ _ c.if-fuel-eq0.false) (search rules); within = search rules }

pub returns-then-not-fits-clause-is : goal.returns-then-not-fits-clause-is
returns-then-not-fits-clause-is g t c = rw (tree_span-suc _ _ _ _ _ _ _ c.if-fuel-eq0.false) (search rules)

pub returns-in_err-x-clause-is : goal.returns-in_err-x-clause-is
returns-in_err-x-clause-is g t c = rw (tree_span-suc _ _ _ _ _ _ _ c.if-fuel-eq0.false) (search rules)

pub returns-in_err-y-clause-is : goal.returns-in_err-y-clause-is
returns-in_err-y-clause-is g t c = rw (tree_span-suc _ _ _ _ _ _ _ c.if-fuel-eq0.false) (search rules)

pub returns : goal.returns
returns g t c = record { is = rw (tree_span-suc _ _ _ _ _ _ _ c.if-fuel-eq0.false) (search rules); within = search rules }
