use Rattle.std.proofs.Common.{rules, arith, ℕ}
use borrow.Author.Tests.{tests}
use Rattle.std.proofs.lemmas.Iterator.{YieldsList-from_range}
use Rattle.std.proofs.lemmas.Iterator.Search.{all_from_yields_List}
use Rattle.checking.specs.Slots.{placed♯}
use Rattle.checking.proofs.slots.inverse.Goals as goal

pub returns : goal.returns
returns c =
    let C : ℕ = c.args.capacity in
    all_from_yields_List (placed♯ C c.args.t.now) _ _ _ c.all.ensures.ran (YieldsList-from_range 0 C C (cc) (omega arith))
    (λ x b q k. search (rules, tests))
