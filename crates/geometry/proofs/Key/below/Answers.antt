-- `Key::below` meets its contract: each return by the places that it has compared. Assumes nothing.
use mathlib.Core.Path.{sym, ◌∙◌}
use native.Mathlib.Omega.{arith}
use borrow.Author.Tests.{lt-ltb, ne_eqb}
use Rattle.geometry.proofs.Keys.{place-lt, place-eq, place-gt}
use Rattle.geometry.proofs.Key.below.Goals as goal

pub returns-then-here-there : goal.returns-then-here-there
returns-then-here-there c = lt-ltb _ _ c.if-here-there.true ∙ sym (place-lt _ _ (omega arith) (omega arith) (omega arith))

pub returns-then-here-there-2 : goal.returns-then-here-there-2
returns-then-here-there-2 c = sym (place-eq _ _ (omega arith) (omega arith) (omega arith))

pub returns-else-here-there-2 : goal.returns-else-here-there-2
returns-else-here-there-2 c = ne_eqb _ _ c.if-here-there-2.false ∙ sym (place-gt _ _ (omega arith) (omega arith) (omega arith))
