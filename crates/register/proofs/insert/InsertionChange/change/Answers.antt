use borrow.Author.Tests.{eq-eqb, ne_eqb}
use Rattle.table.specs.Limits.{damaged}
use native.Mathlib.Omega.{arith}
use Rattle.register.specs.Mirrors.{insert_own♯, insert_found, settled_after, settled♯, closed♯}
use Rattle.register.proofs.Branches.{find-read}
use Rattle.register.proofs.Steps.{stopped, found_some, found_none}
use Rattle.register.proofs.insert.InsertionChange.change.Goals as goal

pub returns-in_err-find : goal.returns-in_err-find
unfolding settled♯ closed♯ insert_own♯ insert_found
returns-in_err-find c =
    rw (stopped _ _ c.from_residual.ensures.1, ← find-read _ _ c.requires.capacity.0 _ _ c.in_err-find.ensures)

pub returns-then-is_some : goal.returns-then-is_some
unfolding settled♯ insert_own♯ insert_found
returns-then-is_some c =
    let k = found_some _ c.if-is_some.ensures in rw (← find-read _ _ c.requires.capacity.0 _ _ c.in_ok-find.ensures, k.1)

pub returns-then-own : goal.returns-then-own
unfolding settled♯ insert_own♯ insert_found
returns-then-own c =
    rw (
      ← find-read _ _ c.requires.capacity.0 _ _ c.in_ok-find.ensures,
      found_none _ c.if-is_some.ensures,
      ← c.requires.live,
      ← c.requires.capacity.0,
      eq-eqb _ _ c.if-own.true,
    )

pub returns-in_err-insert : goal.returns-in_err-insert
unfolding settled♯ closed♯ settled_after insert_own♯ insert_found
returns-in_err-insert c =
    rw (
      stopped _ _ c.from_residual-in_err-insert.ensures.1,
      ← find-read _ _ c.requires.capacity.0 _ _ c.in_ok-find.ensures,
      found_none _ c.if-is_some.ensures,
      ← c.requires.live,
      ← c.requires.capacity.0,
      ne_eqb _ _ c.if-own.false,
      ← c.in_err-insert.ensures,
    )

pub returns : goal.returns
unfolding settled♯ settled_after insert_own♯ insert_found
returns c =
    let small = rw c.in_ok-insert.was at c.insert.type_inv in
    rw (
      ← find-read _ _ c.requires.capacity.0 _ _ c.in_ok-find.ensures,
      found_none _ c.if-is_some.ensures,
      ← c.requires.live,
      ← c.requires.capacity.0,
      ne_eqb _ _ c.if-own.false,
      ← c.in_ok-insert.ensures,
      ne_eqb c.in_ok-insert.field-0 damaged (λ e. omega (arith, small)),
    )
