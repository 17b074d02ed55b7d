use borrow.Author.Tests.{ne_eqb}
use native.Mathlib.Omega.{arith}
use Rattle.table.specs.Limits.{damaged}
use Rattle.register.specs.Mirrors.{strike_own♯, strike_found, settled_after, settled♯, closed♯}
use Rattle.register.proofs.Branches.{find-read, slot_read}
use Rattle.register.proofs.Steps.{stopped, lacking}
use Rattle.register.proofs.strike.StrikingChange.change.Goals as goal

pub returns-in_err-find : goal.returns-in_err-find
unfolding settled♯ closed♯ strike_own♯ strike_found
returns-in_err-find c =
    rw (stopped _ _ c.from_residual.ensures.1, ← find-read _ _ c.requires.capacity.0 _ _ c.in_err-find.ensures)

pub returns-in_err-s : goal.returns-in_err-s
unfolding settled♯ strike_own♯ strike_found
returns-in_err-s c =
    let k = lacking c.in_ok-find.field-0 _ _ c.from_residual-in_err-s.result c.in_err-s.ensures.value c.from_residual-in_err-s.ensures.1 in
    rw (k.1, ← find-read _ _ c.requires.capacity.0 _ _ c.in_ok-find.ensures, k.0)

pub strike-requires : goal.strike-requires
strike-requires c =
    let k = (rw c.in_ok-s.ensures.ok_part at c.in_ok-find.ensures) in (c.requires.capacity, slot_read _ _ c.requires.capacity.0 _ _ k)

pub returns-in_err-strike : goal.returns-in_err-strike
unfolding settled♯ closed♯ settled_after strike_own♯ strike_found
returns-in_err-strike c =
    let k = (rw c.in_ok-s.ensures.ok_part at c.in_ok-find.ensures) in
    rw (
      stopped _ _ c.from_residual-in_err-strike.ensures.1,
      ← find-read _ _ c.requires.capacity.0 _ _ k,
      ← c.in_err-strike.ensures,
    )

pub returns : goal.returns
unfolding settled♯ settled_after strike_own♯ strike_found
returns c =
    let k = (rw c.in_ok-s.ensures.ok_part at c.in_ok-find.ensures) in
    let small = rw c.in_ok-strike.was at c.strike.type_inv in
    rw (
      ← find-read _ _ c.requires.capacity.0 _ _ k,
      ← c.in_ok-strike.ensures,
      ne_eqb c.in_ok-strike.field-0 damaged (λ e. omega (arith, small)),
    )
