use Rattle.std.proofs.Common.{◌≡◌, refl}
use lib.Dec.{eqb}
use Rattle.register.specs.Answers.{number_of}
use Rattle.register.specs.Mirrors.{settled♯}
use Rattle.register.specs.declared.refusal.Refusal.{Refusal}
use Rattle.register.specs.declared.refusal.Refusal.TheVariants as refusals
use Rattle.register.specs.contracts.refusal.RefusalPartialEq.TheImpl as same
use Rattle.register.proofs.update.settle.Goals as goal

-- number 4 tells
unsound : (e : Refusal) → same.ghosts.eq e refusals.Unsound ≡ eqb (number_of e) 4
unsound = elim [
  | refusals.Capacity ↦ refl
  | refusals.ShortTable ↦ refl
  | refusals.NotTable ↦ refl
  | refusals.Unsound ↦ refl
  | refusals.Outside ↦ refl
  | refusals.Crossed ↦ refl
  | refusals.Full ↦ refl
  | refusals.Present ↦ refl
  | refusals.Absent ↦ refl
  | refusals.ShortList k ↦ refl
  | refusals.Ungraded ↦ refl
]

pub returns-in-Ok : goal.returns-in-Ok
unfolding settled♯
returns-in-Ok c = rw (c.in-Ok.is, ← c.live.ensures)

pub returns-then-eq : goal.returns-then-eq
unfolding settled♯
returns-then-eq c = rw (c.in-Err.is, ← unsound c.in-Err.refusal, ← c.eq.ensures, c.if-eq.true, ← c.put_open.ensures)

pub returns-else-eq : goal.returns-else-eq
unfolding settled♯
returns-else-eq c = rw (c.in-Err.is, ← unsound c.in-Err.refusal, ← c.eq.ensures, c.if-eq.false)
