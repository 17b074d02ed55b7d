-- `list_own` meets its contract: the count, then the lists' lengths, before anything is written. Assumes nothing.
use native.Mathlib.Omega.{arith}
use mathlib.Core.Logic.{inl, inr}
use Rattle.register.proofs.Steps.{stopped}
use Rattle.register.proofs.Branches.{list-damaged, list-told, list-short, list-lists}
use Rattle.register.proofs.list.list_own.Goals as goal

pub returns-in_err-k : goal.returns-in_err-k
returns-in_err-k c =
    rw (stopped _ _ c.from_residual.ensures.1) (list-damaged _ _ _ _ _ c.in_err-k.ensures)

pub returns-then-first-words : goal.returns-then-first-words
returns-then-first-words c =
    list-short _ _ _ _ _ (list-told _ _ _ _ _ _ _ c.in_ok-k.ensures)
    (elim c.then-first-words.either [ inl h ↦ inl h | inr h ↦ inr h.1 ])

pub list_marks-requires : goal.list_marks-requires
list_marks-requires c =
    let k = list-told _ _ _ _ _ _ _ c.in_ok-k.ensures in (
      c.requires,
      omega (arith, k.few, k.found, c.requires.live, c.requires.few, c.requires.small),
      c.if-first-words.false,
      c.if-second-words.false,
    )

pub returns : goal.returns
returns c =
    list-lists _ _ _ _ _ (list-told _ _ _ _ _ _ _ c.in_ok-k.ensures) _ _ _ c.if-first-words.false c.if-second-words.false
    c.list_marks.ensures
