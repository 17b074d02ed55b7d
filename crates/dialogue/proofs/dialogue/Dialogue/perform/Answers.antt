-- `perform` meets its contract. Assumes nothing.
use mathlib.Core.Path.{refl}
use Rattle.lines.specs.Values.{command_value}
use Rattle.dialogue.proofs.Answering.{does-none, does-accepted, does-refused}
use Rattle.dialogue.proofs.dialogue.Dialogue.perform.Goals as goal

pub returns-in-Err-clause-does : goal.returns-in-Err-clause-does
returns-in-Err-clause-does c =
    let some = c.in-Some in
    let put = rw c.number.ensures at c.put_refusal.ensures in
    let does = does-refused _ _ (command_value some.command) c.in-Err.ensures.answered put.wrote put.short in
    rw some.is (record { text = does.0; wrote = does.1; gathered = does.2; holds = does.3 })

pub returns-in_default-clause-does : goal.returns-in_default-clause-does
returns-in_default-clause-does c =
    let some = c.in-Some in
    let does = does-accepted _ _ (command_value some.command) c.in_default.ensures.answered in
    rw some.is (record { text = does.0; wrote = does.1; gathered = does.2; holds = does.3 })

pub returns-in-None-clause-does : goal.returns-in-None-clause-does
returns-in-None-clause-does c =
    let put = c.put_refusal-in-None.ensures in
    let does = does-none _ _ refl put.wrote put.short in
    rw c.in-None.is (record { text = does.0; wrote = does.1; gathered = does.2; holds = does.3 })
