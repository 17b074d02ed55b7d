-- `call` meets its contract. Assumes nothing.
use native.Mathlib.Omega.{arith}
use mathlib.Core.Path.{refl}
use mathlib.Core.Logic.{◌≢◌}
use Rattle.std.specs.Prelude.{Ok}
use Rattle.std.proofs.lemmas.Result.{err_from_is_err_and}
use Rattle.geometry.specs.Values.{mark_value, box_value}
use Rattle.register.specs.Answers.{list_figures}
use Rattle.lines.specs.Commands.{insert, strike, count, list}
use Rattle.dialogue.proofs.Answering.{answered-refused, answered-line, answered-list}
use Rattle.dialogue.proofs.dialogue.Dialogue.call.Goals as goal

pub returns-in_err-done-in-Insert-clause-answered : goal.returns-in_err-done-in-Insert-clause-answered
returns-in_err-done-in-Insert-clause-answered c =
    let is = c.in-Insert in
    let e = c.in_err-done-in-Insert in
    let stopped = err_from_is_err_and c.from_residual.result c.from_residual.ensures.1 in
    rw (stopped.1, stopped.2, is.is) (answered-refused (insert (mark_value is.m)) _ _ _ refl refl e.ensures _ (omega arith) (omega arith) e.field-0.0 refl)

pub returns-in_ok-done-in-Insert-clause-answered : goal.returns-in_ok-done-in-Insert-clause-answered
returns-in_ok-done-in-Insert-clause-answered c =
    let is = c.in-Insert in
    let put = c.put_figures.ensures in
    rw is.is (answered-line (insert (mark_value is.m)) _ _ _ refl refl c.in_ok-done-in-Insert.ensures refl refl put.wrote (omega (arith, put.short)))

pub returns-in_err-done-in-Strike-clause-answered : goal.returns-in_err-done-in-Strike-clause-answered
returns-in_err-done-in-Strike-clause-answered c =
    let is = c.in-Strike in
    let e = c.in_err-done-in-Strike in
    let stopped = err_from_is_err_and c.from_residual-in_err-done-in-Strike.result c.from_residual-in_err-done-in-Strike.ensures.1 in
    rw (stopped.1, stopped.2, is.is) (answered-refused (strike is.x is.y is.tag) _ _ _ refl refl e.ensures _ (omega arith) (omega arith) e.field-0.0 refl)

pub returns-in_ok-done-in-Strike-clause-answered : goal.returns-in_ok-done-in-Strike-clause-answered
returns-in_ok-done-in-Strike-clause-answered c =
    let is = c.in-Strike in
    let put = c.put_figures-in-Strike.ensures in
    rw is.is (answered-line (strike is.x is.y is.tag) _ _ _ refl refl c.in_ok-done-in-Strike.ensures refl refl put.wrote (omega (arith, put.short)))

pub returns-in_err-counted-in-Count-clause-answered : goal.returns-in_err-counted-in-Count-clause-answered
returns-in_err-counted-in-Count-clause-answered c =
    let is = c.in-Count in
    let e = c.in_err-counted-in-Count in
    let stopped = err_from_is_err_and c.from_residual-in_err-counted-in-Count.result c.from_residual-in_err-counted-in-Count.ensures.1 in
    rw (stopped.1, stopped.2, is.is) (answered-refused (count (box_value is.b)) _ _ _ refl refl e.ensures _ (omega arith) (omega arith) e.field-0.0 refl)

pub returns-in_ok-counted-in-Count-clause-answered : goal.returns-in_ok-counted-in-Count-clause-answered
returns-in_ok-counted-in-Count-clause-answered c =
    let is = c.in-Count in
    let put = c.put_figures-in-Count.ensures in
    rw is.is (answered-line (count (box_value is.b)) _ _ _ refl refl c.in_ok-counted-in-Count.ensures refl refl put.wrote (omega (arith, put.short)))

pub returns-in_err-listed-in-List-clause-answered : goal.returns-in_err-listed-in-List-clause-answered
returns-in_err-listed-in-List-clause-answered c =
    let is = c.in-List in
    let e = c.in_err-listed-in-List in
    let stopped = err_from_is_err_and c.from_residual-in_err-listed-in-List.result c.from_residual-in_err-listed-in-List.ensures.1 in
    rw (stopped.1, stopped.2, is.is)
    (answered-refused (list (box_value is.b)) _ _ _ c.list.auto.first c.list.auto.second e.ensures _ (omega arith) (omega arith) e.field-0.0 refl)

pub returns-in-First-clause-answered : goal.returns-in-First-clause-answered
returns-in-First-clause-answered c =
    let is = c.in-List in
    let l = c.in_ok-listed-in-List in
    let head = c.put_figures-in-List.ensures in
    let some : (list_figures (Ok l.listed)).which ≢ 0 = rw c.in-First.is (λ z. omega arith) in
    let tail = c.put_marks.ensures in
    rw is.is
    (answered-list (box_value is.b) _ _ (list_figures (Ok l.listed)) l.ensures some c.list.auto.first c.list.auto.second
    head.wrote (omega (arith, head.short)) (rw c.in-First.is tail.wrote) (rw c.in-First.is tail.short))

pub returns-in-Second-clause-answered : goal.returns-in-Second-clause-answered
returns-in-Second-clause-answered c =
    let is = c.in-List in
    let l = c.in_ok-listed-in-List in
    let head = c.put_figures-in-List.ensures in
    let some : (list_figures (Ok l.listed)).which ≢ 0 = rw c.in-Second.is (λ z. omega arith) in
    let tail = c.put_marks-in-Second.ensures in
    rw is.is
    (answered-list (box_value is.b) _ _ (list_figures (Ok l.listed)) l.ensures some c.list.auto.first c.list.auto.second
    head.wrote (omega (arith, head.short)) (rw c.in-Second.is tail.wrote) (rw c.in-Second.is tail.short))
