-- THE HISTORY: every run of calls gives, call by call, what the plain list and the model's tree give. A run is a chain of tables linked by `Performs`, the
-- definition that the contract of each call cites; nothing else is known of the calls. Assumes nothing.
use Prim.Native.Nat.{ℕ}
use mathlib.Core.Path.{◌≡◌, refl, sym, ap, subst, ◌∙◌}
use mathlib.Core.List.{List, [], ◌∷◌}
use native.Mathlib.Omega.{arith}
use lib.Dec.{eqb, ltb}
use lib.ListN.{length, take}
use borrow.Author.Tests.{eqb-true, eqb-false}
use Rattle.model.specs.Sizes.{W, capacity_outside}
use Rattle.model.specs.Refusals.{open_table}
use Rattle.model.proofs.Logic.{by_cases, clash}
use Rattle.model.specs.History.{Call, open_for, State, Answer, updated, answer, next}
use Rattle.model.proofs.History.{Right, open-right, StepRight, Along, run-right}
use Rattle.model.specs.Sheet.{sheet, along_x}
use Rattle.model.proofs.Orders.{sheet-sameness, along_x-laws}
use Rattle.model.proofs.Sorted.{sorted-distinct}
use Rattle.table.specs.Layout.{list_place}
use Rattle.table.specs.Marks.{mark_words}
use Rattle.register.specs.Answers.{in_list}
use Rattle.register.specs.Performs.{Lent, early, Later, opens, unsound, Performs}
use Rattle.register.proofs.Stands.{Stands, call-follows}
use Rattle.register.specs.Run.{Made, Calls, none, then, Run, AsPlain, Beside, nothing, and_then}

-- what a call gave, and what is right of the history's step and of the state that it leaves
as_plain : (s : State) (m : Made) → Performs m.call m.before m.after m.answer → m.answer ≡ answer m.call s → StepRight m.call s
    → Right (next m.call s) → AsPlain s m
as_plain s m p e r left = record {
  answers = e;
  words = subst (λ a. take (list_place (length a.listed)) (in_list m.answer.which m.after.first m.after.second) ≡ mark_words a.listed) e
      p.leaves_lists.answer;
  not-3 = λ z. r.not-3 (ap (λ a. a.number) (sym e) ∙ z);
  not-4 = λ z. r.not-4 (ap (λ a. a.number) (sym e) ∙ z);
  visits = rw e r.visits;
  ascending = left.agrees.sorted;
  once = sorted-distinct {S = sheet} {A = along_x} sheet-sameness along_x-laws left.agrees.sorted;
  fits = left.fits;
}

-- what the calls of a run were asked
abbrev asked : List Made → List Call
asked [] = []
asked (m ∷ ms) = m.call ∷ asked ms

-- the calls after the first, with what the model says of its own steps
calls : {xs : List ℕ} {ms : List Made} → Calls xs ms → (s : State) → Stands xs s → Along StepRight (asked ms) s → Beside s ms
calls none s h r = nothing
calls (then {m = m} p rest) s h r =
    let k = call-follows p h in
    and_then (as_plain s m p k.0 r.0 k.1.right) (calls rest (next m.call s) k.1 r.1)

-- an accepted open gives what the history's step gives, whatever state stood before
open-accepted : (c words : ℕ) (s : State) → early (open_for c words) [] ≡ 0 → answer (open_for c words) s ≡ updated 0 0
unfolding early open_table
open-accepted c words s e =
    by_cases (capacity_outside c)
    (λ t. absurd (omega (arith, (rw t at e))))
    (λ f. by_cases (ltb words (W c)) (λ t. absurd (omega (arith, (rw (f, t) at e)))) (λ g. rw (f, g)))

pub open-later : {xs : List ℕ} {c words : ℕ} {a : Answer} → Later xs (open_for c words) a → a ≡ updated 0 0
open-later opens = refl
open-later (unsound e wrong) = clash refl e

open-answers : (c words : ℕ) (before after : Lent) (a : Answer) → Performs (open_for c words) before after a → a.number ≡ 0 → (s : State)
    → (a ≡ answer (open_for c words) s) × (answer (open_for c words) s ≡ updated 0 0)
unfolding early
open-answers c words before after a p z s =
    by_cases (eqb (early (open_for c words) []) 0)
    (λ t. let e = eqb-true (early (open_for c words) []) 0 t in
    (open-later (p.later e) ∙ sym (open-accepted c words s e), open-accepted c words s e))
    (λ f. let ne = eqb-false (early (open_for c words) []) 0 f in absurd (ne (sym (ap (λ a. a.number) (p.refuses ne)) ∙ z)))

-- so it leaves a table that stands for the state it makes
open-stands : (c words : ℕ) (before after : Lent) (a : Answer) → Performs (open_for c words) before after a → a.number ≡ 0 → (s : State)
    → (a ≡ answer (open_for c words) s) × Stands after.table (next (open_for c words) s)
open-stands c words before after a p z s =
    let k = open-answers c words before after a p z s in
    let made = p.starts z in (
      k.0,
      record {
        capacity = rw k.1 made.0;
        holds = rw k.1 made.1;
        right = open-right c words s (ap (λ a. a.number) k.1);
      },
    )

-- EVERY RUN, from whatever words the table held and whatever state stood beside them: each call's answer is the plain list's, with 'rebuilt' and visits of
-- the tree that the accepted calls before it make
pub history : {xs : List ℕ} {m : Made} {ms : List Made} → Run xs m ms → (s : State) → Beside s (m ∷ ms)
history {m = m} {ms = ms} r s = go r.calls
  where
    go : {xs : List ℕ} → Calls xs (m ∷ ms) → Beside s (m ∷ ms)
    go (then p rest) =
        let c = r.capacity in
        let e = r.opens in
        let k = open-stands c r.words m.before m.after m.answer (subst (λ c. Performs c m.before m.after m.answer) e p) r.accepted s in
        let number : (answer (open_for c r.words) s).number ≡ 0 = sym (ap (λ a. a.number) k.0) ∙ r.accepted in
        let steps = subst (λ c. Along StepRight (c ∷ asked ms) s) (sym e) (run-right s c r.words (asked ms) number) in
        let stands = subst (λ c. Stands m.after.table (next c s)) (sym e) k.1 in
        and_then (as_plain s m p (k.0 ∙ ap (λ c. answer c s) (sym e)) steps.0 stands.right) (calls rest (next m.call s) stands steps.1)
