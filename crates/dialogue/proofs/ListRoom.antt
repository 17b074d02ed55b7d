-- The lists of `sheet` have room for every mark of its register, so no response is `R,10`. Assumes nothing.
use Prim.Native.Nat.{ℕ, ◌+◌, ◌-◌, ◌*◌, ◌≤◌}
use mathlib.Core.Path.{◌≡◌, refl, ap}
use mathlib.Core.Logic.{◌≢◌}
use mathlib.Core.List.{List, [], ◌∷◌, append-nil}
use native.Mathlib.Omega.{arith}
use lib.Dec.{eqb}
use lib.ListN.{length, get_or, drop}
use borrow.Author.Tests.{le-ltb}
use Rattle.model.specs.Lists.{filter_by}
use Rattle.model.specs.Laws.{All, nil, cons}
use Rattle.model.specs.Sheet.{mark, mark_outside, grade_outside, box_crossed, holds}
use Rattle.model.specs.Refusals.{enter_mark, name_mark, enter_box}
use Rattle.model.specs.History.{State, Answer, has, answer, next}
use Rattle.model.proofs.Logic.{by_cases}
use Rattle.model.proofs.Lists.{filter_by-length, count_if-length}
use Rattle.model.proofs.TwoFold.{open-agrees}
use Rattle.model.proofs.History.{Right, next-right}
use Rattle.lines.specs.Text.{digits}
use Rattle.lines.specs.Numerals.{value_on}
use Rattle.lines.specs.Commands.{Command, insert, strike, count, list, letter}
use Rattle.lines.specs.Responses.{answer_line, refusal_line, printed, not_a_line}
use Rattle.lines.proofs.Numerals.{digits_value}
use Rattle.dialogue.specs.Responding.{call_of}
use Rattle.dialogue.specs.Program.{Prints, nothing, command, other, responses, marks, list_words, opened}

-- a state of the register of `sheet`: no more marks than it was opened for
record Small (s : State) : Type 0 where
  right : Right s
  capacity : s.capacity ≡ marks

kept : (c : Command) (n : ℕ) (s : State) → (next (call_of c n n) s).capacity ≡ s.capacity
kept (insert m) n s = by_cases (eqb (answer (call_of (insert m) n n) s).number 0) (λ t. rw t) (λ f. rw f)
kept (strike x y tag) n s = by_cases (eqb (answer (call_of (strike x y tag) n n) s).number 0) (λ t. rw t) (λ f. rw f)
kept (count b) n s = by_cases (eqb (answer (call_of (count b) n n) s).number 0) (λ t. rw t) (λ f. rw f)
kept (list b) n s = by_cases (eqb (answer (call_of (list b) n n) s).number 0) (λ t. rw t) (λ f. rw f)

stays : (c : Command) (s : State) → Small s → Small (next (call_of c list_words list_words) s)
stays c s h = record {
  right = next-right (call_of c list_words list_words) s h.right;
  capacity = rw (kept c list_words s) h.capacity;
}

never-short : (c : Command) (s : State) → Small s → (answer (call_of c list_words list_words) s).number ≢ 10
unfolding enter_mark name_mark enter_box
never-short (insert m) s h =
    by_cases (mark_outside m)
    (λ t. rw t (omega arith))
    (λ t. by_cases (grade_outside m)
    (λ u. rw (t, u) (omega arith))
    (λ u. by_cases (has m s.plain)
    (λ v. rw (t, u, v) (omega arith))
    (λ v. by_cases (eqb (length s.plain) s.capacity) (λ w. rw (t, u, v, w) (omega arith)) (λ w. rw (t, u, v, w) (omega arith)))))
never-short (strike x y tag) s h =
    by_cases (mark_outside (mark x y tag 0))
    (λ t. rw t (omega arith))
    (λ t. by_cases (has (mark x y tag 0) s.plain) (λ u. rw (t, u) (omega arith)) (λ u. rw (t, u) (omega arith)))
never-short (count b) s h = by_cases (box_crossed b) (λ t. rw t (omega arith)) (λ t. rw t (omega arith))
never-short (list b) s h =
    let k = length (filter_by (holds b) s.plain) in
    let room : 4 * k ≤ list_words =
    omega (arith, filter_by-length (holds b) s.plain, count_if-length (holds b) s.plain, h.right.fits, h.capacity) in
    by_cases (box_crossed b) (λ t. rw t (omega arith)) (λ t. rw (t, le-ltb list_words (4 * k) room) (omega arith))

-- the text of a refusal says its number, and no other response begins with its letter
refusal-value : (n : ℕ) → value_on 0 (drop 2 (refusal_line n)) ≡ 10 * n + (10 - 48)
unfolding refusal_line answer_line
refusal-value n = rw (append-nil (digits n)) (digits_value n (10 ∷ []))

refusal-once : (m n : ℕ) → refusal_line m ≡ refusal_line n → m ≡ n
refusal-once m n e = omega (arith, refusal-value m, refusal-value n, ap (λ l. value_on 0 (drop 2 l)) e)

letter-other : (c : Command) → letter c ≢ 82
letter-other (insert m) e = absurd (omega arith)
letter-other (strike x y tag) e = absurd (omega arith)
letter-other (count b) e = absurd (omega arith)
letter-other (list b) e = absurd (omega arith)

not-ten : (c : Command) (a : Answer) → a.number ≢ 10 → printed c a ≢ refusal_line 10
unfolding printed answer_line refusal_line
not-ten c a h e =
    by_cases (eqb a.number 0)
    (λ t. letter-other c (ap (λ l. get_or l 0 0) (rw t at e)))
    (λ f. h (refusal-once a.number 10 (rw f at e)))

eleven-not-ten : not_a_line ≢ refusal_line 10
eleven-not-ten e = absurd (omega (arith, refusal-once 11 10 e))

responses-not-ten : {s : State} {lines : List (List ℕ)} {out : List ℕ} (p : Prints list_words s lines out) → Small s
    → All (λ text. text ≢ refusal_line 10) (responses p)
responses-not-ten nothing h = nil
responses-not-ten (command {s = s} {c = c} t p) h =
    cons (not-ten c (answer (call_of c list_words list_words) s) (never-short c s h)) (responses-not-ten p (stays c s h))
responses-not-ten (other t p) h = cons eleven-not-ten (responses-not-ten p h)

-- whatever the lines
pub never-ten : {lines : List (List ℕ)} {out : List ℕ} (p : Prints list_words opened lines out) → All (λ text. text ≢ refusal_line 10) (responses p)
never-ten p = responses-not-ten p (record { right = record { agrees = open-agrees; fits = omega arith }; capacity = refl })
