-- From what a call performs and what is gathered of its answer to the response. Assumes nothing.
use Rattle.std.specs.Prelude.{Result, Ok, Err, IsOk}
use Prim.Native.Nat.{ℕ, ◌+◌, ◌*◌, ◌^◌, ◌≤◌, ◌<◌}
use mathlib.Core.Path.{◌≡◌, refl, sym, ap, ◌∙◌}
use mathlib.Core.Logic.{◌≢◌}
use mathlib.Core.List.{List, [], ◌∷◌, ◌++◌, append-nil}
use mathlib.Core.Option.{Option, none, some}
use native.Mathlib.Omega.{arith}
use lib.Dec.{eqb}
use lib.ListN.{length, length-append}
use borrow.Author.Tests.{ne_eqb, eqb-true, eqb-false}
use Rattle.model.specs.Sheet.{Box}
use Rattle.model.specs.History as history
use Rattle.model.specs.History.{Call, Answer}
use Rattle.model.proofs.Logic.{by_cases}
use Rattle.table.specs.Layout.{list_place}
use Rattle.table.specs.Marks.{list_marks}
use Rattle.sorting.proofs.Words.{list_marks-length}
use Rattle.register.specs.declared.refusal.Refusal.{Refusal}
use Rattle.register.specs.declared.refusal.Refusal.TheVariants as refusals
use Rattle.register.specs.Answers.{ListFigures, in_list, list_given, number_of, open_answer}
use Rattle.register.specs.Performs.{Lent, early, Later, short, lists, unsound, Performs}
use Rattle.lines.specs.Commands.{Command, list, letter}
use Rattle.lines.specs.Responses.{answer_line, refusal_line, not_a_line, mark_lines, figures, marks_after, printed}
use Rattle.lines.specs.Writing.{text_in, Wrote}
use Rattle.lines.specs.declared.response.Responses.{Responses}
use Rattle.lines.proofs.Responses.{printed-refused, printed-accepted}
use Rattle.lines.proofs.Writing.{wrote_nothing, wrote_then, wrote-all}
use Rattle.dialogue.specs.Responding.{call_of, lent_to, longest_response, Performed, Does, performed, turned_away, Answered, accepted, refused}

-- no refusal has the number of an accepted answer
numbered : (e : Refusal) → number_of e ≢ 0
numbered = elim [
  | refusals.Capacity ↦ λ z. omega arith
  | refusals.ShortTable ↦ λ z. omega arith
  | refusals.NotTable ↦ λ z. omega arith
  | refusals.Unsound ↦ λ z. omega arith
  | refusals.Outside ↦ λ z. omega arith
  | refusals.Crossed ↦ λ z. omega arith
  | refusals.Full ↦ λ z. omega arith
  | refusals.Present ↦ λ z. omega arith
  | refusals.Absent ↦ λ z. omega arith
  | refusals.ShortList k ↦ λ z. omega arith
  | refusals.Ungraded ↦ λ z. omega arith
]

-- so an open with that number is accepted
pub accepted-ok : (r : Result Unit Refusal) → (open_answer r).number ≡ 0 → IsOk r
accepted-ok (Ok u) e = refl
accepted-ok (Err r) e = absurd (numbered r e)

-- ---- a command's call

module _ (c : Command) (before after : Lent) (a : Answer)
    (first : length after.first ≡ length before.first) (second : length after.second ≡ length before.second)
    (p : Performs (call_of c (length before.first) (length before.second)) (lent_to c before) (lent_to c after) a) where
  done : Performed c before after a
  done = record { performs = p; first_length = first; second_length = second }

  -- nothing is gathered of a refusal
  pub answered-refused : (r : Responses) → r.len < 2 ^ 64 → length r.bytes.now < 2 ^ 64 → (e : Refusal) → a.number ≡ number_of e
      → (text : List ℕ) × Wrote text r r × Answered c before after text (Err e)
  answered-refused r h size e same = ([], wrote_nothing r h size, refused done same refl)

  -- a response of one line
  pub answered-line : {r s : Responses} → a.number ≡ 0 → marks_after c a ≡ [] → Wrote (answer_line (letter c) (figures c a)) r s
      → length (answer_line (letter c) (figures c a)) ≤ 46
      → (text : List ℕ) × Wrote text r s × Answered c before after text (Ok tt)
  answered-line fine alone w h =
      let line = answer_line (letter c) (figures c a) in
      (line, w, accepted done (sym (printed-accepted c a fine ∙ rw (alone, append-nil line))) (omega arith))

-- `which` tells an accepted list from a refusal
later-accepted : {xs : List ℕ} {b : Box} {m n : ℕ} {a : Answer} → Later xs (history.list b m n) a → a.which ≢ 0
    → (a.number ≡ 0) × (list_place (length a.listed) ≤ m)
later-accepted (short t h) k = absurd (k refl)
later-accepted (lists t h i) k = (refl, h)
later-accepted (unsound o h) k = absurd (k refl)

module _ (b : Box) (before after : Lent) (f : ListFigures) where
  abbrev call : Call
  call = history.list b (length before.first) (length before.second)

  abbrev answer : Answer
  answer = list_given f after.first after.second

  abbrev names : List ℕ
  names = in_list f.which after.first after.second

  module _ (p : Performs call before after answer) (h : f.which ≢ 0) where
    fine : (f.number ≡ 0) × (list_place (length answer.listed) ≤ length before.first)
    fine =
        by_cases (eqb (early call before.table) 0)
        (λ t. later-accepted (p.later (eqb-true (early call before.table) 0 t)) h)
        (λ u. absurd (h (ap (λ (a : Answer). a.which) (p.refuses (eqb-false (early call before.table) 0 u)))))

    listed : answer.listed ≡ list_marks names 0 f.k
    listed = rw (ne_eqb f.which 0 h)

    list-room : list_place f.k ≤ length before.first
    list-room = omega (arith, fine.1, ap length listed, list_marks-length names 0 f.k)

    pub answered-list : {r s t : Responses} → length after.first ≡ length before.first → length after.second ≡ length before.second
        → Wrote (answer_line 76 (f.k ∷ f.visits ∷ [])) r s → length (answer_line 76 (f.k ∷ f.visits ∷ [])) ≤ 46
        → Wrote (mark_lines (list_marks names 0 f.k)) s t → length (mark_lines (list_marks names 0 f.k)) ≤ 44 * f.k
        → (text : List ℕ) × Wrote text r t × Answered (list b) before after text (Ok tt)
    answered-list first second w head v tail =
        let line = answer_line 76 (f.k ∷ f.visits ∷ []) in
        let marks = mark_lines (list_marks names 0 f.k) in (
          line ++ marks,
          wrote_then w v,
          accepted (record { performs = p; first_length = first; second_length = second }) (sym (printed-accepted (list b) answer fine.0 ∙ rw listed))
              (omega (arith, length-append line marks, list-room)),
        )

-- ---- the response to a line, which stands whole behind those gathered where there was room

abbrev Written : Lent → Lent → Responses → Responses → Option Command → Type 0
Written before after r s o =
    (text : List ℕ)
    × Wrote text r s
    × (r.len + longest_response (length before.first) ≤ length r.bytes.now → text_in s ≡ text_in r ++ text)
    × Does before after text o

module _ (before after : Lent) {r s : Responses} where
  -- for a command
  pub does-command : (c : Command) {a : Answer} → Performed c before after a → Wrote (printed c a) r s
      → length (printed c a) ≤ longest_response (length before.first) → Written before after r s (some c)
  does-command c {a} p w h = (printed c a, w, λ room. wrote-all w (omega arith), performed p refl)

  -- and for none
  pub does-none : after ≡ before → Wrote not_a_line r s → length not_a_line ≤ 13 → Written before after r s none
  does-none same w h = (not_a_line, w, λ room. wrote-all w (omega arith), turned_away same refl)

  -- an accepted call has written it
  pub does-accepted : (c : Command) {u : Unit} → (text : List ℕ) × Wrote text r s × Answered c before after text (Ok u) → Written before after r s (some c)
  does-accepted c (text, w, accepted p same h) = does-command c p (rw same at w) (rw same at h)

  -- behind a refused one it is still to write
  pub does-refused : (c : Command) {e : Refusal} {m : Responses} → (text : List ℕ) × Wrote text r m × Answered c before after text (Err e)
      → Wrote (refusal_line (number_of e)) m s → length (refusal_line (number_of e)) ≤ 13 → Written before after r s (some c)
  does-refused c {e} (text, w, refused {a = a} p same nothing) v h =
      let line : printed c a ≡ refusal_line (number_of e) = printed-refused c a (λ z. numbered e (sym same ∙ z)) ∙ ap refusal_line same in
      does-command c p (rw (← line, nothing) at (wrote_then w v)) (omega (arith, ap length line))
