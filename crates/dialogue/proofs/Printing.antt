-- The whole program: from an accepted open on, whatever the input and however it is read, all that a dialogue prints is what the model prints for the
-- input's lines. Assumes nothing.
use Rattle.std.specs.Prelude.{Result, IsOk}
use Prim.Native.Nat.{ℕ}
use mathlib.Core.Path.{◌≡◌, refl, ap, ◌∙◌}
use mathlib.Core.Logic.{◌≢◌}
use mathlib.Core.List.{List, [], ◌∷◌, ◌++◌, append-nil, append_assoc}
use mathlib.Core.Option.{Option, none, some}
use native.Mathlib.Omega.{arith}
use lib.ListN.{length, length-take}
use borrow.Author.Tests.{eq-eqb, ne_eqb}
use Rattle.model.specs.History.{open_for, State, Answer, answer, next}
use Rattle.model.specs.Sizes.{capacity_outside, D, rise_d, W}
use Rattle.model.specs.Refusals.{open_table}
use Rattle.model.proofs.TwoFold.{open-agrees}
use Rattle.twofold_layout.specs.Sound.{Holding}
use Rattle.table.specs.Header.{capacity_of}
use Rattle.register.proofs.Stands.{Stands, call-follows}
use Rattle.register.proofs.History.{open-later}
use Rattle.register.specs.declared.refusal.Refusal.{Refusal}
use Rattle.register.specs.Answers.{open_answer}
use Rattle.register.specs.Performs.{Lent, alone, own, early, Performs}
use Rattle.lines.specs.Commands.{Command, insert, strike, count, list}
use Rattle.lines.specs.Input.{TakenAs, last_line, lines_after, lines_of, Gathered, within, beyond}
use Rattle.lines.specs.Responses.{printed, not_a_line}
use Rattle.lines.specs.Reading.{read♯}
use Rattle.lines.proofs.Reading.{reads-line}
use Rattle.lines.proofs.Gathering.{taken-reads, gathered_none, gathered-more, gathered-room, taken-once}
use Rattle.dialogue.proofs.Answering.{accepted-ok}
use Rattle.dialogue.specs.Responding.{call_of, lent_to, Performed, Does, performed, turned_away, Responds}
use Rattle.dialogue.specs.Dialogue.{Dialogue, ends, goes_on, Ended, rest, no_rest, FedAll, none as no_byte, then, Runs}
use Rattle.dialogue.specs.Program.{Prints, nothing, command, other, marks, table_words, list_words, opened, Begun}

lent-table : (c : Command) (w : Lent) → (lent_to c w).table ≡ w.table
lent-table (insert m) w = refl
lent-table (strike x y tag) w = refl
lent-table (count b) w = refl
lent-table (list b) w = refl

-- the words held, for a state, with lists of n words
record Held (n : ℕ) (w : Lent) (s : State) : Type 0 where
  stands : Stands w.table s
  first : length w.first ≡ n
  second : length w.second ≡ n

module _ (n : ℕ) where
  command-follows : (c : Command) (before after : Lent) (a : Answer) (s : State) → Performed c before after a → Held n before s
      → (a ≡ answer (call_of c n n) s) × Held n after (next (call_of c n n) s)
  command-follows c before after a s p h =
      let asked = rw (h.first, h.second) at p.performs in
      let f = call-follows {s = s} asked (rw (lent-table c before) h.stands) in
      (f.0, record { stands = rw (lent-table c after) at f.1; first = p.first_length ∙ h.first; second = p.second_length ∙ h.second })

  -- the response to a line, and what is printed for the lines after it
  line-prints : (line : List ℕ) (before after : Lent) (text more : List ℕ) (lines : List (List ℕ)) (s : State) → Responds line before after text
      → Held n before s → ((t : State) → Held n after t → Prints n t lines more) → Prints n s (line ∷ lines) (text ++ more)
  line-prints line before after text more lines s r h on = go r.taken r.does
    where
      go : {o : Option Command} → TakenAs line o → Does before after text o → Prints n s (line ∷ lines) (text ++ more)
      go taken (performed {c} {a} p e) =
          let f = command-follows c before after a s p h in
          rw (e, f.0) (command taken (on (next (call_of c n n) s) f.1))
      go taken (turned_away same e) = rw e (other taken (on s (rw same h)))

-- a length of 0 stands for the empty line, and for no other
begun-length : {lent : List ℕ} {len : ℕ} {begun : List ℕ} → Gathered lent len begun
    → (len ≡ 0 → length begun ≡ 0) × (len ≢ 0 → length begun ≢ 0)
begun-length {lent} {len} (within room h t) =
    let size = length-take len lent in
    let same = ap length t in (λ e. omega arith, λ k e. k (omega arith))
begun-length (beyond room h t) = (λ e. absurd (omega arith), λ k e. omega arith)

only-last : (begun : List ℕ) → length begun ≢ 0 → last_line begun ≡ begun ∷ []
only-last [] h = absurd (h refl)
only-last (b ∷ bs) h = refl

no_last : (begun : List ℕ) → length begun ≡ 0 → last_line begun ≡ []
no_last [] h = refl
no_last (b ∷ bs) h = absurd (omega arith)

module _ (n : ℕ) where
  end-prints : (s : Dialogue) (begun text : List ℕ) (left : Lent) (t : State) → Gathered s.line s.len begun → Held n s.lent t
      → Ended s left text
      → Prints n t (last_line begun) text
  end-prints s begun text left t g h (rest k r) =
      rw (only-last begun ((begun-length g).1 k), ← append-nil text)
      (line-prints n begun s.lent left text [] [] t (r begun g) h (λ u k. nothing))
  end-prints s begun text left t g h (no_rest e same empty) = rw (no_last begun ((begun-length g).0 e), empty) nothing

  fed-prints : {s last : Dialogue} {input text : List ℕ} (begun end : List ℕ) (left : Lent) (t : State) → Gathered s.line s.len begun
      → Held n s.lent t
      → FedAll s input last text → Ended last left end → Prints n t (lines_after begun input) (text ++ end)
  fed-prints {s} begun end left t g h no_byte e = end-prints s begun end left t g h e
  fed-prints {s} begun end left t g h (then {b = b} {bs = bs} {t = u} {text = text} {more = more} (ends lf r same zero) fed) e =
      let fresh = gathered_none u.line (rw same (gathered-room s.line s.len begun g)) in
      rw (eq-eqb b 10 lf, append_assoc text more end)
      (line-prints n begun s.lent u.lent text (more ++ end) (lines_after [] bs) t (r begun g) h
      (λ v k. fed-prints [] end left v (rw zero fresh) k fed e))
  fed-prints {s} begun end left t g h (then {b = b} {bs = bs} {t = u} {text = text} {more = more} (goes_on lf kept took empty) fed) e =
      rw (ne_eqb b 10 lf, empty)
      (fed-prints (begun ++ b ∷ []) end left t (gathered-more s.line begun s.len b u.len u.line took g) (rw kept h) fed e)

-- the open of 40 marks in 13,184 words is accepted
open-early : (xs : List ℕ) → early (open_for marks table_words) xs ≡ 0
unfolding early open_table capacity_outside W D rise_d
open-early xs = refl

open-accepted : (words : ℕ) (before after : Lent) (a : Answer) → words ≡ table_words → Performs (open_for marks words) before after a → a.number ≡ 0
open-accepted words before after a e p = ap (λ a. a.number) (open-later (p.later (rw e (open-early before.table))))

-- and leaves the table as the program begins with it, whatever its words were
pub open-begins : (xs ys : List ℕ) (a : Answer) → length xs ≡ table_words → Performs (open_for marks (length xs)) (alone xs) (alone ys) a
    → (capacity_of ys ≡ marks) × Holding (own ys) none
open-begins xs ys a long p = let made = p.starts (open-accepted (length xs) (alone xs) (alone ys) a long p) in (made.0, made.1)

pub open-ok : (xs ys : List ℕ) (r : Result Unit Refusal) → length xs ≡ table_words
    → Performs (open_for marks (length xs)) (alone xs) (alone ys) (open_answer r) → IsOk r
open-ok xs ys r long p = accepted-ok r (open-accepted (length xs) (alone xs) (alone ys) (open_answer r) long p)

-- from there on, whatever the input
pub program-prints : (s : Dialogue) → Begun s → (input output : List ℕ) → Runs s input output → Prints list_words opened (lines_of input) output
program-prints s b input output r =
    let held : Held list_words s.lent opened =
    record {
      stands = record { right = record { agrees = open-agrees; fits = omega arith }; capacity = b.capacity; holds = b.empty };
      first = b.first_words;
      second = b.second_words;
    } in
    let line : Gathered s.line s.len [] = rw b.no_line (gathered_none s.line b.line_bytes) in
    rw r.all (fed-prints list_words [] r.end r.left opened line held r.fed r.ended)

-- lines have an output, and one only
prints-line : (n : ℕ) (s : State) (line : List ℕ) (lines : List (List ℕ)) (o : Option Command) → TakenAs line o
    → ((t : State) → (more : List ℕ) × Prints n t lines more) → (out : List ℕ) × Prints n s (line ∷ lines) out
prints-line n s line lines none taken on = let r = on s in (not_a_line ++ r.0, other taken r.1)
prints-line n s line lines (some c) taken on =
    let r = on (next (call_of c n n) s) in
    (printed c (answer (call_of c n n) s) ++ r.0, command taken r.1)

pub prints-some : (n : ℕ) (lines : List (List ℕ)) (s : State) → (out : List ℕ) × Prints n s lines out
prints-some n [] s = ([], nothing)
prints-some n (line ∷ lines) s = prints-line n s line lines (read♯ line) ((taken-reads line (read♯ line)).1 (reads-line line)) (prints-some n lines)

pub prints-once : {n : ℕ} {s : State} {lines : List (List ℕ)} {o p : List ℕ} → Prints n s lines o → Prints n s lines p → o ≡ p
prints-once nothing nothing = refl
prints-once {n} {s} (command {c = c} t q) (command {c = d} u r) =
    let both = taken-once t u in
    let same : c ≡ d = cc in
    let rests = prints-once (rw same at q) r in
    rw (same, rests)
prints-once (command t q) (other u r) = let both = taken-once t u in let z : ◌≡◌ {A = ℕ} 0 1 = cc in absurd (omega arith)
prints-once (other t q) (command u r) = let both = taken-once t u in let z : ◌≡◌ {A = ℕ} 0 1 = cc in absurd (omega arith)
prints-once (other t q) (other u r) = let rests = prints-once q r in rw rests
