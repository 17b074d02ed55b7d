-- The texts of responses: as they are written, part by part, and how long they can be. Assumes nothing.
use Prim.Native.Nat.{ℕ, zero, suc, ◌+◌, ◌*◌, ◌≤◌, ◌<◌}
use mathlib.Core.Path.{◌≡◌, refl, sym, ap, ◌∙◌}
use mathlib.Core.List.{List, [], ◌∷◌, ◌++◌, append-nil, append_assoc}
use native.Mathlib.Omega.{arith}
use lib.Dec.{eqb}
use lib.ListN.{length, get_or, take, length-append}
use lib.Seq.{take-suc}
use borrow.Author.Tests.{eq-eqb, ne_eqb}
use Rattle.model.specs.Sheet.{Mark}
use Rattle.model.specs.History.{Answer}
use Rattle.model.specs.Laws.{All, nil, cons}
use Rattle.model.proofs.Logic.{by_cases}
use Rattle.table.specs.Marks.{list_mark, list_marks}
use Rattle.lines.specs.Text.{digits, fields}
use Rattle.lines.specs.Numerals.{Word}
use Rattle.lines.specs.Commands.{Command, insert, strike, count, list, letter, numbers, written, Words}
use Rattle.lines.specs.Responses.{answer_line, refusal_line, mark_line, mark_lines, figures, marks_after, printed}
use Rattle.lines.proofs.Digits.{digits-short}

-- ---- part by part

pub answer-parts : (c : ℕ) (ns : List ℕ) → ((c ∷ []) ++ fields ns) ++ (10 ∷ []) ≡ answer_line c ns
unfolding answer_line
answer-parts c ns = refl

pub mark-parts : (m : Mark) → (digits m.x ++ fields (m.y ∷ m.tag ∷ m.grade ∷ [])) ++ (10 ∷ []) ≡ mark_line m
unfolding mark_line
mark-parts m = refl

fields_snoc : (ns : List ℕ) (n : ℕ) → fields (ns ++ n ∷ []) ≡ fields ns ++ (44 ∷ digits n)
fields_snoc [] n = append-nil (44 ∷ digits n)
fields_snoc (k ∷ ns) n = rw (fields_snoc ns n) (sym (append_assoc (44 ∷ digits k) (fields ns) (44 ∷ digits n)))

-- one number of a list more
pub fields-more : (ns : List ℕ) (i : ℕ) → i < length ns → fields (take i ns) ++ (44 ∷ digits (get_or ns i 0)) ≡ fields (take (i + 1) ns)
fields-more ns i h =
    let e : i + 1 ≡ suc i = omega arith in
    sym (rw (e, take-suc ns i 0 h) (fields_snoc (take i ns) (get_or ns i 0)))

mark_lines-append : (l r : List Mark) → mark_lines (l ++ r) ≡ mark_lines l ++ mark_lines r
mark_lines-append [] r = refl
mark_lines-append (m ∷ l) r = rw (mark_lines-append l r) (sym (append_assoc (mark_line m) (mark_lines l) (mark_lines r)))

list_marks-snoc : (xs : List ℕ) (k n : ℕ) → list_marks xs k (suc n) ≡ list_marks xs k n ++ list_mark xs (k + n) ∷ []
list_marks-snoc xs k zero = let e : k + 0 ≡ k = omega arith in rw e
list_marks-snoc xs k (suc n) = let e : k + suc n ≡ suc k + n = omega arith in rw (e, list_marks-snoc xs (suc k) n)

-- one mark of a list more
pub mark_lines-more : (xs : List ℕ) (n : ℕ) → mark_lines (list_marks xs 0 n) ++ mark_line (list_mark xs n) ≡ mark_lines (list_marks xs 0 (n + 1))
mark_lines-more xs n =
    let e : suc n ≡ n + 1 = omega arith in
    let z : 0 + n ≡ n = omega arith in
    let snoc : list_marks xs 0 (suc n) ≡ list_marks xs 0 n ++ list_mark xs n ∷ [] = rw z at (list_marks-snoc xs 0 n) in
    sym (ap mark_lines snoc ∙ mark_lines-append (list_marks xs 0 n) (list_mark xs n ∷ []) ∙ rw (append-nil (mark_line (list_mark xs n))))
    ∙ ap (λ (i : ℕ). mark_lines (list_marks xs 0 i)) e

-- ---- how long

fields-short : (ns : List ℕ) → All Word ns → length (fields ns) ≤ 11 * length ns
fields-short [] nil = omega arith
fields-short (n ∷ ns) (cons h hs) = omega (arith, length-append (digits n) (fields ns), digits-short n h, fields-short ns hs)

-- words, as the code has them
pub words : (ns : List ℕ) → ((i : ℕ) → Word (get_or ns i 0)) → All Word ns
words [] h = nil
words (n ∷ ns) h = cons (h 0) (words ns (λ i. h (suc i)))

pub answer-short : (c : ℕ) (ns : List ℕ) → All Word ns → length (answer_line c ns) ≤ 2 + 11 * length ns
unfolding answer_line
answer-short c ns h = omega (arith, length-append (c ∷ fields ns) (10 ∷ []), fields-short ns h)

-- a mark of words
abbrev pub MarkWord : Mark → Type 0
MarkWord m = All Word (m.x ∷ m.y ∷ m.tag ∷ m.grade ∷ [])

-- "`x,y,tag,grade`" with its line feed
pub mark-short : (m : Mark) → MarkWord m → length (mark_line m) ≤ 44
unfolding mark_line
mark-short m (cons hx hs) =
    let behind : List ℕ = m.y ∷ m.tag ∷ m.grade ∷ [] in
    omega (
      arith,
      length-append (digits m.x ++ fields behind) (10 ∷ []),
      length-append (digits m.x) (fields behind),
      digits-short m.x hx,
      fields-short behind hs,
    )

marks-short : (l : List Mark) → All MarkWord l → length (mark_lines l) ≤ 44 * length l
marks-short [] nil = omega arith
marks-short (m ∷ l) (cons h hs) = omega (arith, length-append (mark_line m) (mark_lines l), mark-short m h, marks-short l hs)

-- no form is turned away by the 48 bytes that a line may have
pub written-short : (c : Command) → Words c → length (written c) ≤ 48
written-short (insert m) h = omega (arith, fields-short (numbers (insert m)) h)
written-short (strike x y tag) h = omega (arith, fields-short (numbers (strike x y tag)) h)
written-short (count b) h = omega (arith, fields-short (numbers (count b)) h)
written-short (list b) h = omega (arith, fields-short (numbers (list b)) h)

-- a response's first line has at most 46 bytes, and each mark's at most 44
module _ (c : Command) (a : Answer) where
  pub printed-short : Word a.number → All Word (figures c a) → All MarkWord (marks_after c a)
      → length (printed c a) ≤ 46 + 44 * length (marks_after c a)
  unfolding printed refusal_line
  printed-short hn hf hm =
      by_cases (eqb a.number 0)
      (λ t. rw t (omega (
        arith,
        length-append (answer_line (letter c) (figures c a)) (mark_lines (marks_after c a)),
        answer-short (letter c) (figures c a) hf,
        few c a,
        marks-short (marks_after c a) hm,
      )))
      (λ u. rw u (omega (arith, answer-short 82 (a.number ∷ []) (cons hn nil))))
    where
      few : (c : Command) (a : Answer) → length (figures c a) ≤ 4
      few (insert m) a = omega arith
      few (strike x y tag) a = omega arith
      few (count b) a = omega arith
      few (list b) a = omega arith

  pub printed-refused : (a.number ≡ 0 → ⊥) → printed c a ≡ refusal_line a.number
  unfolding printed
  printed-refused h = rw (ne_eqb a.number 0 h)

  pub printed-accepted : a.number ≡ 0 → printed c a ≡ answer_line (letter c) (figures c a) ++ mark_lines (marks_after c a)
  unfolding printed
  printed-accepted h = rw (eq-eqb a.number 0 h)
