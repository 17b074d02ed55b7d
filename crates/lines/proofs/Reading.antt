-- The mirror of the reading gives just the command of which a line is the written form. Assumes nothing.
use Rattle.std.specs.Prelude.{if◌then◌else◌}
use Prim.Native.Nat.{ℕ, zero, suc, ◌+◌, ◌-◌, ◌*◌, ◌/◌, ◌%◌, ◌<◌}
use mathlib.Core.Path.{◌≡◌, refl, sym, ap, ◌∙◌}
use mathlib.Core.Bool.{Bool, true, false}
use mathlib.Core.List.{List, [], ◌∷◌, ◌++◌}
use mathlib.Core.Option.{Option, none, some}
use native.Mathlib.Omega.{arith}
use Rattle.std.specs.Char.{is_ascii_digit}
use lib.Dec.{leb, eqb}
use lib.ListN.{length, get_or}
use lib.Seq.{append_snoc}
use borrow.Author.Tests.{leb-true, le-leb, eqb-true, eqb-false, ne_eqb}
use Rattle.model.specs.Laws.{All, nil, cons}
use Rattle.model.proofs.Logic.{by_cases, and_left, and_right}
use Rattle.lines.specs.Text.{digits, fields}
use Rattle.lines.specs.Numerals.{Digit, Word}
use Rattle.lines.specs.Commands.{Command, insert, strike, count, list, letter, numbers, written, Words, Reads, command, not_one}
use Rattle.lines.specs.Reading.{
  Number,
  number,
  read_on♯,
  read_number♯,
  read_field♯,
  and_then,
  at_end,
  some_of,
  read_numbers♯,
  insert_of,
  strike_of,
  count_of,
  list_of,
  read♯,
}
use Rattle.lines.proofs.Digits.{digits-single, digits_more, digits-snoc, digits-rec}
use Rattle.lines.proofs.Numerals.{first-digit}

-- ---- tests

digit-of : (b : ℕ) → is_ascii_digit b ≡ true → Digit b
digit-of b e = (leb-true 48 b (and_left (leb 48 b) (leb b 57) e), leb-true b 57 (and_right (leb 48 b) (leb b 57) e))

pub digit-test : (b : ℕ) → Digit b → is_ascii_digit b ≡ true
digit-test b d = rw (le-leb 48 b d.0, le-leb b 57 d.1)

module _ {A : Type 0} where
  some_same : {a b : A} → some a ≡ some b → a ≡ b
  some_same e = cc

  none-some : {G : Type 0} {a : A} → none ≡ some a → G
  none-some {G} {a} e = let z : ◌≡◌ {A = ℕ} 0 1 = cc in absurd (omega arith)

-- what a branch gave
given-if : {A : Type 0} {a : A} (t : Bool) (o : Option A) → (if t then o else none) ≡ some a → (t ≡ true) × (o ≡ some a)
given-if true o e = (refl, e)
given-if false o e = none-some e

-- ---- what is read is what stands there

read_on-sound : (l : List ℕ) (v : ℕ) (n : Number) → 0 < v → Word v → read_on♯ v l ≡ some n
    → Word n.value × (digits v ++ l ≡ digits n.value ++ n.rest)
unfolding read_on♯
read_on-sound [] v n pos w e = let same = some_same e in rw (← same) (w, refl)
read_on-sound (b ∷ l) v n pos w e =
    let more : ℕ = 10 * v + (b - 48) in
    by_cases (is_ascii_digit b)
    (λ t.
    let d = digit-of b t in
    let ds = d.0 in
    let de = d.1 in
    let fits = given-if (leb more 4294967295) (read_on♯ more l) (rw t at e) in
    let small = leb-true more 4294967295 fits.0 in
    let on = read_on-sound l more n (omega arith) (omega arith) fits.1 in
    let same : 48 + (b - 48) ≡ b = omega arith in
    let step : digits more ++ l ≡ digits v ++ b ∷ l = rw (digits-snoc v (b - 48) pos (omega arith), same) (append_snoc (digits v) b l) in
    (on.0, sym step ∙ on.1))
    (λ u. let same = some_same (rw u at e) in rw (← same) (w, refl))

read_number-sound : (l : List ℕ) (n : Number) → read_number♯ l ≡ some n → Word n.value × (l ≡ digits n.value ++ n.rest)
unfolding read_number♯
read_number-sound [] n e = none-some e
read_number-sound (b ∷ l) n e =
    let digit = given-if (is_ascii_digit b) _ e in
    let d = digit-of b digit.0 in
    let low = d.0 in
    let high = d.1 in
    by_cases (eqb b 48)
    (λ t.
    let zero = eqb-true b 48 t in
    let same = some_same (rw t at digit.1) in
    rw (← same, digits-single 0 (omega arith), zero) (omega arith, refl))
    (λ u.
    let other = eqb-false b 48 u in
    let on = read_on-sound l (b - 48) n (omega arith) (omega arith) (rw u at digit.1) in
    (on.0, ap (λ (k : List ℕ). k ++ l) (sym (first-digit b d)) ∙ on.1))

read_field-sound : (l : List ℕ) (n : Number) → read_field♯ l ≡ some n → Word n.value × (l ≡ 44 ∷ digits n.value ++ n.rest)
unfolding read_field♯
read_field-sound [] n e = none-some e
read_field-sound (b ∷ l) n e =
    let part = given-if (eqb b 44) (read_number♯ l) e in
    let on = read_number-sound l n part.1 in
    let same = eqb-true b 44 part.0 in
    rw same (on.0, ap (λ (k : List ℕ). 44 ∷ k) on.1)

-- what was read first, where reading went on
given-then : {A B : Type 0} {b : B} (o : Option A) (f : A → Option B) → and_then o f ≡ some b → (a : A) × (o ≡ some a) × (f a ≡ some b)
given-then none f e = none-some e
given-then (some a) f e = (a, refl, e)

given-end : {A : Type 0} {b : A} (l : List ℕ) (a : A) → at_end l a ≡ some b → (l ≡ []) × (a ≡ b)
given-end [] a e = (refl, some_same e)
given-end (c ∷ l) a e = none-some e

given-some : {A B : Type 0} {b : B} (f : A → B) (o : Option A) → some_of f o ≡ some b → (a : A) × (o ≡ some a) × (f a ≡ b)
given-some f none e = none-some e
given-some f (some a) e = (a, refl, some_same e)

-- a field, and fields of which each number is a word
pub data WrittenFields : List ℕ → List ℕ → Type 0 where
  last : {l : List ℕ} → l ≡ [] → WrittenFields l []
  next : {l : List ℕ} (n : Number) {ns : List ℕ} → read_field♯ l ≡ some n → WrittenFields n.rest ns → WrittenFields l (n.value ∷ ns)

fields-sound : {l ns : List ℕ} → WrittenFields l ns → All Word ns × (l ≡ fields ns)
fields-sound (last e) = (nil, e)
fields-sound {l} (next n e w) =
    let f = read_field-sound l n e in
    let on = fields-sound w in
    (cons f.0 on.0, f.1 ∙ ap (λ (k : List ℕ). 44 ∷ digits n.value ++ k) on.1)

read_numbers-sound : (n : ℕ) (l ns : List ℕ) → read_numbers♯ n l ≡ some ns → WrittenFields l ns × (length ns ≡ n)
unfolding read_numbers♯
read_numbers-sound zero l ns e = let end = given-end l [] e in rw (← end.1) (last end.0, refl)
read_numbers-sound (suc n) l ns e =
    let a = given-then (read_field♯ l) _ e in
    let on = given-some _ (read_numbers♯ n a.0.rest) a.2 in
    let s = read_numbers-sound n a.0.rest on.0 on.1 in
    rw (← on.2) (next a.0 a.1 s.0, ap suc s.1)

-- lists that are as long as a command's numbers
three : (ns : List ℕ) → length ns ≡ 3 → numbers (strike_of ns) ≡ ns
three (a ∷ b ∷ c ∷ []) e = refl
three _ e = absurd (omega arith)

four : (ns : List ℕ) → length ns ≡ 4 → numbers (insert_of ns) ≡ ns
four (a ∷ b ∷ c ∷ d ∷ []) e = refl
four _ e = absurd (omega arith)

-- a letter, and what was read after it
module _ (f : List ℕ → Command) (n : ℕ) (b : ℕ) (l : List ℕ) (c : Command) where
  lettered : (code : ℕ) → ((ns : List ℕ) → letter (f ns) ≡ code) → ((ns : List ℕ) → length ns ≡ n → numbers (f ns) ≡ ns)
      → eqb b code ≡ true → some_of f (read_numbers♯ n l) ≡ some c → Words c × (b ∷ l ≡ written c)
  lettered code begins holds t e =
      let part = given-some f (read_numbers♯ n l) e in
      let ns = part.0 in
      let s = read_numbers-sound n l ns part.1 in
      let on = fields-sound s.0 in
      let same = eqb-true b code t in
      rw (← part.2, holds ns s.1, begins ns, same) (on.0, ap (λ (k : List ℕ). code ∷ k) on.1)

pub read-sound : (l : List ℕ) (c : Command) → read♯ l ≡ some c → Words c × (l ≡ written c)
unfolding read♯
read-sound [] c e = none-some e
read-sound (b ∷ l) c e =
    by_cases (eqb b 73)
    (λ t. lettered insert_of 4 b l c 73 (λ n. refl) four t (rw t at e))
    (λ u. by_cases (eqb b 68)
    (λ t. lettered strike_of 3 b l c 68 (λ n. refl) three t (rw (u, t) at e))
    (λ v. by_cases (eqb b 67)
    (λ t. lettered count_of 4 b l c 67 (λ n. refl) four t (rw (u, v, t) at e))
    (λ w. by_cases (eqb b 76)
    (λ t. lettered list_of 4 b l c 76 (λ n. refl) four t (rw (u, v, w, t) at e))
    (λ x. none-some (rw (u, v, w, x) at e)))))

-- ---- what stands there is read

-- a text that no digit begins
abbrev Stops : List ℕ → Type 0
Stops t = is_ascii_digit (get_or t 0 0) ≡ false

pub read_on-stops : (v : ℕ) (t : List ℕ) → Stops t → read_on♯ v t ≡ some (number v t)
unfolding read_on♯
read_on-stops v [] h = refl
read_on-stops v (b ∷ t) h = rw h

-- one digit of a number more
read_on-digit : (w : ℕ) (t : List ℕ) → Word w → read_on♯ (w / 10) ((48 + w % 10) ∷ t) ≡ read_on♯ w t
unfolding read_on♯
read_on-digit w t fits =
    let e : 10 * (w / 10) + (48 + w % 10 - 48) ≡ w = omega arith in
    rw (digit-test (48 + w % 10) (omega arith, omega arith), e, le-leb w 4294967295 (omega arith))

read_number-on : (w : ℕ) → 0 < w → Word w → (t : List ℕ) → read_number♯ (digits w ++ t) ≡ read_on♯ w t
unfolding read_number♯
read_number-on = digits-rec (λ w. 0 < w → Word w → (t : List ℕ) → read_number♯ (digits w ++ t) ≡ read_on♯ w t)
    (λ w h pos fits t.
    let e : 48 + w - 48 ≡ w = omega arith in
    rw (digits-single w h, digit-test (48 + w) (omega arith, omega arith), ne_eqb (48 + w) 48 (λ q. omega arith), e))
    (λ w h on pos fits t.
    rw (digits_more w h, append_snoc (digits (w / 10)) (48 + w % 10) t, on (omega arith) (omega arith) ((48 + w % 10) ∷ t))
    (read_on-digit w t fits))

read_number-complete : (w : ℕ) (t : List ℕ) → Word w → Stops t → read_number♯ (digits w ++ t) ≡ some (number w t)
unfolding read_number♯
read_number-complete zero t fits h = rw (digits-single 0 (omega arith))
read_number-complete (suc w) t fits h = read_number-on (suc w) (omega arith) fits t ∙ read_on-stops (suc w) t h

read_field-complete : (w : ℕ) (t : List ℕ) → Word w → Stops t → read_field♯ (44 ∷ digits w ++ t) ≡ some (number w t)
unfolding read_field♯
read_field-complete w t fits h = read_number-complete w t fits h

fields-stop : (ns : List ℕ) → Stops (fields ns)
fields-stop [] = refl
fields-stop (n ∷ ns) = refl

read_numbers-complete : (ns : List ℕ) → All Word ns → read_numbers♯ (length ns) (fields ns) ≡ some ns
unfolding read_numbers♯
read_numbers-complete [] nil = refl
read_numbers-complete (n ∷ ns) (cons h hs) = rw (read_field-complete n (fields ns) h (fields-stop ns), read_numbers-complete ns hs)

pub read-complete : (c : Command) → Words c → read♯ (written c) ≡ some c
unfolding read♯
read-complete (insert m) w = rw (read_numbers-complete (numbers (insert m)) w)
read-complete (strike x y tag) w = rw (read_numbers-complete (numbers (strike x y tag)) w)
read-complete (count b) w = rw (read_numbers-complete (numbers (count b)) w)
read-complete (list b) w = rw (read_numbers-complete (numbers (list b)) w)

-- so a line is accepted just when it has one of the four forms
pub reads-line : (l : List ℕ) → Reads l (read♯ l)
reads-line l = go (read♯ l) refl
  where
    go : (o : Option Command) → read♯ l ≡ o → Reads l o
    go none e = not_one (λ c w same. none-some (sym e ∙ rw (← same) at (read-complete c w)))
    go (some c) e = let s = read-sound l c e in command s.0 s.1

-- and as no more than one
pub reads-once : {l : List ℕ} {o p : Option Command} → Reads l o → Reads l p → o ≡ p
reads-once (command {c = c} w e) (command {c = d} v f) = sym (read-complete c w) ∙ rw (← e, f) (read-complete d v)
reads-once (command {c = c} w e) (not_one n) = absurd (n c w e)
reads-once (not_one n) (command {c = d} v f) = absurd (n d v f)
reads-once (not_one n) (not_one m) = refl
