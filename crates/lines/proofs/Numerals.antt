-- The texts that document 01 calls numbers are the decimal digits of words. Assumes nothing.
use Prim.Native.Nat.{ℕ, ◌+◌, ◌-◌, ◌*◌, ◌/◌, ◌%◌, ◌<◌}
use mathlib.Core.Path.{◌≡◌, refl, sym, ap, ◌∙◌}
use mathlib.Core.Logic.{◌↔◌}
use mathlib.Core.List.{List, [], ◌∷◌, ◌++◌, append-nil, append_assoc}
use native.Mathlib.Omega.{arith}
use lib.Dec.{eqb}
use lib.ListN.{length, get_or, length-append, get_or-append}
use lib.Seq.{append_snoc}
use borrow.Author.Tests.{eqb-true, eqb-false}
use Rattle.model.specs.Laws.{All, nil, cons}
use Rattle.model.proofs.Lists.{all_append}
use Rattle.model.proofs.Logic.{by_cases}
use Rattle.lines.specs.Text.{digits}
use Rattle.lines.specs.Numerals.{Digit, Word, value_on, Numeral}
use Rattle.lines.proofs.Digits.{digits-single, digits_more, digits-snoc, digits-rec, digits-short}

-- digits after a number that is not 0 are the digits of the number that they make with it
digits-on : (v : ℕ) (bs : List ℕ) → 0 < v → All Digit bs → digits v ++ bs ≡ digits (value_on v bs)
digits-on v [] pos nil = append-nil (digits v)
digits-on v (b ∷ bs) pos (cons d ds) =
    let e : 48 + (b - 48) ≡ b = omega (arith, d.0) in
    sym (append_snoc (digits v) b bs)
    ∙ rw (← digits-on (10 * v + (b - 48)) bs (omega arith) ds, digits-snoc v (b - 48) pos (omega (arith, d.1)), e)

-- a first digit, as a number
pub first-digit : (b : ℕ) → Digit b → digits (b - 48) ≡ b ∷ []
first-digit b d = let e : 48 + (b - 48) ≡ b = omega (arith, d.0) in rw (digits-single (b - 48) (omega (arith, d.1)), e)

numeral-spelt : (bs : List ℕ) (v : ℕ) → Numeral bs v → bs ≡ digits v
numeral-spelt [] v h = absurd (omega (arith, h.at_least_one))
numeral-spelt (b ∷ bs) v h = go h.digits_only
  where
    zero_only : (bs : List ℕ) → length bs ≡ 0 → bs ≡ []
    zero_only [] e = refl
    zero_only (c ∷ cs) e = absurd (omega arith)

    first : 10 * 0 + (b - 48) ≡ b - 48
    first = omega arith

    go : All Digit (b ∷ bs) → b ∷ bs ≡ digits v
    go (cons d ds) =
        by_cases (eqb b 48)
        (λ t.
        let only : bs ≡ [] = zero_only bs (omega (arith, h.no_needless_zero (eqb-true b 48 t))) in
        let value : b - 48 ≡ v = sym first ∙ rw only at h.value in
        rw (only, ← first-digit b d, value))
        (λ u.
        let pos : 0 < b - 48 = omega (arith, d.0, eqb-false b 48 u) in
        ap (λ (l : List ℕ). l ++ bs) (sym (first-digit b d)) ∙ digits-on (b - 48) bs pos ds ∙ ap digits (rw first at h.value))

one-digit : (d : ℕ) → d < 10 → All Digit ((48 + d) ∷ [])
one-digit d h = let digit : Digit (48 + d) = (omega arith, omega arith) in cons digit nil

-- what the digits of a number are: digits, at least one, the first 0 only for the number 0, and their value
digits-only : (n : ℕ) → All Digit (digits n)
digits-only = digits-rec (λ n. All Digit (digits n))
    (λ n h. rw (digits-single n h) (one-digit n h))
    (λ n h a. rw (digits_more n h) (all_append a (one-digit (n % 10) (omega arith))))

digits-some : (n : ℕ) → 0 < length (digits n)
digits-some = digits-rec (λ n. 0 < length (digits n))
    (λ n h. rw (digits-single n h) (omega arith))
    (λ n h i. rw (digits_more n h, length-append (digits (n / 10)) ((48 + n % 10) ∷ [])) (omega arith))

digits-leading : (n : ℕ) → get_or (digits n) 0 0 ≡ 48 → n ≡ 0
digits-leading = digits-rec (λ n. get_or (digits n) 0 0 ≡ 48 → n ≡ 0)
    (λ n h e. omega (arith, rw (digits-single n h) at e))
    (λ n h i e.
    let front = get_or-append (digits (n / 10)) ((48 + n % 10) ∷ []) 0 0 (digits-some (n / 10)) in
    absurd (omega (arith, i (sym front ∙ rw (digits_more n h) at e))))

pub digits_value : (n : ℕ) (bs : List ℕ) → value_on 0 (digits n ++ bs) ≡ value_on n bs
digits_value = digits-rec (λ n. (bs : List ℕ) → value_on 0 (digits n ++ bs) ≡ value_on n bs)
    (λ n h bs. let e : 10 * 0 + (48 + n - 48) ≡ n = omega arith in rw (digits-single n h) (ap (λ (v : ℕ). value_on v bs) e))
    (λ n h i bs.
    let e : 10 * (n / 10) + (48 + n % 10 - 48) ≡ n = omega arith in
    rw (digits_more n h, append_assoc (digits (n / 10)) ((48 + n % 10) ∷ []) bs, i ((48 + n % 10) ∷ bs), e))

digits-numeral : (v : ℕ) → Word v → Numeral (digits v) v
digits-numeral v w =
    record {
      digits_only = digits-only v;
      at_least_one = digits-some v;
      at_most_ten = digits-short v w;
      no_needless_zero = λ e. let none = digits-leading v e in rw (digits-single v (omega arith));
      value = rw (append-nil (digits v)) at (digits_value v []);
      fits_word = w;
    }

-- a text says the number v just when v is a word and these are its digits
pub numeral-digits : (bs : List ℕ) (v : ℕ) → Numeral bs v ↔ (Word v × (bs ≡ digits v))
numeral-digits bs v = (λ h. (h.fits_word, numeral-spelt bs v h), λ h. rw h.1 (digits-numeral v h.0))
