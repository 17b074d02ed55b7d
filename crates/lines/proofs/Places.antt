-- The mirror of the reading of digits, step by step as the loop goes, at a place of a line. Assumes nothing.
use Rattle.std.specs.Char.{is_ascii_digit}
use Prim.Native.Nat.{ℕ, suc, ◌+◌, ◌-◌, ◌*◌, ◌≤◌, ◌<◌}
use mathlib.Core.Path.{◌≡◌, refl, ◌∙◌}
use mathlib.Core.Bool.{true, false}
use mathlib.Core.List.{List, [], ◌∷◌, ◌++◌, append-nil}
use mathlib.Core.Option.{Option, none, some}
use native.Mathlib.Numerals.{add-one}
use native.Mathlib.Omega.{arith}
use lib.ListN.{length, get_or, take, drop, set, length-drop, drop_of_length-le}
use lib.Seq.{take_all, drop-cons, append_snoc}
use Rattle.std.proofs.lemmas.List.{take_more_set}
use borrow.Author.Tests.{le-leb, lt-leb, ne_eqb}
use Rattle.std.proofs.Common.{◌⊎◌, inl, inr}
use Rattle.lines.specs.Reading.{Number, number, read_on♯, read_number♯, read_field♯, some_of, at_end, read_numbers♯}
use Rattle.lines.specs.Reading.{insert_of, strike_of, count_of, list_of, read♯}
use Rattle.lines.proofs.Reading.{digit-test}

-- the byte at the place, after the digits of v
module _ (l : List ℕ) (i v : ℕ) (inside : i < length l) where
  pub read_on-other : is_ascii_digit (get_or l i 0) ≡ false → read_on♯ v (drop i l) ≡ some (number v (drop i l))
  unfolding read_on♯
  read_on-other h = rw (drop-cons l i 0 inside, h)

  pub read_on-large : is_ascii_digit (get_or l i 0) ≡ true → 4294967296 ≤ 10 * v + (get_or l i 0 - 48) → read_on♯ v (drop i l) ≡ none
  unfolding read_on♯
  read_on-large d h = rw (drop-cons l i 0 inside, d, lt-leb (10 * v + (get_or l i 0 - 48)) 4294967295 (omega arith))

  pub read_on-digit : is_ascii_digit (get_or l i 0) ≡ true → (more : ℕ) → more ≡ 10 * v + (get_or l i 0 - 48) → more < 4294967296
      → read_on♯ v (drop i l) ≡ read_on♯ more (drop (i + 1) l)
  unfolding read_on♯
  read_on-digit d more e h = rw (drop-cons l i 0 inside, d, ← e, le-leb more 4294967295 (omega arith), add-one i)

-- past the end
pub read_on-end : (l : List ℕ) (i v : ℕ) → length l ≤ i → read_on♯ v (drop i l) ≡ some (number v [])
unfolding read_on♯
read_on-end l i v h = rw (drop_of_length-le l h)

-- what follows the first byte, as the code takes it
abbrev pub rest : List ℕ → List ℕ
rest l = take (length l - 1) (drop 1 l)

rest-all : (l : List ℕ) → rest l ≡ drop 1 l
rest-all l = take_all (length l - 1) (drop 1 l) (omega (arith, length-drop 1 l))

module _ (l : List ℕ) where
  -- a number, by its first byte
  pub read_number-zero : get_or l 0 0 ≡ 48 → read_number♯ l ≡ some (number 0 (rest l))
  unfolding read_number♯
  read_number-zero h = rw (h, rest-all l)

  pub read_number-digit : 49 ≤ get_or l 0 0 → get_or l 0 0 ≤ 57 → read_number♯ l ≡ read_on♯ (get_or l 0 0 - 48) (rest l)
  unfolding read_number♯
  read_number-digit low high =
      rw (digit-test (get_or l 0 0) (omega arith, high), ne_eqb (get_or l 0 0) 48 (λ e. omega arith), rest-all l)

  pub read_number-other : (get_or l 0 0 < 48) ⊎ (57 < get_or l 0 0) → read_number♯ l ≡ none
  unfolding read_number♯
  read_number-other (inl h) = rw (lt-leb 48 (get_or l 0 0) h)
  read_number-other (inr h) = rw (le-leb 48 (get_or l 0 0) (omega arith), lt-leb (get_or l 0 0) 57 h)

  -- a field, by its comma
  pub read_field-comma : get_or l 0 0 ≡ 44 → read_field♯ l ≡ read_number♯ (rest l)
  unfolding read_field♯
  read_field-comma h = rw (h, rest-all l)

  pub read_field-other : (get_or l 0 0 ≡ 44 → ⊥) → read_field♯ l ≡ none
  unfolding read_field♯
  read_field-other h = rw (ne_eqb (get_or l 0 0) 44 h)

  -- a line, by its letter
  pub read-insert : get_or l 0 0 ≡ 73 → read♯ l ≡ some_of insert_of (read_numbers♯ 4 (rest l))
  unfolding read♯
  read-insert h = rw (h, rest-all l)

  pub read-strike : get_or l 0 0 ≡ 68 → read♯ l ≡ some_of strike_of (read_numbers♯ 3 (rest l))
  unfolding read♯
  read-strike h = rw (h, rest-all l)

  pub read-count : get_or l 0 0 ≡ 67 → read♯ l ≡ some_of count_of (read_numbers♯ 4 (rest l))
  unfolding read♯
  read-count h = rw (h, rest-all l)

  pub read-list : get_or l 0 0 ≡ 76 → read♯ l ≡ some_of list_of (read_numbers♯ 4 (rest l))
  unfolding read♯
  read-list h = rw (h, rest-all l)

  pub read-other : (get_or l 0 0 ≡ 73 → ⊥) → (get_or l 0 0 ≡ 68 → ⊥) → (get_or l 0 0 ≡ 67 → ⊥) → (get_or l 0 0 ≡ 76 → ⊥)
      → read♯ l ≡ none
  unfolding read♯
  read-other i d c k = rw (ne_eqb (get_or l 0 0) 73 i, ne_eqb (get_or l 0 0) 68 d, ne_eqb (get_or l 0 0) 67 c, ne_eqb (get_or l 0 0) 76 k)

-- so many numbers, of which those before a place are read
abbrev pub behind : List ℕ → Option (List ℕ) → Option (List ℕ)
behind ns = some_of (λ more. ns ++ more)

behind-snoc : (ns : List ℕ) (n : ℕ) (o : Option (List ℕ)) → behind (ns ++ n ∷ []) o ≡ behind ns (some_of (λ more. n ∷ more) o)
behind-snoc ns n none = refl
behind-snoc ns n (some more) = rw (append_snoc ns n more)

left_more : (i k : ℕ) → i < k → k - i ≡ suc (k - (i + 1))
left_more i k h = omega arith

module _ (ns l : List ℕ) (i k : ℕ) (room : i < k) where
  pub read_numbers-none : read_field♯ l ≡ none → behind (take i ns) (read_numbers♯ (k - i) l) ≡ none
  unfolding read_numbers♯
  read_numbers-none e = rw (left_more i k room, e)

  pub read_numbers-more : (n : Number) → k ≡ length ns → read_field♯ l ≡ some n
      → behind (take i ns) (read_numbers♯ (k - i) l) ≡ behind (take (i + 1) (set ns i n.value)) (read_numbers♯ (k - (i + 1)) n.rest)
  unfolding read_numbers♯
  read_numbers-more n all e =
      rw (left_more i k room, e, take_more_set ns i n.value (omega arith), behind-snoc (take i ns) n.value (read_numbers♯ (k - (i + 1)) n.rest))

module _ (ns l : List ℕ) (k : ℕ) (all : length ns ≡ k) where
  all_read : behind (take k ns) (read_numbers♯ (k - k) l) ≡ behind ns (at_end l [])
  unfolding read_numbers♯
  all_read = let none_left : k - k ≡ 0 = omega arith in rw (none_left, take_all k ns (omega arith))

  pub read_numbers-end : length l ≡ 0 → behind (take k ns) (read_numbers♯ (k - k) l) ≡ some ns
  read_numbers-end e = all_read ∙ go l e
    where
      go : (l : List ℕ) → length l ≡ 0 → behind ns (at_end l []) ≡ some ns
      go [] e = rw (append-nil ns)
      go (b ∷ l) e = absurd (omega arith)

  pub read_numbers-over : 0 < length l → behind (take k ns) (read_numbers♯ (k - k) l) ≡ none
  read_numbers-over h = all_read ∙ go l h
    where
      go : (l : List ℕ) → 0 < length l → behind ns (at_end l []) ≡ none
      go [] h = absurd (omega arith)
      go (b ∷ l) h = refl
