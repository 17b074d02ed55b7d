-- The mirrors of the walks through `used` and `place`. Assumes nothing.
use Rattle.std.specs.Prelude.{ℕ, zero, suc, ◌+◌, ◌-◌, ◌≡◌, refl, Bool, true, false, ◌&&◌, List, ltb, eqb, get_or, if◌then◌else◌}
use Rattle.std.specs.List.{list_all, range_with_len}
use Rattle.std.proofs.Common.{arith}
use Rattle.table.specs.Layout.{used_place, place_place}

abbrev pub live_slot♯ : ℕ → ℕ → List ℕ → ℕ → Bool
live_slot♯ capacity live xs s = ltb s capacity && ltb (get_or xs (place_place capacity s) 0) live

abbrev pub placed♯ : ℕ → List ℕ → ℕ → Bool
placed♯ capacity xs i =
    let s : ℕ = get_or xs (used_place capacity i) 0 in ltb s capacity && eqb (get_or xs (place_place capacity s) 0) i

-- over the first n places of `used`
abbrev pub inverse_below♯ : ℕ → ℕ → List ℕ → Bool
inverse_below♯ n capacity xs = list_all (placed♯ capacity xs) (range_with_len 0 n)

-- over all of them
abbrev pub inverse♯ : ℕ → List ℕ → Bool
inverse♯ capacity xs = inverse_below♯ capacity capacity xs

pub inverse♯-zero : (n : ℕ) → n ≡ 0 → (capacity : ℕ) (xs : List ℕ) → inverse_below♯ n capacity xs ≡ true
inverse♯-zero n e capacity xs = rw e

pub inverse♯-suc : (n : ℕ) → (n ≡ 0 → ⊥) → (capacity : ℕ) (xs : List ℕ)
    → inverse_below♯ n capacity xs ≡ (if placed♯ capacity xs (n - 1) then inverse_below♯ (n - 1) capacity xs else false)
inverse♯-suc zero h capacity xs = absurd (h refl)
inverse♯-suc (suc n) h capacity xs = let e : suc n - 1 ≡ n = omega arith in rw e (more (placed♯ capacity xs) 0 n n (omega arith))
  where
    pair : (a b c : Bool) → (a && (if b then c else false)) ≡ (if b then a && c else false)
    pair true b c = refl
    pair false true c = refl
    pair false false c = refl

    alone : (b : Bool) → (b && true) ≡ (if b then true else false)
    alone true = refl
    alone false = refl

    -- the last of the places can be asked first
    more : (p : ℕ → Bool) (a n j : ℕ) → a + n ≡ j
        → list_all p (range_with_len a (suc n)) ≡ (if p j then list_all p (range_with_len a n) else false)
    more p a zero j e = let same : a ≡ j = omega (arith, e) in rw same (alone (p j))
    more p a (suc n) j e = rw (more p (a + 1) n j (omega (arith, e))) (pair (p a) (p j) (list_all p (range_with_len (a + 1) n)))
