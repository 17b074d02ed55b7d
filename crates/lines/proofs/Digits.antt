-- The decimal digits of a number: how they go on from those of a tenth of it. Assumes nothing.
use Prim.Native.Nat.{ℕ, zero, suc, ◌+◌, ◌*◌, ◌/◌, ◌%◌, ◌^◌, ◌≤◌, ◌<◌}
use mathlib.Core.Path.{◌≡◌}
use mathlib.Core.List.{[], ◌∷◌, ◌++◌}
use native.Mathlib.Nat.{pow-succ'}
use native.Mathlib.Omega.{arith}
use lib.Dec.{ltb}
use lib.ListN.{length, length-append}
use borrow.Author.Tests.{ltb-true, ltb-false, lt-ltb, le-ltb}
use Rattle.std.specs.Fmt.{decimal}
use Rattle.std.proofs.lemmas.Fmt.{decimal_digit, decimal_step}
use Rattle.model.proofs.Logic.{by_cases}
use Rattle.lines.specs.Text.{last_digits, digits}

-- more places than a number needs change nothing
last_digits-enough : (p q n : ℕ) → n < p → n < q → last_digits p n ≡ last_digits q n
unfolding last_digits
last_digits-enough zero q n h k = absurd (omega arith)
last_digits-enough (suc p) zero n h k = absurd (omega arith)
last_digits-enough (suc p) (suc q) n h k =
    by_cases (ltb n 10)
    (λ t. rw t)
    (λ u. let big = ltb-false n 10 u in rw (u, last_digits-enough p q (n / 10) (omega arith) (omega arith)))

pub digits-single : (n : ℕ) → n < 10 → digits n ≡ (48 + n) ∷ []
unfolding digits last_digits
digits-single n h = let e : n % 10 ≡ n = omega arith in rw (lt-ltb n 10 h, e)

pub digits_more : (n : ℕ) → 10 ≤ n → digits n ≡ digits (n / 10) ++ (48 + n % 10) ∷ []
unfolding digits last_digits
digits_more n h = rw (le-ltb n 10 h, last_digits-enough n (suc (n / 10)) (n / 10) (omega arith) (omega arith))

-- one digit more
pub digits-snoc : (v d : ℕ) → 0 < v → d < 10 → digits (10 * v + d) ≡ digits v ++ (48 + d) ∷ []
digits-snoc v d pos h =
    let tenth : (10 * v + d) / 10 ≡ v = omega arith in
    let last : (10 * v + d) % 10 ≡ d = omega arith in
    rw (digits_more (10 * v + d) (omega arith), tenth, last)

-- a claim about a number's digits, from its tenth to it; `bound` bounds the number
pub digits-rec : (P : ℕ → Type 0) → ((n : ℕ) → n < 10 → P n) → ((n : ℕ) → 10 ≤ n → P (n / 10) → P n) → (n : ℕ) → P n
digits-rec P single more n = go (suc n) n (omega arith)
  where
    go : (bound n : ℕ) → n < bound → P n
    go zero n h = absurd (omega arith)
    go (suc b) n h =
        by_cases (ltb n 10)
        (λ t. single n (ltb-true n 10 t))
        (λ u. let big = ltb-false n 10 u in more n big (go b (n / 10) (omega arith)))

-- a number below 10^(k + 1) has at most k + 1 digits
digits-fewer : (k n : ℕ) → n < 10 ^ suc k → length (digits n) ≤ suc k
digits-fewer zero n h = rw (digits-single n h) (omega arith)
digits-fewer (suc k) n h =
    by_cases (ltb n 10)
    (λ t. rw (digits-single n (ltb-true n 10 t)) (omega arith))
    (λ u.
    let big = ltb-false n 10 u in
    let below : n < 10 * 10 ^ suc k = rw (pow-succ' 10 (suc k)) at h in
    rw (digits_more n big, length-append (digits (n / 10)) ((48 + n % 10) ∷ []))
    (omega (arith, digits-fewer k (n / 10) (omega arith))))

-- a word has at most ten
pub digits-short : (n : ℕ) → n < 4294967296 → length (digits n) ≤ 10
digits-short n h = digits-fewer 9 n (omega arith)

-- they are the text that the library prints for it
pub digits-decimal : (n : ℕ) → n < 4294967296 → digits n ≡ decimal n
digits-decimal = digits-rec (λ n. n < 4294967296 → digits n ≡ decimal n)
    (λ n h k. rw (digits-single n h, decimal_digit n h))
    (λ n h e k. rw (digits_more n h, decimal_step n h (omega arith), e (omega arith)))
