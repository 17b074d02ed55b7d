-- D(n) is the largest D with 4^D ≤ 3^D × n, and p the least with 2^p ≥ k. Assumes nothing.
use Prim.Native.Nat.{ℕ, zero, suc, ◌+◌, ◌*◌, ◌^◌, ◌≤◌, ◌<◌}
use mathlib.Core.Path.{◌≡◌, refl}
use mathlib.Core.Bool.{false}
use native.Mathlib.Omega.{arith}
use native.Mathlib.Nat.{pow-suc, mul-le-mul_left, le_of_mul-le-mul_left, one-le-pow}
use lib.Dec.{leb, ltb, eqb}
use borrow.Author.Tests.{leb-true, leb-false, ltb-false, eqb-false}
use Rattle.model.specs.Sizes.{rise_d, D, largest_capacity, capacity_outside, rise_passes, passes}
use Rattle.model.proofs.Logic.{by_cases, clash, or_true_right}

-- a tree of n marks may be d deep
abbrev pub Deep : ℕ → ℕ → Type 0
Deep d n = 4 ^ d ≤ 3 ^ d * n

pow3 : (d n : ℕ) → 3 ^ suc d * n ≡ 3 * (3 ^ d * n)
pow3 d n = rw (pow-suc 3 d) (omega arith)

deep-down : (d e n : ℕ) → d ≤ e → Deep e n → Deep d n
deep-down d zero n h t = let z : d ≡ 0 = omega arith in rw z t
deep-down d (suc e) n h t =
    by_cases (leb d e)
    (λ b. deep-down d e n (leb-true d e b) (omega (arith, pow3 e n)))
    (λ b. let z : d ≡ suc e = omega (arith, leb-false d e b) in rw z t)

-- a node at least 4/3 as heavy as its child may be one deeper
pub deep_step : (d c w : ℕ) → 4 * c ≤ 3 * w → Deep d c → Deep (suc d) w
deep_step d c w h t = rw (pow3 d w) (omega (arith, mul-le-mul_left (3 ^ d) h))

-- Bernoulli's inequality for 4/3, so that 3n steps are enough
bernoulli : (k : ℕ) → 3 ^ k * (3 + k) ≤ 3 * 4 ^ k
bernoulli zero = omega arith
bernoulli (suc k) = rw (pow3 k (3 + suc k)) (omega (arith, bernoulli k))

deep-bound : (e n : ℕ) → Deep e n → e ≤ 3 * n
deep-bound e n t =
    let h : 3 ^ e * (3 + e) ≤ 3 ^ e * (3 * n) = omega (arith, bernoulli e) in
    let k = le_of_mul-le-mul_left h (one-le-pow e 3 (omega arith)) in
    omega arith

rise_d-deep : (steps d n : ℕ) → Deep d n → Deep (rise_d steps d n) n
unfolding rise_d
rise_d-deep zero d n t = t
rise_d-deep (suc steps) d n t =
    by_cases (leb (4 ^ suc d) (3 ^ suc d * n))
    (λ b. rw b (rise_d-deep steps (suc d) n (leb-true _ _ b)))
    (λ b. rw b t)

rise_d-top : (steps d n e : ℕ) → e ≤ d + steps → Deep e n → e ≤ rise_d steps d n
unfolding rise_d
rise_d-top zero d n e h t = omega arith
rise_d-top (suc steps) d n e h t =
    by_cases (leb (4 ^ suc d) (3 ^ suc d * n))
    (λ b. rw b (rise_d-top steps (suc d) n e (omega arith) t))
    (λ b. rw b
    (by_cases (leb e d)
    (λ c. leb-true e d c)
    (λ c. absurd (omega (arith, deep-down (suc d) e n (leb-false e d c) t, leb-false (4 ^ suc d) (3 ^ suc d * n) b)))))

deep-pos : (n d : ℕ) → Deep d n → 0 < n
deep-pos zero d t = absurd (omega (arith, one-le-pow d 4 (omega arith)))
deep-pos (suc n) d t = omega arith

-- what document 01 says of D
pub D-zero : D 0 ≡ 0
unfolding D rise_d
D-zero = refl

pub D-holds : (n : ℕ) → 0 < n → 4 ^ D n ≤ 3 ^ D n * n
unfolding D
D-holds n h = rise_d-deep (3 * n) 0 n (omega arith)

pub D-largest : (n d : ℕ) → 4 ^ d ≤ 3 ^ d * n → d ≤ D n
unfolding D
D-largest n d t = rise_d-top (3 * n) 0 n d (omega (arith, deep-bound d n t)) t

-- the two tests that fix D(n)
pub D-between : (n d : ℕ) → 4 ^ d ≤ 3 ^ d * n → 3 ^ suc d * n < 4 ^ suc d → D n ≡ d
D-between n d t u =
    by_cases (leb (D n) d)
    (λ c. omega (arith, D-largest n d t, leb-true (D n) d c))
    (λ c. absurd (omega (arith, deep-down (suc d) (D n) n (leb-false (D n) d c) (D-holds n (deep-pos n d t)))))

pub D-rises : (a b : ℕ) → a ≤ b → D a ≤ D b
D-rises zero b h = rw D-zero (omega arith)
D-rises (suc a) b h =
    D-largest b (D (suc a)) (omega (arith, D-holds (suc a) (omega arith), mul-le-mul_left (3 ^ D (suc a)) h))

-- the passes of a list
pow2-reaches : (k : ℕ) → k ≤ 2 ^ k
pow2-reaches zero = omega arith
pow2-reaches (suc k) = rw (pow-suc 2 k) (omega (arith, pow2-reaches k, one-le-pow k 2 (omega arith)))

pow2-rises : (p q : ℕ) → p ≤ q → 2 ^ p ≤ 2 ^ q
pow2-rises p zero h = let z : p ≡ 0 = omega arith in rw z (omega arith)
pow2-rises p (suc q) h =
    by_cases (leb p q)
    (λ b. rw (pow-suc 2 q) (omega (arith, pow2-rises p q (leb-true p q b))))
    (λ b. let z : p ≡ suc q = omega (arith, leb-false p q b) in rw z (omega arith))

rise_passes-reach : (steps p k : ℕ) → k ≤ 2 ^ (p + steps) → k ≤ 2 ^ rise_passes steps p k
unfolding rise_passes
rise_passes-reach zero p k h = let z : p + 0 ≡ p = omega arith in rw z at h
rise_passes-reach (suc steps) p k h =
    by_cases (leb k (2 ^ p))
    (λ b. rw b (leb-true k (2 ^ p) b))
    (λ b. rw b (rise_passes-reach steps (suc p) k (let z : suc p + steps ≡ p + suc steps = omega arith in rw z h)))

rise_passes-low : (steps p k q : ℕ) → p ≤ q → k ≤ 2 ^ q → rise_passes steps p k ≤ q
unfolding rise_passes
rise_passes-low zero p k q h r = h
rise_passes-low (suc steps) p k q h r =
    by_cases (leb k (2 ^ p))
    (λ b. rw b h)
    (λ b. rw b
    (rise_passes-low steps (suc p) k q
    (by_cases (leb (suc p) q)
    (λ c. leb-true (suc p) q c)
    (λ c. absurd (omega (arith, leb-false k (2 ^ p) b, pow2-rises q p (omega (arith, leb-false (suc p) q c))))))
    r))

pub passes-reach : (k : ℕ) → k ≤ 2 ^ passes k
unfolding passes
passes-reach k = rise_passes-reach k 0 k (let z : 0 + k ≡ k = omega arith in rw z (pow2-reaches k))

pub passes-least : (k p : ℕ) → k ≤ 2 ^ p → passes k ≤ p
unfolding passes
passes-least k p h = rise_passes-low k 0 k p (omega arith) h

-- a capacity that is not outside
pub capacity-some : (C : ℕ) → capacity_outside C ≡ false → 1 ≤ C
unfolding capacity_outside
capacity-some C e = by_cases (eqb C 0) (λ t. clash (rw t) e) (λ t. omega (arith, eqb-false C 0 t))

pub capacity-small : (C : ℕ) → capacity_outside C ≡ false → C ≤ 65536
unfolding capacity_outside
capacity-small C e =
    by_cases (ltb largest_capacity C)
    (λ t. clash (or_true_right (eqb C 0) (ltb largest_capacity C) t) e)
    (λ t. ltb-false largest_capacity C t)
