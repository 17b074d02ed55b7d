-- The least number of marks of each level, and the table's rule: D(c) is d where c is from the d-th to below the next. Assumes nothing.
use Prim.Native.Nat.{ℕ, zero, suc, ◌+◌, ◌*◌, ◌-◌, ◌^◌, ◌≤◌, ◌<◌}
use mathlib.Core.Path.{◌≡◌, refl}
use mathlib.Core.Bool.{Bool, true, ◌&&◌}
use mathlib.Core.List.{List, [], ◌∷◌}
use native.Mathlib.Omega.{arith}
use native.Mathlib.Nat.{mul-le-mul_left}
use lib.Dec.{leb}
use lib.ListN.{length, get_or}
use borrow.Author.Tests.{leb-true}
use Rattle.model.specs.Sizes.{D}
use Rattle.model.proofs.Logic.{and_left, and_right}
use Rattle.model.proofs.Sizes.{D-zero, D-between}

abbrev pub least : List ℕ
least =
    1 ∷ 2 ∷ 2 ∷ 3 ∷ 4 ∷ 5 ∷ 6 ∷ 8 ∷ 10 ∷ 14
    ∷ 18 ∷ 24 ∷ 32 ∷ 43 ∷ 57 ∷ 75 ∷ 100 ∷ 134 ∷ 178 ∷ 237
    ∷ 316 ∷ 421 ∷ 561 ∷ 748 ∷ 997 ∷ 1329 ∷ 1772 ∷ 2363 ∷ 3150 ∷ 4200
    ∷ 5600 ∷ 7467 ∷ 9955 ∷ 13274 ∷ 17698 ∷ 23597 ∷ 31463 ∷ 41951 ∷ 55934 ∷ 74578 ∷ []

-- n marks may be d levels deep, and fewer may not
abbrev is_least : ℕ → ℕ → Bool
is_least d n = leb (4 ^ d) (3 ^ d * n) && leb (3 ^ d * (n - 1) + 1) (4 ^ d)

-- one test over the table, its places counted from d
abbrev all_least : ℕ → List ℕ → Bool
all_least d [] = true
all_least d (n ∷ l) = is_least d n && all_least (suc d) l

at : (d : ℕ) (l : List ℕ) → all_least d l ≡ true → (k : ℕ) → k < length l → is_least (d + k) (get_or l k 0) ≡ true
at d [] e k h = absurd (omega arith)
at d (n ∷ l) e zero h = let z : d + 0 ≡ d = omega arith in rw z (and_left (is_least d n) (all_least (suc d) l) e)
at d (n ∷ l) e (suc k) h =
    let z : d + suc k ≡ suc d + k = omega arith in rw z (at (suc d) l (and_right (is_least d n) (all_least (suc d) l) e) k (omega arith))

least-holds : (d : ℕ) → d < 40 → is_least d (get_or least d 0) ≡ true
least-holds d h = let z : 0 + d ≡ d = omega arith in rw z at (at 0 least refl d h)

reaches : (d c : ℕ) → d < 40 → get_or least d 0 ≤ c → 4 ^ d ≤ 3 ^ d * c
reaches d c h k =
    let n = get_or least d 0 in
    omega (
      arith,
      leb-true (4 ^ d) (3 ^ d * n) (and_left (leb (4 ^ d) (3 ^ d * n)) (leb (3 ^ d * (n - 1) + 1) (4 ^ d)) (least-holds d h)),
      mul-le-mul_left (3 ^ d) k,
    )

falls-short : (d c : ℕ) → d < 40 → c < get_or least d 0 → 3 ^ d * c < 4 ^ d
falls-short d c h k =
    let n = get_or least d 0 in
    let e : c ≤ n - 1 = omega arith in
    omega (
      arith,
      leb-true (3 ^ d * (n - 1) + 1) (4 ^ d) (and_right (leb (4 ^ d) (3 ^ d * n)) (leb (3 ^ d * (n - 1) + 1) (4 ^ d)) (least-holds d h)),
      mul-le-mul_left (3 ^ d) e,
    )

pub level : (d c : ℕ) → d < 39 → get_or least d 0 ≤ c → c < get_or least (suc d) 0 → D c ≡ d
level d c h p q = D-between c d (reaches d c (omega arith) p) (falls-short (suc d) c (omega arith) q)

-- no mark, or one
pub level-none : (c : ℕ) → c < 2 → D c ≡ 0
level-none zero h = D-zero
level-none (suc c) h = level 0 (suc c) (omega arith) (omega arith) h
