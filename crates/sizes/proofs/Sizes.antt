-- The sizes on every word: D(C) and W(C) in range, what the contracts say out of it, and that no product overflows. Assumes nothing.
use Prim.Native.Nat.{ℕ, suc, ◌+◌, ◌*◌, ◌^◌, ◌≤◌, ◌<◌, min}
use mathlib.Core.Path.{◌≡◌, sym, ap, ◌∙◌}
use mathlib.Core.Bool.{false}
use native.Mathlib.Omega.{arith}
use native.Mathlib.Nat.{mul-le-mul}
use lib.ListN.{get_or}
use Rattle.model.specs.Sizes.{D, largest_capacity, capacity_outside}
use Rattle.model.proofs.Sizes.{D-rises, capacity-small}
use Rattle.sizes.specs.Sizes.{levels_for}
use Rattle.sizes.proofs.Thresholds.{least, level, level-none}

pub levels_for-within : (c : ℕ) → c ≤ largest_capacity → levels_for c ≡ D c
levels_for-within c h = ap D (omega arith)

-- the rule of the thresholds, for `levels`
pub levels_for-none : (c : ℕ) → c < 2 → 0 ≡ levels_for c
levels_for-none c h = sym (level-none (min c largest_capacity) (omega arith))

pub levels_for-is : (d c : ℕ) → d < 38 → get_or least d 0 ≤ c → c < get_or least (suc d) 0 → c < get_or least 38 0 → d ≡ levels_for c
levels_for-is d c h p q r = sym (levels_for-within c (omega arith) ∙ level d c (omega arith) p q)

pub levels_for-last : (c : ℕ) → get_or least 38 0 ≤ c → 38 ≡ levels_for c
levels_for-last c h = sym (level 38 (min c largest_capacity) (omega arith) (omega arith) (omega arith))

pub levels_for-most : (c : ℕ) → levels_for c ≤ 38
levels_for-most c =
    omega (arith, D-rises (min c largest_capacity) largest_capacity (omega arith), level 38 largest_capacity (omega arith) (omega arith) (omega arith))

-- no product of a word and a level's words overflows
pub words-fit : (c d : ℕ) → c < 2 ^ 32 → d ≤ 38 → c * (40 + 24 * d) ≤ 2 ^ 32 * 952
words-fit c d h k =
    let g : 40 + 24 * d ≤ 952 = omega arith in
    let f : c ≤ 2 ^ 32 = omega arith in
    mul-le-mul f g

-- nor does the bound on visits
pub visits-fit : (d : ℕ) → d ≤ 38 → (4 * d + 1) * (2 * d + 1) ≤ 11781
visits-fit d h = mul-le-mul {n₁ = 4 * d + 1} {m₁ = 2 * d + 1} {n₂ = 153} {m₂ = 77} (omega arith) (omega arith)

pub levels_for-inside : (c : ℕ) → capacity_outside c ≡ false → levels_for c ≡ D c
levels_for-inside c f = levels_for-within c (capacity-small c f)

-- what `size_for` takes of them
pub ruleset size_laws = (levels_for-most, levels_for-inside, words-fit, visits-fit)
