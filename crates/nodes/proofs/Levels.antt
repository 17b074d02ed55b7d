-- The levels of a table of W(C) words: each has room for the records of all slots, no two overlap, and a balanced tree has no more than D(C). Assumes
-- nothing.
use Prim.Native.Nat.{ℕ, suc, ◌+◌, ◌*◌, ◌^◌, ◌≤◌, ◌<◌}
use mathlib.Core.Path.{◌≡◌, refl}
use mathlib.Core.List.{List}
use native.Mathlib.Omega.{arith}
use native.Mathlib.Nat.{mul_comm, mul-add, suc-mul, mul_left_comm, mul-le-mul_right}
use borrow.Author.Tests.{leb-true, ltb-true}
use Rattle.model.specs.Axis.{Axis}
use Rattle.model.specs.Sizes.{D, W, largest_capacity}
use Rattle.model.specs.Sheet.{Mark, Box}
use Rattle.model.specs.Tree.{Tree, weight, depth, Balanced}
use Rattle.model.proofs.Sizes.{D-between, D-rises}
use Rattle.model.proofs.Depth.{balanced-depth}
use Rattle.table.specs.Layout.{record_width, main_place, level_place, record_place}
use Rattle.nodes.specs.Holds.{Held}
use Rattle.nodes.proofs.Frames.{Region, level-region, main-region}
use Rattle.nodes.proofs.Held.{held-weight}

pub W-words : (C : ℕ) → W C ≡ 64 + 40 * C + 24 * (D C * C)
unfolding W
W-words C = omega (arith, mul-add C 40 (24 * D C), mul_left_comm C 24 (D C), mul_comm C (D C), mul_comm C 40)

level-after : (C d e : ℕ) → d < e → d * C + C ≤ e * C
level-after C d e h = omega (arith, suc-mul d C, mul-le-mul_right {m = suc d} {n = e} C h)

module _ (C : ℕ) (small : C ≤ largest_capacity) where
  pub table-level : (d : ℕ) → d < D C → Region (record_place (level_place C d)) C (W C)
  table-level d h = level-region (level_place C d) C (W C) small (omega arith) (omega (arith, W-words C, level-after C d (D C) h))

  pub table-main : Region main_place C (W C)
  table-main = main-region C (W C) small (omega (arith, W-words C))

-- records of two levels do not meet
pub levels-apart : (C d e s q : ℕ) → d < e → s < C → q < C → record_place (level_place C d) s + record_width ≤ record_place (level_place C e) q
levels-apart C d e s q h k l = omega (arith, level-after C d e h)

-- the levels of the largest capacity
pub most-levels : (C : ℕ) → C ≤ largest_capacity → D C ≤ 38
most-levels C h =
    let low : 4 ^ 38 ≤ 3 ^ 38 * 65536 = leb-true (4 ^ 38) (3 ^ 38 * 65536) refl in
    let high : 3 ^ 39 * 65536 < 4 ^ 39 = ltb-true (3 ^ 39 * 65536) (4 ^ 39) refl in
    omega (arith, D-rises C largest_capacity h, D-between largest_capacity 38 low high)

module _ {I : Type 0} {A : Axis Mark Box} {f : ℕ → Mark} {place : ℕ → ℕ} {C : ℕ} {xs : List ℕ}
    {t : Tree ℕ I} (h : Held A f place C xs t) (b : Balanced t) where
  pub held-depth : depth t ≤ D C
  held-depth = omega (arith, balanced-depth t b, D-rises (weight t) C (held-weight h))

  -- so the fuel of the walks is never spent
  pub held-shallow : C ≤ largest_capacity → depth t ≤ 38
  held-shallow small = omega (arith, held-depth, most-levels C small)
