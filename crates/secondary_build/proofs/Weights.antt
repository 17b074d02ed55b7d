-- The tree that the mirror of the building builds has as many slots as were asked for, on any words. Assumes nothing.
use Prim.Native.Nat.{ℕ, zero, suc, ◌+◌, ◌-◌, ◌/◌, ◌≤◌, ◌<◌}
use mathlib.Core.Path.{◌≡◌}
use mathlib.Core.List.{List}
use native.Mathlib.Omega.{arith}
use borrow.Author.Tests.{leb-true, leb-false}
use lib.Dec.{leb}
use Rattle.model.specs.Axis.{Axis}
use Rattle.model.specs.Sheet.{Mark, Box}
use Rattle.model.proofs.Logic.{by_cases}
use Rattle.nodes.specs.Arms.{leaf_arm, over_arm}
use Rattle.nodes.specs.Weights.{sum}
use Rattle.secondary_build.specs.Build.{run_leaf, build_over, build_node, build_step, build♯}

sum-small : (l r n : ℕ) → l + r ≡ n → n < 4294967296 → sum l r ≡ n
unfolding sum
sum-small l r n e h = omega arith

pub build♯-weight : (A : Axis Mark Box) (place : ℕ → ℕ) (capacity f i n : ℕ) (xs : List ℕ) → n ≤ f → 0 < n → n < 4294967296
    → (build♯ A f place capacity i n xs).out.weight ≡ n
unfolding build♯ build_step build_node build_over run_leaf leaf_arm over_arm
build♯-weight A place capacity zero i n xs h some small = absurd (omega arith)
build♯-weight A place capacity (suc f) i n xs h some small =
    by_cases (leb n 1)
    (λ e. rw e (omega (arith, leb-true n 1 e)))
    (λ e.
    let many : 1 < n = leb-false n 1 e in
    rw (
      e,
      build♯-weight A place capacity f i (n / 2) xs (omega arith) (omega arith) (omega arith),
      build♯-weight A place capacity f (i + n / 2) (n - n / 2) _ (omega arith) (omega arith) (omega arith),
    ) (sum-small (n / 2) (n - n / 2) n (omega arith) small))
