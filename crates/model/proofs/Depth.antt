-- A balanced tree is at most D(weight) deep. Assumes nothing.
use Prim.Native.Nat.{◌+◌, ◌*◌, ◌^◌, ◌≤◌, max}
use mathlib.Core.Path.{◌≡◌}
use native.Mathlib.Omega.{arith}
use lib.Dec.{leb}
use borrow.Author.Tests.{leb-true, leb-false}
use Rattle.model.specs.Sizes.{D}
use Rattle.model.specs.Tree.{Tree, leaf, node, weight, depth, Balanced}
use Rattle.model.proofs.Logic.{by_cases}
use Rattle.model.proofs.Sizes.{deep_step, D-largest}

module _ {M I : Type 0} where
  balanced-deep : (t : Tree M I) → Balanced t → 4 ^ depth t ≤ 3 ^ depth t * weight t
  balanced-deep (leaf m) b = omega arith
  balanced-deep (node i l r) b =
      by_cases (leb (depth l) (depth r))
      (λ c. let e : max (depth l) (depth r) ≡ depth r = omega (arith, leb-true (depth l) (depth r) c) in
      rw e (deep_step (depth r) (weight r) (weight l + weight r) (omega (arith, b.0)) (balanced-deep r b.3)))
      (λ c. let e : max (depth l) (depth r) ≡ depth l = omega (arith, leb-false (depth l) (depth r) c) in
      rw e (deep_step (depth l) (weight l) (weight l + weight r) (omega (arith, b.1)) (balanced-deep l b.2)))

  pub balanced-depth : (t : Tree M I) → Balanced t → depth t ≤ D (weight t)
  balanced-depth t b = D-largest (weight t) (depth t) (balanced-deep t b)
