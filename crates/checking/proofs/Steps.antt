-- How many nodes the walks come to, on any words: an auxiliary tree of weight w no more than 2 w - 1, and the main tree of `live` marks, with all its
-- auxiliary trees, no more than 2 live (D(live) + 1). Each comparison is made before the walk goes on, so damage only ends it sooner. Assumes nothing.
use Rattle.std.specs.Prelude.{if◌then◌else◌}
use Prim.Native.Nat.{ℕ, zero, suc, ◌+◌, ◌*◌, ◌/◌, ◌%◌, ◌≤◌}
use mathlib.Core.Path.{◌≡◌, refl, ap, ◌∙◌}
use mathlib.Core.List.{List}
use native.Mathlib.Omega.{arith}
use native.Mathlib.Nat.{mul-add, add-mul, mul-suc, mul-le-mul_left, mul-le-mul}
use lib.Dec.{eqb}
use borrow.Author.Tests.{eqb-true}
use Rattle.model.specs.Sizes.{D}
use Rattle.model.proofs.Logic.{by_cases}
use Rattle.model.proofs.Sizes.{deep_step, D-holds, D-largest}
use Rattle.table.specs.Layout.{main_place, auxiliary_place, record_place}
use Rattle.table.specs.Limits.{deepest}
use Rattle.nodes.specs.Arms.{Arm, Record, arm_at, record_at}
use Rattle.twofold_layout.specs.Levels.{deeper}
use Rattle.checking.specs.Span.{fits♯}
use Rattle.checking.proofs.Comparing.{Fits, fits-sound}

module _ (place : ℕ → ℕ) (next : ℕ → ℕ) (more : ℕ → Arm → ℕ) (xs : List ℕ) where
  -- The nodes that a walk of n levels at most comes to, with those that it comes to beside at an inner node whose arm fits. (Of that only the most is
  -- counted: the walk makes the test at a node only where its children are sound, and ends where a name is no slot or a level is not there.)
  unfoldable pub steps : ℕ → ℕ → Arm → ℕ
  steps zero base a = 1
  steps (suc n) base a =
      let name : ℕ = a.node / 2 in
      let p : Record = record_at xs (place name) in
      let both : ℕ = more base a + (steps n (next base) p.left + steps n (next base) p.right) in
      if eqb (a.node % 2) 0 then 1 else (if fits♯ name a p.left p.right then 1 + both else 1)

  -- no more than the node tests allow, where an arm has a weight: each child's weight is at least a quarter of its node's
  module _ (bound : ℕ → ℕ) (leaves : (w : ℕ) → 1 ≤ w → 2 ≤ bound w)
      (over : (w l r : ℕ) → 1 ≤ l → 1 ≤ r → w ≡ l + r → w ≤ 4 * l → w ≤ 4 * r
      → (base : ℕ) (a : Arm) → a.weight ≡ w → more base a + (bound l + bound r) ≤ bound w)
    where
      steps-bound : (n base : ℕ) (a : Arm) → 1 ≤ a.weight → steps n base a + 1 ≤ bound a.weight
      unfolding steps
      steps-bound zero base a h = leaves a.weight h
      steps-bound (suc n) base a h =
          let name : ℕ = a.node / 2 in
          let p : Record = record_at xs (place name) in
          let one : 2 ≤ bound a.weight = leaves a.weight h in
          by_cases (eqb (a.node % 2) 0)
          (λ t. rw t one)
          (λ t. by_cases (fits♯ name a p.left p.right)
          (λ f.
          let k : Fits name a p.left p.right = fits-sound name a p.left p.right f in
          let wl : 1 ≤ p.left.weight = omega (arith, k.weights, k.even_left) in
          let wr : 1 ≤ p.right.weight = omega (arith, k.weights, k.even_right) in
          let el : a.weight ≤ 4 * p.left.weight = omega (arith, k.weights, k.even_left) in
          let er : a.weight ≤ 4 * p.right.weight = omega (arith, k.weights, k.even_right) in
          let e = over a.weight p.left.weight p.right.weight wl wr k.weights el er base a refl in
          rw (t, f) (omega (arith, e, steps-bound n (next base) p.left wl, steps-bound n (next base) p.right wr)))
          (λ f. rw (t, f) one))

-- the walk through an auxiliary tree
module _ (xs : List ℕ) where
  abbrev pub auxiliary_steps : ℕ → Arm → ℕ
  auxiliary_steps base a = steps (record_place base) (λ b. b) (λ b q. 0) xs deepest base a

  pub auxiliary-steps : (base : ℕ) (a : Arm) → 1 ≤ a.weight → auxiliary_steps base a + 1 ≤ 2 * a.weight
  auxiliary-steps base a h =
      steps-bound (record_place base) (λ b. b) (λ b q. 0) xs (λ w. 2 * w) (λ w k. omega arith) (λ w l r hl hr e el er b q g. omega arith) deepest base a h

  -- at an inner main node: the walk through its auxiliary tree, where that has the node's weight
  abbrev pub auxiliary_more : ℕ → Arm → ℕ
  auxiliary_more base a =
      let q : Arm = arm_at xs (auxiliary_place (a.node / 2)) in
      if eqb q.weight a.weight then auxiliary_steps base q else 0

  auxiliary_more-bound : (base : ℕ) (a : Arm) → 1 ≤ a.weight → auxiliary_more base a ≤ 2 * a.weight
  auxiliary_more-bound base a h =
      let q : Arm = arm_at xs (auxiliary_place (a.node / 2)) in
      by_cases (eqb q.weight a.weight)
      (λ t.
      let e : q.weight ≡ a.weight = eqb-true q.weight a.weight t in
      rw t (omega (arith, e, auxiliary-steps base q (omega (arith, e)))))
      (λ t. rw t (omega arith))

  -- the walk through the main tree
  abbrev pub main_steps : ℕ → ℕ → Arm → ℕ
  main_steps capacity base a = steps main_place (λ b. deeper b capacity) auxiliary_more xs deepest base a

  pub main-steps : (capacity base : ℕ) (a : Arm) → 1 ≤ a.weight → main_steps capacity base a + 1 ≤ 2 * (a.weight * (D a.weight + 1))
  main-steps capacity base a h =
      steps-bound main_place (λ b. deeper b capacity) auxiliary_more xs (λ w. 2 * (w * (D w + 1)))
      (λ w k. omega (arith, mul-le-mul {n₁ = 1} {m₁ = 1} {n₂ = w} {m₂ = D w + 1} k (omega arith)))
      (λ w l r hl hr e el er b q g.
      let dl : suc (D l) ≤ D w = D-largest w (suc (D l)) (deep_step (D l) l w (omega arith) (D-holds l hl)) in
      let dr : suc (D r) ≤ D w = D-largest w (suc (D r)) (deep_step (D r) r w (omega arith) (D-holds r hr)) in
      let z : w * D w ≡ l * D w + r * D w = ap (λ n. n * D w) e ∙ add-mul l r (D w) in
      let left : l * (D l + 1) ≤ l * D w = omega (arith, mul-le-mul_left l dl, mul-suc l (D l), mul-add l (D l) 1) in
      let right : r * (D r + 1) ≤ r * D w = omega (arith, mul-le-mul_left r dr, mul-suc r (D r), mul-add r (D r) 1) in
      omega (arith, auxiliary_more-bound b q (omega (arith, g, e)), g, left, right, z, mul-add w (D w) 1))
      deepest base a h
