-- The balance of a node, and its weight, do not tell its left child from its right one; where a balanced node gains or loses a mark, one test of the two is
-- enough. Assumes nothing.
use Prim.Native.Nat.{ℕ, ◌+◌, ◌*◌, ◌≤◌, ◌<◌}
use mathlib.Core.Path.{◌≡◌, refl}
use mathlib.Core.Bool.{Bool, true, false, and_comm}
use native.Mathlib.Omega.{arith}
use lib.Dec.{leb}
use borrow.Author.Tests.{lt-leb, le-leb, lt-ltb, le-ltb, leb-true, leb-false}
use Rattle.model.proofs.Logic.{and_right}
use Rattle.nodes.specs.Arms.{Record, way_of}
use Rattle.nodes.specs.Weights.{is_heavy, balanced, unbalances}

pub balanced-swap : (l r : ℕ) → balanced l r ≡ balanced r l
balanced-swap l r = let e : l + r ≡ r + l = omega arith in rw e (and_comm (leb (r + l) (4 * l)) (leb (r + l) (4 * r)))

pub way-weight : (p : Record) (left : Bool) → (way_of p left).child.weight + (way_of p left).sibling.weight ≡ p.left.weight + p.right.weight
unfolding way_of
way-weight p true = refl
way-weight p false = omega arith

-- a child of weight w that is heavy and gains a mark stays so: where the node is not balanced then, or is, its sibling tells
pub unbalances-uneven : (w v c : ℕ) → w + v ≤ 4 * w → c ≡ w + 1 → balanced c v ≡ false → unbalances true w v ≡ true
unfolding unbalances
unbalances-uneven w v c h e u =
    let light = (rw (le-leb (c + v) (4 * c) (omega arith)) at u) in
    lt-ltb (4 * v) (v + w + 1) (omega (arith, leb-false (c + v) (4 * v) light))

pub unbalances-even : (w v c : ℕ) → c ≡ w + 1 → balanced c v ≡ true → unbalances true w v ≡ false
unfolding unbalances
unbalances-even w v c e t =
    le-ltb (4 * v) (v + w + 1) (omega (arith, leb-true (c + v) (4 * v) (and_right (leb (c + v) (4 * c)) (leb (c + v) (4 * v)) t)))

-- beside a child that loses a mark, a sibling of weight v that is heavy stays so
pub balanced-less : (w v c : ℕ) → w + v ≤ 4 * v → c + 1 ≡ w → balanced c v ≡ is_heavy c v
balanced-less w v c h e = rw (and_comm (leb (c + v) (4 * c)) (leb (c + v) (4 * v)), le-leb (c + v) (4 * v) (omega arith))

-- a child that loses its last mark is not heavy
pub heavy-none : (v : ℕ) → 0 < v → is_heavy 0 v ≡ false
heavy-none v h = lt-leb (0 + v) (4 * 0) (omega arith)
