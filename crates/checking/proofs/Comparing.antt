-- What the comparisons of arms say. Assumes nothing.
use Prim.Native.Nat.{ℕ, ◌+◌, ◌*◌, ◌≤◌}
use mathlib.Core.Path.{◌≡◌, refl, sym}
use mathlib.Core.Bool.{Bool, true, ◌&&◌}
use lib.Dec.{leb, eqb}
use borrow.Author.Tests.{eqb-true, eq-eqb, leb-true, le-leb}
use Rattle.std.proofs.lemmas.Bool.{and_parts}
use Rattle.nodes.specs.Arms.{Arm, over_arm}
use Rattle.checking.specs.Span.{same_arm, fits♯}

-- what has passed a test of three parts
pub three_parts : (a b c : Bool) → (a && b && c) ≡ true → (a ≡ true) × (b ≡ true) × (c ≡ true)
three_parts a b c e = let p = and_parts (a && b) c e in let q = and_parts a b p.0 in (q.0, q.1, p.1)

-- the test whether two arms are one
pub same_arm-equal : (a b : Arm) → same_arm a b ≡ true → a ≡ b
same_arm-equal a b e =
    let p = three_parts (eqb a.node b.node && eqb a.weight b.weight && eqb a.least b.least) (eqb a.greatest b.greatest) (eqb a.grades b.grades) e in
    let q = three_parts (eqb a.node b.node) (eqb a.weight b.weight) (eqb a.least b.least) p.0 in
    let n = eqb-true a.node b.node q.0 in
    let w = eqb-true a.weight b.weight q.1 in
    let lo = eqb-true a.least b.least q.2 in
    let hi = eqb-true a.greatest b.greatest p.1 in
    let g = eqb-true a.grades b.grades p.2 in
    λ i. record { node = n i; weight = w i; least = lo i; greatest = hi i; grades = g i }

pub arm_same : (a b : Arm) → a ≡ b → same_arm a b ≡ true
arm_same a b e =
    let p : (n : ℕ) → eqb n n ≡ true = λ n. eq-eqb n n refl in
    rw (← e, p a.node, p a.weight, p a.least, p a.greatest, p a.grades)

-- an inner node's arm is that over its children's arms, and it is balanced
pub record Fits (name : ℕ) (a l r : Arm) : Type 0 where
  pub weights : a.weight ≡ l.weight + r.weight
  pub even_left : l.weight + r.weight ≤ 4 * l.weight
  pub even_right : l.weight + r.weight ≤ 4 * r.weight
  pub over : a ≡ over_arm name l r

pub fits-sound : (name : ℕ) (a l r : Arm) → fits♯ name a l r ≡ true → Fits name a l r
fits-sound name a l r e =
    let w : ℕ = l.weight + r.weight in
    let p = three_parts (eqb w a.weight) (leb w (4 * l.weight) && leb w (4 * r.weight)) (same_arm a (over_arm name l r)) e in
    let q = and_parts (leb w (4 * l.weight)) (leb w (4 * r.weight)) p.1 in
    record {
      weights = sym (eqb-true w a.weight p.0);
      even_left = leb-true w (4 * l.weight) q.0;
      even_right = leb-true w (4 * r.weight) q.1;
      over = same_arm-equal a (over_arm name l r) p.2;
    }

pub fits-complete : (name : ℕ) (a l r : Arm) → Fits name a l r → fits♯ name a l r ≡ true
fits-complete name a l r h =
    let w : ℕ = l.weight + r.weight in
    rw (eq-eqb w a.weight (sym h.weights), le-leb w (4 * l.weight) h.even_left, le-leb w (4 * r.weight) h.even_right)
    (arm_same a (over_arm name l r) h.over)
