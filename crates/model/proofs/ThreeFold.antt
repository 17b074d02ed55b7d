-- The three-fold register is an instance of the same laws: marks with a third coordinate z, ordered by z, x, y, tag, and within them two orders that
-- end with z; its visit bound. Assumes nothing.
use Prim.Native.Nat.{ℕ, ◌+◌, ◌*◌, ◌≤◌}
use mathlib.Core.Bool.{Bool, true, ◌&&◌}
use mathlib.Core.List.{List, [], ◌∷◌}
use mathlib.Core.Option.{Option}
use native.Mathlib.Omega.{arith}
use lib.Dec.{leb, ltb}
use Rattle.model.specs.Axis.{Space, Axis, on_side, lexicographic, equal_on}
use Rattle.model.specs.Register.{Register, innermost}
use Rattle.model.specs.Tree.{Tree}
use Rattle.model.specs.Fold.{fold}
use Rattle.model.specs.Sizes.{D}
use Rattle.model.specs.Laws.{SamenessLaws, AxisLaws, RegisterLaws}
use Rattle.model.proofs.Logic.{and_left, and_right}
use Rattle.model.proofs.Orders.{equal_on-agree, agree-equal_on, equal_on-laws, lexicographic-laws, leb-rises, ltb-falls}
use Rattle.model.proofs.Fold.{settled_with, fold_bound, innermost-laws, fold-laws}

record Mark : Type 0 where
  x : ℕ
  y : ℕ
  z : ℕ
  tag : ℕ

record Box : Type 0 where
  x1 : ℕ
  x2 : ℕ
  y1 : ℕ
  y2 : ℕ
  z1 : ℕ
  z2 : ℕ

-- an axis by keys, its first the coordinate, and a side of the box: "z1 ≤ z < z2" (R-13)
abbrev along : (Mark → ℕ) → List (Mark → ℕ) → (Box → ℕ) → (Box → ℕ) → Axis Mark Box
along k ks low high = record { below = lexicographic (k ∷ ks); at = k; from_low = λ b v. leb (low b) v; to_high = λ b v. ltb v (high b) }

abbrev along_z : Axis Mark Box
along_z = along (λ m. m.z) ((λ m. m.x) ∷ (λ m. m.y) ∷ (λ m. m.tag) ∷ []) (λ b. b.z1) (λ b. b.z2)

abbrev along_x : Axis Mark Box
along_x = along (λ m. m.x) ((λ m. m.y) ∷ (λ m. m.tag) ∷ (λ m. m.z) ∷ []) (λ b. b.x1) (λ b. b.x2)

abbrev along_y : Axis Mark Box
along_y = along (λ m. m.y) ((λ m. m.x) ∷ (λ m. m.tag) ∷ (λ m. m.z) ∷ []) (λ b. b.y1) (λ b. b.y2)

abbrev by_zxy_tag : List (Mark → ℕ)
by_zxy_tag = (λ m. m.z) ∷ (λ m. m.x) ∷ (λ m. m.y) ∷ (λ m. m.tag) ∷ []

abbrev laminate : Space Mark Box
laminate = record {
  same = equal_on by_zxy_tag;
  holds = λ b m. (on_side along_z b m.z && on_side along_x b m.x) && on_side along_y b m.y;
}

abbrev two : Register Mark Box (Option (Tree Mark (Option (Tree Mark (List Mark)))))
two = fold laminate along_x (fold laminate along_y (innermost laminate))

abbrev three : Register Mark Box (Option (Tree Mark (Option (Tree Mark (Option (Tree Mark (List Mark)))))))
three = fold laminate along_z two

laminate-sameness : SamenessLaws laminate
laminate-sameness = equal_on-laws by_zxy_tag laminate.holds

along_z-laws : AxisLaws laminate along_z
along_z-laws =
    lexicographic-laws laminate (λ m. m.z) ((λ m. m.x) ∷ (λ m. m.y) ∷ (λ m. m.tag) ∷ []) along_z.from_low along_z.to_high
    (equal_on-agree by_zxy_tag)
    (agree-equal_on by_zxy_tag)
    (λ b. leb-rises b.z1)
    (λ b. ltb-falls b.z2)
    (λ b m e. and_left (on_side along_z b m.z) (on_side along_x b m.x)
    (and_left (on_side along_z b m.z && on_side along_x b m.x) (on_side along_y b m.y) e))

along_x-laws : AxisLaws laminate along_x
along_x-laws =
    lexicographic-laws laminate (λ m. m.x) ((λ m. m.y) ∷ (λ m. m.tag) ∷ (λ m. m.z) ∷ []) along_x.from_low along_x.to_high
    (λ a b e. let g = equal_on-agree by_zxy_tag a b e in (g.1.0, (g.1.1.0, (g.1.1.1.0, (g.0, tt)))))
    (λ a b g. agree-equal_on by_zxy_tag a b (g.1.1.1.0, (g.0, (g.1.0, (g.1.1.0, tt)))))
    (λ b. leb-rises b.x1)
    (λ b. ltb-falls b.x2)
    (λ b m e. and_right (on_side along_z b m.z) (on_side along_x b m.x)
    (and_left (on_side along_z b m.z && on_side along_x b m.x) (on_side along_y b m.y) e))

along_y-laws : AxisLaws laminate along_y
along_y-laws =
    lexicographic-laws laminate (λ m. m.y) ((λ m. m.x) ∷ (λ m. m.tag) ∷ (λ m. m.z) ∷ []) along_y.from_low along_y.to_high
    (λ a b e. let g = equal_on-agree by_zxy_tag a b e in (g.1.1.0, (g.1.0, (g.1.1.1.0, (g.0, tt)))))
    (λ a b g. agree-equal_on by_zxy_tag a b (g.1.1.1.0, (g.1.0, (g.0, (g.1.1.0, tt)))))
    (λ b. leb-rises b.y1)
    (λ b. ltb-falls b.y2)
    (λ b m e. and_right (on_side along_z b m.z && on_side along_x b m.x) (on_side along_y b m.y) e)

abbrev unsettled : Box → Mark → Bool
unsettled b m = true

pub three-fold-laws : RegisterLaws laminate three unsettled (fold_bound (fold_bound (fold_bound (λ n. 0))))
three-fold-laws =
    fold-laws laminate laminate-sameness along_z along_z-laws two unsettled (fold_bound (fold_bound (λ n. 0)))
    (fold-laws laminate laminate-sameness along_x along_x-laws (fold laminate along_y (innermost laminate)) (settled_with along_z unsettled)
    (fold_bound (λ n. 0))
    (fold-laws laminate laminate-sameness along_y along_y-laws (innermost laminate) (settled_with along_x (settled_with along_z unsettled)) (λ n. 0)
    (innermost-laws laminate (settled_with along_y (settled_with along_x (settled_with along_z unsettled))) (λ b m e. e))))

pub three-fold-bound : (n : ℕ) → fold_bound (fold_bound (fold_bound (λ n. 0))) n ≤ (4 * D n + 1) * (2 * D n + 1) * (2 * D n + 1)
three-fold-bound n = omega arith
