-- Marks and boxes on a glass sheet, their two orders and the two-fold register (document 01, "Marks, boxes, tables" and "The tree"). Assumes nothing.
use Rattle.std.specs.Prelude.{ℕ, ◌+◌, max, Bool, ◌&&◌, ◌||◌, List, [], ◌∷◌, leb, ltb}
use Rattle.std.proofs.Math.Option.{Option}
use Rattle.model.specs.Totals.{Operation}
use Rattle.model.specs.Axis.{Space, Axis, lexicographic, equal_on}
use Rattle.model.specs.Register.{Register, innermost}
use Rattle.model.specs.Tree.{Tree}
use Rattle.model.specs.Fold.{fold}

-- "A mark is x, y, tag.", with a grade (R-1)
pub record Mark : Type 0 where
  pub x : ℕ
  pub y : ℕ
  pub tag : ℕ
  pub grade : ℕ

-- "A box is x1, x2, y1, y2"
pub record Box : Type 0 where
  pub x1 : ℕ
  pub x2 : ℕ
  pub y1 : ℕ
  pub y2 : ℕ

abbrev pub mark : ℕ → ℕ → ℕ → ℕ → Mark
mark a b c g = record { x = a; y = b; tag = c; grade = g }

abbrev pub box : ℕ → ℕ → ℕ → ℕ → Box
box a b c d = record { x1 = a; x2 = b; y1 = c; y2 = d }

-- "x and y count hundredths of a millimetre, 0 to 999,999."
abbrev pub largest_coordinate : ℕ
largest_coordinate = 999999

unfoldable pub mark_outside : Mark → Bool
mark_outside m = ltb largest_coordinate m.x || ltb largest_coordinate m.y

-- "The camera now grades each mark 1 to 100" (R-1)
unfoldable pub grade_outside : Mark → Bool
grade_outside m = ltb m.grade 1 || ltb 100 m.grade

-- "the sum of grades and the worst grade in a pane": "Worst is the greatest grade, 0 for an empty box."
abbrev pub summing : Operation Mark
summing = record { of = λ m. m.grade; join = ◌+◌ }

abbrev pub worst : Operation Mark
worst = record { of = λ m. m.grade; join = max }

-- "any words with x1 ≤ x2 and y1 ≤ y2": a box whose sides are the wrong way round. "A box with x1 = x2 is empty and accepted" (R-2).
unfoldable pub box_crossed : Box → Bool
box_crossed b = ltb b.x2 b.x1 || ltb b.y2 b.y1

-- "The main tree orders marks by x, y, tag; an auxiliary tree by y, x, tag."
abbrev pub by_xy_tag : List (Mark → ℕ)
by_xy_tag = (λ m. m.x) ∷ (λ m. m.y) ∷ (λ m. m.tag) ∷ []

abbrev pub by_yx_tag : List (Mark → ℕ)
by_yx_tag = (λ m. m.y) ∷ (λ m. m.x) ∷ (λ m. m.tag) ∷ []

unfoldable pub below_x : Mark → Mark → Bool
below_x = lexicographic by_xy_tag

unfoldable pub below_y : Mark → Mark → Bool
below_y = lexicographic by_yx_tag

-- "Two marks are the same only if all three agree.": "The grade is no part of a mark's sameness" (R-1)
unfoldable pub same : Mark → Mark → Bool
same = equal_on by_xy_tag

-- "a box now holds x1 ≤ x < x2 and y1 ≤ y < y2" (R-2), end by end
unfoldable pub from_x1 : Box → ℕ → Bool
from_x1 b v = leb b.x1 v

unfoldable pub to_x2 : Box → ℕ → Bool
to_x2 b v = ltb v b.x2

unfoldable pub from_y1 : Box → ℕ → Bool
from_y1 b v = leb b.y1 v

unfoldable pub to_y2 : Box → ℕ → Bool
to_y2 b v = ltb v b.y2

unfoldable pub holds : Box → Mark → Bool
holds b m = (from_x1 b m.x && to_x2 b m.x) && (from_y1 b m.y && to_y2 b m.y)

abbrev pub sheet : Space Mark Box
sheet = record { same = same; holds = holds }

abbrev pub along_x : Axis Mark Box
along_x = record { below = below_x; at = λ m. m.x; from_low = from_x1; to_high = to_x2 }

abbrev pub along_y : Axis Mark Box
along_y = record { below = below_y; at = λ m. m.y; from_low = from_y1; to_high = to_y2 }

-- "Each inner main node has an auxiliary tree of exactly the marks beneath it; a leaf has none."
abbrev pub Auxiliary : Type 0
Auxiliary = Option (Tree Mark (List Mark))

abbrev pub auxiliary : Register Mark Box Auxiliary
auxiliary = fold sheet along_y (innermost sheet)

abbrev pub Main : Type 0
Main = Option (Tree Mark Auxiliary)

abbrev pub main : Register Mark Box Main
main = fold sheet along_x auxiliary
