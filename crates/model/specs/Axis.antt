-- Marks and boxes of any kind, and the axes along which marks are ordered. Document 01 asks that what main and auxiliary trees share is proved
-- for an order given as a parameter ("We agree"): an Axis is that parameter. Assumes nothing.
use Rattle.std.specs.Prelude.{ℕ, Bool, true, false, not, ◌&&◌, ◌||◌, List, [], ◌∷◌, ltb, eqb}

-- marks M and boxes B: when two marks are the same, and which marks a box holds
pub record Space (M B : Type 0) : Type 0 where
  pub same : M → M → Bool
  pub holds : B → M → Bool

-- what a tree goes by: the order of its marks, their coordinate, and whether a coordinate has reached the low end of the box's side, and has not
-- come to the high end
pub record Axis (M B : Type 0) : Type 0 where
  pub below : M → M → Bool
  pub at : M → ℕ
  pub from_low : B → ℕ → Bool
  pub to_high : B → ℕ → Bool

module _ {M B : Type 0} (A : Axis M B) (b : B) where
  -- a coordinate on the box's side
  abbrev pub on_side : ℕ → Bool
  on_side v = A.from_low b v && A.to_high b v

  -- "A node's cell runs from the least to the greatest x beneath it (y in an auxiliary)" (The search): a cell inside the box's side, and one clear of it. For
  -- the sheet's sides that is what R-2 says of a cell (proofs/Orders, inside-along_x, clear-along_x and along y).
  abbrev pub cell_inside : ℕ → ℕ → Bool
  cell_inside least greatest = A.from_low b least && A.to_high b greatest

  abbrev pub cell_clear : ℕ → ℕ → Bool
  cell_clear least greatest = not (A.from_low b greatest) || not (A.to_high b least)

module _ {M : Type 0} where
  -- the first key in which two marks differ decides
  abbrev pub lexicographic : List (M → ℕ) → M → M → Bool
  lexicographic [] a b = false
  lexicographic (k ∷ ks) a b = ltb (k a) (k b) || (eqb (k a) (k b) && lexicographic ks a b)

  -- no key differs
  abbrev pub equal_on : List (M → ℕ) → M → M → Bool
  equal_on [] a b = true
  equal_on (k ∷ ks) a b = eqb (k a) (k b) && equal_on ks a b
