-- The tree along an axis, each inner node carrying a register of the marks beneath (document 01, "The tree"). Assumes nothing.
use Rattle.std.specs.Prelude.{ℕ, zero, suc, ◌+◌, ◌*◌, ◌/◌, max, ◌≤◌, Bool}
use Rattle.std.specs.Prelude.{◌&&◌, List, [], ◌∷◌, ◌++◌, leb, length, take, drop, if◌then◌else◌}
use Rattle.std.proofs.Math.Option.{Option, none, some}
use Rattle.model.specs.Axis.{Axis}
use Rattle.model.specs.Register.{Register}

-- "Marks stand in leaves": a node has what it carries, its left and its right child
pub data Tree (M I : Type 0) : Type 0 where
  leaf : M → Tree M I
  node : I → Tree M I → Tree M I → Tree M I

module _ {M I : Type 0} where
  -- "Weight of a node: the leaves beneath it, 1 for a leaf."
  abbrev pub weight : Tree M I → ℕ
  weight (leaf m) = 1
  weight (node i l r) = weight l + weight r

  abbrev pub depth : Tree M I → ℕ
  depth (leaf m) = 0
  depth (node i l r) = suc (max (depth l) (depth r))

  abbrev pub marks : Tree M I → List M
  marks (leaf m) = m ∷ []
  marks (node i l r) = marks l ++ marks r

  abbrev pub marks_of : Option (Tree M I) → List M
  marks_of none = []
  marks_of (some t) = marks t

  abbrev pub least : Tree M I → M
  least (leaf m) = m
  least (node i l r) = least l

  abbrev pub greatest : Tree M I → M
  greatest (leaf m) = m
  greatest (node i l r) = greatest r

  -- "Balanced: 4 × each child's weight ≥ the node's weight": of the node over l and r, as a test
  abbrev pub evenly : Tree M I → Tree M I → Bool
  evenly l r = leb (weight l + weight r) (4 * weight l) && leb (weight l + weight r) (4 * weight r)

  -- and of every node of a tree
  abbrev pub Balanced : Tree M I → Type 0
  Balanced (leaf m) = Unit {0}
  Balanced (node i l r) = (weight l + weight r ≤ 4 * weight l) × (weight l + weight r ≤ 4 * weight r) × Balanced l × Balanced r

  -- a node whose left, or whose right, child may be gone: "its sibling takes the parent's place"
  abbrev pub with_left : I → Option (Tree M I) → Tree M I → Tree M I
  with_left i none r = r
  with_left i (some l) r = node i l r

  abbrev pub with_right : I → Tree M I → Option (Tree M I) → Tree M I
  with_right i l none = l
  with_right i l (some r) = node i l r

module _ {M B I : Type 0} (A : Axis M B) (R : Register M B I) where
  -- "Build from w ordered marks: one leaf for w = 1; else the first ⌊w/2⌋ go left." The number is at least the run's length, and d stands for the
  -- mark of an empty run, which never comes.
  abbrev pub build_from : M → ℕ → List M → Tree M I
  build_from d zero l = leaf d
  build_from d (suc n) [] = leaf d
  build_from d (suc n) (m ∷ []) = leaf m
  build_from d (suc n) (m ∷ q ∷ l) =
      let run = m ∷ q ∷ l in
      let half = length run / 2 in
      node (R.build run) (build_from d n (take half run)) (build_from d n (drop half run))

  abbrev pub build : M → List M → Tree M I
  build d l = build_from d (length l) l

  -- "Insert: at an inner node go left if the mark is below the right child's least, else right. At a leaf, make a node of the two, the smaller left."
  -- "Every auxiliary on the path is updated by the same rules."
  abbrev pub insert_leaf : M → Tree M I → Tree M I
  insert_leaf m (leaf q) =
      let i = R.insert m (R.build (q ∷ [])) in
      if A.below m q then node i (leaf m) (leaf q) else node i (leaf q) (leaf m)
  insert_leaf m (node i l r) =
      if A.below m (least r) then node (R.insert m i) (insert_leaf m l) r else node (R.insert m i) l (insert_leaf m r)

  -- "Strike: remove the leaf; its sibling takes the parent's place. Striking a lone leaf leaves no tree." The way down leads to the mark's own leaf
  -- where the tree has the mark, and only such marks are struck (proofs/Tree, strike-marks).
  abbrev pub strike_leaf : M → Tree M I → Option (Tree M I)
  strike_leaf m (leaf q) = none
  strike_leaf m (node i l r) =
      some (if A.below m (least r) then with_left (R.strike m i) (strike_leaf m l) r else with_right (R.strike m i) l (strike_leaf m r))

  -- "Then the unbalanced node nearest the root, if any, is built afresh, with its own auxiliary and all those beneath it": each unbalanced node that
  -- has none above it. After an update there is at most one, and it is the one nearest the root (proofs/Rebalance, insert-nearest, strike-nearest).
  abbrev pub rebalance : Tree M I → Tree M I
  rebalance (leaf m) = leaf m
  rebalance (node i l r) = if evenly l r then node i (rebalance l) (rebalance r) else build (least l) (marks l ++ marks r)

-- "An update's figure 'rebuilt' is the weight of the main node built afresh, or 0."
abbrev pub rebuilt : {M I : Type 0} → Tree M I → ℕ
rebuilt (leaf m) = 0
rebuilt (node i l r) = if evenly l r then rebuilt l + rebuilt r else weight l + weight r
