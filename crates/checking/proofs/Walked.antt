-- What a walk through a tree that ends well has met. Assumes nothing.
use Rattle.std.specs.Prelude.{if◌then◌else◌}
use Prim.Native.Nat.{ℕ, zero, suc, ◌+◌, ◌/◌, ◌%◌}
use mathlib.Core.Path.{◌≡◌}
use mathlib.Core.Bool.{Bool, true}
use mathlib.Core.List.{List}
use lib.Dec.{eqb}
use Rattle.model.specs.Axis.{Axis}
use Rattle.model.specs.Sheet.{Mark, Box}
use Rattle.model.specs.Tree.{Tree, leaf, node, weight, marks, least, greatest, Balanced}
use Rattle.model.specs.Slots.{slot_axis}
use Rattle.model.specs.Laws.{All, Sorted}
use Rattle.table.specs.Marks.{slot_mark}
use Rattle.nodes.specs.Arms.{Arm, Record, record_at}
use Rattle.nodes.specs.Holds.{Holds}
use Rattle.checking.specs.Span.{NodeTest}

module _ {I : Type 0} (next : ℕ → ℕ) where
  -- what is asked of the inner nodes of a tree whose root's level begins at base
  abbrev pub Tested : (ℕ → ℕ → ℕ → NodeTest) → ℕ → Tree ℕ I → Type 0
  Tested test base (leaf s) = Unit {0}
  Tested test base (node i l r) =
      (test base (least r) (weight l + weight r) (least l) (greatest r) ≡ true) × Tested test (next base) l × Tested test (next base) r

  -- what they carry, given the level and the name
  abbrev pub Carried : (ℕ → ℕ → Tree ℕ I → Tree ℕ I → I) → ℕ → Tree ℕ I → Type 0
  Carried carry base (leaf s) = Unit {0}
  Carried carry base (node i l r) = (i ≡ carry base (least r) l r) × Carried carry (next base) l × Carried carry (next base) r

module _ (A : Axis Mark Box) (place : ℕ → ℕ) (slot : ℕ → Bool) (next : ℕ → ℕ) (test : ℕ → ℕ → ℕ → NodeTest) (xs : List ℕ) where
  -- a tree that the walk passes; its nodes may carry anything
  pub record Walked {I : Type 0} (base : ℕ) (t : Tree ℕ I) : Type 0 where
    pub sorted : Sorted (slot_axis (slot_mark xs) A) (marks t)
    pub balanced : Balanced t
    pub slots : All (λ s. slot s ≡ true) (marks t)
    pub records : Holds A (slot_mark xs) place xs t
    pub tested : Tested next test base t

-- the tree that the words have beneath an arm, at most n deep
module _ {I : Type 0} (place next : ℕ → ℕ) (carry : ℕ → ℕ → Tree ℕ I → Tree ℕ I → I) (xs : List ℕ) where
  unfoldable pub read_tree : ℕ → ℕ → Arm → Tree ℕ I
  read_tree zero base a = leaf (a.node / 2)
  read_tree (suc n) base a =
      let name : ℕ = a.node / 2 in
      let p : Record = record_at xs (place name) in
      let l : Tree ℕ I = read_tree n (next base) p.left in
      let r : Tree ℕ I = read_tree n (next base) p.right in
      if eqb (a.node % 2) 0 then leaf name else node (carry base name l r) l r
