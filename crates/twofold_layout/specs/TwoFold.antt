-- What it is for the words of a table of capacity C to hold a two-fold tree over slots, where slot s has the mark f s: the main records, at each inner
-- node the arm of its auxiliary tree, and that tree's records in the level of the node's depth. Assumes nothing.
use Rattle.std.specs.Prelude.{ℕ, suc, ◌≡◌, List}
use Rattle.std.proofs.Math.Option.{some}
use Rattle.model.specs.Tree.{Tree, leaf, node, least}
use Rattle.model.specs.Sheet.{Mark, along_x, along_y}
use Rattle.table.specs.Layout.{main_place, auxiliary_place, level_place, record_place}
use Rattle.nodes.specs.Arms.{arm_at}
use Rattle.nodes.specs.Holds.{arm_of, Held}
use Rattle.twofold_layout.specs.Rules.{SlotAuxiliary, SlotMain}

module _ (f : ℕ → Mark) (C : ℕ) where
  -- the auxiliary tree of the main node of that name, at depth d
  pub record HoldsAuxiliary (d name : ℕ) (xs : List ℕ) (o : SlotAuxiliary) : Type 0 where
    pub tree : Tree ℕ (List ℕ)
    pub is : o ≡ some tree
    pub arm : arm_at xs (auxiliary_place name) ≡ arm_of along_y f tree
    pub held : Held along_y f (record_place (level_place C d)) C xs tree

  -- those of a tree whose root is at depth d
  abbrev pub HoldsAuxiliaries : ℕ → List ℕ → SlotMain → Type 0
  HoldsAuxiliaries d xs (leaf s) = Unit {0}
  HoldsAuxiliaries d xs (node i l r) = HoldsAuxiliary d (least r) xs i × HoldsAuxiliaries (suc d) xs l × HoldsAuxiliaries (suc d) xs r

  pub record TwoFold (d : ℕ) (xs : List ℕ) (t : SlotMain) : Type 0 where
    pub main : Held along_x f main_place C xs t
    pub auxiliaries : HoldsAuxiliaries d xs t
