-- A two-fold tree over slots by the rules of document 01, "The tree", where slot s has the mark f s. Assumes nothing.
use Rattle.std.specs.Prelude.{ℕ, ◌≡◌, List, ◌++◌, map}
use Rattle.std.proofs.Math.Option
use Rattle.std.proofs.Math.Option.{Option, some}
use Rattle.model.specs.Register.{Register, innermost}
use Rattle.model.specs.Tree.{Tree, leaf, node, marks, Balanced}
use Rattle.model.specs.Fold.{fold}
use Rattle.model.specs.Sheet.{Mark, Box, sheet, along_x, along_y, Main}
use Rattle.model.specs.Slots.{slot_space, slot_axis, map_tree}
use Rattle.model.specs.Laws.{SameBag, Sorted}
use Rattle.nodes.specs.Holds.{CarriesBag}

-- what an inner main node carries, and the main tree
abbrev pub SlotAuxiliary : Type 0
SlotAuxiliary = Option (Tree ℕ (List ℕ))

abbrev pub SlotMain : Type 0
SlotMain = Tree ℕ SlotAuxiliary

module _ (f : ℕ → Mark) where
  -- the model's registers over slots
  abbrev pub slot_auxiliary : Register ℕ Box SlotAuxiliary
  slot_auxiliary = fold (slot_space f sheet) (slot_axis f along_y) (innermost (slot_space f sheet))

  abbrev pub slot_main : Register ℕ Box (Option SlotMain)
  slot_main = fold (slot_space f sheet) (slot_axis f along_x) slot_auxiliary

  -- "Each inner main node has an auxiliary tree of exactly the marks beneath it", ordered by y, x, tag and balanced
  pub record AuxiliaryOf (l : List ℕ) (o : SlotAuxiliary) : Type 0 where
    pub tree : Tree ℕ (List ℕ)
    pub is : o ≡ some tree
    pub bag : SameBag (marks tree) l
    pub sorted : Sorted (slot_axis f along_y) (marks tree)
    pub balanced : Balanced tree
    pub carries : CarriesBag tree

  abbrev pub AuxiliariesOf : SlotMain → Type 0
  AuxiliariesOf (leaf s) = Unit {0}
  AuxiliariesOf (node i l r) = AuxiliaryOf (marks l ++ marks r) i × AuxiliariesOf l × AuxiliariesOf r

  -- "The main tree orders marks by x, y, tag"; "every main and auxiliary node is balanced". The order is strict, so no mark stands twice.
  pub record ByRules (t : SlotMain) : Type 0 where
    pub sorted : Sorted (slot_axis f along_x) (marks t)
    pub balanced : Balanced t
    pub auxiliaries : AuxiliariesOf t

  -- the tree over marks that a tree over slots stands for
  abbrev pub marks_main : Option SlotMain → Main
  marks_main = Option.map (map_tree f (Option.map (map_tree f (map f))))
