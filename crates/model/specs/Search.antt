-- The search of a box in a tree, counting and listing, with its visits (document 01, "The search and its visits"). Assumes nothing.
use Rattle.std.specs.Prelude.{◌+◌, Bool, [], ◌∷◌, ◌++◌, if◌then◌else◌}
use Rattle.model.specs.Lists.{filter_by}
use Rattle.model.specs.Totals.{figure_if}
use Rattle.model.specs.Axis.{Space, Axis, cell_inside, cell_clear}
use Rattle.model.specs.Register.{Found, Listed, Register}
use Rattle.model.specs.Tree.{Tree, leaf, node, least, greatest}

-- a node's cell against the box's side
module _ {M B I : Type 0} (A : Axis M B) (b : B) where
  abbrev pub inside : Tree M I → Bool
  inside t = cell_inside A b (A.at (least t)) (A.at (greatest t))

  abbrev pub clear : Tree M I → Bool
  clear t = cell_clear A b (A.at (least t)) (A.at (greatest t))

-- "Each arrival at a node is one visit."
abbrev pub arrive : {M : Type 0} → Found M → Found M
arrive f = record { found = f.found; visits = f.visits + 1 }

abbrev pub together : {M : Type 0} → Found M → Found M → Found M
together f g = record { found = λ P. P.join (f.found P) (g.found P); visits = f.visits + g.visits }

-- a node that adds nothing
abbrev pub nothing : {M : Type 0} → Found M
nothing = record { found = λ P. 0; visits = 1 }

abbrev pub arrive_listing : {M : Type 0} → Listed M → Listed M
arrive_listing f = record { marks = f.marks; visits = f.visits + 1 }

abbrev pub joined : {M : Type 0} → Listed M → Listed M → Listed M
joined f g = record { marks = f.marks ++ g.marks; visits = f.visits + g.visits }

module _ {M B I : Type 0} (S : Space M B) (A : Axis M B) (R : Register M B I) where
  -- "a leaf counts 1 if the box holds its mark; a cell inside the box's side hands over to the auxiliary's root, or in an auxiliary adds the weight;
  -- a cell clear of the side adds 0; else left, then right". Under another operation than counting the mark adds its own figure, and the cell what its
  -- marks come to.
  abbrev pub search : B → Tree M I → Found M
  search b (leaf m) = record { found = λ P. figure_if P (S.holds b) m; visits = 1 }
  search b (node i l r) =
      if inside A b (node i l r) then arrive (R.count b i)
      else (if clear A b (node i l r) then nothing
      else arrive (together (search b l) (search b r)))

  -- "Listing searches likewise, and walks every node beneath an auxiliary node whose cell is inside, one visit each."
  abbrev pub search_list : B → Tree M I → Listed M
  search_list b (leaf m) = record { marks = filter_by (S.holds b) (m ∷ []); visits = 1 }
  search_list b (node i l r) =
      if inside A b (node i l r) then arrive_listing (R.list b i)
      else (if clear A b (node i l r) then record { marks = []; visits = 1 }
      else arrive_listing (joined (search_list b l) (search_list b r)))
