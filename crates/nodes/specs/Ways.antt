-- The way of a mark at the inner node of a name, along any axis: left where it is below the mark of the slot that names the node. Assumes nothing.
use Rattle.std.specs.Prelude.{ℕ, List}
use Rattle.model.specs.Axis.{Axis}
use Rattle.model.specs.Sheet.{Mark, Box}
use Rattle.table.specs.Marks.{slot_mark}
use Rattle.nodes.specs.Arms.{Way, way_of, record_at}

unfoldable pub way_at : Axis Mark Box → (ℕ → ℕ) → Mark → ℕ → List ℕ → Way
way_at A place m name xs = way_of (record_at xs (place name)) (A.below m (slot_mark xs name))
