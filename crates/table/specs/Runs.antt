-- Words taken for slots of a table of a capacity. Assumes nothing.
use Rattle.std.specs.Prelude.{ℕ, List, nat_lt, slice_index, if◌then◌else◌}
use Rattle.table.specs.Layout.{run_place}

-- a word that is no slot of the table is taken for slot 0
unfoldable pub as_slot : ℕ → ℕ → ℕ
as_slot capacity s = if nat_lt s capacity then s else 0

-- the slot that run A has at a place
unfoldable pub run_slot : ℕ → ℕ → List ℕ → ℕ
run_slot capacity i xs = as_slot capacity (slice_index xs (run_place capacity i))
