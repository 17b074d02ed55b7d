-- A slot of the table is taken for itself; so where run A has one at a place, that is the slot read there. Assumes nothing.
use Rattle.std.proofs.Common.{◌≡◌, ℕ, ◌<◌, List, get_or, lt-ltb}
use Rattle.table.specs.Layout.{run_place}
use Rattle.table.specs.Runs.{as_slot, run_slot}

pub as_slot-is : (C s : ℕ) → s < C → as_slot C s ≡ s
unfolding as_slot
as_slot-is C s h = rw (lt-ltb s C h)

pub run_slot-is : (C i s : ℕ) (xs : List ℕ) → get_or xs (run_place C i) 0 ≡ s → s < C → run_slot C i xs ≡ s
unfolding run_slot
run_slot-is C i s xs e h = rw (e, as_slot-is C s h)
