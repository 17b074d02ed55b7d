-- The loop keeps: freeing the slots below s in t is freeing all of them in t₀.
use Rattle.std.proofs.Common.{◌≡◌}
use Rattle.whole_table.specs.Empty.{free_slots♯}
use Rattle.whole_table.proofs.empty.free_slots.Given as goal

abbrev pub invariant-loop-s : goal.invariant-loop-s
invariant-loop-s l = free_slots♯ l.s l.capacity l.t ≡ free_slots♯ l.capacity l.capacity l.initial.t
