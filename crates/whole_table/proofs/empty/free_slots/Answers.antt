-- `free_slots` meets its contract.
use Rattle.std.proofs.Common.{arith}
use Rattle.whole_table.specs.Empty.{own_place, free_slots♯-zero, free_slots♯-suc}
use Rattle.whole_table.proofs.empty.free_slots.Goals as goal

pub loop-s-preserved : goal.loop-s-preserved
unfolding own_place
loop-s-preserved c = rw (← c.loop-s.invariant, free_slots♯-suc c.loop-s.s (λ e. omega arith), ← c.put.ensures, ← c.put-in-loop-s.ensures)

pub returns : goal.returns
returns c = rw (← c.loop-s.invariant, free_slots♯-zero c.loop-s.s (omega arith))
