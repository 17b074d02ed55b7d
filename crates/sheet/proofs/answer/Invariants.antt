-- `answer` meets its contract. The loop keeps: the bytes before `at` have been fed. What falls: the bytes left. Assumes nothing.
use Prim.Native.Nat.{◌-◌, ◌≤◌}
use lib.ListN.{length, take}
use Rattle.dialogue.specs.Dialogue.{FedThrough}
use Rattle.dialogue.specs.Values.{held_by}
use Rattle.sheet.proofs.answer.Given as goal

abbrev pub invariant-loop-at : goal.invariant-loop-at
invariant-loop-at g l = (l.at ≤ length l.chunk) × FedThrough (held_by l.initial.dialogue) (take l.at l.chunk) (held_by l.dialogue)

abbrev pub decreases-loop-at : goal.decreases-loop-at
decreases-loop-at g l = length l.chunk - l.at
