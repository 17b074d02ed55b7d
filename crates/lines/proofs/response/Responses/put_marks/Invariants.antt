-- `put_marks` meets its contract. The loop keeps: the lines of the first i marks are written, at most 44 bytes each. Assumes nothing.
use Prim.Native.Nat.{◌*◌, ◌≤◌}
use lib.ListN.{length}
use Rattle.table.specs.Marks.{list_marks}
use Rattle.lines.specs.Responses.{mark_lines}
use Rattle.lines.specs.Writing.{Wrote}
use Rattle.lines.proofs.response.Responses.put_marks.Given as goal

abbrev pub invariant-loop-i : goal.invariant-loop-i
invariant-loop-i l =
    Wrote (mark_lines (list_marks l.list 0 l.i)) l.initial.self l.self
    × (length (mark_lines (list_marks l.list 0 l.i)) ≤ 44 * l.i)
