-- `put_marks` meets its contract. Assumes nothing.
use native.Mathlib.Omega.{arith}
use lib.ListN.{length-append}
use Rattle.table.specs.Marks.{list_mark, list_marks}
use Rattle.lines.specs.Responses.{mark_line, mark_lines}
use Rattle.lines.proofs.Responses.{mark_lines-more}
use Rattle.lines.proofs.Writing.{wrote_then}
use Rattle.lines.proofs.response.Responses.put_marks.Goals as goal

pub loop-i-preserved : goal.loop-i-preserved
loop-i-preserved c =
    let at = c.loop-i in
    let list = c.args.list.now in
    let more = rw c.listed.ensures at c.put_mark.ensures in (
      rw (← mark_lines-more list at.i) (wrote_then at.invariant.0 more.wrote),
      rw (← mark_lines-more list at.i)
          (omega (arith, length-append (mark_lines (list_marks list 0 at.i)) (mark_line (list_mark list at.i)), at.invariant.1, more.short)),
    )
