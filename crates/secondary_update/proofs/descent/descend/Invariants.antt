-- The loop keeps: as many words; the tree and the most that is built afresh are those of the beginning; the arm at the word `at` is there; the insertion that
-- is left, from here and `at` on with the turns that are left, is the whole one.
use Rattle.std.proofs.Common.{◌≡◌, ◌+◌, ◌-◌, ◌<◌, ◌≤◌, ◌^◌, length}
use Rattle.geometry.specs.Values.{mark_value}
use Rattle.table.specs.Layout.{arm_width}
use Rattle.table.specs.Limits.{deepest}
use Rattle.secondary_update.proofs.descent.descend.Given as goal

abbrev pub invariant-loop-turn : goal.invariant-loop-turn
invariant-loop-turn g l = record {
  long : length l.t ≡ length l.initial.t;
  tree : g.I.Insertion.tree l.here ≡ l.tree;
  most : g.I.Insertion.most l.here ≡ g.I.Insertion.most l.initial.here;
  small : l.at < 2 ^ 40;
  there : l.at + arm_width ≤ length l.initial.t;
  rest : g.I.Insertion.rest l.here (mark_value l.m) l.s (deepest - l.turn) l.at l.t
      ≡ g.I.Insertion.rest l.initial.here (mark_value l.m) l.s (deepest - l.first) l.initial.at l.initial.t;
}
