-- `feed_some` meets its contract. The loop keeps: the bytes before the place are fed, their text is what is gathered, none of it left out, and the lent runs
-- are the same. Assumes nothing.
use Prim.Native.Nat.{◌+◌, ◌*◌, ◌≤◌}
use mathlib.Core.Path.{◌≡◌}
use lib.ListN.{length, take}
use Rattle.lines.specs.Writing.{text_in}
use Rattle.dialogue.specs.Dialogue.{FedAll}
use Rattle.dialogue.specs.Values.{held_by, Keeps}
use Rattle.dialogue.proofs.dialogue.Dialogue.feed_some.Given as goal

abbrev pub invariant-loop-used : goal.invariant-loop-used
invariant-loop-used l =
    (l.longest ≡ 46 + 11 * length l.self.first.now) ×
    Keeps l.initial.self l.self ×
    (l.used ≡ 0 → l.self.responses.len ≡ 0) ×
    (l.self.responses.len ≤ length l.self.responses.bytes.now) ×
    FedAll (held_by l.initial.self) (take l.used l.chunk) (held_by l.self) (text_in l.self.responses)
