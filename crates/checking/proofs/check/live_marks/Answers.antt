use Rattle.std.proofs.Common.{◌∙◌, arith}
use Rattle.checking.proofs.Room.{slots-there}
use Rattle.checking.proofs.check.live_marks.Goals as goal

pub invariant_of-k : goal.invariant_of-k
invariant_of-k c =
    let h = c.in-Some.ensures in
    record { slots_there = omega (arith, h.capacity, slots-there c.args.t.now (λ z. h.some (h.words ∙ z))) }
