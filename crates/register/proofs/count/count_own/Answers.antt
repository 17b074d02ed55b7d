-- `count_own` meets its contract: the visits and the marks of the tally are tested before they are told. Assumes nothing.
use Rattle.register.proofs.Branches.{count-read}
use borrow.Author.Tests.{lt-ltb, le-ltb}
use Rattle.register.specs.Mirrors.{count_own♯, tallied}
use Rattle.register.proofs.count.count_own.Goals as goal
use Rattle.register.proofs.count.count_own.Goals.{then-own-visits-via-then-own-visits, then-own-visits-via-else-own-visits+then-own-marks}

pub returns-then-own-visits : goal.returns-then-own-visits
unfolding count_own♯ tallied
returns-then-own-visits c =
    let t = count-read _ _ c.requires.capacity.0 _ _ c.count-tally.ensures in
    elim c.then-own-visits.branch [
      | then-own-visits-via-then-own-visits w ↦ rw (← t, ← c.visits-visits.ensures, lt-ltb _ _ w.if-own-visits.true)
      | then-own-visits-via-else-own-visits+then-own-marks w ↦
          rw (
            ← t,
            ← c.visits-visits.ensures,
            le-ltb _ _ w.if-own-visits.false,
            ← c.found-marks.ensures,
            ← c.requires.live,
            lt-ltb _ _ w.if-own-marks.true,
          )
    ]

pub returns : goal.returns
unfolding count_own♯ tallied
returns c =
    rw (
      ← count-read _ _ c.requires.capacity.0 _ _ c.count-tally.ensures,
      ← c.visits-visits.ensures,
      le-ltb _ _ c.if-own-visits.false,
      ← c.found-marks.ensures,
      ← c.requires.live,
      le-ltb _ _ c.if-own-marks.false,
      ← c.grades-grades.ensures,
      ← c.sum.ensures,
      ← c.worst.ensures,
    )
