-- `Mark::same` meets its contract: marks are the same where their places are one number and their tags are equal. Assumes nothing.
use mathlib.Core.Path.{ap, ◌∙◌}
use native.Mathlib.Omega.{arith}
use Rattle.geometry.specs.Values.{place}
use Rattle.geometry.proofs.Keys.{place_same}
use Rattle.geometry.proofs.Mark.same.Goals as goal

pub returns : goal.returns
returns c = let here = c.place.ensures ∙ ap place c.key.ensures in
    let there = c.place-2.ensures ∙ ap place c.key-2.ensures in
    rw (here, there) (place_same c.args.self c.args.other (omega (arith, c.well_formed.0)) (omega (arith, c.well_formed.1.0)))
