-- That the records of a kind of tree end where the kind says. Assumes nothing.
use Rattle.std.specs.Prelude.{ℕ, ◌+◌, ◌≤◌, ◌<◌}
use Rattle.std.proofs.Common.{arith}
use Rattle.table.specs.Layout.{record_width, main_place, record_place, runs_end, level_end}

pub main_before_end : (capacity name : ℕ) → name < capacity → main_place name + record_width ≤ runs_end capacity
main_before_end capacity name h = omega arith

pub level_before_end : (base capacity name : ℕ) → name < capacity → record_place base name + record_width ≤ level_end base capacity
level_before_end base capacity name h = omega arith
