-- What is left where no tree is put in the place of damage. Assumes nothing.
use mathlib.Core.Path.{◌≡◌}
use Rattle.std.specs.Prelude.{Result, Ok, Err}
use Rattle.std.specs.Result.{result_unwrap_or}
use Rattle.table.specs.declared.damage.Damaged.{Damaged}
use Rattle.nodes.specs.Arms.{no_arm}
use Rattle.nodes.specs.Values.{arm_value}
use Rattle.nodes.specs.declared.arm.Arm.{Arm}
use Rattle.secondary_build.specs.Values.{rebuilt_arm}
use Rattle.secondary_update.specs.Values.{struck_value, strike_outcome}
use Rattle.secondary_update.specs.declared.walk.Struck.{Struck}

module _ {T : Type 0} where
  pub outcome_unwrap_or : (u : Result (Struck T) Damaged) (v : Struck T) (a : Arm T) → arm_value a ≡ no_arm
      → v ≡ result_unwrap_or u (record { arm = a; rebuilt = 0; first = 0 }) → strike_outcome u ≡ struck_value v
  outcome_unwrap_or (Ok u) v a none e = rw e
  outcome_unwrap_or (Err x) v a none e = rw (e, none)

  pub rebuilt_unwrap_or : (r : Result (Arm T) Damaged) (b a : Arm T) → arm_value a ≡ no_arm → b ≡ result_unwrap_or r a → rebuilt_arm r ≡ arm_value b
  rebuilt_unwrap_or (Ok x) b a none e = rw e
  rebuilt_unwrap_or (Err x) b a none e = rw (e, none)
