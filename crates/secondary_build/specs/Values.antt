-- What the code's answers mean. Assumes nothing.
use Rattle.std.specs.Prelude.{Result, Ok, Err}
use Rattle.table.specs.declared.damage.Damaged.{Damaged}
use Rattle.nodes.specs.Arms.{Arm, no_arm}
use Rattle.nodes.specs.declared.arm.Arm as declared_arm
use Rattle.nodes.specs.Values.{arm_value}

-- the tree built, or no tree on words that hold none
abbrev pub rebuilt_arm : {T : Type 0} → Result (declared_arm.Arm T) Damaged → Arm
rebuilt_arm (Ok a) = arm_value a
rebuilt_arm (Err _) = no_arm
