-- What the code's arms, records and ways mean, of either kind of tree. Assumes nothing.
use Rattle.nodes.specs.Arms.{Arm, arm, Record, arms, Way, way}
use Rattle.nodes.specs.declared.arm.Arm as declared_arm
use Rattle.nodes.specs.declared.record.Record as declared_record
use Rattle.nodes.specs.declared.record.Way as declared_way

module _ {T : Type 0} where
  abbrev pub arm_value : declared_arm.Arm T → Arm
  arm_value a = arm a.node.0 a.weight a.least a.greatest a.grades

  abbrev pub record_value : declared_record.Record T → Record
  record_value p = arms (arm_value p.left) (arm_value p.right)

  abbrev pub way_value : declared_way.Way T → Way
  way_value v = way v.left (arm_value v.child) (arm_value v.sibling)
