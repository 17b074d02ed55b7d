use Rattle.nodes.specs.Values.{arm_value}
use Rattle.nodes.proofs.Stores.{put_arm-stores}
use Rattle.nodes.proofs.arm.Arm.store.Goals as goal

pub returns : goal.returns
returns g c = let a = c.args in put_arm-stores a.t.now a.at (arm_value a.a)
