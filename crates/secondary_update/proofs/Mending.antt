-- What an update leaves of the model's tree, with and without mending. Assumes nothing.
use Prim.Native.Nat.{ℕ}
use mathlib.Core.Bool.{Bool, true, false}
use Rattle.model.specs.Axis.{Axis}
use Rattle.model.specs.Register.{Register}
use Rattle.model.specs.Tree.{Tree, Balanced, rebalance, rebuilt}

module _ {M B I : Type 0} (A : Axis M B) (R : Register M B I) where
  abbrev pub mended : Bool → Tree M I → Tree M I
  mended true t = rebalance A R t
  mended false t = t

-- the weight of the node built afresh, or 0
abbrev pub figure : {M I : Type 0} → Bool → Tree M I → ℕ
figure true t = rebuilt t
figure false t = 0

-- mending is asked of a balanced tree only
abbrev pub MayMend : {M I : Type 0} → Bool → Tree M I → Type 0
MayMend true t = Balanced t
MayMend false t = Unit {0}
