-- What a strike gives: the tree's arm, the weight of the node built afresh, or 0, and the least slot left, where the least was struck. Assumes nothing.
use Rattle.std.specs.Prelude.{ℕ}
use Rattle.nodes.specs.Arms.{Arm, no_arm}

pub record Strike : Type 0 where
  pub arm : Arm
  pub rebuilt : ℕ
  pub first : ℕ

abbrev pub strike : Arm → ℕ → ℕ → Strike
strike a n s = record { arm = a; rebuilt = n; first = s }

unfoldable pub strike_of : Arm → ℕ → ℕ → Strike
strike_of a n s = strike a n s

abbrev pub no_strike : Strike
no_strike = strike no_arm 0 0
