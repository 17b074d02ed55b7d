-- What the stores of straight-line code leave, word by word, is what the definitions of specs/ say. Assumes nothing.
use Prim.Native.Nat.{ℕ, suc, ◌+◌}
use mathlib.Core.Path.{◌≡◌}
use mathlib.Core.List.{List}
use native.Mathlib.Omega.{arith}
use lib.ListN.{set}
use Rattle.nodes.specs.Arms.{Arm, put_arm}

-- a sum of a place and a numeral, one by one
next : (at k : ℕ) → suc (at + k) ≡ at + suc k
next at k = omega arith

pub put_arm-stores : (xs : List ℕ) (at : ℕ) (a : Arm)
    → set (set (set (set (set xs at a.node) (at + 1) a.weight) (at + 2) a.least) (at + 3) a.greatest) (at + 4) a.grades ≡ put_arm xs at a
unfolding put_arm
put_arm-stores xs at a = let e : suc at ≡ at + 1 = omega arith in rw (e, next at 1, next at 2, next at 3)
