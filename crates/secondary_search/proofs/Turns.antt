-- What a loop `for turn in 0..n` knows of the turns that are left. Assumes nothing.
use Rattle.std.proofs.Common.{◌≡◌, ℕ, ◌+◌, ◌-◌, ◌<◌, ◌≤◌, arith}

pub some-left : (n turn : ℕ) → turn < n → n - turn ≡ 0 → ⊥
some-left n turn h e = omega arith

pub none-left : (n turn : ℕ) → n ≤ turn → n - turn ≡ 0
none-left n turn h = omega arith

pub one-less : (n turn : ℕ) → n - turn - 1 ≡ n - (turn + 1)
one-less n turn = omega arith
