-- What a loop knows of the turns it has left, counted down or as those of a `for`. Assumes nothing.
use Rattle.std.proofs.Common.{◌≡◌, ℕ, suc, ◌-◌, ◌<◌, ◌≤◌, arith}

pub positive : (n : ℕ) → 0 < n → n ≡ 0 → ⊥
positive n h e = omega arith

pub nothing : (n : ℕ) → n ≤ 0 → n ≡ 0
nothing n h = omega arith

-- in the turn `turn` of n, the turns left are one more than in the next
pub turns-next : (n turn : ℕ) → turn < n → n - turn ≡ suc (n - suc turn)
turns-next n turn h = omega arith
