-- Laws of a search's tally: a visit adds to both parts, and each part can be read off. Assumes nothing.
use Rattle.std.proofs.Common.{◌≡◌, ℕ, ◌+◌, ◌/◌, ◌%◌, ◌<◌, arith}
use Rattle.table.specs.Tally.{visited, pack}

pub visited-pack : (k v w : ℕ) → k + w < 4294967296 → v + 1 < 4294967296 → visited (pack k v) w ≡ pack (k + w) (v + 1)
unfolding visited
visited-pack k v w h i = omega arith

pub pack-visits : (k v : ℕ) → v < 4294967296 → pack k v % 4294967296 ≡ v
pack-visits k v h = omega arith

pub pack-found : (k v : ℕ) → v < 4294967296 → pack k v / 4294967296 ≡ k
pack-found k v h = omega arith
