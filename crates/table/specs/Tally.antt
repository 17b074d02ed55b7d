-- A listing's tally: 2^32 times the marks found, and the visits. Assumes nothing.
use Rattle.std.specs.Prelude.{ℕ, ◌+◌, ◌*◌, ◌%◌, ◌^◌}

-- one visit more, with w marks
unfoldable pub visited : ℕ → ℕ → ℕ
visited tally w = (tally + (4294967296 * w + 1)) % 2 ^ 64

-- the tally of k marks and v visits
abbrev pub pack : ℕ → ℕ → ℕ
pack k v = 4294967296 * k + v
