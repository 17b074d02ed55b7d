-- Where the level of the main tree's root begins, and the next after one that begins at `base`. Assumes nothing.
use Rattle.std.specs.Prelude.{ℕ, ◌+◌, ◌*◌, ◌%◌}
use Rattle.table.specs.Layout.{header_width, beside_width, level_width}

unfoldable pub top_level : ℕ → ℕ
top_level capacity = (header_width + beside_width * capacity) % 4294967296

unfoldable pub deeper : ℕ → ℕ → ℕ
deeper base capacity = (base + level_width * capacity) % 4294967296
