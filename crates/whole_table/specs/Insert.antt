-- The mirror of the insertion into a table. Assumes nothing.
use Rattle.std.specs.Prelude.{ℕ, List, leb, get_or, set, if◌then◌else◌}
use Rattle.model.specs.Sheet.{Mark}
use Rattle.table.specs.Layout.{capacity_place, live_place, slot_place, used_place}
use Rattle.table.specs.Limits.{damaged}
use Rattle.table.specs.Marks.{put_mark}
use Rattle.nodes.specs.Weights.{sum}
use Rattle.table.specs.After.{After, after}
use Rattle.primary_insert.specs.Insert.{main_insert♯}

-- the mark in its slot, and one live mark more
unfoldable pub entered : Mark → ℕ → ℕ → List ℕ → List ℕ
entered m s live xs = set (put_mark xs (slot_place s) m) live_place (sum live 1)

unfoldable pub insert_slot : Mark → ℕ → ℕ → ℕ → List ℕ → After ℕ
insert_slot m capacity live s xs = if leb capacity s then after damaged xs else main_insert♯ capacity m s (entered m s live xs)

unfoldable pub insert_live : Mark → ℕ → ℕ → List ℕ → After ℕ
insert_live m capacity live xs = insert_slot m capacity live (get_or xs (used_place capacity live) 0) xs

unfoldable pub table_insert♯ : Mark → List ℕ → After ℕ
table_insert♯ m xs = insert_live m (get_or xs capacity_place 0) (get_or xs live_place 0) xs
