-- The mirror of the strike from a table. Assumes nothing.
use Rattle.std.specs.Prelude.{ℕ, ◌-◌, List, get_or, set}
use Rattle.table.specs.Layout.{capacity_place, live_place, used_place, place_place}
use Rattle.table.specs.Marks.{slot_mark}
use Rattle.table.specs.After.{After, after}
use Rattle.primary_strike.specs.Strike.{main_strike♯}

-- the slot at place i of `used` is k, and that at `last` is s
unfoldable pub exchanged : ℕ → ℕ → ℕ → ℕ → ℕ → List ℕ → List ℕ
exchanged capacity i k last s xs =
    set (set (set (set xs (used_place capacity i) k) (place_place capacity k) i) (used_place capacity last) s) (place_place capacity s) last

unfoldable pub free_within : ℕ → ℕ → ℕ → List ℕ → List ℕ
free_within capacity last s xs =
    set (exchanged capacity (get_or xs (place_place capacity s) 0) (get_or xs (used_place capacity last) 0) last s xs) live_place last

unfoldable pub free_slot♯ : ℕ → List ℕ → List ℕ
free_slot♯ s xs = free_within (get_or xs capacity_place 0) (get_or xs live_place 0 - 1) s xs

unfoldable pub struck : ℕ → After ℕ → After ℕ
struck s p = after p.out (free_slot♯ s p.words)

-- the mark that stands in slot s
unfoldable pub table_strike♯ : ℕ → List ℕ → After ℕ
table_strike♯ s xs = struck s (main_strike♯ (get_or xs capacity_place 0) (slot_mark xs s) s xs)
