-- "any other call, table: 3: shorter than 96 words, word 0 not 1, C outside its range, shorter than W(C), or live above C" (document 01, "Where each call
-- may stop"); "the 96-word floor becomes 104" (R-1). Assumes nothing.
use Rattle.std.specs.Prelude.{◌≡◌, ℕ, ◌≤◌, Bool, not, ◌||◌, List, length, ◌==◌, nat_lt, slice_index, if◌then◌else◌}
use Rattle.model.specs.Sizes.{W, capacity_outside}
use Rattle.sizes.specs.Sizes.{visits_within}
use Rattle.table.specs.declared.header.Header.{Header}
use Rattle.table.specs.Layout.{open_place, capacity_place, live_place, runs_end}

-- the capacity and the live marks
abbrev pub capacity_of : List ℕ → ℕ
capacity_of xs = slice_index xs capacity_place

abbrev pub live_of : List ℕ → ℕ
live_of xs = slice_index xs live_place

-- word 1 is that capacity, and the slots and runs of a table of it are there
abbrev pub OfCapacity : ℕ → List ℕ → Type 0
OfCapacity capacity xs = (capacity ≡ capacity_of xs) × (runs_end capacity ≤ length xs)

unfoldable pub not_table : List ℕ → Bool
not_table xs =
    nat_lt (length xs) 104
    || (not (slice_index xs open_place == 1)
    || (capacity_outside (capacity_of xs)
    || (nat_lt (length xs) (W (capacity_of xs))
    || nat_lt (capacity_of xs) (live_of xs))))

-- the table's own words, and the most visits of a count in a sound table of its capacity; 0 where 3 applies
unfoldable pub own_words : List ℕ → ℕ
own_words xs = if not_table xs then 0 else W (capacity_of xs)

unfoldable pub own_visits : List ℕ → ℕ
own_visits xs = if not_table xs then 0 else visits_within (capacity_of xs)

-- what a header says of the words that it is read from
pub record HeaderOf (xs : List ℕ) (h : Header) : Type 0 where
  pub capacity : h.capacity ≡ capacity_of xs
  pub live : h.live ≡ live_of xs
  pub words : h.words ≡ own_words xs
  pub some : h.words ≡ 0 → ⊥
  pub visits : h.visits ≡ own_visits xs
