-- What the crate's functions give on every word, and document 01's number for each case of an opening. Assumes nothing.
use Rattle.std.specs.Prelude.{◌≡◌, ℕ, ◌+◌, ◌*◌, min, false, Result, Ok, Err, if◌then◌else◌}
use Rattle.model.specs.Sizes.{D, W, largest_capacity, capacity_outside}
use Rattle.model.specs.Refusals.{Outcome, accepted, refused}
use Rattle.sizes.specs.declared.Size.{Size}
use Rattle.sizes.specs.declared.Misfit.{Misfit}
use Rattle.sizes.specs.declared.Misfit.TheVariants.{Capacity, Short}

-- D(C), past the largest capacity as for the largest
abbrev pub levels_for : ℕ → ℕ
levels_for c = D (min c largest_capacity)

-- W(C), and 0 for a capacity out of range
abbrev pub words_for : ℕ → ℕ
words_for c = if capacity_outside c then 0 else W c

-- the most visits of a count over n live marks, "(4D + 1) × (2D + 1)" (demand 3), at n = C
unfoldable pub visits_within : ℕ → ℕ
visits_within c = (4 * D c + 1) * (2 * D c + 1)

-- what a capacity of the range asks
pub record SizeOf (c : ℕ) (size : Size) : Type 0 where
  pub within : capacity_outside c ≡ false
  pub words : size.words ≡ W c
  pub visits : size.visits ≡ visits_within c

-- "open: 1, C is 0 or above 65,536; 2, table shorter than W(C)"
abbrev pub opening_outcome : Result ℕ Misfit → Outcome ℕ
opening_outcome (Ok words) = accepted words
opening_outcome (Err Capacity) = refused 1
opening_outcome (Err Short) = refused 2
