-- Lists under a test and in an order. Assumes nothing.
use Rattle.std.specs.Prelude.{ℕ, ◌+◌, Bool, true, false, List, [], ◌∷◌, if◌then◌else◌}

abbrev pub indicator : Bool → ℕ
indicator true = 1
indicator false = 0

module _ {M : Type 0} where
  -- how many pass a test
  abbrev pub count_if : (M → Bool) → List M → ℕ
  count_if p [] = 0
  count_if p (m ∷ l) = indicator (p m) + count_if p l

  -- those that pass a test, in their order
  abbrev pub filter_by : (M → Bool) → List M → List M
  filter_by p [] = []
  filter_by p (m ∷ l) = if p m then m ∷ filter_by p l else filter_by p l

  -- all but the first that passes a test
  abbrev pub remove_first : (M → Bool) → List M → List M
  remove_first p [] = []
  remove_first p (q ∷ l) = if p q then l else q ∷ remove_first p l

  -- a mark put in its place in an ordered list
  abbrev pub insert_sorted : (M → M → Bool) → M → List M → List M
  insert_sorted below m [] = m ∷ []
  insert_sorted below m (q ∷ l) = if below m q then m ∷ q ∷ l else q ∷ insert_sorted below m l

  -- a list put in order
  abbrev pub sort : (M → M → Bool) → List M → List M
  sort below [] = []
  sort below (m ∷ l) = insert_sorted below m (sort below l)
