-- What the words say where 3 does not apply, and that it does not apply where they say so. Assumes nothing.
use Rattle.std.proofs.Common.{◌≡◌, ℕ, ◌+◌, ◌*◌, ◌≤◌, false, not, eqb}
use Rattle.std.proofs.Common.{ltb, List, length, get_or, mul-le-mul_right, arith, ltb-false, le-ltb, eq-eqb, eqb-true}
use borrow.Author.Tests.{not-false}
use Rattle.model.specs.Sizes.{D, W, capacity_outside}
use Rattle.model.proofs.Logic.{by_cases, or-neither}
use Rattle.model.proofs.Sizes.{capacity-some, capacity-small}
use Rattle.sizes.specs.Sizes.{visits_within}
use Rattle.sizes.proofs.Sizes.{levels_for-within, levels_for-most, visits-fit}
use Rattle.table.specs.Layout.{open_place}
use Rattle.table.specs.Limits.{most_visits}
use Rattle.table.specs.Header.{capacity_of, live_of, not_table, own_words, own_visits}

-- the words that a table needs are no fewer than the 104 of the first test
W-least : (c : ℕ) → 1 ≤ c → 104 ≤ W c
unfolding W
W-least c h = omega (arith, mul-le-mul_right {m = 1} {n = c} (40 + 24 * D c) h)

module _ (xs : List ℕ) where
  pub own-table : (own_words xs ≡ 0 → ⊥)
      → (get_or xs open_place 0 ≡ 1) × (capacity_outside (capacity_of xs) ≡ false) × (live_of xs ≤ capacity_of xs)
      × (own_words xs ≡ W (capacity_of xs))
      × (W (capacity_of xs) ≤ length xs)
  unfolding own_words not_table
  own-table h =
      by_cases (not_table xs)
      (λ t. absurd (h (rw t)))
      (λ f.
      let a = or-neither (ltb (length xs) 104) _ f in
      let b = or-neither (not (eqb (get_or xs open_place 0) 1)) _ a.1 in
      let c = or-neither (capacity_outside (capacity_of xs)) _ b.1 in
      let d = or-neither (ltb (length xs) (W (capacity_of xs))) (ltb (capacity_of xs) (live_of xs)) c.1 in (
        eqb-true (get_or xs open_place 0) 1 (not-false (eqb (get_or xs open_place 0) 1) b.0),
        c.0,
        ltb-false (capacity_of xs) (live_of xs) d.1,
        rw f,
        ltb-false (length xs) (W (capacity_of xs)) d.0,
      ))

  pub table-own : get_or xs open_place 0 ≡ 1 → capacity_outside (capacity_of xs) ≡ false → live_of xs ≤ capacity_of xs
      → W (capacity_of xs) ≤ length xs
      → (own_words xs ≡ W (capacity_of xs)) × (1 ≤ W (capacity_of xs))
  unfolding own_words not_table
  table-own is_open within live long =
      let least = W-least (capacity_of xs) (capacity-some (capacity_of xs) within) in (
        rw (
          le-ltb (length xs) 104 (omega arith),
          eq-eqb (get_or xs open_place 0) 1 is_open,
          within,
          le-ltb (length xs) (W (capacity_of xs)) long,
          le-ltb (capacity_of xs) (live_of xs) live,
        ),
        omega arith,
      )

  -- where 3 does not apply
  pub own-most : (own_words xs ≡ 0 → ⊥) → own_visits xs ≡ visits_within (capacity_of xs)
  unfolding own_words own_visits
  own-most z = by_cases (not_table xs) (λ t. absurd (z (rw t))) (λ f. rw f)

  pub own-visits-few : own_visits xs ≤ most_visits
  unfolding own_visits not_table visits_within
  own-visits-few =
      by_cases (not_table xs)
      (λ t. rw t (omega arith))
      (λ f.
      let c = capacity_of xs in
      let long = (or-neither (ltb (length xs) 104) _ f).1 in
      let inside = (or-neither (capacity_outside c) _ (or-neither (not (eqb (get_or xs open_place 0) 1)) _ long).1).0 in
      rw f (visits-fit (D c) (omega (arith, levels_for-most c, levels_for-within c (capacity-small c inside)))))
