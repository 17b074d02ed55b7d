-- The lists of slots that pass the check are inverse to each other, and as many live slots as stand in a tree, each once, are all of them. Assumes
-- nothing.
use Prim.Native.Nat.{ℕ, ◌≤◌, ◌<◌}
use mathlib.Core.Path.{◌≡◌, sym, ◌∙◌}
use mathlib.Core.Bool.{true}
use mathlib.Core.List.{List}
use native.Mathlib.Omega.{arith}
use native.Mathlib.Nat.{zero-add}
use lib.Dec.{ltb, eqb}
use lib.ListN.{length, get_or}
use borrow.Author.Tests.{lt-ltb, ltb-true, ltb-false, eq-eqb}
use Rattle.model.specs.Lists.{indicator}
use Rattle.std.specs.Bool.{Decides}
use Rattle.std.specs.List.{range_with_len}
use Rattle.std.proofs.lemmas.Bool.{and_parts}
use Rattle.std.proofs.lemmas.Bool.Decides.{Decides-and, Decides-ltb, Decides-eqb}
use Rattle.std.proofs.lemmas.List.Sums.{AllPass-from_list_all, list_all-from_AllPass}
use Rattle.std.proofs.lemmas.List.FromFn.{length-range_with_len, get_or-range_with_len}
use Rattle.model.proofs.Logic.{by_cases}
use Rattle.table.specs.Layout.{used_place, place_place}
use Rattle.nodes.specs.Holds.{times_in}
use Rattle.checking.specs.Slots.{live_slot♯, placed♯, inverse♯}
use Rattle.nodes.proofs.Counting.{sub-bag, firsts, firsts-length, firsts-times, inverse-both}

module _ (C : ℕ) (xs : List ℕ) where
  -- used[i] and place[s]
  abbrev pub used_of : ℕ → ℕ
  used_of i = get_or xs (used_place C i) 0

  abbrev pub place_of : ℕ → ℕ
  place_of s = get_or xs (place_place C s) 0

  pub record Inverse : Type 0 where
    pub used : (i : ℕ) → i < C → (used_of i < C) × (place_of (used_of i) ≡ i)
    pub place : (s : ℕ) → s < C → (place_of s < C) × (used_of (place_of s) ≡ s)

  placed-decides : (i : ℕ) → Decides (placed♯ C xs i) ((used_of i < C) × (place_of (used_of i) ≡ i))
  placed-decides i =
      Decides-and (ltb (used_of i) C) (eqb (place_of (used_of i)) i) (Decides-ltb (used_of i) C) (Decides-eqb (place_of (used_of i)) i)

  pub inverse-sound : inverse♯ C xs ≡ true → Inverse
  inverse-sound e =
      let all = AllPass-from_list_all (placed♯ C xs) (range_with_len 0 C) e in
      let back : ((i : ℕ) → i < C → (used_of i < C) × (place_of (used_of i) ≡ i)) =
      λ i h. (placed-decides i).0 (rw (get_or-range_with_len 0 C i 0 h, zero-add i) at (all i 0 (rw (length-range_with_len 0 C) h))) in
      record { used = back; place = inverse-both used_of place_of C back }

  pub inverse-complete : ((i : ℕ) → i < C → (used_of i < C) × (place_of (used_of i) ≡ i)) → inverse♯ C xs ≡ true
  inverse-complete back =
      list_all-from_AllPass (placed♯ C xs) (range_with_len 0 C)
      (λ i d k.
      let h : i < C = rw (length-range_with_len 0 C) at k in
      rw (get_or-range_with_len 0 C i d h, zero-add i) ((placed-decides i).1 (back i h)))

  module _ (v : Inverse) (n : ℕ) (within : n ≤ C) where
    -- the first n of `used` are the slots placed below n
    first-times : (s : ℕ) → s < C → times_in s (firsts used_of n) ≡ indicator (ltb (place_of s) n)
    first-times s h = firsts-times used_of place_of n (λ i k. (v.used i (omega arith)).1) s ∙ rw (eq-eqb (used_of (place_of s)) s (v.place s h).1)

    -- as many live slots as stand in a list, each once: those are all
    pub live-once : (l : List ℕ) → ((s : ℕ) → times_in s l ≤ 1) → ((s : ℕ) → 0 < times_in s l → (s < C) × (place_of s < n))
        → length l ≡ n
        → (s : ℕ) → s < C → times_in s l ≡ indicator (ltb (place_of s) n)
    live-once l once live many s h =
        let no_more : ((q : ℕ) → times_in q l ≤ times_in q (firsts used_of n)) =
        λ q. by_cases (ltb 0 (times_in q l))
        (λ t. let w = live q (ltb-true 0 (times_in q l) t) in rw (first-times q w.0, lt-ltb (place_of q) n w.1) (once q))
        (λ f. omega (arith, ltb-false 0 (times_in q l) f)) in
        sub-bag l (firsts used_of n) no_more (many ∙ sym (firsts-length used_of n)) (eqb s) ∙ first-times s h

  pub live-slot : (n s : ℕ) → live_slot♯ C n xs s ≡ true → (s < C) × (place_of s < n)
  live-slot n s e = let p = and_parts (ltb s C) (ltb (place_of s) n) e in (ltb-true s C p.0, ltb-true (place_of s) n p.1)

  pub slot-live : (n s : ℕ) → s < C → place_of s < n → live_slot♯ C n xs s ≡ true
  slot-live n s h k = rw (lt-ltb s C h, lt-ltb (place_of s) n k)
