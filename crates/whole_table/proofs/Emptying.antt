-- The emptying: whatever the words were, those of a table of capacity C are then a sound table that holds no mark. Assumes nothing.
use Prim.Native.Nat.{ℕ, zero, suc, ◌+◌, ◌*◌, ◌≤◌, ◌<◌}
use mathlib.Core.Path.{◌≡◌, refl, sym, ap, ◌∙◌}
use mathlib.Core.Bool.{false}
use mathlib.Core.List.{List}
use mathlib.Core.Logic.{◌⊎◌, inl, inr}
use mathlib.Core.Option.{none}
use native.Mathlib.Omega.{arith}
use native.Mathlib.Nat.{mul_comm, mul-add}
use lib.Dec.{eqb}
use lib.ListN.{length, get_or, set, length-set}
use lib.Seq.{get_or-set_same, get_or-set_other}
use borrow.Author.Tests.{le-ltb, eqb-true, eqb-false}
use Rattle.model.specs.Lists.{indicator}
use Rattle.model.specs.Sizes.{D, W, capacity_outside}
use Rattle.model.specs.Laws.{nil}
use Rattle.model.proofs.Logic.{by_cases}
use Rattle.table.specs.Layout.{arm_width, open_place, capacity_place, live_place, root_place, used_place, place_place, run_place}
use Rattle.nodes.specs.Arms.{no_arm, arm_at, put_arm}
use Rattle.nodes.proofs.Frames.{put_arm-same}
use Rattle.nodes.proofs.Unchanged.{Off, Unchanged, unchanged-refl, unchanged-trans, unchanged-weaken, unchanged-arm, set-unchanged, put_arm-unchanged}
use Rattle.table.specs.Header.{capacity_of, live_of}
use Rattle.twofold_layout.specs.Sound.{EachOnce, Holding}
use Rattle.whole_table.specs.Empty.{own_place, free_slots♯, empty♯}
use Rattle.whole_table.proofs.Slots.{each-once-by}

-- the lists of slots, and nothing else, are written

own-unchanged : (C n : ℕ) (xs : List ℕ) → n < C → Unchanged (Off (used_place C 0) (run_place C 0)) xs (own_place C n xs)
unfolding own_place
own-unchanged C n xs k =
    unchanged-trans (unchanged-weaken (λ i o e. omega (arith, o (omega arith))) (set-unchanged xs (used_place C n) n))
    (unchanged-weaken (λ i o e. omega (arith, o (omega arith))) (set-unchanged (set xs (used_place C n) n) (place_place C n) n))

free_slots-unchanged : (n C : ℕ) (xs : List ℕ) → n ≤ C → Unchanged (Off (used_place C 0) (run_place C 0)) xs (free_slots♯ n C xs)
unfolding free_slots♯
free_slots-unchanged zero C xs k = unchanged-refl xs
free_slots-unchanged (suc n) C xs k = unchanged-trans (own-unchanged C n xs k) (free_slots-unchanged n C (own_place C n xs) (omega arith))

-- the words after each step of the header's writing
module _ (C : ℕ) (xs : List ℕ) where
  abbrev listed : List ℕ
  listed = free_slots♯ C C xs

  abbrev sized : List ℕ
  sized = set (set listed capacity_place C) live_place 0

  abbrev rooted : List ℕ
  rooted = put_arm sized root_place no_arm

  sized-length : length sized ≡ length xs
  sized-length = length-set (set listed capacity_place C) live_place 0 ∙ length-set listed capacity_place C
      ∙ (free_slots-unchanged C C xs (omega arith)).long

  rooted-length : length rooted ≡ length xs
  rooted-length = (put_arm-unchanged sized root_place no_arm).long ∙ sized-length

  empty-is : empty♯ C xs ≡ set rooted open_place 1
  unfolding empty♯
  empty-is = refl

  pub empty-length : length (empty♯ C xs) ≡ length xs
  empty-length = ap length empty-is ∙ length-set rooted open_place 1 ∙ rooted-length

  module _ (room : 64 ≤ length xs) where
    root-room : root_place + arm_width ≤ length sized
    root-room = omega (arith, sized-length)

    empty-word : (i : ℕ) → Off root_place (root_place + arm_width) i → (i ≡ open_place → ⊥) → get_or (empty♯ C xs) i 0 ≡ get_or sized i 0
    empty-word i h ne =
        ap (λ ws. get_or ws i 0) empty-is ∙ get_or-set_other rooted open_place i 1 0 ne ∙ (put_arm-unchanged sized root_place no_arm).same i h

    empty-open : get_or (empty♯ C xs) open_place 0 ≡ 1
    empty-open = ap (λ ws. get_or ws open_place 0) empty-is ∙ get_or-set_same rooted open_place 1 0 (omega (arith, rooted-length))

    pub empty-capacity : capacity_of (empty♯ C xs) ≡ C
    empty-capacity =
        empty-word capacity_place (omega arith) (omega arith) ∙ get_or-set_other (set listed capacity_place C) live_place capacity_place 0 0 (omega arith)
        ∙ get_or-set_same listed capacity_place C 0 (omega (arith, (free_slots-unchanged C C xs (omega arith)).long))

    -- the words after the root's arm are those of the lists
    empty-past : (i : ℕ) → root_place + arm_width ≤ i → get_or (empty♯ C xs) i 0 ≡ get_or listed i 0
    empty-past i h =
        empty-word i (omega arith) (omega arith) ∙ get_or-set_other (set listed capacity_place C) live_place i 0 0 (omega arith)
        ∙ get_or-set_other listed capacity_place i C 0 (omega arith)

    -- it writes the header's words and the lists of slots, and nothing else
    pub empty-other : (i : ℕ) → root_place + arm_width ≤ i → (i < used_place C 0) ⊎ (run_place C 0 ≤ i)
        → get_or (empty♯ C xs) i 0 ≡ get_or xs i 0
    empty-other i l h =
        empty-past i (omega arith) ∙ (free_slots-unchanged C C xs (omega arith)).same i (off h)
      where
        off : (i < used_place C 0) ⊎ (run_place C 0 ≤ i) → Off (used_place C 0) (run_place C 0) i
        off (inl h) = omega arith
        off (inr h) = omega arith

    empty-live : live_of (empty♯ C xs) ≡ 0
    empty-live =
        empty-word live_place (omega arith) (omega arith)
        ∙ get_or-set_same (set listed capacity_place C) live_place 0 0
        (omega (arith, length-set listed capacity_place C, (free_slots-unchanged C C xs (omega arith)).long))

    empty-root : arm_at (empty♯ C xs) root_place ≡ no_arm
    empty-root =
        ap (λ ws. arm_at ws root_place) empty-is
        ∙ unchanged-arm (set-unchanged rooted open_place 1) root_place (omega arith)
        ∙ put_arm-same sized root_place no_arm root-room

-- the lists: each slot has its own place, those below n are given theirs, the others have it

own-used : (C n i : ℕ) (xs : List ℕ) → n < C → i < C → place_place C C ≤ length xs → (i < suc n) ⊎ (get_or xs (used_place C i) 0 ≡ i)
    → (i < n) ⊎ (get_or (own_place C n xs) (used_place C i) 0 ≡ i)
unfolding own_place
own-used C n i xs l h room given =
    by_cases (eqb i n)
    (λ t. inr (let e = eqb-true i n t in rw e (past n l ∙ get_or-set_same xs (used_place C n) n 0 (omega arith))))
    (λ f. other (eqb-false i n f) given)
  where
    past : (i : ℕ) → i < C
        → get_or (set (set xs (used_place C n) n) (place_place C n) n) (used_place C i) 0 ≡ get_or (set xs (used_place C n) n) (used_place C i) 0
    past i h = get_or-set_other (set xs (used_place C n) n) (place_place C n) (used_place C i) n 0 (omega arith)

    other : (i ≡ n → ⊥) → (i < suc n) ⊎ (get_or xs (used_place C i) 0 ≡ i)
        → (i < n) ⊎ (get_or (set (set xs (used_place C n) n) (place_place C n) n) (used_place C i) 0 ≡ i)
    other ne (inl k) = inl (omega arith)
    other ne (inr e) = inr (past i h ∙ get_or-set_other xs (used_place C n) (used_place C i) n 0 (λ z. ne (omega arith)) ∙ e)

own-place : (C n s : ℕ) (xs : List ℕ) → n < C → s < C → place_place C C ≤ length xs → (s < suc n) ⊎ (get_or xs (place_place C s) 0 ≡ s)
    → (s < n) ⊎ (get_or (own_place C n xs) (place_place C s) 0 ≡ s)
unfolding own_place
own-place C n s xs l h room given =
    by_cases (eqb s n)
    (λ t. inr (let e = eqb-true s n t in
    rw e (get_or-set_same (set xs (used_place C n) n) (place_place C n) n 0 (omega (arith, length-set xs (used_place C n) n)))))
    (λ f. other (eqb-false s n f) given)
  where
    other : (s ≡ n → ⊥) → (s < suc n) ⊎ (get_or xs (place_place C s) 0 ≡ s)
        → (s < n) ⊎ (get_or (set (set xs (used_place C n) n) (place_place C n) n) (place_place C s) 0 ≡ s)
    other ne (inl k) = inl (omega arith)
    other ne (inr e) =
        inr (get_or-set_other (set xs (used_place C n) n) (place_place C n) (place_place C s) n 0 (λ z. ne (omega arith))
        ∙ get_or-set_other xs (used_place C n) (place_place C s) n 0 (omega arith) ∙ e)

free_slots-used : (C n i : ℕ) (xs : List ℕ) → n ≤ C → i < C → place_place C C ≤ length xs → (i < n) ⊎ (get_or xs (used_place C i) 0 ≡ i)
    → get_or (free_slots♯ n C xs) (used_place C i) 0 ≡ i
unfolding free_slots♯
free_slots-used C zero i xs l h room (inl k) = absurd (omega arith)
free_slots-used C zero i xs l h room (inr e) = e
free_slots-used C (suc n) i xs l h room given =
    free_slots-used C n i (own_place C n xs) (omega arith) h (omega (arith, (own-unchanged C n xs l).long)) (own-used C n i xs (omega arith) h room given)

free_slots-place : (C n s : ℕ) (xs : List ℕ) → n ≤ C → s < C → place_place C C ≤ length xs → (s < n) ⊎ (get_or xs (place_place C s) 0 ≡ s)
    → get_or (free_slots♯ n C xs) (place_place C s) 0 ≡ s
unfolding free_slots♯
free_slots-place C zero s xs l h room (inl k) = absurd (omega arith)
free_slots-place C zero s xs l h room (inr e) = e
free_slots-place C (suc n) s xs l h room given =
    free_slots-place C n s (own_place C n xs) (omega arith) h (omega (arith, (own-unchanged C n xs l).long)) (own-place C n s xs (omega arith) h room given)

-- THE EMPTY TABLE

W-room : (C : ℕ) → 64 + 40 * C ≤ W C
unfolding W
W-room C = omega (arith, mul-add C 40 (24 * D C), mul_comm C 40)

module _ (C : ℕ) (xs : List ℕ) (room : place_place C C ≤ length xs) where
  empty-used : (i : ℕ) → i < C → get_or (empty♯ C xs) (used_place C i) 0 ≡ i
  empty-used i h =
      empty-past C xs (omega arith) (used_place C i) (omega arith) ∙ free_slots-used C C i xs (omega arith) h room (inl h)

  empty-place : (s : ℕ) → s < C → get_or (empty♯ C xs) (place_place C s) 0 ≡ s
  empty-place s h =
      empty-past C xs (omega arith) (place_place C s) (omega arith) ∙ free_slots-place C C s xs (omega arith) h room (inl h)

  empty-once : EachOnce (empty♯ C xs) none
  empty-once =
      each-once-by C 0 (empty-capacity C xs (omega arith)) (empty-live C xs (omega arith))
      (λ i h. rw (empty-used i h, empty-place i h) (h, refl))
      (λ s h. rw (empty-place s h, empty-used s h) (h, refl))
      (λ s h. sym (ap indicator (le-ltb (get_or (empty♯ C xs) (place_place C s) 0) 0 (omega arith))))

pub empty-holding : (C : ℕ) (xs : List ℕ) → capacity_outside C ≡ false → length xs ≡ W C → Holding (empty♯ C xs) none
empty-holding C xs inside long =
    let room : place_place C C ≤ length xs = omega (arith, W-room C) in
    let cap = empty-capacity C xs (omega arith) in
    record {
      is_open = empty-open C xs (omega arith);
      capacity = ap capacity_outside cap ∙ inside;
      long = empty-length C xs ∙ long ∙ ap W (sym cap);
      slots = none;
      stands = refl;
      holds = ap (λ a. a.weight) (empty-root C xs (omega arith));
      rules = tt;
      coordinates = nil;
      grades = nil;
      live = empty-live C xs (omega arith);
      free = empty-once C xs room;
    }
