-- THE FRAME: what a change leaves alone is a set of words that are kept. Its laws, what stores keep, and what reads the same where its words are kept.
-- Assumes nothing.
use Prim.Native.Nat.{ℕ, suc, ◌+◌, ◌≤◌, ◌<◌}
use mathlib.Core.Path.{◌≡◌, refl, ◌∙◌}
use mathlib.Core.List.{List, [], ◌∷◌}
use native.Mathlib.Omega.{arith}
use lib.Dec.{ltb}
use lib.ListN.{length, get_or, set, length-set}
use lib.Seq.{sets, length-sets, get_or-set_other}
use borrow.Author.Tests.{ltb-true, ltb-false}
use Rattle.model.proofs.Logic.{by_cases}
use Rattle.table.specs.Layout.{mark_width, arm_width, record_width, slot_place}
use Rattle.table.specs.Marks.{mark_at, slot_mark}
use Rattle.nodes.specs.Arms.{Arm, arm_words, arm_at, put_arm, record_at, put_record}

-- WORDS

-- the word i is none of those from lo to hi
abbrev pub Off : ℕ → ℕ → ℕ → Type 0
Off lo hi i = lo ≤ i → hi ≤ i

-- all words from lo to hi are kept
abbrev pub Keeps : (ℕ → Type 0) → ℕ → ℕ → Type 0
Keeps kept lo hi = (i : ℕ) → lo ≤ i → i < hi → kept i

-- the u words from v on are none of the w words from k on
abbrev pub Apart : ℕ → ℕ → ℕ → ℕ → Type 0
Apart v u k w = v < k + w → v + u ≤ k

pub apart-sym : (v u k w : ℕ) → Apart v u k w → Apart k w v u
apart-sym v u k w h l =
    by_cases (ltb v (k + w)) (λ t. omega (arith, h (ltb-true v (k + w) t))) (λ f. omega (arith, ltb-false v (k + w) f))

-- THE FRAME AND ITS LAWS

-- as many words, and every word that is kept as it was
pub record Unchanged (kept : ℕ → Type 0) (xs ys : List ℕ) : Type 0 where
  pub long : length ys ≡ length xs
  pub same : (i : ℕ) → kept i → get_or ys i 0 ≡ get_or xs i 0

module _ {kept : ℕ → Type 0} where
  pub unchanged-refl : (xs : List ℕ) → Unchanged kept xs xs
  unchanged-refl xs = record { long = refl; same = λ i k. refl }

  pub unchanged-trans : {xs ys zs : List ℕ} → Unchanged kept xs ys → Unchanged kept ys zs → Unchanged kept xs zs
  unchanged-trans a b = record { long = b.long ∙ a.long; same = λ i k. b.same i k ∙ a.same i k }

  -- a frame may be told less of
  pub unchanged-weaken : {fewer : ℕ → Type 0} {xs ys : List ℕ} → ((i : ℕ) → fewer i → kept i) → Unchanged kept xs ys → Unchanged fewer xs ys
  unchanged-weaken w a = record { long = a.long; same = λ i k. a.same i (w i k) }

-- WHAT STORES KEEP: all words but their own

pub set-unchanged : (xs : List ℕ) (i v : ℕ) → Unchanged (λ j. j ≡ i → ⊥) xs (set xs i v)
set-unchanged xs i v = record { long = length-set xs i v; same = λ j k. get_or-set_other xs i j v 0 k }

pub sets-unchanged : (vs xs : List ℕ) (i : ℕ) → Unchanged (Off i (i + length vs)) xs (sets xs i vs)
sets-unchanged vs xs i = record { long = length-sets xs i vs; same = other vs xs i }
  where
    other : (vs xs : List ℕ) (i j : ℕ) → Off i (i + length vs) j → get_or (sets xs i vs) j 0 ≡ get_or xs j 0
    other [] xs i j h = refl
    other (v ∷ vs) xs i j h =
        other vs (set xs i v) (suc i) j (λ l. omega (arith, h (omega arith))) ∙ (set-unchanged xs i v).same j (λ e. omega (arith, h (omega arith)))

pub put_arm-unchanged : (xs : List ℕ) (at : ℕ) (a : Arm) → Unchanged (Off at (at + arm_width)) xs (put_arm xs at a)
unfolding put_arm
put_arm-unchanged xs at a = sets-unchanged (arm_words a) xs at

pub put_record-unchanged : (xs : List ℕ) (at : ℕ) (l r : Arm) → Unchanged (Off at (at + record_width)) xs (put_record xs at l r)
unfolding put_record
put_record-unchanged xs at l r =
    unchanged-trans (unchanged-weaken (λ i o k. omega (arith, o k)) (put_arm-unchanged xs at l))
    (unchanged-weaken (λ i o k. omega (arith, o (omega arith))) (put_arm-unchanged (put_arm xs at l) (at + arm_width) r))

-- WHAT READS THE SAME: an arm, a record and a mark whose words are kept

module _ {kept : ℕ → Type 0} {xs ys : List ℕ} (a : Unchanged kept xs ys) where
  words : (at n : ℕ) → Keeps kept at (at + n) → (j : ℕ) → j < n → get_or ys (at + j) 0 ≡ get_or xs (at + j) 0
  words at n k j h = a.same (at + j) (k (at + j) (omega arith) (omega arith))

  pub unchanged-arm : (at : ℕ) → Keeps kept at (at + arm_width) → arm_at ys at ≡ arm_at xs at
  unfolding arm_at
  unchanged-arm at k =
      let w = words at arm_width k in
      rw (a.same at (k at (omega arith) (omega arith)), w 1 (omega arith), w 2 (omega arith), w 3 (omega arith), w 4 (omega arith))

  pub unchanged-record : (at : ℕ) → Keeps kept at (at + record_width) → record_at ys at ≡ record_at xs at
  unfolding record_at
  unchanged-record at k = rw (
    unchanged-arm at (λ i l u. k i l (omega arith)),
    unchanged-arm (at + arm_width) (λ i l u. k i (omega arith) (omega arith)),
  )

  pub unchanged-mark : (s : ℕ) → Keeps kept (slot_place s) (slot_place s + mark_width) → slot_mark ys s ≡ slot_mark xs s
  unfolding slot_mark mark_at
  unchanged-mark s k =
      let w = words (slot_place s) mark_width k in
      rw (a.long, a.same (slot_place s) (k (slot_place s) (omega arith) (omega arith)), w 1 (omega arith), w 2 (omega arith), w 3 (omega arith))
