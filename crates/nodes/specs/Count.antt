-- The mirror of a count along one side of a box, for main and auxiliary trees alike: what a tree of either kind has of its own is a parameter. It goes
-- down to the node where the ends of the side part, and from there beneath each child with one end to look for. Assumes nothing.
use Prim.Native.Nat.{ℕ, zero, suc, ◌-◌, ◌/◌, ◌%◌, ◌^◌}
use Rattle.std.specs.Prelude.{◌≡◌, refl, Bool, not, List, leb, if◌then◌else◌}
use native.Mathlib.Omega.{arith}
use Rattle.model.specs.Axis.{Axis}
use Rattle.model.specs.Totals.{counting}
use Rattle.model.specs.Register.{Found}
use Rattle.model.specs.Slots.{slot_operation}
use Rattle.model.specs.Sheet.{Mark, Box}
use Rattle.table.specs.Limits.{deepest}
use Rattle.table.specs.Grades.{joined, grading}
use Rattle.table.specs.Figures.{packed}
use Rattle.nodes.specs.Arms.{Arm, Record, record_at}

-- a kind of tree: where the record of a name stands in the level that begins at a word, where the next level begins, and what an arrival makes of a tally:
-- at a tree of a level, inside the side; at one that ends before it; at one that begins past it; at one that is opened. And the tally of a search that met
-- damage.
pub record Kind (T : Type 0) : Type 0 where
  pub place : ℕ → ℕ → ℕ
  pub deeper : ℕ → ℕ
  pub take : ℕ → Arm → T → T
  pub before : Arm → T → T
  pub past : T → T
  pub visit : T → T
  pub lost : T

-- the figures of a count, where slot s has the mark f s, in one number; and added to a tally
abbrev pub figures : (ℕ → Mark) → Found ℕ → ℕ
figures f g = packed (g.found counting) g.visits (g.found (slot_operation f grading))

unfoldable pub added : (ℕ → Mark) → Found ℕ → ℕ → ℕ
added f g tally = joined tally (figures f g) % 2 ^ 64

-- a side of a box: whether a coordinate has reached its low end, and has not passed its high end
pub record Side : Type 0 where
  pub from_low : ℕ → Bool
  pub to_high : ℕ → Bool

abbrev pub side_along : Axis Mark Box → Box → Side
side_along A b = record { from_low = λ v. A.from_low b v; to_high = λ v. A.to_high b v }

module _ {T : Type 0} (K : Kind T) (S : Side) where
  -- a coordinate before the side, and past it
  abbrev pub before : ℕ → Bool
  before v = not (S.from_low v)

  abbrev pub past : ℕ → Bool
  past v = not (S.to_high v)

  -- from where a node's level begins, its number and a tally
  abbrev pub Beneath : Type 0
  Beneath = ℕ → ℕ → T → T

  -- beneath a node in which the side begins, and which ends on it: it begins in the right child, or the right child is inside it
  unfoldable pub low_record : Beneath → ℕ → Record → T → T
  low_record rec base p tally =
      if before p.right.least then rec (K.deeper base) p.right.node (K.visit (K.before p.left tally))
      else (if before p.left.greatest then K.before p.left (K.take (K.deeper base) p.right tally)
      else rec (K.deeper base) p.left.node (K.visit (K.take (K.deeper base) p.right tally)))

  -- beneath one that begins on the side, and in which it ends: it ends in the left child, or the left child is inside it
  unfoldable pub high_record : Beneath → ℕ → Record → T → T
  high_record rec base p tally =
      if past p.left.greatest then rec (K.deeper base) p.left.node (K.visit (K.past tally))
      else (if past p.right.least then K.past (K.take (K.deeper base) p.left tally)
      else rec (K.deeper base) p.right.node (K.visit (K.take (K.deeper base) p.left tally)))

  -- a node that is of no slot of the table is damage
  module _ (capacity : ℕ) (xs : List ℕ) where
    unfoldable pub low_node : Beneath → Beneath
    low_node rec base n tally =
        if leb capacity (n / 2) then K.lost else low_record rec base (record_at xs (K.place base (n / 2))) tally

    unfoldable pub low_from : ℕ → Beneath
    low_from zero base n tally = K.lost
    low_from (suc f) base n tally = low_node (low_from f) base n tally

    unfoldable pub high_node : Beneath → Beneath
    high_node rec base n tally =
        if leb capacity (n / 2) then K.lost else high_record rec base (record_at xs (K.place base (n / 2))) tally

    unfoldable pub high_from : ℕ → Beneath
    high_from zero base n tally = K.lost
    high_from (suc f) base n tally = high_node (high_from f) base n tally

    -- the arrival at a tree that ends no later than the side, and at one that begins no earlier
    unfoldable pub low_end : ℕ → Arm → T → T
    low_end base a tally =
        if before a.greatest then K.before a tally
        else (if before a.least then low_from deepest base a.node (K.visit tally) else K.take base a tally)

    unfoldable pub high_end : ℕ → Arm → T → T
    high_end base a tally =
        if past a.least then K.past tally
        else (if past a.greatest then high_from deepest base a.node (K.visit tally) else K.take base a tally)

    -- beneath a node whose cell is neither inside the side nor clear of it: the right child alone meets the side, or the left one alone, or its ends part here
    unfoldable pub open_record : Beneath → ℕ → Record → T → T
    open_record rec base p tally =
        if before p.right.least then rec (K.deeper base) p.right.node (K.visit (K.before p.left tally))
        else (if past p.left.greatest then rec (K.deeper base) p.left.node (K.visit (K.past tally))
        else high_end (K.deeper base) p.right (low_end (K.deeper base) p.left tally))

    unfoldable pub open_node : Beneath → Beneath
    open_node rec base n tally =
        if leb capacity (n / 2) then K.lost else open_record rec base (record_at xs (K.place base (n / 2))) tally

    unfoldable pub open_from : ℕ → Beneath
    open_from zero base n tally = K.lost
    open_from (suc f) base n tally = open_node (open_from f) base n tally

    -- the arrival at a tree, from where its level begins, its arm and a tally
    unfoldable pub count_tree : ℕ → Arm → T → T
    count_tree base a tally =
        if before a.least then (if before a.greatest then K.before a tally else open_from deepest base a.node (K.visit tally))
        else (if past a.greatest then (if past a.least then K.past tally else open_from deepest base a.node (K.visit tally))
        else K.take base a tally)

    pub low_from-zero : (f : ℕ) → f ≡ 0 → (base n : ℕ) (tally : T) → low_from f base n tally ≡ K.lost
    unfolding low_from
    low_from-zero f e base n tally = rw e

    pub low_from-suc : (f : ℕ) → (f ≡ 0 → ⊥) → (base n : ℕ) (tally : T) → low_from f base n tally ≡ low_node (low_from (f - 1)) base n tally
    unfolding low_from
    low_from-suc zero h base n tally = absurd (h refl)
    low_from-suc (suc f) h base n tally = let e : suc f - 1 ≡ f = omega arith in rw e

    pub high_from-zero : (f : ℕ) → f ≡ 0 → (base n : ℕ) (tally : T) → high_from f base n tally ≡ K.lost
    unfolding high_from
    high_from-zero f e base n tally = rw e

    pub high_from-suc : (f : ℕ) → (f ≡ 0 → ⊥) → (base n : ℕ) (tally : T)
        → high_from f base n tally ≡ high_node (high_from (f - 1)) base n tally
    unfolding high_from
    high_from-suc zero h base n tally = absurd (h refl)
    high_from-suc (suc f) h base n tally = let e : suc f - 1 ≡ f = omega arith in rw e

    pub open_from-zero : (f : ℕ) → f ≡ 0 → (base n : ℕ) (tally : T) → open_from f base n tally ≡ K.lost
    unfolding open_from
    open_from-zero f e base n tally = rw e

    pub open_from-suc : (f : ℕ) → (f ≡ 0 → ⊥) → (base n : ℕ) (tally : T)
        → open_from f base n tally ≡ open_node (open_from (f - 1)) base n tally
    unfolding open_from
    open_from-suc zero h base n tally = absurd (h refl)
    open_from-suc (suc f) h base n tally = let e : suc f - 1 ≡ f = omega arith in rw e
