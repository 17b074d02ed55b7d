-- The mirrors of a count that goes down to one end of a side, for both ends alike: at each it is the mirror of Rattle.nodes.specs.Count (proofs/Ends).
-- Assumes nothing.
use Rattle.std.specs.Prelude.{ℕ, zero, suc, ◌-◌, ◌/◌, ◌≡◌, refl, Bool, not, List, leb, if◌then◌else◌}
use Rattle.std.proofs.Common.{arith}
use Rattle.table.specs.Limits.{deepest}
use Rattle.nodes.specs.Arms.{Arm, Record, record_at}
use Rattle.nodes.specs.Count.{Kind, Side, Beneath}

pub data End : Type 0 where
  low : End
  high : End

-- of two things in order, the one on the side of the other end, and the one on this end's
abbrev pub inner : {A : Type 0} → End → A → A → A
inner low left right = right
inner high left right = left

abbrev pub outer : {A : Type 0} → End → A → A → A
outer low left right = left
outer high left right = right

-- whether a cell reaches beyond the end, and whether it lies beyond it whole
abbrev pub reaches_beyond : End → Side → ℕ → ℕ → Bool
reaches_beyond low S least greatest = not (S.from_low least)
reaches_beyond high S least greatest = not (S.to_high greatest)

abbrev pub lies_beyond : End → Side → ℕ → ℕ → Bool
lies_beyond low S least greatest = not (S.from_low greatest)
lies_beyond high S least greatest = not (S.to_high least)

-- the arrival at a tree that lies beyond it
abbrev pub skip : {T : Type 0} → End → Kind T → Arm → T → T
skip low K a tally = K.before a tally
skip high K a tally = K.past tally

module _ (e : End) {T : Type 0} (K : Kind T) (S : Side) where
  -- beneath a node in which the end lies, and the other one does not: it lies in the inner child, or the inner child is inside the side
  unfoldable pub end_record : Beneath K S → ℕ → Record → T → T
  end_record rec base p tally =
      let i : Arm = inner e p.left p.right in
      let o : Arm = outer e p.left p.right in
      if reaches_beyond e S i.least i.greatest then rec (K.deeper base) i.node (K.visit (skip e K o tally))
      else (if lies_beyond e S o.least o.greatest then skip e K o (K.take (K.deeper base) i tally)
      else rec (K.deeper base) o.node (K.visit (K.take (K.deeper base) i tally)))

  -- a node that is of no slot of the table is damage
  module _ (capacity : ℕ) (xs : List ℕ) where
    unfoldable pub end_node : Beneath K S → Beneath K S
    end_node rec base n tally =
        if leb capacity (n / 2) then K.lost else end_record rec base (record_at xs (K.place base (n / 2))) tally

    unfoldable pub to_end : ℕ → Beneath K S
    to_end zero base n tally = K.lost
    to_end (suc f) base n tally = end_node (to_end f) base n tally

    -- the arrival at a tree in which the other end does not lie
    unfoldable pub meet_end : ℕ → Arm → T → T
    meet_end base a tally =
        if lies_beyond e S a.least a.greatest then skip e K a tally
        else (if reaches_beyond e S a.least a.greatest then to_end deepest base a.node (K.visit tally) else K.take base a tally)

    pub to_end-zero : (f : ℕ) → f ≡ 0 → (base n : ℕ) (tally : T) → to_end f base n tally ≡ K.lost
    unfolding to_end
    to_end-zero f h base n tally = rw h

    pub to_end-suc : (f : ℕ) → (f ≡ 0 → ⊥) → (base n : ℕ) (tally : T) → to_end f base n tally ≡ end_node (to_end (f - 1)) base n tally
    unfolding to_end
    to_end-suc zero h base n tally = absurd (h refl)
    to_end-suc (suc f) h base n tally = let e : suc f - 1 ≡ f = omega arith in rw e
