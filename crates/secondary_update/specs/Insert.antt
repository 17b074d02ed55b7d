-- The mirror of the insertion, along any axis. Assumes nothing.
use Rattle.std.specs.Prelude.{refl, ℕ, zero, suc, ◌+◌, ◌-◌, ◌/◌, ◌%◌, ◌≤◌, ◌<◌, ◌^◌, ◌≡◌}
use Rattle.std.specs.Prelude.{Bool, true, false, not, List, leb, ltb, eqb, length, if◌then◌else◌}
use Rattle.std.proofs.Common.{arith}
use Rattle.model.specs.Axis.{Axis}
use Rattle.model.specs.Sheet.{Mark, Box, along_y}
use Rattle.table.specs.Layout.{arm_width, runs_end, level_end, auxiliary_place, record_place}
use Rattle.table.specs.Limits.{deepest, damaged, no_slot}
use Rattle.table.specs.Marks.{slot_mark}
use Rattle.nodes.specs.Arms.{Arm, Way, leaf_arm, over_arm, grown_arm, arm_at, put_arm, put_record, child_at}
use Rattle.nodes.specs.Ways.{way_at}
use Rattle.nodes.specs.Weights.{unbalances}
use Rattle.table.specs.After.{After, after}
use Rattle.secondary_build.specs.Build.{rebuild♯}

-- the node of that name over two trees, its arm at the word `at`
unfoldable pub node_at : (ℕ → ℕ) → ℕ → ℕ → Arm → Arm → List ℕ → List ℕ
node_at place at name l r xs = put_arm (put_record xs (place name) l r) at (over_arm name l r)

unfoldable pub split♯ : Axis Mark Box → (ℕ → ℕ) → Mark → ℕ → ℕ → Arm → List ℕ → List ℕ
split♯ A place m s at q xs =
    if A.below m (slot_mark xs (q.node / 2))
    then node_at place at (q.node / 2) (leaf_arm s (A.at m) m.grade) q xs
    else node_at place at s q (leaf_arm s (A.at m) m.grade) xs

-- the name of the node of a leaf and a mark: the larger of the two
unfoldable pub split_name : Axis Mark Box → Mark → ℕ → Arm → List ℕ → ℕ
split_name A m s q xs = if A.below m (slot_mark xs (q.node / 2)) then q.node / 2 else s

unfoldable pub put_fresh : ℕ → ℕ → After Arm → After ℕ
put_fresh at w p = if eqb p.out.weight 0 then after damaged p.words else after w (put_arm p.words at p.out)

unfoldable pub rebuilt_at : Axis Mark Box → ℕ → (ℕ → ℕ) → ℕ → Arm → List ℕ → After ℕ
rebuilt_at A capacity place at a xs = put_fresh at a.weight (rebuild♯ A place capacity no_slot a.weight a.weight a.node xs)

unfoldable pub afresh♯ : Axis Mark Box → ℕ → (ℕ → ℕ) → ℕ → ℕ → List ℕ → After ℕ
afresh♯ A capacity place at done xs = if eqb done damaged then after damaged xs else rebuilt_at A capacity place at (arm_at xs at) xs

-- whether to mend, where the arm stands, and the words
abbrev pub Insertion : Type 0
Insertion = Bool → ℕ → List ℕ → After ℕ

unfoldable pub insert_afresh : Axis Mark Box → Insertion → ℕ → (ℕ → ℕ) → ℕ → List ℕ → After ℕ
insert_afresh A rec capacity place at xs = let p : After ℕ = rec false at xs in afresh♯ A capacity place at p.out p.words

-- What an insertion does beside the arms and the records: with what the node of a name carries, on the way; with what a node of a name carries that was made of
-- the leaf of a slot; at the arm of a node that is mended; and, from the arm of a child on, beneath.
pub record Steps : Type 0 where
  pub grow : ℕ → List ℕ → After ℕ
  pub begin : ℕ → ℕ → List ℕ → After ℕ
  pub mend : ℕ → List ℕ → After ℕ
  pub onward : ℕ → List ℕ → After ℕ

-- a turn on the way of an insertion, whatever tree it is into
module _ (A : Axis Mark Box) (capacity : ℕ) (place : ℕ → ℕ) (mends : Bool) (m : Mark) (s : ℕ) (S : Steps) where
  -- on to the child, where what was done is no damage
  abbrev pub onward♯ : ℕ → After ℕ → After ℕ
  onward♯ at p = if eqb p.out damaged then after damaged p.words else S.onward at p.words

  abbrev pub child♯ : ℕ → Way → ℕ → Arm → List ℕ → After ℕ
  child♯ name v at a xs =
      if unbalances mends v.child.weight v.sibling.weight then S.mend at xs
      else onward♯ (child_at (place name) v.left) (S.grow name (put_arm xs at (grown_arm a (A.at m) m.grade)))

  -- children whose weights are not the node's are damage
  abbrev pub fork♯ : ℕ → Way → ℕ → Arm → List ℕ → After ℕ
  fork♯ name v at a xs = if not (eqb (v.child.weight + v.sibling.weight) a.weight) then after damaged xs else child♯ name v at a xs

  -- a node of no slot is damage
  abbrev pub arm♯ : ℕ → Arm → List ℕ → After ℕ
  arm♯ at a xs =
      if leb capacity (a.node / 2) then after damaged xs
      else (if eqb (a.node % 2) 0 then S.begin (split_name A m s a xs) (a.node / 2) (split♯ A place m s at a xs)
      else fork♯ (a.node / 2) (way_at A place m (a.node / 2) xs) at a xs)

  abbrev pub turn♯ : ℕ → List ℕ → After ℕ
  turn♯ at xs = arm♯ at (arm_at xs at) xs

-- in a tree by itself, whose nodes carry nothing
abbrev pub tree_steps : Axis Mark Box → Insertion → ℕ → (ℕ → ℕ) → Bool → Steps
tree_steps A rec capacity place mends = record {
  grow = λ name xs. after 0 xs;
  begin = λ made k xs. after 0 xs;
  mend = insert_afresh A rec capacity place;
  onward = rec mends;
}

unfoldable pub insert♯ : Axis Mark Box → ℕ → ℕ → (ℕ → ℕ) → Mark → ℕ → Insertion
insert♯ A zero capacity place m s mends at xs = after damaged xs
insert♯ A (suc f) capacity place m s mends at xs =
    turn♯ A capacity place mends m s (tree_steps A (insert♯ A f capacity place m s) capacity place mends) at xs

pub insert♯-zero : (f : ℕ) → f ≡ 0
    → (A : Axis Mark Box) (capacity : ℕ) (place : ℕ → ℕ) (m : Mark) (s : ℕ) (mends : Bool) (at : ℕ) (xs : List ℕ)
    → insert♯ A f capacity place m s mends at xs ≡ after damaged xs
unfolding insert♯
insert♯-zero f e A capacity place m s mends at xs = rw e

pub insert♯-suc : (f : ℕ) → (f ≡ 0 → ⊥)
    → (A : Axis Mark Box) (capacity : ℕ) (place : ℕ → ℕ) (m : Mark) (s : ℕ) (mends : Bool) (at : ℕ) (xs : List ℕ)
    → insert♯ A f capacity place m s mends at xs
    ≡ turn♯ A capacity place mends m s (tree_steps A (insert♯ A (f - 1) capacity place m s) capacity place mends) at xs
unfolding insert♯
insert♯-suc zero h A capacity place m s mends at xs = absurd (h refl)
insert♯-suc (suc f) h A capacity place m s mends at xs = let e : suc f - 1 ≡ f = omega arith in rw e

module _ (A : Axis Mark Box) (capacity : ℕ) (place : ℕ → ℕ) (m : Mark) (s turns : ℕ) where
  abbrev pub mending_steps : Steps
  mending_steps = tree_steps A (insert♯ A turns capacity place m s) capacity place true

  -- nothing is mended
  abbrev pub alone_steps : Steps
  alone_steps = record {
    grow = λ name xs. after 0 xs;
    begin = λ made k xs. after 0 xs;
    mend = λ at xs. after damaged xs;
    onward = insert♯ A turns capacity place m s false;
  }

  pub mending-turns : (at : ℕ) (xs : List ℕ) → insert♯ A (suc turns) capacity place m s true at xs ≡ turn♯ A capacity place true m s mending_steps at xs
  unfolding insert♯
  mending-turns at xs = refl

  pub alone-turns : (at : ℕ) (xs : List ℕ) → insert♯ A (suc turns) capacity place m s false at xs ≡ turn♯ A capacity place false m s alone_steps at xs
  unfolding insert♯ unbalances
  alone-turns at xs = refl

-- the arm at the word `at`, the slots and the runs of a table of that capacity, and the records of a tree, up to their end, are there
abbrev pub There : ℕ → ℕ → ℕ → List ℕ → Type 0
There end capacity at xs = (at < 2 ^ 40) × (at + arm_width ≤ length xs) × (runs_end capacity ≤ length xs) × (end ≤ length xs)

-- into the auxiliary tree of the main node named `owner`: records that are not all there are damage
unfoldable pub auxiliary_insert♯ : ℕ → ℕ → Mark → ℕ → ℕ → List ℕ → After ℕ
auxiliary_insert♯ base capacity m s owner xs =
    if ltb (length xs) (level_end base capacity) then after damaged xs
    else insert♯ along_y deepest capacity (record_place base) m s true (auxiliary_place owner) xs
