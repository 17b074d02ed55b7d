-- The mirrors of the strike from a tree of either kind, and of that from an auxiliary one, along any axis. Assumes nothing.
use Rattle.std.specs.Prelude.{ℕ, zero, suc, ◌+◌, ◌-◌, ◌/◌, ◌≤◌, ◌≡◌, refl, not, List, leb, ltb, eqb, length, if◌then◌else◌}
use Rattle.std.proofs.Common.{arith}
use Rattle.model.specs.Axis.{Axis}
use Rattle.model.specs.Sheet.{Mark, Box, along_y}
use Rattle.table.specs.Layout.{runs_end, auxiliary_place, record_place, level_end}
use Rattle.table.specs.Limits.{deepest}
use Rattle.table.specs.Runs.{run_slot}
use Rattle.nodes.specs.Arms.{Arm, Way, over_arm, arm_at, put_record, renamed, first_left}
use Rattle.nodes.specs.Ways.{way_at}
use Rattle.nodes.specs.Weights.{is_heavy}
use Rattle.table.specs.After.{After, after}
use Rattle.secondary_build.specs.Build.{rebuild♯}
use Rattle.secondary_update.specs.Updates.{Strike, strike_of, no_strike}

-- the slots and the runs of a table of that capacity, and the records of a tree, up to their end, are there
abbrev pub Lent : ℕ → ℕ → List ℕ → Type 0
Lent capacity end xs = (runs_end capacity ≤ length xs) × (end ≤ length xs)

-- from where a tree's level begins, its weight and number, and the words
abbrev pub Striking : Type 0
Striking = ℕ → ℕ → ℕ → List ℕ → After Strike

-- the node of a name is written over two children; the figure and the least slot come with it
abbrev pub Writing : Type 0
Writing = ℕ → Arm → Arm → ℕ → ℕ → List ℕ → After Strike

-- What a kind of tree has of its own, in a table of a capacity whose records stand at these places: where the next level begins; how a mark is struck from
-- what a node has beside its children, and how the node is written afterwards; how the sibling of a struck leaf takes their parent's place; and how a tree is
-- built afresh without a slot.
pub record How : Type 0 where
  pub deeper : ℕ → ℕ → ℕ
  pub beside : ℕ → (ℕ → ℕ) → Mark → ℕ → ℕ → ℕ → List ℕ → After Writing
  pub lifted : ℕ → ℕ → Arm → ℕ → List ℕ → After Strike
  pub afresh : ℕ → (ℕ → ℕ) → ℕ → Striking

-- over what the strike left of the child on the mark's way, where that has lost one mark, and the other child
unfoldable pub strike_over : Writing → ℕ → ℕ → ℕ → Way → After Strike → After Strike
strike_over over capacity s name v p =
    if not (eqb p.out.arm.weight (v.child.weight - 1)) then after no_strike p.words
    else (if v.left then over name p.out.arm v.sibling p.out.rebuilt p.out.first p.words
    else over (renamed capacity name s p.out.first) v.sibling p.out.arm p.out.rebuilt 0 p.words)

-- a node that is not balanced with one mark less: the struck leaf's sibling takes its place, or it is built afresh
abbrev pub strike_here : How → ℕ → (ℕ → ℕ) → ℕ → ℕ → Way → Striking
strike_here W capacity place s name v base w n xs =
    if eqb v.child.weight 1 then W.lifted capacity base v.sibling (first_left v.left name) xs else W.afresh capacity place s base w n xs

-- the child on the mark's way is struck, or the node itself
abbrev pub strike_child : How → Striking → ℕ → (ℕ → ℕ) → Mark → ℕ → ℕ → Way → Striking
strike_child W rec capacity place m s name v base w n xs =
    if is_heavy (v.child.weight - 1) v.sibling.weight
    then (let x : After Writing = W.beside capacity place m s base name xs in
    strike_over x.out capacity s name v (rec (W.deeper capacity base) v.child.weight v.child.node x.words))
    else strike_here W capacity place s name v base w n xs

-- children whose weights are not the node's are damage
abbrev pub strike_way : How → Striking → ℕ → (ℕ → ℕ) → Mark → ℕ → ℕ → Way → Striking
strike_way W rec capacity place m s name v base w n xs =
    if not (eqb (v.child.weight + v.sibling.weight) w) then after no_strike xs else strike_child W rec capacity place m s name v base w n xs

-- a node of no slot is damage
abbrev pub strike_node : Axis Mark Box → How → Striking → ℕ → (ℕ → ℕ) → Mark → ℕ → Striking
strike_node A W rec capacity place m s base w n xs =
    if leb capacity (n / 2) then after no_strike xs
    else strike_way W rec capacity place m s (n / 2) (way_at A place m (n / 2) xs) base w n xs

module _ (A : Axis Mark Box) (W : How) (capacity : ℕ) (place : ℕ → ℕ) (m : Mark) (s : ℕ) where
  unfoldable pub strike_beneath♯ : ℕ → Striking
  strike_beneath♯ zero base w n xs = after no_strike xs
  strike_beneath♯ (suc f) base w n xs = strike_node A W (strike_beneath♯ f) capacity place m s base w n xs

  pub strike_beneath♯-zero : (f : ℕ) → f ≡ 0 → (base w n : ℕ) (xs : List ℕ) → strike_beneath♯ f base w n xs ≡ after no_strike xs
  unfolding strike_beneath♯
  strike_beneath♯-zero f e base w n xs = rw e

  pub strike_beneath♯-suc : (f : ℕ) → (f ≡ 0 → ⊥) → (base w n : ℕ) (xs : List ℕ)
      → strike_beneath♯ f base w n xs ≡ strike_node A W (strike_beneath♯ (f - 1)) capacity place m s base w n xs
  unfolding strike_beneath♯
  strike_beneath♯-suc zero h base w n xs = absurd (h refl)
  strike_beneath♯-suc (suc f) h base w n xs = let e : suc f - 1 ≡ f = omega arith in rw e

-- the node of an auxiliary tree
unfoldable pub node_over : (ℕ → ℕ) → Writing
node_over place name l r rebuilt first xs = after (strike_of (over_arm name l r) rebuilt first) (put_record xs (place name) l r)

-- a tree of w marks built afresh without the slot s: the slots left stand in run A
unfoldable pub fresh_strike : ℕ → ℕ → After Arm → After Strike
fresh_strike capacity w p = after (strike_of p.out (w - 1) (run_slot capacity 0 p.words)) p.words

unfoldable pub strike_afresh : Axis Mark Box → ℕ → (ℕ → ℕ) → ℕ → ℕ → ℕ → List ℕ → After Strike
strike_afresh A capacity place s w n xs = fresh_strike capacity w (rebuild♯ A place capacity s (w - 1) w n xs)

-- an auxiliary tree has all its records in one level
abbrev pub auxiliary : Axis Mark Box → How
auxiliary A = record {
  deeper = λ capacity base. base;
  beside = λ capacity place m s base name xs. after (node_over place) xs;
  lifted = λ capacity base a first xs. after (strike_of a 0 first) xs;
  afresh = λ capacity place s base w n xs. strike_afresh A capacity place s w n xs;
}

abbrev pub strike♯ : Axis Mark Box → ℕ → ℕ → (ℕ → ℕ) → Mark → ℕ → ℕ → ℕ → List ℕ → After Strike
strike♯ A f capacity place m s w n xs = strike_beneath♯ A (auxiliary A) capacity place m s f 0 w n xs

-- from the auxiliary tree of an arm: records that are not all there are damage
unfoldable pub strike_from : ℕ → ℕ → Mark → ℕ → Arm → List ℕ → After Strike
strike_from base capacity m s a xs = strike♯ along_y deepest capacity (record_place base) m s a.weight a.node xs

-- from that of the main node named `owner`
unfoldable pub auxiliary_strike♯ : ℕ → ℕ → Mark → ℕ → ℕ → List ℕ → After Strike
auxiliary_strike♯ base capacity m s owner xs =
    if ltb (length xs) (level_end base capacity) then after no_strike xs
    else strike_from base capacity m s (arm_at xs (auxiliary_place owner)) xs
