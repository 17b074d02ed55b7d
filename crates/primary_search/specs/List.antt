-- The mirror of the listing in a table of a capacity: a node that is of no slot is damage, and so is a level that is not all there. Assumes nothing.
use Rattle.std.specs.Prelude.{ℕ, zero, suc, ◌-◌, ◌/◌, ◌%◌, ◌≡◌, refl, List, Bool, true, leb, ltb, eqb, length, get_or, if◌then◌else◌}
use Rattle.std.proofs.Common.{arith}
use Rattle.model.specs.Axis.{cell_inside, cell_clear}
use Rattle.model.specs.Sheet.{Mark, Box, along_x, holds}
use Rattle.table.specs.Layout.{capacity_place, main_place, auxiliary_place, root_place, list_place, level_end}
use Rattle.table.specs.Limits.{deepest, lost}
use Rattle.table.specs.Marks.{slot_mark, put_mark}
use Rattle.nodes.specs.Arms.{Arm, Record, arm_at, record_at}
use Rattle.table.specs.Tally.{visited}
use Rattle.table.specs.After.{After, after}
use Rattle.twofold_layout.specs.Levels.{top_level, deeper}
use Rattle.secondary_search.specs.List.{list♯}

unfoldable pub list_mark : Box → Mark → ℕ → List ℕ → After ℕ
list_mark b m tally ys =
    if holds b m then after (visited tally 1) (put_mark ys (list_place (tally / 4294967296)) m) else after (visited tally 0) ys

unfoldable pub list_leaf♯ : List ℕ → Box → ℕ → ℕ → List ℕ → After ℕ
list_leaf♯ xs b s tally ys = list_mark b (slot_mark xs s) tally ys

unfoldable pub list_over♯ : List ℕ → ℕ → Box → ℕ → ℕ → ℕ → ℕ → List ℕ → After ℕ
list_over♯ xs capacity b most base s tally ys =
    if ltb (length xs) (level_end base capacity) then after lost ys else list♯ deepest xs capacity base b most (arm_at xs (auxiliary_place s)) tally ys

-- from where the arm's level begins, the arm, a tally and the list so far
abbrev pub MainListing : Type 0
MainListing = ℕ → Arm → ℕ → List ℕ → After ℕ

unfoldable pub list_children : MainListing → Record → ℕ → ℕ → List ℕ → After ℕ
list_children rec p base tally ys =
    let half : After ℕ = rec base p.left tally ys in
    rec base p.right half.out half.words

unfoldable pub list_inner : MainListing → List ℕ → ℕ → Box → ℕ → ℕ → Arm → ℕ → ℕ → List ℕ → After ℕ
list_inner rec xs capacity b most base a s here ys =
    if cell_inside along_x b a.least a.greatest then list_over♯ xs capacity b most base s here ys
    else (if cell_clear along_x b a.least a.greatest then after here ys
    else list_children rec (record_at xs (main_place s)) (deeper base capacity) here ys)

-- where a listing stops: its visits are used up, or the node is of no slot
unfoldable pub stops : ℕ → ℕ → ℕ → ℕ → Bool
stops capacity s most tally = if leb most (tally % 4294967296) then true else leb capacity s

unfoldable pub list_arm : MainListing → List ℕ → ℕ → Box → ℕ → MainListing
list_arm rec xs capacity b most base a tally ys =
    if stops capacity (a.node / 2) most tally then after lost ys
    else (if eqb (a.node % 2) 0 then list_leaf♯ xs b (a.node / 2) tally ys
    else list_inner rec xs capacity b most base a (a.node / 2) (visited tally 0) ys)

unfoldable pub list_beneath♯ : ℕ → List ℕ → ℕ → Box → ℕ → MainListing
list_beneath♯ zero xs capacity b most base a tally ys = after lost ys
list_beneath♯ (suc f) xs capacity b most base a tally ys = list_arm (list_beneath♯ f xs capacity b most) xs capacity b most base a tally ys

pub list_beneath♯-zero : (f : ℕ) → f ≡ 0 → (xs : List ℕ) (capacity : ℕ) (b : Box) (most base : ℕ) (a : Arm) (tally : ℕ) (ys : List ℕ)
    → list_beneath♯ f xs capacity b most base a tally ys ≡ after lost ys
unfolding list_beneath♯
list_beneath♯-zero f e xs capacity b most base a tally ys = rw e

pub list_beneath♯-suc : (f : ℕ) → (f ≡ 0 → ⊥)
    → (xs : List ℕ) (capacity : ℕ) (b : Box) (most base : ℕ) (a : Arm) (tally : ℕ) (ys : List ℕ)
    → list_beneath♯ f xs capacity b most base a tally ys ≡ list_arm (list_beneath♯ (f - 1) xs capacity b most) xs capacity b most base a tally ys
unfolding list_beneath♯
list_beneath♯-suc zero h xs capacity b most base a tally ys = absurd (h refl)
list_beneath♯-suc (suc f) h xs capacity b most base a tally ys = let e : suc f - 1 ≡ f = omega arith in rw e

unfoldable pub list_root : List ℕ → ℕ → Box → ℕ → Arm → List ℕ → After ℕ
list_root xs capacity b most a ys =
    if eqb a.weight 0 then after 0 ys else list_beneath♯ deepest xs capacity b most (top_level capacity) a 0 ys

-- of the table's tree
abbrev pub list_from♯ : List ℕ → ℕ → Box → ℕ → List ℕ → After ℕ
list_from♯ xs capacity b most ys = list_root xs capacity b most (arm_at xs root_place) ys

-- by the capacity that the words say
unfoldable pub main_list♯ : List ℕ → Box → ℕ → List ℕ → After ℕ
main_list♯ xs b most ys = list_from♯ xs (get_or xs capacity_place 0) b most ys
