-- The mirror of the listing in a table of a capacity: a node that is of no slot is damage. Assumes nothing.
use Rattle.std.specs.Prelude.{ℕ, zero, suc, ◌-◌, ◌/◌, ◌%◌, ◌≡◌, refl, List, leb, eqb, if◌then◌else◌}
use Rattle.std.proofs.Common.{arith}
use Rattle.model.specs.Axis.{cell_inside, cell_clear}
use Rattle.model.specs.Sheet.{Box, along_y}
use Rattle.table.specs.Layout.{record_place, list_place}
use Rattle.table.specs.Marks.{slot_mark, put_mark}
use Rattle.nodes.specs.Arms.{Arm, Record, record_at}
use Rattle.table.specs.Tally.{visited}
use Rattle.table.specs.Limits.{lost}
use Rattle.table.specs.After.{After, after}

-- a walk from a node's number, a tally and the list so far
abbrev pub Walk : Type 0
Walk = ℕ → ℕ → List ℕ → After ℕ

unfoldable pub walk_leaf : List ℕ → ℕ → ℕ → List ℕ → After ℕ
walk_leaf xs s tally ys = after (visited tally 1) (put_mark ys (list_place (tally / 4294967296)) (slot_mark xs s))

unfoldable pub walk_record : Walk → Record → ℕ → List ℕ → After ℕ
walk_record rec p tally ys =
    let half : After ℕ = rec p.left.node (visited tally 0) ys in
    rec p.right.node half.out half.words

unfoldable pub walk_node : Walk → List ℕ → ℕ → ℕ → ℕ → Walk
walk_node rec xs capacity base most n tally ys =
    if leb most (tally % 4294967296) then after lost ys
    else (if leb capacity (n / 2) then after lost ys
    else (if eqb (n % 2) 0 then walk_leaf xs (n / 2) tally ys else walk_record rec (record_at xs (record_place base (n / 2))) tally ys))

unfoldable pub walk♯ : ℕ → List ℕ → ℕ → ℕ → ℕ → Walk
walk♯ zero xs capacity base most n tally ys = after lost ys
walk♯ (suc f) xs capacity base most n tally ys = walk_node (walk♯ f xs capacity base most) xs capacity base most n tally ys

pub walk♯-zero : (f : ℕ) → f ≡ 0 → (xs : List ℕ) (capacity base most n tally : ℕ) (ys : List ℕ)
    → walk♯ f xs capacity base most n tally ys ≡ after lost ys
unfolding walk♯
walk♯-zero f e xs capacity base most n tally ys = rw e

pub walk♯-suc : (f : ℕ) → (f ≡ 0 → ⊥) → (xs : List ℕ) (capacity base most n tally : ℕ) (ys : List ℕ)
    → walk♯ f xs capacity base most n tally ys ≡ walk_node (walk♯ (f - 1) xs capacity base most) xs capacity base most n tally ys
unfolding walk♯
walk♯-suc zero h xs capacity base most n tally ys = absurd (h refl)
walk♯-suc (suc f) h xs capacity base most n tally ys = let e : suc f - 1 ≡ f = omega arith in rw e

-- a listing from an arm
abbrev pub Listing : Type 0
Listing = Arm → ℕ → List ℕ → After ℕ

unfoldable pub list_record : Listing → Record → ℕ → List ℕ → After ℕ
list_record rec p tally ys =
    let half : After ℕ = rec p.left (visited tally 0) ys in
    rec p.right half.out half.words

unfoldable pub list_node : Walk → Listing → List ℕ → ℕ → ℕ → Box → ℕ → Listing
list_node all rec xs capacity base b most a tally ys =
    if leb most (tally % 4294967296) then after lost ys
    else (if cell_inside along_y b a.least a.greatest then all a.node tally ys
    else (if cell_clear along_y b a.least a.greatest then after (visited tally 0) ys
    else (if leb capacity (a.node / 2) then after lost ys else list_record rec (record_at xs (record_place base (a.node / 2))) tally ys)))

unfoldable pub list♯ : ℕ → List ℕ → ℕ → ℕ → Box → ℕ → Listing
list♯ zero xs capacity base b most a tally ys = after lost ys
list♯ (suc f) xs capacity base b most a tally ys =
    list_node (walk♯ (suc f) xs capacity base most) (list♯ f xs capacity base b most) xs capacity base b most a tally ys

pub list♯-zero : (f : ℕ) → f ≡ 0 → (xs : List ℕ) (capacity base : ℕ) (b : Box) (most : ℕ) (a : Arm) (tally : ℕ) (ys : List ℕ)
    → list♯ f xs capacity base b most a tally ys ≡ after lost ys
unfolding list♯
list♯-zero f e xs capacity base b most a tally ys = rw e

pub list♯-suc : (f : ℕ) → (f ≡ 0 → ⊥) → (xs : List ℕ) (capacity base : ℕ) (b : Box) (most : ℕ) (a : Arm) (tally : ℕ) (ys : List ℕ)
    → list♯ f xs capacity base b most a tally ys
    ≡ list_node (walk♯ f xs capacity base most) (list♯ (f - 1) xs capacity base b most) xs capacity base b most a tally ys
unfolding list♯
list♯-suc zero h xs capacity base b most a tally ys = absurd (h refl)
list♯-suc (suc f) h xs capacity base b most a tally ys = let e : suc f - 1 ≡ f = omega arith in rw e
