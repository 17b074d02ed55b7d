-- The mirror of the collection of a tree's slots. Assumes nothing.
use Rattle.std.specs.Prelude.{ℕ, zero, suc, ◌+◌, ◌-◌, ◌/◌, ◌%◌, ◌≡◌, Option, None, Some, Result, Ok, Err}
use Rattle.std.specs.Prelude.{refl, Bool, false, List, leb, ltb, eqb, set, if◌then◌else◌}
use Rattle.std.proofs.Common.{arith}
use Rattle.table.specs.Layout.{run_place}
use Rattle.table.specs.After.{After, after}
use Rattle.table.specs.Limits.{deepest, no_slot}
use Rattle.table.specs.declared.damage.Damaged.{Damaged}
use Rattle.nodes.specs.Arms.{Record, record_at}

-- how many slots are taken, or damage, and the words
abbrev pub Taken : Type 0
Taken = After (Result ℕ Damaged)

abbrev pub lost : List ℕ → Taken
lost xs = after (Err (record {})) xs

-- from a node's weight and number, what is taken so far and the words
abbrev pub Collection : Type 0
Collection = ℕ → ℕ → ℕ → List ℕ → Taken

-- what is done after something else, unless that met damage
abbrev pub go_on : (ℕ → List ℕ → Taken) → Result ℕ Damaged → List ℕ → Taken
go_on rest (Ok taken) xs = rest taken xs
go_on rest (Err d) xs = after (Err d) xs

-- the slot that is left out of a collection: where none is, that of no table
abbrev pub left_out : Option ℕ → ℕ
left_out None = no_slot
left_out (Some s) = s

unfoldable pub collect_parts : Collection → Record → ℕ → ℕ → List ℕ → Taken
collect_parts rec p w taken xs =
    let half : Taken = rec p.left.weight p.left.node taken xs in
    go_on (rec (w - p.left.weight) p.right.node) half.out half.words

unfoldable pub collect_both : Collection → Record → ℕ → ℕ → List ℕ → Taken
collect_both rec p w taken xs =
    if eqb p.left.weight 0 then lost xs else (if leb w p.left.weight then lost xs else collect_parts rec p w taken xs)

-- a leaf, or an inner node, of no slot is damage
unfoldable pub collect_leaf : ℕ → ℕ → ℕ → ℕ → List ℕ → Taken
collect_leaf capacity but s taken xs =
    if leb capacity s then lost xs
    else (if eqb s but then after (Ok taken) xs else after (Ok (taken + 1)) (set xs (run_place capacity taken) s))

unfoldable pub collect_inner : Collection → (ℕ → ℕ) → ℕ → ℕ → ℕ → ℕ → List ℕ → Taken
collect_inner rec place capacity w name taken xs =
    if leb capacity name then lost xs else collect_both rec (record_at xs (place name)) w taken xs

unfoldable pub collect_at : Collection → (ℕ → ℕ) → ℕ → ℕ → Collection
collect_at rec place capacity but w n taken xs =
    if leb capacity taken then lost xs
    else (if eqb (n % 2) 0 then collect_leaf capacity but (n / 2) taken xs else collect_inner rec place capacity w (n / 2) taken xs)

-- the slots of a tree but `but`, its records at these places
unfoldable pub collect♯ : ℕ → (ℕ → ℕ) → ℕ → ℕ → Collection
collect♯ zero place capacity but w n taken xs = lost xs
collect♯ (suc f) place capacity but w n taken xs = collect_at (collect♯ f place capacity but) place capacity but w n taken xs

pub collect♯-zero : (f : ℕ) → f ≡ 0 → (place : ℕ → ℕ) (capacity but w n taken : ℕ) (xs : List ℕ)
    → collect♯ f place capacity but w n taken xs ≡ lost xs
unfolding collect♯
collect♯-zero f e place capacity but w n taken xs = rw e

pub collect♯-suc : (f : ℕ) → (f ≡ 0 → ⊥) → (place : ℕ → ℕ) (capacity but w n taken : ℕ) (xs : List ℕ)
    → collect♯ f place capacity but w n taken xs ≡ collect_at (collect♯ (f - 1) place capacity but) place capacity but w n taken xs
unfolding collect♯
collect♯-suc zero h place capacity but w n taken xs = absurd (h refl)
collect♯-suc (suc f) h place capacity but w n taken xs = let e : suc f - 1 ≡ f = omega arith in rw e

-- whether the slots of a tree of weight w and number n but `but` are k: some, and no more than the capacity. They stand in run A then.
abbrev pub is_many : ℕ → Result ℕ Damaged → Bool
is_many k (Ok taken) = eqb taken k
is_many k (Err _) = false

unfoldable pub gathered : ℕ → Taken → After Bool
gathered k run = after (is_many k run.out) run.words

unfoldable pub gather♯ : (ℕ → ℕ) → ℕ → ℕ → ℕ → ℕ → ℕ → List ℕ → After Bool
gather♯ place capacity but k w n xs =
    if ltb capacity w then after false xs
    else (if ltb capacity k then after false xs
    else (if eqb k 0 then after false xs else gathered k (collect♯ deepest place capacity but w n 0 xs)))
