-- The mirror of the finding: the slot that has the mark, or none; or damage. Assumes nothing.
use Rattle.std.specs.Prelude.{ℕ, zero, suc, ◌-◌, ◌/◌, ◌%◌, ◌≡◌, refl, List, leb, eqb, get_or, if◌then◌else◌}
use Rattle.std.specs.Prelude.{Option, None, Result, Ok, Err}
use Rattle.std.specs.Bool.{then_some}
use Rattle.std.proofs.Common.{arith}
use Rattle.model.specs.Sheet.{Mark, same, along_x}
use Rattle.table.specs.Layout.{capacity_place, main_place, root_place}
use Rattle.table.specs.Limits.{deepest}
use Rattle.table.specs.declared.damage.Damaged.{Damaged}
use Rattle.table.specs.Marks.{slot_mark}
use Rattle.nodes.specs.Arms.{Arm, arm_at}
use Rattle.nodes.specs.Ways.{way_at}

abbrev pub Sought : Type 0
Sought = Result (Option ℕ) Damaged

unfoldable pub find_leaf : List ℕ → Mark → ℕ → Sought
find_leaf xs m s = Ok (then_some (same m (slot_mark xs s)) s)

-- from a node's number; one that is of no slot of the table is damage
unfoldable pub find_node : (ℕ → Sought) → List ℕ → ℕ → Mark → ℕ → Sought
find_node rec xs capacity m n =
    if leb capacity (n / 2) then Err (record {})
    else (if eqb (n % 2) 0 then find_leaf xs m (n / 2) else rec (way_at along_x main_place m (n / 2) xs).child.node)

unfoldable pub find_beneath♯ : ℕ → List ℕ → ℕ → Mark → ℕ → Sought
find_beneath♯ zero xs capacity m n = Err (record {})
find_beneath♯ (suc f) xs capacity m n = find_node (find_beneath♯ f xs capacity m) xs capacity m n

pub find_beneath♯-zero : (f : ℕ) → f ≡ 0 → (xs : List ℕ) (capacity : ℕ) (m : Mark) (n : ℕ)
    → find_beneath♯ f xs capacity m n ≡ Err (record {})
unfolding find_beneath♯
find_beneath♯-zero f e xs capacity m n = rw e

pub find_beneath♯-suc : (f : ℕ) → (f ≡ 0 → ⊥) → (xs : List ℕ) (capacity : ℕ) (m : Mark) (n : ℕ)
    → find_beneath♯ f xs capacity m n ≡ find_node (find_beneath♯ (f - 1) xs capacity m) xs capacity m n
unfolding find_beneath♯
find_beneath♯-suc zero h xs capacity m n = absurd (h refl)
find_beneath♯-suc (suc f) h xs capacity m n = let e : suc f - 1 ≡ f = omega arith in rw e

unfoldable pub find_root : List ℕ → ℕ → Mark → Arm → Sought
find_root xs capacity m a = if eqb a.weight 0 then Ok None else find_beneath♯ deepest xs capacity m a.node

-- from the root of the table's tree
abbrev pub find_from♯ : List ℕ → ℕ → Mark → Sought
find_from♯ xs capacity m = find_root xs capacity m (arm_at xs root_place)

-- by the capacity that the words say
unfoldable pub find♯ : List ℕ → Mark → Sought
find♯ xs m = find_from♯ xs (get_or xs capacity_place 0) m
