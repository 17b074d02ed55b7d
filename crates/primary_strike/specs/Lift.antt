-- The mirror of the lifting. Assumes nothing.
use Rattle.std.specs.Prelude.{ℕ, zero, suc, ◌-◌, ◌/◌, ◌%◌, ◌≡◌, refl, ◌||◌, List, leb, ltb, eqb, length, if◌then◌else◌}
use Rattle.std.proofs.Common.{arith}
use Rattle.table.specs.Layout.{main_place, auxiliary_place, record_place, level_end}
use Rattle.table.specs.Limits.{sibling_deepest}
use Rattle.nodes.specs.Arms.{Record, arm_at, record_at}
use Rattle.twofold_layout.specs.Levels.{deeper}
use Rattle.secondary_build.specs.Copy.{copy♯}

-- from where the root's level begins and where it goes, a node's number and the words
abbrev pub Lifting : Type 0
Lifting = ℕ → ℕ → ℕ → List ℕ → List ℕ

abbrev pub lift_record : Lifting → ℕ → ℕ → ℕ → ℕ → Record → List ℕ → List ℕ
lift_record rec capacity from to name p xs =
    let ys : List ℕ = copy♯ sibling_deepest capacity (record_place from) (record_place to) (arm_at xs (auxiliary_place name)).node xs in
    rec (deeper from capacity) from p.right.node (rec (deeper from capacity) from p.left.node ys)

-- levels that are not there hold no tree
abbrev pub lift_there : Lifting → ℕ → ℕ → ℕ → ℕ → List ℕ → List ℕ
lift_there rec capacity from to name xs =
    if ltb (length xs) (level_end from capacity) || ltb (length xs) (level_end to capacity) then xs
    else lift_record rec capacity from to name (record_at xs (main_place name)) xs

-- what is beneath a node of no slot stays as it is
abbrev pub lift_node : Lifting → ℕ → Lifting
lift_node rec capacity from to n xs =
    if eqb (n % 2) 0 || leb capacity (n / 2) then xs else lift_there rec capacity from to (n / 2) xs

unfoldable pub lift♯ : ℕ → ℕ → Lifting
lift♯ zero capacity from to n xs = xs
lift♯ (suc f) capacity from to n xs = lift_node (lift♯ f capacity) capacity from to n xs

pub lift♯-zero : (f : ℕ) → f ≡ 0 → (capacity from to n : ℕ) (xs : List ℕ) → lift♯ f capacity from to n xs ≡ xs
unfolding lift♯
lift♯-zero f e capacity from to n xs = rw e

pub lift♯-suc : (f : ℕ) → (f ≡ 0 → ⊥) → (capacity from to n : ℕ) (xs : List ℕ)
    → lift♯ f capacity from to n xs ≡ lift_node (lift♯ (f - 1) capacity) capacity from to n xs
unfolding lift♯
lift♯-suc zero h capacity from to n xs = absurd (h refl)
lift♯-suc (suc f) h capacity from to n xs = let e : suc f - 1 ≡ f = omega arith in rw e
