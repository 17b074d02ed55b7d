-- The mirror of the emptying. Assumes nothing.
use Rattle.std.specs.Prelude.{ℕ, zero, suc, ◌-◌, ◌≡◌, refl, List, set}
use Rattle.std.proofs.Common.{arith}
use Rattle.table.specs.Layout.{open_place, capacity_place, live_place, root_place, used_place, place_place}
use Rattle.nodes.specs.Arms.{no_arm, put_arm}

unfoldable pub own_place : ℕ → ℕ → List ℕ → List ℕ
own_place capacity s xs = set (set xs (used_place capacity s) s) (place_place capacity s) s

unfoldable pub free_slots♯ : ℕ → ℕ → List ℕ → List ℕ
free_slots♯ zero capacity xs = xs
free_slots♯ (suc n) capacity xs = free_slots♯ n capacity (own_place capacity n xs)

pub free_slots♯-zero : (n : ℕ) → n ≡ 0 → (capacity : ℕ) (xs : List ℕ) → free_slots♯ n capacity xs ≡ xs
unfolding free_slots♯
free_slots♯-zero n e capacity xs = rw e

pub free_slots♯-suc : (n : ℕ) → (n ≡ 0 → ⊥) → (capacity : ℕ) (xs : List ℕ)
    → free_slots♯ n capacity xs ≡ free_slots♯ (n - 1) capacity (own_place capacity (n - 1) xs)
unfolding free_slots♯
free_slots♯-suc zero h capacity xs = absurd (h refl)
free_slots♯-suc (suc n) h capacity xs = let e : suc n - 1 ≡ n = omega arith in rw e

unfoldable pub empty♯ : ℕ → List ℕ → List ℕ
empty♯ capacity xs = set (put_arm (set (set (free_slots♯ capacity capacity xs) capacity_place capacity) live_place 0) root_place no_arm) open_place 1
