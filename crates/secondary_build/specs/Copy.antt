-- The mirror of the copy. Assumes nothing.
use Rattle.std.specs.Prelude.{ℕ, zero, suc, ◌-◌, ◌/◌, ◌%◌, ◌≡◌, refl, List, leb, eqb, if◌then◌else◌}
use Rattle.std.proofs.Common.{arith}
use Rattle.nodes.specs.Arms.{Record, record_at, put_record}

-- from a node's number and the words
abbrev pub Copying : Type 0
Copying = ℕ → List ℕ → List ℕ

unfoldable pub copy_record : Copying → (ℕ → ℕ) → ℕ → Record → List ℕ → List ℕ
copy_record rec to name p xs = rec p.right.node (rec p.left.node (put_record xs (to name) p.left p.right))

unfoldable pub copy_node : Copying → ℕ → (ℕ → ℕ) → (ℕ → ℕ) → Copying
copy_node rec capacity from to n xs =
    if eqb (n % 2) 0 then xs else (if leb capacity (n / 2) then xs else copy_record rec to (n / 2) (record_at xs (from (n / 2))) xs)

unfoldable pub copy♯ : ℕ → ℕ → (ℕ → ℕ) → (ℕ → ℕ) → Copying
copy♯ zero capacity from to n xs = xs
copy♯ (suc f) capacity from to n xs = copy_node (copy♯ f capacity from to) capacity from to n xs

pub copy♯-zero : (f : ℕ) → f ≡ 0 → (capacity : ℕ) (from to : ℕ → ℕ) (n : ℕ) (xs : List ℕ) → copy♯ f capacity from to n xs ≡ xs
unfolding copy♯
copy♯-zero f e capacity from to n xs = rw e

pub copy♯-suc : (f : ℕ) → (f ≡ 0 → ⊥) → (capacity : ℕ) (from to : ℕ → ℕ) (n : ℕ) (xs : List ℕ)
    → copy♯ f capacity from to n xs ≡ copy_node (copy♯ (f - 1) capacity from to) capacity from to n xs
unfolding copy♯
copy♯-suc zero h capacity from to n xs = absurd (h refl)
copy♯-suc (suc f) h capacity from to n xs = let e : suc f - 1 ≡ f = omega arith in rw e
