-- What the mirror of the building does with two slots and with three. Assumes nothing.
use Prim.Native.Nat.{ℕ, ◌+◌}
use mathlib.Core.Path.{◌≡◌, refl}
use mathlib.Core.List.{List}
use Rattle.model.specs.Axis.{Axis}
use Rattle.model.specs.Sheet.{Mark, Box}
use Rattle.table.specs.Runs.{run_slot}
use Rattle.table.specs.After.{After}
use Rattle.nodes.specs.Arms.{Arm}
use Rattle.secondary_build.specs.Build.{run_leaf, build_over, build_node, build_step, build♯}

pub build♯-two : (A : Axis Mark Box) (place : ℕ → ℕ) (capacity i : ℕ) (xs : List ℕ)
    → build♯ A 2 place capacity i 2 xs
    ≡ build_over place (run_slot capacity (i + 1) xs) (run_leaf A capacity i xs) (run_leaf A capacity (i + 1) xs) xs
unfolding build♯ build_step build_node
build♯-two A place capacity i xs = refl

-- one slot left, and two right
unfoldable pub build_three : (ℕ → ℕ) → ℕ → ℕ → Arm → After Arm → After Arm
build_three place capacity i l q = build_over place (run_slot capacity (i + 1) q.words) l q.out q.words

pub build♯-three : (A : Axis Mark Box) (place : ℕ → ℕ) (capacity i : ℕ) (xs : List ℕ)
    → build♯ A 3 place capacity i 3 xs ≡ build_three place capacity i (run_leaf A capacity i xs) (build♯ A 2 place capacity (i + 1) 2 xs)
unfolding build♯ build_step build_node build_three
build♯-three A place capacity i xs = refl
