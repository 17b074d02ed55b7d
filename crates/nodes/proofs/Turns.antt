-- A turn of the mirror of the collection: at a leaf, at an inner node, and at one whose left child is a leaf. Assumes nothing.
use Prim.Native.Nat.{ℕ, ◌-◌, ◌/◌, ◌%◌, ◌<◌}
use mathlib.Core.Path.{◌≡◌, refl}
use mathlib.Core.Bool.{true, false}
use mathlib.Core.List.{List}
use native.Mathlib.Omega.{arith}
use lib.Dec.{eqb}
use borrow.Author.Tests.{lt-leb}
use Rattle.nodes.specs.Arms.{Record}
use Rattle.nodes.specs.Collect.{Taken, lost, go_on, collect_parts, collect_leaf, collect_inner, collect_at, collect♯, collect♯-zero, collect♯-suc}

-- with the fuel that a loop has left in a turn
pub collect-turn : (fuel turn : ℕ) → turn < fuel → (place : ℕ → ℕ) (capacity but w n taken : ℕ) (xs : List ℕ)
    → collect♯ (fuel - turn) place capacity but w n taken xs
    ≡ collect_at (collect♯ (fuel - turn - 1) place capacity but) place capacity but w n taken xs
collect-turn fuel turn h = collect♯-suc (fuel - turn) (λ e. omega arith)

module _ (f : ℕ) (h : f ≡ 0 → ⊥) (place : ℕ → ℕ) (capacity but w n taken : ℕ) (xs : List ℕ) (k : taken < capacity) where
  pub collect-leaf : eqb (n % 2) 0 ≡ true → collect♯ f place capacity but w n taken xs ≡ collect_leaf capacity but (n / 2) taken xs
  unfolding collect_at
  collect-leaf e = rw (collect♯-suc f h, lt-leb capacity taken k, e)

  pub collect-inner : eqb (n % 2) 0 ≡ false
      → collect♯ f place capacity but w n taken xs ≡ collect_inner (collect♯ (f - 1) place capacity but) place capacity w (n / 2) taken xs
  unfolding collect_at
  collect-inner e = rw (collect♯-suc f h, lt-leb capacity taken k, e)

module _ (f : ℕ) (place : ℕ → ℕ) (capacity but : ℕ) (p : Record) (w taken : ℕ) (xs : List ℕ) where
  -- the right child, after what was done with the left one
  abbrev pub collect_right : Taken → Taken
  collect_right half = go_on (collect♯ f place capacity but (w - p.left.weight) p.right.node) half.out half.words

  pub collect-left : collect_parts (collect♯ f place capacity but) p w taken xs
      ≡ collect_right (collect♯ f place capacity but p.left.weight p.left.node taken xs)
  unfolding collect_parts
  collect-left = refl

  pub collect-left-leaf : (f ≡ 0 → ⊥) → taken < capacity → eqb (p.left.node % 2) 0 ≡ true
      → collect_parts (collect♯ f place capacity but) p w taken xs ≡ collect_right (collect_leaf capacity but (p.left.node / 2) taken xs)
  unfolding collect_parts
  collect-left-leaf h k e = rw (collect-leaf f h place capacity but p.left.weight p.left.node taken xs k e)

  pub collect-spent : f ≡ 0 → collect_parts (collect♯ f place capacity but) p w taken xs ≡ lost xs
  unfolding collect_parts
  collect-spent e = rw (collect♯-zero f e place capacity but p.left.weight p.left.node taken xs)
