-- The mirror of the walk through a tree along any axis, its records at any places. Assumes nothing.
use Rattle.std.specs.Prelude.{ℕ, zero, suc, ◌+◌, ◌-◌, ◌*◌, ◌/◌, ◌%◌, ◌<◌, ◌≡◌, refl}
use Rattle.std.specs.Prelude.{Bool, true, ◌&&◌, List, Option, None, option_and_then, leb, eqb, if◌then◌else◌}
use Rattle.std.specs.Bool.{then_some}
use Rattle.std.proofs.Common.{arith}
use Rattle.model.specs.Axis.{Axis}
use Rattle.model.specs.Sheet.{Mark, Box}
use Rattle.table.specs.Marks.{slot_mark}
use Rattle.nodes.specs.Arms.{Arm, leaf_arm, over_arm, Record, record_at}
use Rattle.checking.specs.declared.ends.Ends.{Ends}

-- the least and the greatest slot of a sound tree
abbrev pub ends : ℕ → ℕ → Ends
ends a b = record { first = a; last = b }

-- they are slots of a table of that capacity
abbrev pub Within : ℕ → Ends → Type 0
Within capacity s = (s.first < capacity) × (s.last < capacity)

abbrev pub same_arm : Arm → Arm → Bool
same_arm a b = eqb a.node b.node && eqb a.weight b.weight && eqb a.least b.least && eqb a.greatest b.greatest && eqb a.grades b.grades

-- the arm of an inner node is that over its children's arms, and it is balanced
abbrev pub fits♯ : ℕ → Arm → Arm → Arm → Bool
fits♯ name a l r =
    eqb (l.weight + r.weight) a.weight
    && (leb (l.weight + r.weight) (4 * l.weight) && leb (l.weight + r.weight) (4 * r.weight))
    && same_arm a (over_arm name l r)

-- what is asked of an inner node beside this: its least and greatest slot
abbrev pub NodeTest : Type 0
NodeTest = ℕ → ℕ → Bool

abbrev pub any_node : NodeTest
any_node first last = true

module _ (A : Axis Mark Box) where
  -- the arm of the leaf of slot s
  abbrev pub slot_arm : ℕ → List ℕ → Arm
  slot_arm s xs = leaf_arm s (A.at (slot_mark xs s)) (slot_mark xs s).grade

  -- whether an arm is that of the leaf of slot s, where the slot passes a test
  abbrev pub has_leaf♯ : (ℕ → Bool) → ℕ → Arm → List ℕ → Bool
  has_leaf♯ slot s a xs = slot s && same_arm a (slot_arm s xs)

  -- whether a node of that name stands over two trees: it is named after the right one's least slot, and the left one's marks are below
  abbrev pub stands_over♯ : NodeTest → ℕ → Ends → Ends → List ℕ → Bool
  stands_over♯ test name x y xs = eqb y.first name && A.below (slot_mark xs x.last) (slot_mark xs name) && test x.first y.last

  abbrev pub span_over : NodeTest → ℕ → Option Ends → Option Ends → List ℕ → Option Ends
  span_over test name p q xs =
      option_and_then (λ x. option_and_then (λ y. then_some (stands_over♯ test name x y xs) (ends x.first y.last)) q) p

  -- A tree's slots pass `slot`, and its inner nodes `test`, given where the node's level begins, its name and its weight; `next` is where the level
  -- beneath begins.
  module _ (capacity : ℕ) (place : ℕ → ℕ) (slot : ℕ → Bool) (next : ℕ → ℕ) (test : ℕ → ℕ → ℕ → NodeTest) where
    abbrev pub span_node : (ℕ → Arm → Option Ends) → ℕ → ℕ → Arm → Record → List ℕ → Option Ends
    span_node rec base name a p xs =
        if fits♯ name a p.left p.right then span_over (test base name a.weight) name (rec (next base) p.left) (rec (next base) p.right) xs
        else None

    -- a node of no slot is damage
    abbrev pub span_step : (ℕ → Arm → Option Ends) → ℕ → Arm → List ℕ → Option Ends
    span_step rec base a xs =
        if leb capacity (a.node / 2) then None
        else (if eqb (a.node % 2) 0 then then_some (has_leaf♯ slot (a.node / 2) a xs) (ends (a.node / 2) (a.node / 2))
        else span_node rec base (a.node / 2) a (record_at xs (place (a.node / 2))) xs)

    unfoldable pub tree_span : ℕ → List ℕ → ℕ → Arm → Option Ends
    tree_span zero xs base a = None
    tree_span (suc n) xs base a = span_step (tree_span n xs) base a xs

    pub tree_span-zero : (n : ℕ) → n ≡ 0 → (xs : List ℕ) (base : ℕ) (a : Arm) → tree_span n xs base a ≡ None
    unfolding tree_span
    tree_span-zero n e xs base a = rw e

    pub tree_span-suc : (n : ℕ) → (n ≡ 0 → ⊥) → (xs : List ℕ) (base : ℕ) (a : Arm)
        → tree_span n xs base a ≡ span_step (tree_span (n - 1) xs) base a xs
    unfolding tree_span
    tree_span-suc zero h xs base a = absurd (h refl)
    tree_span-suc (suc n) h xs base a = let e : suc n - 1 ≡ n = omega arith in rw e
