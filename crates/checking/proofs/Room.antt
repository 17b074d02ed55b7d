-- What the walks read is there: a table has the words of its slots, and the ends that a walk gives are slots. Assumes nothing.
use Rattle.std.specs.Prelude.{Option, Some, None, IfSome}
use Rattle.std.specs.Bool.{then_some}
use Prim.Native.Nat.{ℕ, zero, suc, ◌/◌, ◌%◌, ◌≤◌}
use mathlib.Core.Path.{◌≡◌}
use mathlib.Core.Bool.{Bool, true, false}
use mathlib.Core.List.{List}
use native.Mathlib.Omega.{arith}
use lib.Dec.{leb, eqb}
use lib.ListN.{length}
use borrow.Author.Tests.{leb-false}
use Rattle.model.specs.Axis.{Axis}
use Rattle.model.specs.Sheet.{Mark, Box, along_x, along_y}
use Rattle.model.proofs.Logic.{by_cases}
use Rattle.table.specs.Layout.{main_place, record_place, slots_end}
use Rattle.table.specs.Header.{capacity_of, own_words}
use Rattle.table.proofs.Own.{own-table}
use Rattle.nodes.specs.Arms.{Arm, Record, record_at}
use Rattle.nodes.proofs.Levels.{W-words}
use Rattle.twofold_layout.specs.Levels.{deeper}
use Rattle.checking.specs.declared.ends.Ends.{Ends}
use Rattle.checking.specs.Span.{ends, Within, fits♯, stands_over♯, NodeTest, any_node, has_leaf♯, span_over, tree_span}
use Rattle.checking.specs.Trees.{auxiliary_slot♯, auxiliary_span♯, auxiliary_stands♯, main_slot♯, main_span♯}

pub slots-there : (xs : List ℕ) → (own_words xs ≡ 0 → ⊥) → slots_end (capacity_of xs) ≤ length xs
slots-there xs own = omega (arith, (own-table xs own).4, W-words (capacity_of xs))

module _ (A : Axis Mark Box) (C : ℕ) (place : ℕ → ℕ) (slot : ℕ → Bool) (next : ℕ → ℕ)
    (test : ℕ → ℕ → ℕ → NodeTest) (xs : List ℕ) where
  passed : (c : Bool) (e : Ends) → Within C e → IfSome (then_some c e) (Within C)
  passed true e h = h
  passed false e h = tt

  over-within : (asked : NodeTest) (name : ℕ) (p q : Option Ends) → IfSome p (Within C) → IfSome q (Within C)
      → IfSome (span_over A asked name p q xs) (Within C)
  over-within asked name (Some x) (Some y) hx hy = passed (stands_over♯ A asked name x y xs) (ends x.first y.last) (hx.0, hy.1)
  over-within asked name (Some x) None hx hy = tt
  over-within asked name None q hx hy = tt

  tree-within : (n base : ℕ) (a : Arm) → IfSome (tree_span A C place slot next test n xs base a) (Within C)
  unfolding tree_span
  tree-within zero base a = tt
  tree-within (suc n) base a =
      let name : ℕ = a.node / 2 in
      let p : Record = record_at xs (place name) in
      let x = tree-within n (next base) p.left in
      let y = tree-within n (next base) p.right in
      by_cases (leb C name)
      (λ t. rw t tt)
      (λ inside. by_cases (eqb (a.node % 2) 0)
      (λ even. rw (inside, even) (passed (has_leaf♯ A slot name a xs) (ends name name) (leb-false C name inside, leb-false C name inside)))
      (λ odd. by_cases (fits♯ name a p.left p.right)
      (λ t. rw (inside, odd, t) (over-within (test base name a.weight) name _ _ x y))
      (λ f. rw (inside, odd, f) tt)))

module _ (n base C live : ℕ) (a : Arm) (xs : List ℕ) where
  pub auxiliary-within : (first last : ℕ) → IfSome (auxiliary_span♯ n base C live first last a xs) (Within C)
  auxiliary-within first last =
      tree-within along_y C (record_place base) (auxiliary_slot♯ C live first last xs) (λ b. b) (λ b name w. any_node) xs n base a

  pub main-within : IfSome (main_span♯ n base C live a xs) (Within C)
  main-within = tree-within along_x C main_place (main_slot♯ C live xs) (λ b. deeper b C) (auxiliary_stands♯ C live xs) xs n base a
