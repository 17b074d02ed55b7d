-- A table that stands for a state of the history: its words hold the state's tree, whose marks are the plain list. Every call keeps it so. Assumes nothing.
use Prim.Native.Nat.{ℕ}
use mathlib.Core.Path.{◌≡◌, ap, subst, ◌∙◌}
use mathlib.Core.List.{List}
use Rattle.model.specs.Tree.{marks_of}
use Rattle.model.specs.History.{Call, State, Answer, answer, next}
use Rattle.model.proofs.History.{Right, next-right}
use Rattle.twofold_layout.specs.Sound.{Holding}
use Rattle.table.specs.Header.{capacity_of}
use Rattle.register.specs.Performs.{Lent, own, state_of, Performs}

pub record Stands (xs : List ℕ) (s : State) : Type 0 where
  pub capacity : capacity_of xs ≡ s.capacity
  pub holds : Holding (own xs) s.tree
  pub right : Right s

-- the state of a sound table is the state that it stands for
stands-state : {xs : List ℕ} {s : State} → Stands xs s → state_of xs s.tree ≡ s
stands-state {s = s} h =
    ap (λ c. record { capacity = c; plain = marks_of s.tree; tree = s.tree }) h.capacity
    ∙ ap (λ l. record { capacity = s.capacity; plain = l; tree = s.tree }) h.right.agrees.list

-- a call answers by the state, and leaves a table that stands for the next
pub call-follows : {c : Call} {before after : Lent} {a : Answer} {s : State} → Performs c before after a → Stands before.table s
    → (a ≡ answer c s) × Stands after.table (next c s)
call-follows {c = c} {after = after} {s = s} p h =
    let k = p.follows s.tree h.holds in
    let e = stands-state h in (
      k.answers ∙ ap (answer c) e,
      record {
        capacity = k.capacity ∙ ap (λ s. (next c s).capacity) e;
        holds = subst (λ s. Holding (own after.table) (next c s).tree) e k.holds;
        right = next-right c s h.right;
      },
    )
