-- How many nodes the collection comes to, on any words: for a tree that is said to weigh w at most 2w - 1, since each node gives its children parts of its
-- weight, none of them 0. The count follows the mirror test by test, and the code makes one call for each: both are seen by reading. Assumes nothing.
use Rattle.std.specs.Prelude.{if◌then◌else◌}
use Prim.Native.Nat.{ℕ, zero, suc, ◌+◌, ◌-◌, ◌*◌, ◌/◌, ◌%◌, ◌≤◌}
use mathlib.Core.List.{List}
use native.Mathlib.Omega.{arith}
use lib.Dec.{leb, eqb}
use borrow.Author.Tests.{eqb-false, leb-false}
use Rattle.model.proofs.Logic.{by_cases}
use Rattle.std.specs.Prelude.{Result, Ok, Err}
use Rattle.table.specs.declared.damage.Damaged.{Damaged}
use Rattle.nodes.specs.Arms.{Record, record_at}
use Rattle.nodes.specs.Collect.{Taken, Collection, collect♯}

-- from a node's weight and number, what is taken so far and the words
abbrev pub Counting : Type 0
Counting = ℕ → ℕ → ℕ → List ℕ → ℕ

-- and of those, what is done after something else, unless that met damage
steps_on : (ℕ → List ℕ → ℕ) → Result ℕ Damaged → List ℕ → ℕ
steps_on rest (Ok taken) xs = rest taken xs
steps_on rest (Err _) xs = 0

steps_beneath : Counting → Collection → Record → ℕ → ℕ → List ℕ → ℕ
steps_beneath rec collects p w taken xs =
    let half : Taken = collects p.left.weight p.left.node taken xs in
    rec p.left.weight p.left.node taken xs + steps_on (rec (w - p.left.weight) p.right.node) half.out half.words

steps_both : Counting → Collection → Record → ℕ → ℕ → List ℕ → ℕ
steps_both rec collects p w taken xs =
    if eqb p.left.weight 0 then 0 else (if leb w p.left.weight then 0 else steps_beneath rec collects p w taken xs)

-- the node itself, and those beneath it
pub collect_steps : ℕ → (ℕ → ℕ) → ℕ → ℕ → Counting
collect_steps zero place capacity but w n taken xs = 1
collect_steps (suc f) place capacity but w n taken xs =
    1 + (if leb capacity taken then 0
    else (if eqb (n % 2) 0 then 0
    else (if leb capacity (n / 2) then 0
    else steps_both (collect_steps f place capacity but) (collect♯ f place capacity but) (record_at xs (place (n / 2))) w taken xs)))

on-bound : (rest : ℕ → List ℕ → ℕ) (b : ℕ) → ((taken : ℕ) (xs : List ℕ) → rest taken xs + 1 ≤ b) → 1 ≤ b
    → (o : Result ℕ Damaged) (xs : List ℕ) → steps_on rest o xs + 1 ≤ b
unfolding steps_on
on-bound rest b bound h (Ok taken) xs = bound taken xs
on-bound rest b bound h (Err _) xs = h

-- what is beneath a node of weight w, where the bound holds of its children
both-bound : (rec : Counting) → ((w n taken : ℕ) (xs : List ℕ) → 1 ≤ w → rec w n taken xs + 1 ≤ 2 * w)
    → (collects : Collection) (p : Record) (w taken : ℕ)
    (xs : List ℕ) → 1 ≤ w → steps_both rec collects p w taken xs + 2 ≤ 2 * w
unfolding steps_both steps_beneath
both-bound rec bound collects p w taken xs h =
    by_cases (eqb p.left.weight 0)
    (λ t. rw t (omega arith))
    (λ u. by_cases (leb w p.left.weight)
    (λ t. rw (u, t) (omega arith))
    (λ v.
    let some = eqb-false p.left.weight 0 u in
    let part = leb-false w p.left.weight v in
    let half : Taken = collects p.left.weight p.left.node taken xs in
    let right = λ (k : ℕ) (ys : List ℕ). bound (w - p.left.weight) p.right.node k ys (omega arith) in
    rw (u, v)
    (omega (
      arith,
      bound p.left.weight p.left.node taken xs (omega arith),
      on-bound (rec (w - p.left.weight) p.right.node) (2 * (w - p.left.weight)) right (omega arith) half.out half.words,
    ))))

pub collect-steps : (f : ℕ) (place : ℕ → ℕ) (capacity but w n taken : ℕ) (xs : List ℕ) → 1 ≤ w
    → collect_steps f place capacity but w n taken xs + 1 ≤ 2 * w
unfolding collect_steps
collect-steps zero place capacity but w n taken xs h = omega arith
collect-steps (suc f) place capacity but w n taken xs h =
    by_cases (leb capacity taken)
    (λ t. rw t (omega arith))
    (λ u. by_cases (eqb (n % 2) 0)
    (λ t. rw (u, t) (omega arith))
    (λ v. by_cases (leb capacity (n / 2))
    (λ t. rw (u, v, t) (omega arith))
    (λ o. rw (u, v, o)
    (omega (
      arith,
      both-bound (collect_steps f place capacity but) (collect-steps f place capacity but) (collect♯ f place capacity but)
          (record_at xs (place (n / 2))) w taken xs h,
    )))))
