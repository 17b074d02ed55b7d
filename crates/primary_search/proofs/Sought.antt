-- On any words whatever, the mirror of the finding gives a slot only where the search by the words finds the mark there, and none only where that search
-- comes to its end without it. Assumes nothing.
use Prim.Native.Nat.{ℕ, zero, suc, ◌+◌, ◌*◌, ◌/◌, ◌%◌, ◌<◌}
use mathlib.Core.Path.{◌≡◌, refl, ap, subst}
use mathlib.Core.Logic.{◌≢◌}
use Rattle.std.specs.Prelude.{None, Some, Ok, Err}
use mathlib.Core.Bool.{true, false}
use mathlib.Core.List.{List}
use native.Mathlib.Omega.{arith}
use lib.Dec.{eqb, leb}
use borrow.Author.Tests.{eqb-true, eqb-false, leb-false}
use Rattle.model.specs.Sheet.{Mark, same, below_x}
use Rattle.model.proofs.Logic.{by_cases, clash}
use Rattle.table.specs.Layout.{main_place, root_place}
use Rattle.table.specs.Limits.{deepest}
use Rattle.table.specs.Marks.{slot_mark}
use Rattle.nodes.specs.Arms.{arm_at, record_at, way_of}
use Rattle.nodes.specs.Ways.{way_at}
use Rattle.table.specs.Header.{capacity_of}
use Rattle.primary_search.specs.Find.{Sought, find_leaf, find_node, find_beneath♯, find_root, find♯}
use Rattle.primary_search.specs.Sought.{Leads, leaf, left, right, Finds, Lacks, none, other}

module _ (xs : List ℕ) (m : Mark) where
  abbrev C : ℕ
  C = capacity_of xs

  -- what a walk from a node has come to: nowhere, or the leaf of a slot, of the mark or of another
  data Came (n : ℕ) : Sought → Type 0 where
    lost : Came n (Err (record {}))
    found : {s : ℕ} → s < C → Leads xs m n s → same m (slot_mark xs s) ≡ true → Came n (Ok (Some s))
    missed : {s : ℕ} → Leads xs m n s → same m (slot_mark xs s) ≡ false → Came n (Ok None)

  at_leaf : (s : ℕ) → s < C → Came (2 * s) (find_leaf xs m s)
  unfolding find_leaf
  at_leaf s below = by_cases (same m (slot_mark xs s)) (λ t. rw t (found below (leaf below) t)) (λ f. rw f (missed (leaf below) f))

  -- a step from a node to a child
  from-child : {n k : ℕ} {r : Sought} → ((s : ℕ) → Leads xs m k s → Leads xs m n s) → Came k r → Came n r
  from-child step lost = lost
  from-child step (found below way t) = found below (step _ way) t
  from-child step (missed way f) = missed (step _ way) f

  came : (f n : ℕ) → Came n (find_beneath♯ f xs C m n)
  unfolding find_beneath♯ find_node way_at way_of
  came zero n = lost
  came (suc f) n =
      by_cases (leb C (n / 2))
      (λ t. rw t lost)
      (λ u.
      let s = n / 2 in
      let below = leb-false C s u in
      by_cases (eqb (n % 2) 0)
      (λ t.
      let e : 2 * s ≡ n = omega (arith, eqb-true (n % 2) 0 t) in
      rw (u, t) (subst (λ k. Came k (find_leaf xs m s)) e (at_leaf s below)))
      (λ v.
      let e : 2 * s + 1 ≡ n = omega (arith, eqb-false (n % 2) 0 v) in
      by_cases (below_x m (slot_mark xs s))
      (λ t. rw (u, v, t) (from-child (λ slot way. subst (λ k. Leads xs m k slot) e (left below t way)) (came f (record_at xs (main_place s)).left.node)))
      (λ w. rw (u, v, w) (from-child (λ slot way. subst (λ k. Leads xs m k slot) e (right below w way)) (came f (record_at xs (main_place s)).right.node)))))

  -- there is one way, so what the search comes to is one thing
  leads-once : {n n' s s' : ℕ} → n ≡ n' → Leads xs m n s → Leads xs m n' s' → s ≡ s'
  leads-once e (leaf a) (leaf b) = omega arith
  leads-once e (leaf a) (left b t way) = absurd (omega arith)
  leads-once e (leaf a) (right b f way) = absurd (omega arith)
  leads-once e (left a t way) (leaf b) = absurd (omega arith)
  leads-once e (right a f way) (leaf b) = absurd (omega arith)
  leads-once e (left {s = p} a t way) (left {s = q} b u way') =
      let same_name : p ≡ q = omega arith in
      leads-once (ap (λ p. (record_at xs (main_place p)).left.node) same_name) way way'
  leads-once e (right {s = p} a t way) (right {s = q} b u way') =
      let same_name : p ≡ q = omega arith in
      leads-once (ap (λ p. (record_at xs (main_place p)).right.node) same_name) way way'
  leads-once e (left {s = p} a t way) (right {s = q} b f way') =
      let same_name : p ≡ q = omega arith in
      clash (subst (λ p. below_x m (slot_mark xs p) ≡ true) same_name t) f
  leads-once e (right {s = p} a f way) (left {s = q} b t way') =
      let same_name : p ≡ q = omega arith in
      clash t (subst (λ p. below_x m (slot_mark xs p) ≡ false) same_name f)

  pub finds-once : {s s' : ℕ} → Finds xs m s → Finds xs m s' → s ≡ s'
  finds-once a b = leads-once refl a.leads b.leads

  pub finds-not-lacks : {s : ℕ} → Finds xs m s → Lacks xs m → ⊥
  finds-not-lacks a (none e) = a.some e
  finds-not-lacks a (other {s = s} k way f) = clash (subst (λ s. same m (slot_mark xs s) ≡ true) (leads-once refl a.leads way) a.has) f

  came-found : {s : ℕ} {r : Sought} → (arm_at xs root_place).weight ≢ 0 → Came (arm_at xs root_place).node r → r ≡ Ok (Some s) → Finds xs m s
  came-found some lost e = absurd (cc)
  came-found {s = s} some (found {s = q} below way t) e =
      let same_slot : q ≡ s = cc in
      subst (λ s. Finds xs m s) same_slot (record { some = some; leads = way; has = t })
  came-found some (missed way f) e = absurd (cc)

  pub find-finds : {s : ℕ} → find♯ xs m ≡ Ok (Some s) → Finds xs m s
  unfolding find♯ find_root
  find-finds e =
      by_cases (eqb (arm_at xs root_place).weight 0)
      (λ t. absurd (let z = (rw t at e) in cc))
      (λ f. came-found (eqb-false (arm_at xs root_place).weight 0 f) (came deepest (arm_at xs root_place).node) (rw f at e))

  came-missed : {r : Sought} → (arm_at xs root_place).weight ≢ 0 → Came (arm_at xs root_place).node r → r ≡ Ok None → Lacks xs m
  came-missed some lost e = absurd (cc)
  came-missed some (found below way t) e = absurd (cc)
  came-missed some (missed way f) e = other some way f

  pub find-lacks : find♯ xs m ≡ Ok None → Lacks xs m
  unfolding find♯ find_root
  find-lacks e =
      by_cases (eqb (arm_at xs root_place).weight 0)
      (λ t. none (eqb-true (arm_at xs root_place).weight 0 t))
      (λ f. came-missed (eqb-false (arm_at xs root_place).weight 0 f) (came deepest (arm_at xs root_place).node) (rw f at e))

-- the slot found is one of the table's
leads-within : {xs : List ℕ} {m : Mark} {n s : ℕ} → Leads xs m n s → s < capacity_of xs
leads-within (leaf h) = h
leads-within (left h e k) = leads-within k
leads-within (right h e k) = leads-within k

pub finds-within : {xs : List ℕ} {m : Mark} {s : ℕ} → Finds xs m s → s < capacity_of xs
finds-within f = leads-within f.leads
