-- Every run that begins with an accepted open, from any state: the tree kept beside the plain list holds exactly its marks, in order and balanced,
-- no more of them than the capacity; no step gives 3 or 4; each count's visits are within the bound. Assumes nothing.
use Rattle.std.specs.Prelude.{if◌then◌else◌}
use Prim.Native.Nat.{ℕ, ◌+◌, ◌*◌, ◌≤◌}
use mathlib.Core.Path.{◌≡◌, ap₂}
use mathlib.Core.Logic.{◌≢◌}
use mathlib.Core.Bool.{true, ◌||◌}
use mathlib.Core.List.{List, [], ◌∷◌}
use native.Mathlib.Omega.{arith}
use lib.Dec.{ltb, eqb}
use lib.ListN.{length}
use borrow.Author.Tests.{ltb-true, ltb-false, eqb-false}
use Rattle.model.specs.Lists.{count_if, filter_by}
use Rattle.model.specs.Sizes.{D, W, capacity_outside}
use Rattle.model.specs.Sheet.{Mark, Box, below_x, same, holds, mark_outside, grade_outside, box_crossed, main}
use Rattle.model.specs.Refusals.{open_table, enter_mark, name_mark, enter_box}
use Rattle.model.specs.History.{Call, open_for, insert, strike, count, list, check, State, Answer, refusal, updated, counted, listed_in, has}
use Rattle.model.specs.History.{which_list, answer, change, next}
use Rattle.model.proofs.Logic.{by_cases}
use Rattle.model.proofs.Lists.{insert_sorted-length, remove_first-length, filter_by-length}
use Rattle.model.proofs.Orders.{sheet-sameness, same-outside}
use Rattle.model.proofs.TwoFold.{main-strike-alike, main-strike_rebuilt-alike, Agrees, open-agrees, insert-agrees, strike-agrees}
use Rattle.model.proofs.TwoFold.{count-visits, list-visits}

-- a state as a run leaves it
pub record Right (s : State) : Type 0 where
  pub agrees : Agrees s.tree s.plain
  pub fits : length s.plain ≤ s.capacity

-- an accepted open makes any state right
pub open-right : (c lent : ℕ) (s : State) → (answer (open_for c lent) s).number ≡ 0 → Right (next (open_for c lent) s)
open-right c lent s e = rw e (record { agrees = open-agrees; fits = omega arith })

-- and every call keeps it so
pub next-right : (c : Call) (s : State) → Right s → Right (next c s)
unfolding open_table enter_mark name_mark enter_box
next-right (open_for c lent) s r =
    by_cases (eqb (answer (open_for c lent) s).number 0)
    (λ t. rw t (record { agrees = open-agrees; fits = omega arith }))
    (λ t. rw t r)
next-right (insert m) s r =
    by_cases (mark_outside m)
    (λ t. rw t r)
    (λ t. by_cases (grade_outside m)
    (λ g. rw (t, g) r)
    (λ g. by_cases (has m s.plain)
    (λ u. rw (t, g, u) r)
    (λ u. by_cases (eqb (length s.plain) s.capacity)
    (λ v. rw (t, g, u, v) r)
    (λ v. rw (t, g, u, v) (record {
      agrees = insert-agrees m s.tree s.plain (omega (arith, ltb-false 0 (count_if (same m) s.plain) u)) r.agrees;
      fits = omega (arith, insert_sorted-length below_x m s.plain, eqb-false (length s.plain) s.capacity v, r.fits);
    })))))
next-right (strike m) s r =
    by_cases (mark_outside m)
    (λ t. rw t r)
    (λ t. by_cases (has m s.plain)
    (λ u.
    let h = ltb-true 0 (count_if (same m) s.plain) u in
    rw (t, u) (record {
      agrees = strike-agrees m s.tree s.plain h r.agrees;
      fits = omega (arith, remove_first-length (same m) s.plain h, r.fits);
    }))
    (λ u. rw (t, u) r))
next-right (count b) s r = by_cases (eqb (answer (count b) s).number 0) (λ t. rw t r) (λ t. rw t r)
next-right (list b first second) s r = by_cases (eqb (answer (list b first second) s).number 0) (λ t. rw t r) (λ t. rw t r)
next-right check s r = r

-- an answer is a refusal, which is never 3 or 4, or has the figures of an update, a count or a list
module _ (P : Answer → Type 0) (s : State) (refuses : (n k : ℕ) → n ≢ 3 → n ≢ 4 → P (refusal n k)) (updates : (n w : ℕ) → P (updated n w))
    (counts : (b : Box) (sum worst : ℕ) → P (counted (count_if (holds b) s.plain) (main.count b s.tree).visits sum worst))
    (lists : (b : Box) (w : ℕ) → P (listed_in w (filter_by (holds b) s.plain) (main.list b s.tree).visits)) where
  answer-cases : (c : Call) → P (answer c s)
  unfolding open_table enter_mark name_mark enter_box
  answer-cases (open_for c lent) =
      by_cases (capacity_outside c)
      (λ t. rw t (refuses 1 0 (omega arith) (omega arith)))
      (λ t. by_cases (ltb lent (W c)) (λ u. rw (t, u) (refuses 2 0 (omega arith) (omega arith))) (λ u. rw (t, u) (updates 0 0)))
  answer-cases (insert m) =
      by_cases (mark_outside m)
      (λ t. rw t (refuses 5 0 (omega arith) (omega arith)))
      (λ t. by_cases (grade_outside m)
      (λ g. rw (t, g) (refuses 12 0 (omega arith) (omega arith)))
      (λ g. by_cases (has m s.plain)
      (λ u. rw (t, g, u) (refuses 8 0 (omega arith) (omega arith)))
      (λ u. by_cases (eqb (length s.plain) s.capacity)
      (λ v. rw (t, g, u, v) (refuses 7 0 (omega arith) (omega arith)))
      (λ v. rw (t, g, u, v) (updates _ _)))))
  answer-cases (strike m) =
      by_cases (mark_outside m)
      (λ t. rw t (refuses 5 0 (omega arith) (omega arith)))
      (λ t. by_cases (has m s.plain) (λ u. rw (t, u) (updates _ _)) (λ u. rw (t, u) (refuses 9 0 (omega arith) (omega arith))))
  answer-cases (count b) = by_cases (box_crossed b) (λ t. rw t (refuses 6 0 (omega arith) (omega arith))) (λ t. rw t (counts b _ _))
  answer-cases (list b first second) =
      let k = length (filter_by (holds b) s.plain) in
      by_cases (box_crossed b)
      (λ t. rw t (refuses 6 0 (omega arith) (omega arith)))
      (λ t. by_cases (ltb first (4 * k) || ltb second (4 * k))
      (λ u. rw (t, u) (refuses 10 k (omega arith) (omega arith)))
      (λ u. rw (t, u) (lists b (which_list k))))
  answer-cases check = updates (length s.plain) 0

-- a strike does the same for all marks that are the same: no grade of its argument matters
module _ (a b : Mark) (e : same a b ≡ true) (s : State) where
  pub strike-answers : answer (strike a) s ≡ answer (strike b) s
  unfolding name_mark
  strike-answers =
      rw (same-outside a b e)
      (by_cases (mark_outside b)
      (λ t. rw t)
      (λ t. rw (t, sheet-sameness.alike a b e, main-strike_rebuilt-alike a b e s.tree)))

  strike-changes : change (strike a) s ≡ change (strike b) s
  strike-changes = rw (sheet-sameness.alike a b e, main-strike-alike a b e s.tree)

  pub strike-leaves : next (strike a) s ≡ next (strike b) s
  strike-leaves = ap₂ (λ w t. if eqb w.number 0 then t else s) strike-answers strike-changes

-- document 01's bound for two folds, at a plain list of n marks
abbrev pub visit_bound : ℕ → ℕ
visit_bound n = (4 * D n + 1) * (2 * D n + 1)

-- what holds of each step of a run: the state that it leaves, its number, and its visits: none for an update, for a count at most the bound, for a
-- list 2k more
pub record StepRight (c : Call) (s : State) : Type 0 where
  pub leaves : Right (next c s)
  pub not-3 : (answer c s).number ≢ 3
  pub not-4 : (answer c s).number ≢ 4
  pub visits : (answer c s).visits ≤ visit_bound (length s.plain) + 2 * length (answer c s).listed

-- P holds of each step of a run
abbrev pub Along : (Call → State → Type 0) → List Call → State → Type 0
Along P [] s = Unit {0}
Along P (c ∷ cs) s = P c s × Along P cs (next c s)

answer-number : (c : Call) (s : State) → ((answer c s).number ≢ 3) × ((answer c s).number ≢ 4)
answer-number c s =
    answer-cases (λ a. (a.number ≢ 3) × (a.number ≢ 4)) s (λ n k p q. (p, q)) (λ n w. omega arith) (λ b h w. omega arith) (λ b w. omega arith) c

answer-visits : (c : Call) (s : State) → Right s → (answer c s).visits ≤ visit_bound (length s.plain) + 2 * length (answer c s).listed
answer-visits c s r =
    answer-cases (λ a. a.visits ≤ visit_bound (length s.plain) + 2 * length a.listed) s
    (λ n k p q. omega arith)
    (λ n w. omega arith)
    (λ b h w. omega (arith, count-visits b s.tree s.plain r.agrees))
    (λ b w. omega (
      arith,
      count-visits b s.tree s.plain r.agrees,
      list-visits b s.tree s.plain r.agrees,
      filter_by-length (holds b) s.plain,
    ))
    c

step_right : (c : Call) (s : State) → Right s → StepRight c s
step_right c s r = record {
  leaves = next-right c s r;
  not-3 = (answer-number c s).0;
  not-4 = (answer-number c s).1;
  visits = answer-visits c s r;
}

steps-right : (cs : List Call) (s : State) → Right s → Along StepRight cs s
steps-right [] s r = tt
steps-right (c ∷ cs) s r = (step_right c s r, steps-right cs (next c s) (next-right c s r))

-- the run's first call visits nothing, whatever the state it finds
open-visits : (c lent : ℕ) (s : State) → (answer (open_for c lent) s).visits ≡ 0
unfolding open_table
open-visits c lent s =
    by_cases (capacity_outside c) (λ t. rw t) (λ t. by_cases (ltb lent (W c)) (λ u. rw (t, u)) (λ u. rw (t, u)))

-- every run
pub run-right : (s : State) (c lent : ℕ) (cs : List Call) → (answer (open_for c lent) s).number ≡ 0 → Along StepRight (open_for c lent ∷ cs) s
run-right s c lent cs e = (
  record {
    leaves = open-right c lent s e;
    not-3 = (answer-number (open_for c lent) s).0;
    not-4 = (answer-number (open_for c lent) s).1;
    visits = omega (arith, open-visits c lent s);
  },
  steps-right cs (next (open_for c lent) s) (open-right c lent s e),
)
