-- Slots counted in lists: where a list has no slot more often than another, it is no longer, and as long only with the same slots. So slots below n, each
-- once, are at most n, and a function that has an inverse on one side below n has it on both. Assumes nothing.
use Prim.Native.Nat.{ℕ, zero, suc, ◌+◌, ◌≤◌, ◌<◌}
use mathlib.Core.Path.{◌≡◌, refl, sym, ap, subst, ◌∙◌}
use mathlib.Core.Bool.{Bool, true, not, ◌&&◌}
use mathlib.Core.List.{List, [], ◌∷◌}
use native.Mathlib.Omega.{arith}
use native.Mathlib.Nat.{zero-add}
use lib.Dec.{ltb, eqb}
use lib.ListN.{length}
use borrow.Author.Tests.{lt-ltb, le-ltb, ltb-true, ltb-false, eq-eqb, eqb-true, eqb-false}
use Rattle.model.specs.Lists.{indicator, count_if, remove_first}
use Rattle.model.specs.Laws.{SameBag}
use Rattle.model.proofs.Logic.{by_cases, by_order, and_left, and_right}
use Rattle.model.proofs.Lists.{count_if-true, count_if-not}
use Rattle.nodes.specs.Holds.{times_in}

-- a slot taken out of a list that has it
take_out : (p : ℕ → Bool) (s : ℕ) (k : List ℕ) → 0 < times_in s k → indicator (p s) + count_if p (remove_first (eqb s) k) ≡ count_if p k
take_out p s [] h = absurd (omega arith)
take_out p s (q ∷ k) h =
    by_cases (eqb s q)
    (λ t. rw (t, eqb-true s q t))
    (λ u. rw u (omega (arith, take_out p s k (rw (u, zero-add) at h))))

-- so as many pass any test, or fewer
sub-count : (l k : List ℕ) → ((s : ℕ) → times_in s l ≤ times_in s k) → (p : ℕ → Bool) → count_if p l ≤ count_if p k
sub-count [] k h p = omega arith
sub-count (s ∷ l) k h p =
    let own : 0 < times_in s k = (let w = (rw (eq-eqb s s refl) at (h s)) in omega arith) in
    omega (arith, take_out p s k own, sub-count l (remove_first (eqb s) k) (λ q. omega (arith, h q, take_out (eqb q) s k own)) p)

pub sub-bag : (l k : List ℕ) → ((s : ℕ) → times_in s l ≤ times_in s k) → length l ≡ length k → SameBag l k
sub-bag l k h e p = omega (arith, sub-count l k h p, sub-count l k h (λ q. not (p q)), count_if-not p l, count_if-not p k)

-- f 0 to f (n - 1)
abbrev pub firsts : (ℕ → ℕ) → ℕ → List ℕ
firsts f zero = []
firsts f (suc n) = f n ∷ firsts f n

pub firsts-length : (f : ℕ → ℕ) (n : ℕ) → length (firsts f n) ≡ n
firsts-length f zero = refl
firsts-length f (suc n) = omega (arith, firsts-length f n)

module _ (f g : ℕ → ℕ) where
  -- s is one of the first n, at the place g s
  abbrev pub placed_at : ℕ → ℕ → Bool
  placed_at n s = eqb (f (g s)) s && ltb (g s) n

  placed_at-true : (n s : ℕ) → placed_at n s ≡ true → (g s < n) × (f (g s) ≡ s)
  placed_at-true n s t = (ltb-true (g s) n (and_right (eqb (f (g s)) s) (ltb (g s) n) t), eqb-true (f (g s)) s (and_left (eqb (f (g s)) s) (ltb (g s) n) t))

  placed_at-next : (n s : ℕ) → (s ≡ f n → ⊥) → placed_at n s ≡ placed_at (suc n) s
  placed_at-next n s other =
      by_cases (eqb (f (g s)) s)
      (λ t. by_order (g s) n
      (λ h. rw (t, lt-ltb (g s) n h, lt-ltb (g s) (suc n) (omega arith)))
      (λ e. absurd (other (sym (eqb-true (f (g s)) s t) ∙ ap f e)))
      (λ h. rw (t, le-ltb (g s) n (omega arith), le-ltb (g s) (suc n) h)))
      (λ u. rw u)

  -- each of them stands once, where g leads back to its place
  pub firsts-times : (n : ℕ) → ((i : ℕ) → i < n → g (f i) ≡ i) → (s : ℕ) → times_in s (firsts f n) ≡ indicator (placed_at n s)
  firsts-times zero back s = by_cases (placed_at 0 s) (λ t. absurd (omega (arith, (placed_at-true 0 s t).0))) (λ u. rw u)
  firsts-times (suc n) back s =
      let before = firsts-times n (λ i h. back i (omega arith)) s in
      by_cases (eqb s (f n))
      (λ t.
      let e : s ≡ f n = eqb-true s (f n) t in
      let at : g s ≡ n = ap g e ∙ back n (omega arith) in
      rw (t, before, at, eq-eqb (f n) s (sym e), le-ltb n n (omega arith), lt-ltb n (suc n) (omega arith)))
      (λ u. rw (u, before, placed_at-next n s (eqb-false s (f n) u)) (omega arith))

-- the numbers below n
abbrev numbers : ℕ → List ℕ
numbers = firsts (λ i. i)

numbers-times : (n s : ℕ) → s < n → times_in s (numbers n) ≡ 1
numbers-times n s h = firsts-times (λ i. i) (λ i. i) n (λ i k. refl) s ∙ rw (eq-eqb s s refl, lt-ltb s n h)

-- a list of slots below n, each once, has at most n
pub once-length : (n : ℕ) (l : List ℕ) → ((s : ℕ) → times_in s l ≤ 1) → ((s : ℕ) → 0 < times_in s l → s < n) → length l ≤ n
once-length n l once within =
    let below : ((s : ℕ) → times_in s l ≤ times_in s (numbers n)) =
    λ s. by_cases (ltb 0 (times_in s l))
    (λ t. rw (numbers-times n s (within s (ltb-true 0 (times_in s l) t))) (once s))
    (λ f. omega (arith, ltb-false 0 (times_in s l) f)) in
    omega (arith, sub-count l (numbers n) below (λ q. true), count_if-true l, count_if-true (numbers n), firsts-length (λ i. i) n)

-- an inverse on one side, below n, is one on both
module _ (f g : ℕ → ℕ) (n : ℕ) (back : (i : ℕ) → i < n → (f i < n) × (g (f i) ≡ i)) where
  values-times : (s : ℕ) → times_in s (firsts f n) ≡ indicator (placed_at f g n s)
  values-times = firsts-times f g n (λ i h. (back i h).1)

  values-numbers : (s : ℕ) → times_in s (firsts f n) ≤ times_in s (numbers n)
  values-numbers s =
      by_cases (placed_at f g n s)
      (λ t.
      let at = placed_at-true f g n s t in
      rw (values-times s, t, numbers-times n s (subst (λ q. q < n) at.1 (back (g s) at.0).0)) (omega arith))
      (λ u. rw (values-times s, u) (omega arith))

  pub inverse-both : (s : ℕ) → s < n → (g s < n) × (f (g s) ≡ s)
  inverse-both s h =
      let same = sub-bag (firsts f n) (numbers n) values-numbers (firsts-length f n ∙ sym (firsts-length (λ i. i) n)) (eqb s) in
      by_cases (placed_at f g n s)
      (λ t. placed_at-true f g n s t)
      (λ u. absurd (let none = (rw u at (values-times s)) in omega (arith, same, numbers-times n s h)))
