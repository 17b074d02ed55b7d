-- What the marks of a list come to under an operation with laws: it goes by the marks and not by their order. Counting is one such operation. Assumes
-- nothing.
use Prim.Native.Nat.{ℕ, ◌+◌, ◌*◌, max, ◌≤◌, ◌<◌}
use mathlib.Core.Path.{◌≡◌, refl, sym, ap, ◌∙◌}
use mathlib.Core.Bool.{Bool, true, false}
use mathlib.Core.List.{List, [], ◌∷◌, ◌++◌}
use native.Mathlib.Omega.{arith}
use native.Mathlib.Nat.{zero-add}
use lib.Dec.{eqb}
use lib.ListN.{length}
use borrow.Author.Tests.{eqb-true, eq-eqb}
use Rattle.model.specs.Lists.{indicator, count_if, remove_first}
use Rattle.model.specs.Totals.{Operation, total, total_if, counting}
use Rattle.model.specs.Laws.{SameBag, OperationLaws, All, nil, cons}
use Rattle.model.proofs.Logic.{by_cases}

-- counting is an operation, and its total is the count
pub counting-laws : {M : Type 0} → OperationLaws {M = M} counting
counting-laws = record { assoc = λ a b c. omega arith; comm = λ a b. omega arith; neutral = λ a. omega arith }

pub total-count : {M : Type 0} (p : M → Bool) (l : List M) → total_if counting p l ≡ count_if p l
total-count p [] = refl
total-count p (m ∷ l) = by_cases (p m) (λ t. rw (t, total-count p l)) (λ f. rw (f, total-count p l))

pub total-length : {M : Type 0} (l : List M) → total ◌+◌ (λ m. 1) l ≡ length l
total-length [] = refl
total-length (m ∷ l) = omega (arith, total-length l)

-- figures of at most g each: what they add up to, and the greatest
module _ {M : Type 0} (g : ℕ) (f : M → ℕ) (p : M → Bool) where
  pub sum-most : {l : List M} → All (λ m. f m ≤ g) l → total_if (record { of = f; join = ◌+◌ }) p l ≤ g * count_if p l
  sum-most nil = omega arith
  sum-most (cons {m = m} e h) = by_cases (p m) (λ t. rw t (omega (arith, e, sum-most h))) (λ u. rw u (omega (arith, sum-most h)))

  pub greatest-most : {l : List M} → All (λ m. f m ≤ g) l → total_if (record { of = f; join = max }) p l ≤ g
  greatest-most nil = omega arith
  greatest-most (cons {m = m} e h) = by_cases (p m) (λ t. rw t (omega (arith, e, greatest-most h))) (λ u. rw u (omega (arith, greatest-most h)))

module _ {M : Type 0} (P : Operation M) (L : OperationLaws P) where
  pub join-zero : (a : ℕ) → P.join a 0 ≡ a
  join-zero a = L.comm a 0 ∙ L.neutral a

  -- those of two lists that follow each other, of marks that all pass, of marks none of which does
  pub total-append : (f : M → ℕ) (l r : List M) → total P.join f (l ++ r) ≡ P.join (total P.join f l) (total P.join f r)
  total-append f [] r = sym (L.neutral (total P.join f r))
  total-append f (m ∷ l) r = ap (P.join (f m)) (total-append f l r) ∙ sym (L.assoc (f m) (total P.join f l) (total P.join f r))

  pub total_if-all : (p : M → Bool) {l : List M} → All (λ m. p m ≡ true) l → total_if P p l ≡ total P.join P.of l
  total_if-all p nil = refl
  total_if-all p (cons e h) = rw (e, total_if-all p h)

  pub total_if-none : (p : M → Bool) {l : List M} → All (λ m. p m ≡ false) l → total_if P p l ≡ 0
  total_if-none p nil = refl
  total_if-none p (cons e h) = rw (e, total_if-none p h) (L.neutral 0)

  -- lists with the same marks, by their figures: each figure that stands in the one is taken out of the other
  module _ (f : M → ℕ) where
    abbrev figures : ℕ → List M → ℕ
    figures v l = count_if (λ m. eqb v (f m)) l

    abbrev without : ℕ → List M → List M
    without v l = remove_first (λ m. eqb v (f m)) l

    total-without : (v : ℕ) (l : List M) → 0 < figures v l → total P.join f l ≡ P.join v (total P.join f (without v l))
    total-without v [] h = absurd (omega arith)
    total-without v (m ∷ l) h =
        by_cases (eqb v (f m))
        (λ t. rw (t, eqb-true v (f m) t))
        (λ u.
        let rest = total P.join f (without v l) in
        rw (u, total-without v l (rw (u, zero-add) at h))
        (sym (L.assoc (f m) v rest) ∙ ap (λ n. P.join n rest) (L.comm (f m) v) ∙ L.assoc v (f m) rest))

    figures-without : (v w : ℕ) (l : List M) → 0 < figures v l → indicator (eqb w v) + figures w (without v l) ≡ figures w l
    figures-without v w [] h = absurd (omega arith)
    figures-without v w (m ∷ l) h =
        by_cases (eqb v (f m))
        (λ t. rw (t, eqb-true v (f m) t))
        (λ u. rw u (omega (arith, figures-without v w l (rw (u, zero-add) at h))))

    figures-total : (l k : List M) → ((v : ℕ) → figures v l ≡ figures v k) → total P.join f l ≡ total P.join f k
    figures-total [] [] e = refl
    figures-total [] (m ∷ k) e = absurd (let z = (rw (eq-eqb (f m) (f m) refl) at (e (f m))) in omega arith)
    figures-total (m ∷ l) k e =
        let h : 0 < figures (f m) k = (let z = (rw (eq-eqb (f m) (f m) refl) at (e (f m))) in omega arith) in
        ap (P.join (f m)) (figures-total l (without (f m) k) (λ v. omega (arith, e v, figures-without (f m) v k h)))
        ∙ sym (total-without (f m) k h)

    pub same_bag-total : (l k : List M) → SameBag l k → total P.join f l ≡ total P.join f k
    same_bag-total l k s = figures-total l k (λ v. s (λ m. eqb v (f m)))
