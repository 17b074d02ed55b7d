-- The slots of a list but one: in the same order, each of the others as often as before. Assumes nothing.
use Prim.Native.Nat.{ℕ, ◌+◌, ◌≤◌}
use mathlib.Core.Path.{◌≡◌, refl, sym, ap}
use mathlib.Core.Bool.{not}
use mathlib.Core.List.{List, [], ◌∷◌, ◌++◌}
use native.Mathlib.Omega.{arith}
use lib.Dec.{eqb}
use lib.ListN.{length}
use borrow.Author.Tests.{eqb-true, eqb-false, eq-eqb, ne_eqb}
use Rattle.model.specs.Lists.{filter_by}
use Rattle.model.specs.Axis.{Axis}
use Rattle.model.specs.Sheet.{Box}
use Rattle.model.specs.Laws.{Sorted}
use Rattle.model.proofs.Logic.{by_cases}
use Rattle.model.proofs.Sorted.{filter_by-sorted}
use Rattle.nodes.specs.Holds.{times_in}

-- the slots of a list but s
abbrev pub without : ℕ → List ℕ → List ℕ
without s l = filter_by (λ q. not (eqb q s)) l

module _ (s : ℕ) where
  pub without-append : (l r : List ℕ) → without s (l ++ r) ≡ without s l ++ without s r
  without-append [] r = refl
  without-append (q ∷ l) r = by_cases (eqb q s) (λ t. rw (t, without-append l r)) (λ u. rw (u, without-append l r))

  pub without-short : (l : List ℕ) → length (without s l) ≤ length l
  without-short [] = omega arith
  without-short (q ∷ l) = by_cases (eqb q s) (λ t. rw t (omega (arith, without-short l))) (λ u. rw u (omega (arith, without-short l)))

  pub without-none : (l : List ℕ) → times_in s l ≡ 0 → without s l ≡ l
  without-none [] h = refl
  without-none (q ∷ l) h =
      by_cases (eqb q s)
      (λ t. absurd (let k = (rw (eq-eqb s q (sym (eqb-true q s t))) at h) in omega arith))
      (λ u. rw u (ap (λ k. q ∷ k) (without-none l (omega arith))))

  -- how often a slot is left: s not at all, another as often as before
  pub without_gone : (l : List ℕ) → times_in s (without s l) ≡ 0
  without_gone [] = refl
  without_gone (q ∷ l) =
      by_cases (eqb q s)
      (λ t. rw (t, without_gone l))
      (λ u. rw (u, ne_eqb s q (λ e. eqb-false q s u (sym e)), without_gone l))

  pub without_other : (q : ℕ) → (q ≡ s → ⊥) → (l : List ℕ) → times_in q (without s l) ≡ times_in q l
  without_other q h [] = refl
  without_other q h (a ∷ l) =
      by_cases (eqb a s)
      (λ t. rw (t, ne_eqb q a (λ e. h (omega (arith, eqb-true a s t))), without_other q h l) (omega arith))
      (λ u. rw (u, without_other q h l))

  pub without-times : (q : ℕ) (l : List ℕ) → times_in q (without s l) ≤ times_in q l
  without-times q [] = omega arith
  without-times q (a ∷ l) = by_cases (eqb a s) (λ t. rw t (omega (arith, without-times q l))) (λ u. rw u (omega (arith, without-times q l)))

  pub without-length : (l : List ℕ) → times_in s l ≡ 1 → length (without s l) + 1 ≡ length l
  without-length [] h = absurd (omega arith)
  without-length (q ∷ l) h =
      by_cases (eqb q s)
      (λ t.
      let k = (rw (eq-eqb s q (sym (eqb-true q s t))) at h) in
      rw (t, without-none l (omega arith)) (omega arith))
      (λ u.
      let k = (rw (ne_eqb s q (λ e. eqb-false q s u (sym e))) at h) in
      rw u (omega (arith, without-length l (omega arith))))

  pub without-sorted : {A : Axis ℕ Box} {l : List ℕ} → Sorted A l → Sorted A (without s l)
  without-sorted h = filter_by-sorted (λ q. not (eqb q s)) h
