-- The order of keys by their places (R-5), and the marks' orders and sameness by it. Assumes nothing.
use Prim.Native.Nat.{ℕ, ◌<◌}
use mathlib.Core.Path.{◌≡◌, refl, sym, ◌∙◌}
use mathlib.Core.Bool.{true, false, ◌&&◌, and-true, and-false, or-false}
use mathlib.Core.List.{List, [], ◌∷◌}
use lib.Dec.{ltb, eqb}
use native.Mathlib.Omega.{arith}
use borrow.Author.Tests.{eq-eqb, ne_eqb, eqb-true, eqb-false}
use Rattle.model.specs.Axis.{lexicographic}
use Rattle.model.specs.Sheet.{below_x, below_y, same}
use Rattle.model.proofs.Logic.{by_cases, by_order}
use Rattle.model.proofs.Orders.{lexicographic-lt, lexicographic-eq, lexicographic-gt}
use Rattle.geometry.specs.declared.Mark.{Mark}
use Rattle.geometry.specs.declared.Key.{Key}
use Rattle.geometry.specs.Values.{mark_value, key_x, key_y, key_below, place, place_below}

abbrev major : Key → ℕ
major k = k.major

abbrev minor : Key → ℕ
minor k = k.minor

abbrev tags : List (Key → ℕ)
tags = (λ k. k.tag) ∷ []

module _ (f g : Key → ℕ) (fs gs : List (Key → ℕ)) (a b : Key) where
  -- f first is g first, where f rises and falls with g and orders as the rest does where g is equal
  follows : (g a < g b → f a < f b) → (g b < g a → f b < f a) → (g a ≡ g b → lexicographic (f ∷ fs) a b ≡ lexicographic gs a b)
      → lexicographic (f ∷ fs) a b ≡ lexicographic (g ∷ gs) a b
  follows rises falls level =
      by_order (g a) (g b)
      (λ h. lexicographic-lt f fs a b (rises h) ∙ sym (lexicographic-lt g gs a b h))
      (λ h. level h ∙ sym (lexicographic-eq g gs a b h))
      (λ h. lexicographic-gt f fs a b (falls h) ∙ sym (lexicographic-gt g gs a b h))

-- R-5: "for any words", the places of two keys and then their tags give the order of the keys. The minor coordinate is below the factor of the major one, so
-- that decides wherever it differs; where it does not, places differ as the minor ones do.
module _ (a b : Key) (p : a.minor < 4294967296) (q : b.minor < 4294967296) where
  minor-decides : a.major ≡ b.major → lexicographic (place ∷ tags) a b ≡ lexicographic (minor ∷ tags) a b
  minor-decides e = follows place minor tags tags a b (λ h. omega arith) (λ h. omega arith) (λ h. lexicographic-eq place tags a b (omega arith))

  major-decides : lexicographic (place ∷ tags) a b ≡ key_below a b
  unfolding key_below
  major-decides = follows place major tags (minor ∷ tags) a b (λ h. omega arith) (λ h. omega arith) minor-decides

  pub place-below : place_below a b ≡ key_below a b
  place-below = sym (simp (and-false, or-false)) ∙ major-decides

  pub place-lt : place a < place b → key_below a b ≡ true
  place-lt h = sym major-decides ∙ lexicographic-lt place tags a b h

  pub place-eq : place a ≡ place b → key_below a b ≡ ltb a.tag b.tag
  place-eq h = sym major-decides ∙ lexicographic-eq place tags a b h ∙ simp (and-false, or-false)

  pub place-gt : place b < place a → key_below a b ≡ false
  place-gt h = sym major-decides ∙ lexicographic-gt place tags a b h

module _ (a b : Mark) where
  pub key_x-below : key_below (key_x a) (key_x b) ≡ below_x (mark_value a) (mark_value b)
  unfolding key_below below_x
  key_x-below = refl

  pub key_y-below : key_below (key_y a) (key_y b) ≡ below_y (mark_value a) (mark_value b)
  unfolding key_below below_y
  key_y-below = refl

  -- "the orders x, y, tag and y, x, tag" (R-5)
  pub place_x-below : a.y < 4294967296 → b.y < 4294967296 → place_below (key_x a) (key_x b) ≡ below_x (mark_value a) (mark_value b)
  place_x-below p q = place-below (key_x a) (key_x b) p q ∙ key_x-below

  pub place_y-below : a.x < 4294967296 → b.x < 4294967296 → place_below (key_y a) (key_y b) ≡ below_y (mark_value a) (mark_value b)
  place_y-below p q = place-below (key_y a) (key_y b) p q ∙ key_y-below

  pub place_same : a.y < 4294967296 → b.y < 4294967296
      → (eqb (place (key_x a)) (place (key_x b)) && eqb a.tag b.tag) ≡ same (mark_value a) (mark_value b)
  unfolding same
  place_same p q =
      by_cases (eqb a.x b.x)
      (λ t. by_cases (eqb a.y b.y)
      (λ u. rw (t, u, eq-eqb (place (key_x a)) (place (key_x b)) (omega (arith, eqb-true a.x b.x t, eqb-true a.y b.y u)), and-true))
      (λ u. rw (t, u, ne_eqb (place (key_x a)) (place (key_x b)) (omega (arith, eqb-false a.y b.y u)))))
      (λ t. rw (t, ne_eqb (place (key_x a)) (place (key_x b)) (omega (arith, eqb-false a.x b.x t))))
