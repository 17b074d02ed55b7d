-- Cases on tests and the truth tables that the proofs use. Assumes nothing.
use Rattle.std.specs.Prelude.{if◌then◌else◌}
use Prim.Native.Nat.{ℕ, ◌<◌}
use mathlib.Core.Path.{◌≡◌, refl, sym, ◌∙◌}
use mathlib.Core.Bool.{Bool, true, false, not, ◌&&◌, ◌||◌, true≢false}
use native.Mathlib.Omega.{arith}
use lib.Dec.{ltb, leb, eqb}
use borrow.Author.Tests.{ltb-true, ltb-false, eqb-true, eqb-false, leb-true, leb-false, lt-ltb, le-ltb, lt-leb, le-leb}

-- by cases on a test, with the test's value in hand
pub by_cases {ℓ} : {G : Type ℓ} (c : Bool) → (c ≡ true → G) → (c ≡ false → G) → G
by_cases true f g = f refl
by_cases false f g = g refl

pub clash {ℓ} : {G : Type ℓ} {c : Bool} → c ≡ true → c ≡ false → G
clash p q = absurd (true≢false (sym p ∙ q))

-- less, equal or greater
pub by_order : {G : Type 0} (m n : ℕ) → (m < n → G) → (m ≡ n → G) → (n < m → G) → G
by_order m n f g h =
    by_cases (ltb m n)
    (λ t. f (ltb-true m n t))
    (λ u. by_cases (eqb m n)
    (λ t. g (eqb-true m n t))
    (λ v. h (omega (arith, ltb-false m n u, eqb-false m n v))))

-- a test that is not true is false
pub not-true-false : (c : Bool) → (c ≡ true → ⊥) → c ≡ false
not-true-false true h = absurd (h refl)
not-true-false false h = refl

pub and_left : (a b : Bool) → (a && b) ≡ true → a ≡ true
and_left true b e = refl
and_left false b e = e

pub and_right : (a b : Bool) → (a && b) ≡ true → b ≡ true
and_right true b e = e
and_right false b e = clash e refl

pub or_true_right : (a b : Bool) → b ≡ true → (a || b) ≡ true
or_true_right true b e = refl
or_true_right false b e = e

pub or-neither : (a b : Bool) → (a || b) ≡ false → (a ≡ false) × (b ≡ false)
or-neither true b e = clash refl e
or-neither false b e = (refl, e)

-- what tests one after the other have passed
pub both-pass : (a b : Bool) → (if a then b else false) ≡ true → (a ≡ true) × (b ≡ true)
both-pass true b e = (refl, e)
both-pass false b e = clash e refl

pub fails-passes : (a b : Bool) → (if a then false else b) ≡ true → (a ≡ false) × (b ≡ true)
fails-passes true b e = clash e refl
fails-passes false b e = (refl, e)

pub not-leb : (a b : ℕ) → not (leb a b) ≡ ltb b a
not-leb a b =
    by_cases (leb a b)
    (λ t. rw (t, le-ltb b a (leb-true a b t)))
    (λ f. rw (f, lt-ltb b a (leb-false a b f)))

pub not-ltb : (a b : ℕ) → not (ltb a b) ≡ leb b a
not-ltb a b =
    by_cases (ltb a b)
    (λ t. rw (t, lt-leb b a (ltb-true a b t)))
    (λ f. rw (f, le-leb b a (ltb-false a b f)))
