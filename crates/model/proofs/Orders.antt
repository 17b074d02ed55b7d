-- The orders by keys are strict and total, and the sheet's two axes keep the laws of an axis. Assumes nothing.
use Prim.Native.Nat.{ℕ, ◌≤◌, ◌<◌}
use mathlib.Core.Path.{◌≡◌, refl, sym, ap₂, ◌∙◌, fun_ext}
use mathlib.Core.Bool.{Bool, true, false, ◌&&◌, ◌||◌}
use mathlib.Core.List.{List, [], ◌∷◌}
use native.Mathlib.Omega.{arith}
use lib.Dec.{eqb, ltb, leb}
use borrow.Author.Tests.{eqb-true, eq-eqb, ne_eqb, lt-ltb, le-ltb, ltb-true, ltb-false, leb-true, leb-false, le-leb}
use Rattle.model.specs.Axis.{Space, on_side, cell_inside, cell_clear, lexicographic, equal_on}
use Rattle.model.specs.Sheet.{Mark, Box, mark_outside, box_crossed, by_xy_tag, below_x, below_y, same, from_x1, to_x2, from_y1, to_y2, holds, sheet}
use Rattle.model.specs.Sheet.{along_x, along_y}
use Rattle.model.specs.Laws.{SamenessLaws, AxisLaws, Straight}
use Rattle.model.proofs.Logic.{by_cases, by_order, clash, and_left, and_right, or-neither, not-leb, not-ltb}

-- how one key decides
module _ {M : Type 0} (k : M → ℕ) (ks : List (M → ℕ)) (a b : M) where
  pub lexicographic-lt : k a < k b → lexicographic (k ∷ ks) a b ≡ true
  lexicographic-lt h = rw (lt-ltb (k a) (k b) h)

  pub lexicographic-eq : k a ≡ k b → lexicographic (k ∷ ks) a b ≡ lexicographic ks a b
  lexicographic-eq h = rw (le-ltb (k a) (k b) (omega arith), eq-eqb (k a) (k b) h)

  pub lexicographic-gt : k b < k a → lexicographic (k ∷ ks) a b ≡ false
  lexicographic-gt h = rw (le-ltb (k a) (k b) (omega arith), ne_eqb (k a) (k b) (omega arith))

  lexicographic-rises : lexicographic (k ∷ ks) a b ≡ true → k a ≤ k b
  lexicographic-rises e = by_order (k a) (k b) (λ h. omega arith) (λ h. omega arith) (λ h. clash e (lexicographic-gt h))

lexicographic-trans : {M : Type 0} (ks : List (M → ℕ)) (a b c : M) → lexicographic ks a b ≡ true → lexicographic ks b c ≡ true
    → lexicographic ks a c ≡ true
lexicographic-trans [] a b c p q = p
lexicographic-trans (k ∷ ks) a b c p q =
    by_order (k a) (k b)
    (λ h. lexicographic-lt k ks a c (omega (arith, lexicographic-rises k ks b c q)))
    (λ h. by_order (k b) (k c)
    (λ g. lexicographic-lt k ks a c (omega arith))
    (λ g. lexicographic-eq k ks a c (omega arith)
    ∙ lexicographic-trans ks a b c (sym (lexicographic-eq k ks a b h) ∙ p) (sym (lexicographic-eq k ks b c g) ∙ q))
    (λ g. clash q (lexicographic-gt k ks b c g)))
    (λ h. clash p (lexicographic-gt k ks a b h))

lexicographic-linear : {M : Type 0} (ks : List (M → ℕ)) (a b c : M) → lexicographic ks a b ≡ true → lexicographic ks c b ≡ false
    → lexicographic ks a c ≡ true
lexicographic-linear [] a b c p q = p
lexicographic-linear (k ∷ ks) a b c p q =
    by_order (k c) (k b)
    (λ h. clash (lexicographic-lt k ks c b h) q)
    (λ h. by_order (k a) (k b)
    (λ g. lexicographic-lt k ks a c (omega arith))
    (λ g. lexicographic-eq k ks a c (omega arith)
    ∙ lexicographic-linear ks a b c (sym (lexicographic-eq k ks a b g) ∙ p) (sym (lexicographic-eq k ks c b h) ∙ q))
    (λ g. clash p (lexicographic-gt k ks a b g)))
    (λ h. lexicographic-lt k ks a c (omega (arith, lexicographic-rises k ks a b p)))

-- two marks agree on every key
abbrev pub Agree : {M : Type 0} → List (M → ℕ) → M → M → Type 0
Agree [] a b = Unit {0}
Agree (k ∷ ks) a b = (k a ≡ k b) × Agree ks a b

lexicographic-total : {M : Type 0} (ks : List (M → ℕ)) (a b : M) → lexicographic ks a b ≡ false → lexicographic ks b a ≡ false → Agree ks a b
lexicographic-total [] a b p q = tt
lexicographic-total (k ∷ ks) a b p q =
    by_order (k a) (k b)
    (λ h. clash (lexicographic-lt k ks a b h) p)
    (λ h. (h, lexicographic-total ks a b (sym (lexicographic-eq k ks a b h) ∙ p) (sym (lexicographic-eq k ks b a (sym h)) ∙ q)))
    (λ h. clash (lexicographic-lt k ks b a h) q)

lexicographic-agree : {M : Type 0} (ks : List (M → ℕ)) (a b : M) → Agree ks a b → lexicographic ks a b ≡ false
lexicographic-agree [] a b g = refl
lexicographic-agree (k ∷ ks) a b g = lexicographic-eq k ks a b g.0 ∙ lexicographic-agree ks a b g.1

-- sameness by keys
pub equal_on-agree : {M : Type 0} (ks : List (M → ℕ)) (a b : M) → equal_on ks a b ≡ true → Agree ks a b
equal_on-agree [] a b e = tt
equal_on-agree (k ∷ ks) a b e = (
  eqb-true (k a) (k b) (and_left (eqb (k a) (k b)) (equal_on ks a b) e),
  equal_on-agree ks a b (and_right (eqb (k a) (k b)) (equal_on ks a b) e),
)

pub agree-equal_on : {M : Type 0} (ks : List (M → ℕ)) (a b : M) → Agree ks a b → equal_on ks a b ≡ true
agree-equal_on [] a b g = refl
agree-equal_on (k ∷ ks) a b g = rw (eq-eqb (k a) (k b) g.0, agree-equal_on ks a b g.1)

agree-self : {M : Type 0} (ks : List (M → ℕ)) (a : M) → Agree ks a a
agree-self [] a = tt
agree-self (k ∷ ks) a = (refl, agree-self ks a)

agree-alike : {M : Type 0} (ks : List (M → ℕ)) (a b c : M) → Agree ks a b → equal_on ks a c ≡ equal_on ks b c
agree-alike [] a b c g = refl
agree-alike (k ∷ ks) a b c g = ap₂ (λ n t. eqb n (k c) && t) g.0 (agree-alike ks a b c g.1)

pub equal_on-laws : {M B : Type 0} (ks : List (M → ℕ)) (holds : B → M → Bool) → SamenessLaws (record { same = equal_on ks; holds = holds })
equal_on-laws ks holds = record {
  self = λ a. agree-equal_on ks a a (agree-self ks a);
  alike = λ a b e. fun_ext (λ c. agree-alike ks a b c (equal_on-agree ks a b e));
}

-- an order by keys, of which the first is the coordinate, is an axis' wherever sameness says that all of the keys agree
module _ {M B : Type 0} (S : Space M B) (k : M → ℕ) (ks : List (M → ℕ)) (lo hi : B → ℕ → Bool)
    (to : (a b : M) → S.same a b ≡ true → Agree (k ∷ ks) a b) (fro : (a b : M) → Agree (k ∷ ks) a b → S.same a b ≡ true)
    (lo-rises : (b : B) (v w : ℕ) → v ≤ w → lo b v ≡ true → lo b w ≡ true)
    (hi-falls : (b : B) (v w : ℕ) → v ≤ w → hi b w ≡ true → hi b v ≡ true)
    (held : (b : B) (m : M) → S.holds b m ≡ true → (lo b (k m) && hi b (k m)) ≡ true) where
  pub lexicographic-laws : AxisLaws S (record { below = lexicographic (k ∷ ks); at = k; from_low = lo; to_high = hi })
  lexicographic-laws = record {
    trans = lexicographic-trans (k ∷ ks);
    linear = lexicographic-linear (k ∷ ks);
    apart = λ a b e. by_cases (S.same a b) (λ t. clash e (lexicographic-agree (k ∷ ks) a b (to a b t))) (λ f. f);
    close = λ a b p q. fro a b (lexicographic-total (k ∷ ks) a b p q);
    rises = lexicographic-rises k ks;
    level = λ a b e. by_order (k a) (k b) (λ h. clash (lexicographic-lt k ks a b h) e) (λ h. omega arith) (λ h. omega arith);
    low_rises = lo-rises;
    high_falls = hi-falls;
    held = held;
  }

-- the ends of a side that has its low end and not its high one
pub leb-rises : (n v w : ℕ) → v ≤ w → leb n v ≡ true → leb n w ≡ true
leb-rises n v w h e = le-leb n w (omega (arith, leb-true n v e))

pub ltb-falls : (n v w : ℕ) → v ≤ w → ltb w n ≡ true → ltb v n ≡ true
ltb-falls n v w h e = lt-ltb v n (omega (arith, ltb-true w n e))

-- the sheet's
pub sheet-sameness : SamenessLaws sheet
unfolding same
sheet-sameness = equal_on-laws by_xy_tag holds

pub same-outside : (a b : Mark) → same a b ≡ true → mark_outside a ≡ mark_outside b
unfolding same mark_outside
same-outside a b e = let g = equal_on-agree by_xy_tag a b e in rw (g.0, g.1.0)

-- Marks that are the same may differ in grade; a test of all four tells whether they are one.
abbrev by_all : List (Mark → ℕ)
by_all = (λ m. m.x) ∷ (λ m. m.y) ∷ (λ m. m.tag) ∷ (λ m. m.grade) ∷ []

abbrev pub equal : Mark → Mark → Bool
equal = equal_on by_all

pub equal-self : (a : Mark) → equal a a ≡ true
equal-self a = agree-equal_on by_all a a (agree-self by_all a)

pub equal-sound : (a b : Mark) → equal a b ≡ true → a ≡ b
equal-sound a b e =
    let g = equal_on-agree by_all a b e in λ i. record { x = g.0 i; y = g.1.0 i; tag = g.1.1.0 i; grade = g.1.1.1.0 i }

pub along_x-laws : AxisLaws sheet along_x
unfolding same below_x holds from_x1 to_x2
along_x-laws =
    lexicographic-laws sheet (λ m. m.x) ((λ m. m.y) ∷ (λ m. m.tag) ∷ []) from_x1 to_x2 (equal_on-agree by_xy_tag) (agree-equal_on by_xy_tag)
    (λ b. leb-rises b.x1)
    (λ b. ltb-falls b.x2)
    (λ b m. and_left (on_side along_x b m.x) (on_side along_y b m.y))

pub along_y-laws : AxisLaws sheet along_y
unfolding same below_y holds from_y1 to_y2
along_y-laws =
    lexicographic-laws sheet (λ m. m.y) ((λ m. m.x) ∷ (λ m. m.tag) ∷ []) from_y1 to_y2
    (λ a b e. let g = equal_on-agree by_xy_tag a b e in (g.1.0, (g.0, g.1.1)))
    (λ a b g. agree-equal_on by_xy_tag a b (g.1.0, (g.0, g.1.1)))
    (λ b. leb-rises b.y1)
    (λ b. ltb-falls b.y2)
    (λ b m. and_right (on_side along_x b m.x) (on_side along_y b m.y))

-- the sides of a box that is not crossed, also where they are empty
side-straight : (low high v : ℕ) → ltb high low ≡ false → leb low v ≡ false → ltb v high ≡ true
side-straight low high v e h = lt-ltb v high (omega (arith, ltb-false high low e, leb-false low v h))

pub along_x-straight : (b : Box) → box_crossed b ≡ false → Straight along_x b
unfolding box_crossed from_x1 to_x2
along_x-straight b e v = side-straight b.x1 b.x2 v (or-neither (ltb b.x2 b.x1) (ltb b.y2 b.y1) e).0

pub along_y-straight : (b : Box) → box_crossed b ≡ false → Straight along_y b
unfolding box_crossed from_y1 to_y2
along_y-straight b e v = side-straight b.y1 b.y2 v (or-neither (ltb b.x2 b.x1) (ltb b.y2 b.y1) e).1

-- R-2's words for a cell, "inside when its least value is at least x1 and its greatest is below x2, and clear when its greatest is below x1 or its least is
-- not below x2, also when x1 = x2; y likewise"
module _ (b : Box) (least greatest : ℕ) where
  pub inside-along_x : cell_inside along_x b least greatest ≡ (leb b.x1 least && ltb greatest b.x2)
  unfolding from_x1 to_x2
  inside-along_x = refl

  pub clear-along_x : cell_clear along_x b least greatest ≡ (ltb greatest b.x1 || leb b.x2 least)
  unfolding from_x1 to_x2
  clear-along_x = rw (not-leb b.x1 greatest, not-ltb least b.x2)

  pub inside-along_y : cell_inside along_y b least greatest ≡ (leb b.y1 least && ltb greatest b.y2)
  unfolding from_y1 to_y2
  inside-along_y = refl

  pub clear-along_y : cell_clear along_y b least greatest ≡ (ltb greatest b.y1 || leb b.y2 least)
  unfolding from_y1 to_y2
  clear-along_y = rw (not-leb b.y1 greatest, not-ltb least b.y2)
