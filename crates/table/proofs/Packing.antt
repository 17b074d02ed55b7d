-- The figure of grades and a count's tally stand for what they say: groups of marks joined in any order, each part read off. Assumes nothing.
use Rattle.std.specs.Prelude.{if◌then◌else◌}
use Rattle.std.proofs.Common.{◌≡◌, ℕ, ◌+◌, ◌*◌, ◌/◌, ◌%◌, ◌^◌, ◌<◌, ◌≤◌, max}
use Rattle.std.proofs.Common.{Bool, List, [], ◌∷◌, length, refl, ◌∙◌, arith}
use Rattle.model.specs.Totals.{total, total_if}
use Rattle.model.specs.Laws.{OperationLaws, All, nil, cons}
use Rattle.model.proofs.Logic.{by_cases}
use Rattle.model.proofs.Lists.{all_map}
use Rattle.table.specs.Grades.{graded, joined, grading, sum_of, worst_of, word, joined_word}
use Rattle.table.specs.Figures.{packed, found_in, visits_in, grades_in}

pub joined-assoc : (a b c : ℕ) → joined (joined a b) c ≡ joined a (joined b c)
unfolding joined
joined-assoc a b c = omega arith

pub joined-comm : (a b : ℕ) → joined a b ≡ joined b a
unfolding joined
joined-comm a b = omega arith

-- "to which 0 is neutral"
pub grading-laws : OperationLaws grading
unfolding joined
grading-laws = record { assoc = joined-assoc; comm = joined-comm; neutral = λ a. omega arith }

-- SUM AND WORST, taken apart: where no grade is above 100, the figure is 256 times the sum and the worst
module _ {M : Type 0} (v : M → ℕ) where
  worst-most : {l : List M} → All (λ m. v m ≤ 100) l → total max v l ≤ 100
  worst-most nil = omega arith
  worst-most (cons e h) = omega (arith, e, worst-most h)

  sum-most : {l : List M} → All (λ m. v m ≤ 100) l → total ◌+◌ v l ≤ 100 * length l
  sum-most nil = omega arith
  sum-most (cons e h) = omega (arith, e, sum-most h)

  pub grading-parts : {l : List M} → All (λ m. v m ≤ 100) l → total joined (λ m. graded (v m)) l ≡ 256 * total ◌+◌ v l + total max v l
  unfolding joined graded
  grading-parts nil = refl
  grading-parts (cons {m = m} {l = l} e h) =
      let w = worst-most h in
      rw (grading-parts h) (part (v m) (total ◌+◌ v l) (total max v l) e w)
    where
      part : (g s w : ℕ) → g ≤ 100 → w ≤ 100
          → 256 * (257 * g / 256 + (256 * s + w) / 256) + max (257 * g % 256) ((256 * s + w) % 256) ≡ 256 * (g + s) + max g w
      part g s w h k = omega arith

  -- of 65,536 marks it is far below 2^31
  pub grading-small : {l : List M} → All (λ m. v m ≤ 100) l → length l ≤ 65536 → total joined (λ m. graded (v m)) l < 2147483648
  grading-small {l = l} h n = rw (grading-parts h) (omega (arith, sum-most h, worst-most h))

-- and so of the marks that pass a test
module _ {M : Type 0} (grade : M → ℕ) (p : M → Bool) where
  abbrev passing : M → ℕ
  passing m = if p m then grade m else 0

  passing-most : {l : List M} → All (λ m. grade m ≤ 100) l → All (λ m. passing m ≤ 100) l
  passing-most = all_map (λ m e. by_cases (p m) (λ t. rw t e) (λ f. rw f (omega arith)))

  passing-graded : (l : List M) → total_if (record { of = λ m. graded (grade m); join = joined }) p l ≡ total joined (λ m. graded (passing m)) l
  unfolding graded
  passing-graded [] = refl
  passing-graded (m ∷ l) = by_cases (p m) (λ t. rw (t, passing-graded l)) (λ f. rw (f, passing-graded l))

  pub passing-parts : {l : List M} → All (λ m. grade m ≤ 100) l
      → total_if (record { of = λ m. graded (grade m); join = joined }) p l
      ≡ 256 * total_if (record { of = grade; join = ◌+◌ }) p l + total_if (record { of = grade; join = max }) p l
  passing-parts {l = l} h = passing-graded l ∙ grading-parts passing (passing-most h)

  pub passing-small : {l : List M} → All (λ m. grade m ≤ 100) l → length l ≤ 65536
      → total_if (record { of = λ m. graded (grade m); join = joined }) p l < 2147483648
  passing-small {l = l} h n = rw (passing-graded l) (grading-small passing (passing-most h) n)

-- the parts of a figure
pub parts-sum : (s w : ℕ) → w ≤ 100 → sum_of (256 * s + w) ≡ s
unfolding sum_of
parts-sum s w h = omega arith

pub parts-worst : (s w : ℕ) → w ≤ 100 → worst_of (256 * s + w) ≡ w
unfolding worst_of
parts-worst s w h = omega arith

pub graded-small : (g : ℕ) → g ≤ 100 → graded g < 2147483648
unfolding graded
graded-small g h = omega arith

pub word_small : (p : ℕ) → p < 2147483648 → word p ≡ p
unfolding word
word_small p h = omega arith

-- what is a multiple of 256 comes out of a figure, so figures joined may go round at any such number
joined-out : (a b n : ℕ) → joined (a + 256 * n) b ≡ joined a b + 256 * n
unfolding joined
joined-out a b n = omega arith

-- words joined are the word of what they stand for
word-left : (p q : ℕ) → joined_word (word p) q ≡ joined_word p q
unfolding joined_word word
word-left p q =
    let e : p % 4294967296 + 256 * (16777216 * (p / 4294967296)) ≡ p = omega arith in
    let k = (rw e at (joined-out (p % 4294967296) q (16777216 * (p / 4294967296)))) in
    omega (arith, k)

joined_word-comm : (p q : ℕ) → joined_word p q ≡ joined_word q p
unfolding joined_word
joined_word-comm p q = rw (joined-comm p q)

pub word-right : (p q : ℕ) → joined_word p (word q) ≡ joined_word p q
word-right p q = joined_word-comm p (word q) ∙ word-left q p ∙ joined_word-comm q p

pub word-joined : (p q : ℕ) → joined_word (word p) (word q) ≡ joined_word p q
word-joined p q = word-left p (word q) ∙ word-right p q

-- tallies joined
pub packed-joined : (k v g l w h : ℕ) → joined (packed k v g) (packed l w h) ≡ packed (k + l) (v + w) (joined g h)
unfolding packed joined
packed-joined k v g l w h = omega arith

pub joined-round : (a b : ℕ) → joined (a % 2 ^ 64) b % 2 ^ 64 ≡ joined a b % 2 ^ 64
joined-round a b =
    let e : a % 2 ^ 64 + 256 * (72057594037927936 * (a / 2 ^ 64)) ≡ a = omega arith in
    let k = (rw e at (joined-out (a % 2 ^ 64) b (72057594037927936 * (a / 2 ^ 64)))) in
    omega (arith, k)

-- the parts of a tally whose figures fill their places
module _ (k v g : ℕ) (hv : v < 65536) (hg : g < 2147483648) where
  pub packed-found : found_in (packed k v g) ≡ k
  unfolding found_in packed
  packed-found = omega arith

  pub packed-visits : visits_in (packed k v g) ≡ v
  unfolding visits_in packed
  packed-visits = omega arith

  pub packed-grades : grades_in (packed k v g) ≡ g
  unfolding grades_in packed
  packed-grades = omega arith

pub packed-below : (k v g : ℕ) → k ≤ 65536 → v < 65536 → g < 2147483648 → packed k v g < 2 ^ 64
unfolding packed
packed-below k v g hk hv hg = omega arith
