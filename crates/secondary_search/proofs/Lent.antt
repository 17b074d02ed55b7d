-- A level whose records are lent by themselves is counted as it stands among the words of the table: the mirrors of the count read its records and nothing
-- else. Assumes nothing.
use Rattle.std.specs.Prelude.{if◌then◌else◌}
use Prim.Native.Nat.{ℕ, zero, suc, ◌+◌, ◌*◌, ◌-◌, ◌/◌, ◌≤◌, ◌<◌}
use mathlib.Core.Path.{◌≡◌, refl, ap, ap₂, ◌∙◌}
use mathlib.Core.Bool.{Bool, true, false}
use mathlib.Core.List.{List, [], ◌∷◌}
use native.Mathlib.Omega.{arith}
use lib.Dec.{leb}
use lib.Seq.{length-take-le}
use borrow.Author.Tests.{leb-false, le-leb, lt-leb}
use lib.ListN.{length, get_or, take, drop, length-drop}
use Rattle.model.specs.Sheet.{Box, along_y}
use Rattle.table.specs.Layout.{arm_width, record_width, record_place, level_end}
use Rattle.table.specs.Limits.{deepest}
use Rattle.table.specs.Figures.{arrived}
use Rattle.nodes.specs.Arms.{Arm, arms, arm_at, record_at}
use Rattle.nodes.specs.Count.{Kind, Side, side_along, low_record, low_node, low_from, high_record, high_node, high_from, low_end, high_end}
use Rattle.nodes.specs.Count.{open_record, open_node, open_from, count_tree}
use Rattle.secondary_search.specs.Search.{kind}
use Rattle.secondary_search.specs.Count.{records, Records, auxiliary, count♯}

get_d_drop : (base i : ℕ) (xs : List ℕ) → get_or (drop base xs) i 0 ≡ get_or xs (base + i) 0
get_d_drop zero i xs = let e : 0 + i ≡ i = omega arith in rw e
get_d_drop (suc base) i [] = refl
get_d_drop (suc base) i (x ∷ xs) = let e : suc base + i ≡ suc (base + i) = omega arith in rw e (get_d_drop base i xs)

get_d_take : (n i : ℕ) (xs : List ℕ) → i < n → get_or (take n xs) i 0 ≡ get_or xs i 0
get_d_take zero i xs h = absurd (omega (arith, h))
get_d_take (suc n) i [] h = refl
get_d_take (suc n) zero (x ∷ xs) h = refl
get_d_take (suc n) (suc i) (x ∷ xs) h = get_d_take n i xs (omega (arith, h))

-- where words are records and nothing else, a record begins past their end just where its name is none of theirs
module _ (xs : List ℕ) (name at : ℕ) (h : Records xs) (e : at ≡ record_place 0 name) where
  pub past_end : length xs ≤ at → leb (records xs) name ≡ true
  past_end l = le-leb (records xs) name (omega (arith, h, e, l))

  pub before-end : at < length xs → leb (records xs) name ≡ false
  before-end l = lt-leb (records xs) name (omega (arith, h, e, l))

  pub record-there : at < length xs → at + record_width ≤ length xs
  record-there l = omega (arith, h, e, l)

-- the words from where the records of a level begin to where they end
abbrev pub level_of : ℕ → ℕ → List ℕ → List ℕ
level_of base end xs = take (end - base) (drop base xs)

module _ (base C end : ℕ) (xs : List ℕ) (e : end ≡ level_end base C) (h : end ≤ length xs) where
  level-length : length (level_of base end xs) ≡ record_width * C
  level-length = length-take-le (end - base) (drop base xs) (omega (arith, h, length-drop base xs)) ∙ omega (arith, e)

  level-records : records (level_of base end xs) ≡ C
  level-records = ap (λ n. n / record_width) level-length ∙ omega arith

  pub level-lent : Records (level_of base end xs)
  level-lent = rw level-records level-length

-- a test that both make, and what they do where it fails
tested : {A : Type 0} (b : Bool) (t u v : A) → (b ≡ false → u ≡ v) → (if b then t else u) ≡ (if b then t else v)
tested true t u v h = refl
tested false t u v h = h refl

module _ (base C end : ℕ) (xs : List ℕ) (e : end ≡ level_end base C) (b : Box) where
  abbrev K : Kind ℕ
  K = kind auxiliary C xs b

  abbrev S : Side
  S = side_along along_y b

  abbrev level : List ℕ
  level = level_of base end xs

  word : (i j : ℕ) → i < record_width * C → base + i ≡ j → get_or level i 0 ≡ get_or xs j 0
  word i j h p = get_d_take (end - base) i (drop base xs) (omega (arith, h, e)) ∙ get_d_drop base i xs ∙ ap (λ i. get_or xs i 0) p

  arm-level : (i j : ℕ) → i + arm_width ≤ record_width * C → base + i ≡ j → arm_at level i ≡ arm_at xs j
  unfolding arm_at
  arm-level i j h p = rw (
    word i j (omega (arith, h)) p,
    word (i + 1) (j + 1) (omega (arith, h)) (omega (arith, p)),
    word (i + 2) (j + 2) (omega (arith, h)) (omega (arith, p)),
    word (i + 3) (j + 3) (omega (arith, h)) (omega (arith, p)),
    word (i + 4) (j + 4) (omega (arith, h)) (omega (arith, p)),
  )

  record-level : (name : ℕ) → name < C → record_at level (record_place 0 name) ≡ record_at xs (record_place base name)
  unfolding record_at
  record-level name h =
      ap₂ arms (arm-level (record_place 0 name) (record_place base name) (omega (arith, h)) (omega arith))
      (arm-level (record_place 0 name + arm_width) (record_place base name + arm_width) (omega (arith, h)) (omega arith))

  low-level : (f n tally : ℕ) → low_from K S C level f 0 n tally ≡ low_from K S C xs f base n tally
  unfolding low_from low_node low_record
  low-level zero n tally = refl
  low-level (suc f) n tally =
      let p = record_at xs (record_place base (n / 2)) in
      tested (leb C (n / 2)) _ _ _ (λ h. rw (
        record-level (n / 2) (leb-false _ _ h),
        low-level f p.right.node (arrived (arrived tally 0 0) 0 0),
        low-level f p.left.node (arrived (arrived tally p.right.weight p.right.grades) 0 0),
      ))

  high-level : (f n tally : ℕ) → high_from K S C level f 0 n tally ≡ high_from K S C xs f base n tally
  unfolding high_from high_node high_record
  high-level zero n tally = refl
  high-level (suc f) n tally =
      let p = record_at xs (record_place base (n / 2)) in
      tested (leb C (n / 2)) _ _ _ (λ h. rw (
        record-level (n / 2) (leb-false _ _ h),
        high-level f p.left.node (arrived (arrived tally 0 0) 0 0),
        high-level f p.right.node (arrived (arrived tally p.left.weight p.left.grades) 0 0),
      ))

  low-end-level : (a : Arm) (tally : ℕ) → low_end K S C level 0 a tally ≡ low_end K S C xs base a tally
  unfolding low_end
  low-end-level a tally = rw (low-level deepest a.node (arrived tally 0 0))

  high-end-level : (a : Arm) (tally : ℕ) → high_end K S C level 0 a tally ≡ high_end K S C xs base a tally
  unfolding high_end
  high-end-level a tally = rw (high-level deepest a.node (arrived tally 0 0))

  open-level : (f n tally : ℕ) → open_from K S C level f 0 n tally ≡ open_from K S C xs f base n tally
  unfolding open_from open_node open_record
  open-level zero n tally = refl
  open-level (suc f) n tally =
      let p = record_at xs (record_place base (n / 2)) in
      tested (leb C (n / 2)) _ _ _ (λ h. rw (
        record-level (n / 2) (leb-false _ _ h),
        open-level f p.right.node (arrived (arrived tally 0 0) 0 0),
        open-level f p.left.node (arrived (arrived tally 0 0) 0 0),
        low-end-level p.left tally,
        high-end-level p.right (low_end K S C xs base p.left tally),
      ))

pub count-lent : (base C end : ℕ) (xs : List ℕ) (b : Box) (a : Arm) (tally : ℕ) →
    end ≡ level_end base C →
    end ≤ length xs →
    count♯ (level_of base end xs) (records (level_of base end xs)) b 0 a tally ≡ count♯ xs C b base a tally
unfolding count_tree
count-lent base C end xs b a tally e h =
    rw (level-records base C end xs e h, open-level base C end xs e b deepest a.node (arrived tally 0 0))
