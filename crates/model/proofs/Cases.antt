-- Document 01's cases P1 to P12 and its sample of `sheet`: a table of what the definitions give beside what the paper says, and one theorem over the
-- table. Assumes nothing.
use Prim.Native.Nat.{ℕ}
use mathlib.Core.Path.{◌≡◌, refl}
use mathlib.Core.List.{List, [], ◌∷◌, ◌++◌, map, head-eq_of_cons-eq, tail-eq_of_cons-eq}
use mathlib.Core.Option.{none, some}
use Rattle.model.specs.Sizes.{rise_d, D, W, capacity_outside, rise_passes, passes}
use Rattle.model.specs.Tree.{leaf, node, weight}
use Rattle.model.specs.Sheet.{mark, box, mark_outside, grade_outside, box_crossed, below_x, below_y, same, from_x1, to_x2, from_y1, to_y2, holds, Main}
use Rattle.model.specs.Refusals.{open_table, enter_mark, name_mark, enter_box}
use Rattle.model.specs.History.{Call, open_for, insert, strike, count, list, State, Answer, refusal, updated, counted, listed_in, next, answers, after}
use Rattle.model.specs.Laws.{All, nil, cons}

-- figures of a case: numbers, or the answers of a run
pub data Figures : Type 0 where
  numbers : List ℕ → Figures
  gives : List Answer → Figures

pub record Case : Type 0 where
  pub actual : Figures
  pub expected : Figures

infix 15 ◌is◌
abbrev ◌is◌ : Figures → Figures → Case
◌is◌ a e = record { actual = a; expected = e }

-- a table of the capacity c, newly opened
abbrev blank : State
blank = record { capacity = 0; plain = []; tree = none }

abbrev opened : ℕ → State
opened c = next (open_for c (W c)) blank

abbrev run : ℕ → List Call → Figures
run c calls = gives (answers calls (opened c))

abbrev root_weights : Main → List ℕ
root_weights none = []
root_weights (some (leaf m)) = 1 ∷ []
root_weights (some (node i l r)) = weight l ∷ weight r ∷ []

-- the sample's three marks, and P8's row with P9's fifth
abbrev three : List Call
three = insert (mark 10 10 1 5) ∷ insert (mark 20 5 2 7) ∷ insert (mark 30 20 3 100) ∷ []

abbrev row : List Call
row = insert (mark 1 0 0 1) ∷ insert (mark 2 0 0 1) ∷ insert (mark 3 0 0 1) ∷ insert (mark 4 0 0 1) ∷ insert (mark 5 0 0 1) ∷ []

-- the sample's calls; its last line, `Q`, is no call
abbrev sample : List Call
sample =
    insert (mark 10 10 1 5)
    ∷ insert (mark 20 5 2 7)
    ∷ insert (mark 30 20 3 100)
    ∷ count (box 0 21 0 11)
    ∷ list (box 0 31 0 11) 160 160
    ∷ strike (mark 10 10 1 0)
    ∷ count (box 0 31 0 31)
    ∷ strike (mark 10 10 1 0)
    ∷ insert (mark 1000000 0 1 101)
    ∷ insert (mark 40 0 1 101)
    ∷ count (box 20 10 0 0)
    ∷ []

abbrev sample_answers : List Answer
sample_answers =
    updated 1 0
    ∷ updated 2 0
    ∷ updated 3 0
    ∷ counted 2 5 12 7
    ∷ listed_in 2 (mark 10 10 1 5 ∷ mark 20 5 2 7 ∷ []) 6
    ∷ updated 2 0
    ∷ counted 2 2 107 100
    ∷ refusal 9 0
    ∷ refusal 5 0
    ∷ refusal 12 0
    ∷ refusal 6 0
    ∷ []

-- R-2: a mark on the low end of a side is in the box, one on the high end is not. Of the three marks by x the main tree is 10 beside (20 beside 30).
abbrev on_sides : List Call
on_sides = count (box 20 30 5 20) ∷ count (box 10 20 0 31) ∷ count (box 0 31 5 10) ∷ count (box 0 31 10 20) ∷ []

abbrev on_sides_answers : List Answer
on_sides_answers = counted 1 5 7 7 ∷ counted 1 3 5 5 ∷ counted 1 4 7 7 ∷ counted 1 6 5 5 ∷ []

-- R-2: "A box with x1 = x2 is empty and accepted", wherever it lies. The visits are those of cells that are neither inside nor clear, and of their children:
-- one on the least x, three between x or on the second, five on the greatest, one beyond; along y the root is handed over.
abbrev empties : List Call
empties =
    count (box 10 10 0 31)
    ∷ count (box 15 15 0 31)
    ∷ count (box 20 20 0 31)
    ∷ count (box 30 30 0 31)
    ∷ count (box 31 31 0 31)
    ∷ count (box 0 31 7 7)
    ∷ list (box 20 20 5 5) 0 0
    ∷ []

abbrev empties_answers : List Answer
empties_answers =
    counted 0 1 0 0
    ∷ counted 0 3 0 0
    ∷ counted 0 3 0 0
    ∷ counted 0 5 0 0
    ∷ counted 0 1 0 0
    ∷ counted 0 4 0 0
    ∷ listed_in 1 [] 3
    ∷ []

pub table : List Case
table =
    (numbers (D 1 ∷ D 2 ∷ D 3 ∷ D 4 ∷ D 5 ∷ D 8 ∷ []) is numbers (0 ∷ 2 ∷ 3 ∷ 4 ∷ 5 ∷ 7 ∷ []))  -- P1
    ∷ (numbers (W 1 ∷ W 40 ∷ []) is numbers (104 ∷ 13184 ∷ []))  -- P2
    ∷ (gives (answers (open_for 1 103 ∷ open_for 1 104 ∷ []) blank) is gives (refusal 2 0 ∷ updated 0 0 ∷ []))  -- P3
    ∷ (run 40 (count (box 0 31 0 31) ∷ []) is gives (counted 0 0 0 0 ∷ []))  -- P4
    ∷ (run 40 (insert (mark 7 8 9 3) ∷ count (box 7 8 8 9) ∷ []) is gives (updated 1 0 ∷ counted 1 1 3 3 ∷ []))  -- P5
    ∷ (run 40 (three ++ (count (box 0 21 0 11) ∷ [])) is gives (updated 1 0 ∷ updated 2 0 ∷ updated 3 0 ∷ counted 2 5 12 7 ∷ []))  -- P6
    ∷ (run 40 (three ++ (count (box 0 31 0 11) ∷ [])) is gives (updated 1 0 ∷ updated 2 0 ∷ updated 3 0 ∷ counted 2 6 12 7 ∷ []))  -- P7
    ∷ (run 40 row is gives (updated 1 0 ∷ updated 2 0 ∷ updated 3 0 ∷ updated 4 0 ∷ updated 5 5 ∷ []))  -- P8, P9
    ∷ (numbers (root_weights (after row (opened 40)).tree) is numbers (2 ∷ 3 ∷ []))  -- P9
    ∷ (run 1 (insert (mark 1 1 1 2) ∷ insert (mark 2 2 2 100) ∷ insert (mark 1 1 1 9) ∷ [])
    is gives (updated 1 0 ∷ refusal 7 0 ∷ refusal 8 0 ∷ []))  -- P10
    ∷ (run 1 (insert (mark 1 1 1 2) ∷ strike (mark 1 1 1 0) ∷ insert (mark 2 2 2 100) ∷ [])
    is gives (updated 1 0 ∷ updated 0 0 ∷ updated 1 0 ∷ []))  -- P11
    ∷ (run 40 (insert (mark 5 6 1 40) ∷ insert (mark 5 6 2 30) ∷ count (box 5 6 6 7) ∷ [])
    is gives (updated 1 0 ∷ updated 2 0 ∷ counted 2 2 70 40 ∷ []))  -- P12
    ∷ (run 40 sample is gives sample_answers)
    ∷ (run 40 (three ++ on_sides) is gives (updated 1 0 ∷ updated 2 0 ∷ updated 3 0 ∷ on_sides_answers))  -- R-2, ends
    ∷ (run 40 (three ++ empties) is gives (updated 1 0 ∷ updated 2 0 ∷ updated 3 0 ∷ empties_answers))  -- R-2, empty boxes
    ∷ []

all-equal : (l : List Case) → map (λ c. c.actual) l ≡ map (λ c. c.expected) l → All (λ c. c.actual ≡ c.expected) l
all-equal [] e = nil
all-equal (c ∷ l) e = cons (head-eq_of_cons-eq e) (all-equal l (tail-eq_of_cons-eq e))

pub cases-hold : All (λ c. c.actual ≡ c.expected) table
unfolding table rise_d D W capacity_outside rise_passes passes
    mark_outside grade_outside box_crossed below_x below_y same from_x1 to_x2 from_y1 to_y2 holds open_table enter_mark name_mark enter_box
cases-hold = all-equal table refl
