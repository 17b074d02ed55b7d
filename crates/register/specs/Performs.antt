-- What a call does, on any words whatever (document 01, "Where each call may stop"): the one definition that the contracts of all six calls cite, and of
-- which a run is made (Run). Assumes nothing.
use Rattle.std.specs.Prelude.{ℕ, ◌+◌, ◌≤◌, ◌<◌, ◌≡◌, ◌≢◌, ◌⊎◌, Bool}
use Rattle.std.specs.Prelude.{true, false, List, [], length, get_or, take, drop, if◌then◌else◌}
use Rattle.std.proofs.Math.Option.{none}
use Rattle.model.specs.Sizes.{W}
use Rattle.model.specs.Tree.{marks_of}
use Rattle.model.specs.Sheet.{Mark, Box, Main}
use Rattle.model.specs.Refusals.{Outcome, accepted, refused, open_table, enter_mark, name_mark, enter_box}
use Rattle.model.specs.History.{Call, open_for, insert, strike, count, list, check, State}
use Rattle.model.specs.History.{Answer, refusal, updated, counted, listed_in, which_list, answer, next}
use Rattle.table.specs.Layout.{arm_width, open_place, root_place, used_place, run_place, list_place}
use Rattle.sizes.specs.Sizes.{visits_within}
use Rattle.table.specs.Marks.{mark_words}
use Rattle.table.specs.Grades.{sum_of, worst_of}
use Rattle.table.specs.Figures.{found_in, visits_in, grades_in}
use Rattle.twofold_layout.specs.Sound.{Holding, SoundTable}
use Rattle.table.specs.Header.{capacity_of, live_of, not_table}
use Rattle.twofold_layout.specs.Gaps.{Unused}
use Rattle.primary_search.specs.Sought.{Finds, Lacks}
use Rattle.primary_search.specs.Count.{main_count♯}
use Rattle.register.specs.Answers.{in_list}

-- the words that a call is lent: a table and, for a list, two lists
pub record Lent : Type 0 where
  pub table : List ℕ
  pub first : List ℕ
  pub second : List ℕ

abbrev pub lends : List ℕ → List ℕ → List ℕ → Lent
lends xs f s = record { table = xs; first = f; second = s }

abbrev pub alone : List ℕ → Lent
alone xs = lends xs [] []

-- the lengths lent are those that the call says: the history is fed them
abbrev pub LengthsOf : Call → Lent → Type 0
LengthsOf (open_for c words) w = words ≡ length w.table
LengthsOf (list b first second) w = (first ≡ length w.first) × (second ≡ length w.second)
LengthsOf (insert m) w = Unit {0}
LengthsOf (strike m) w = Unit {0}
LengthsOf (count b) w = Unit {0}
LengthsOf check w = Unit {0}

-- The rows that go by arguments, lengths and header alone, first of those that apply: 1, 2; 3, 5, 12; 3, 5; 3, 6; 3. 0 where none does.
abbrev pub number_of : {A : Type 0} → Outcome A → ℕ
number_of (accepted a) = 0
number_of (refused n) = n

unfoldable pub early : Call → List ℕ → ℕ
early (open_for c words) xs = number_of (open_table c words)
early (insert m) xs = if not_table xs then 3 else number_of (enter_mark m)
early (strike m) xs = if not_table xs then 3 else number_of (name_mark m)
early (count b) xs = if not_table xs then 3 else number_of (enter_box b)
early (list b first second) xs = if not_table xs then 3 else number_of (enter_box b)
early check xs = if not_table xs then 3 else 0

-- a table's own words, W(C) of those lent
abbrev pub own : List ℕ → List ℕ
own xs = take (W (capacity_of xs)) xs

-- which calls write in the table, and which of them update a tree
abbrev pub opens_table : Call → Bool
opens_table (open_for c words) = true
opens_table (insert m) = false
opens_table (strike m) = false
opens_table (count b) = false
opens_table (list b first second) = false
opens_table check = false

abbrev pub updates : Call → Bool
updates (open_for c words) = false
updates (insert m) = true
updates (strike m) = true
updates (count b) = false
updates (list b first second) = false
updates check = false

-- What the search of a count comes to by the words: on a sound table the marks that the box holds, their grades' sum and worst and the written search's visits
-- (`Follows`); on any other figures without meaning, of which is known that `main_count♯`, the code step by step, gives them. Figures that no sound table
-- with this header can have, more marks than live or more visits than (4D + 1)(2D + 1) for D(C), are damage.
abbrev pub sum_by : List ℕ → Box → ℕ
sum_by xs b = sum_of (grades_in (main_count♯ xs b))

abbrev pub worst_by : List ℕ → Box → ℕ
worst_by xs b = worst_of (grades_in (main_count♯ xs b))

pub record CountsTo (xs : List ℕ) (b : Box) (k visits : ℕ) : Type 0 where
  pub found : k ≡ found_in (main_count♯ xs b)
  pub visited : visits ≡ visits_in (main_count♯ xs b)
  pub few : k ≤ live_of xs
  pub soon : visits ≤ visits_within (capacity_of xs)

-- The rows that rest on the tree, and the accepted answers: where no early row applies a call gives one of these. On a table that is not sound 7 to 10 come "by
-- the words they met", and so do the accepted answers: an insert and a strike by the search for the mark (`Finds`, `Lacks`), 8 before 7, a count and a list by
-- the search of a count. Where the search for the mark comes to no leaf only 4 is left. "Number 4 never comes from a sound table."
pub data Later (xs : List ℕ) : Call → Answer → Type 0 where
  opens : {c words : ℕ} → Later xs (open_for c words) (updated 0 0)
  present : {m : Mark} {s : ℕ} → Finds (own xs) m s → Later xs (insert m) (refusal 8 0)
  full : {m : Mark} → Lacks (own xs) m → live_of xs ≡ capacity_of xs → Later xs (insert m) (refusal 7 0)
  inserts : {m : Mark} {live rebuilt : ℕ} → Lacks (own xs) m → live_of xs < capacity_of xs → Later xs (insert m) (updated live rebuilt)
  missing : {m : Mark} → Lacks (own xs) m → Later xs (strike m) (refusal 9 0)
  strikes : {m : Mark} {s live rebuilt : ℕ} → Finds (own xs) m s → Later xs (strike m) (updated live rebuilt)
  counts : {b : Box} {k visits : ℕ} → CountsTo (own xs) b k visits → Later xs (count b) (counted k visits (sum_by (own xs) b) (worst_by (own xs) b))
  short : {b : Box} {first second k visits : ℕ} → CountsTo (own xs) b k visits → (first < list_place k) ⊎ (second < list_place k)
      → Later xs (list b first second) (refusal 10 k)
  lists : {b : Box} {first second counted visits : ℕ} {l : List Mark} → CountsTo (own xs) b (length l) counted → list_place (length l) ≤ first
      → list_place (length l) ≤ second
      → Later xs (list b first second) (listed_in (which_list (length l)) l visits)
  sound : {T : Main} → Holding (own xs) T → Later xs check (updated (length (marks_of T)) 0)
  unsound : {c : Call} → opens_table c ≡ false → (SoundTable (own xs) → ⊥) → Later xs c (refusal 4 0)

-- how far a call may write: W(C), of the C handed in or of the table's own
abbrev pub reach : Call → List ℕ → ℕ
reach (open_for c words) xs = W c
reach (insert m) xs = W (capacity_of xs)
reach (strike m) xs = W (capacity_of xs)
reach (count b) xs = 0
reach (list b first second) xs = 0
reach check xs = 0

-- What a call with that number leaves in the table. "Only open, insert and strike write in the table." A refusal "changes no lent word, save this: an
-- insert or strike that gives 4 sets word 0 to 0 and may have written other words up to W(C)": no update that gives 4 leaves the table open.
pub data Leaves (c : Call) (xs : List ℕ) : ℕ → List ℕ → Type 0 where
  unchanged : {n : ℕ} → (n ≡ 4 → updates c ≡ false) → Leaves c xs n xs
  written : {ys : List ℕ} → length ys ≡ length xs → drop (reach c xs) ys ≡ drop (reach c xs) xs → Leaves c xs 0 ys
  closed : {ys : List ℕ} → updates c ≡ true → get_or ys open_place 0 ≡ 0 → length ys ≡ length xs → drop (reach c xs) ys ≡ drop (reach c xs) xs
      → Leaves c xs 4 ys

-- What it leaves in the lists (document 01, "The list"): the marks listed, "four words a mark" (R-1), in the list that `which` names; words past them "are
-- unchanged in both". A refusal lists nothing, so it changes no word.
pub record LeavesLists (a : Answer) (before after : Lent) : Type 0 where
  pub answer : take (list_place (length a.listed)) (in_list a.which after.first after.second) ≡ mark_words a.listed
  pub past_first : drop (list_place (length a.listed)) after.first ≡ drop (list_place (length a.listed)) before.first
  pub past_second : drop (list_place (length a.listed)) after.second ≡ drop (list_place (length a.listed)) before.second

-- an accepted open leaves a sound table of that capacity without marks, whatever the words were; it writes words 0 to 7 and the two lists of slots, and no
-- other
abbrev pub Starts : Call → List ℕ → List ℕ → Type 0
Starts (open_for c words) xs ys =
    (capacity_of ys ≡ c) × Holding (own ys) none
    × ((i : ℕ) → root_place + arm_width ≤ i → i < W c → (i < used_place c 0) ⊎ (run_place c 0 ≤ i) → get_or ys i 0 ≡ get_or xs i 0)
Starts (insert m) xs ys = Unit {0}
Starts (strike m) xs ys = Unit {0}
Starts (count b) xs ys = Unit {0}
Starts (list b first second) xs ys = Unit {0}
Starts check xs ys = Unit {0}

-- on a sound table, which holds the tree T, the answer is the history's (the plain list is T's marks), and the table left holds the next tree
abbrev pub state_of : List ℕ → Main → State
state_of xs T = record { capacity = capacity_of xs; plain = marks_of T; tree = T }

pub record Follows (c : Call) (s : State) (ys : List ℕ) (a : Answer) : Type 0 where
  pub answers : a ≡ answer c s
  pub capacity : capacity_of ys ≡ (next c s).capacity
  pub holds : Holding (own ys) (next c s).tree

-- and an insert or strike writes only at places of the layout: a word of the table that docs/LAYOUT.md leaves unused keeps its value
abbrev pub Spares : List ℕ → List ℕ → Type 0
Spares xs ys = (i : ℕ) → Unused (capacity_of xs) i → get_or ys i 0 ≡ get_or xs i 0

-- the call c, lent the words `before`, leaves the words `after` and answers a
pub record Performs (c : Call) (before after : Lent) (a : Answer) : Type 0 where
  pub lengths : LengthsOf c before
  pub refuses : early c before.table ≢ 0 → a ≡ refusal (early c before.table) 0
  pub later : early c before.table ≡ 0 → Later before.table c a
  pub leaves : Leaves c before.table a.number after.table
  pub leaves_lists : LeavesLists a before after
  pub starts : a.number ≡ 0 → Starts c before.table after.table
  pub follows : (T : Main) → Holding (own before.table) T → Follows c (state_of before.table T) after.table a
  pub spares : updates c ≡ true → SoundTable (own before.table) → Spares before.table after.table
