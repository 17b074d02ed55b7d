-- What the functions of src/ give, step by step, with the mirrors of the crates below. Assumes nothing.
use Rattle.std.specs.Prelude.{ℕ, ◌+◌, ◌*◌, ◌%◌, ◌≤◌, ◌<◌, ◌≡◌, ◌⊎◌, List, Some, None, Result, Ok, Err}
use Rattle.std.specs.Prelude.{◌++◌, ltb, eqb, length, get_or, set, take, drop, if◌then◌else◌}
use Rattle.model.specs.Sizes.{largest_capacity}
use Rattle.model.specs.Sheet.{Mark, Box, below_x}
use Rattle.model.specs.Refusals.{Outcome, accepted, refused, open_table, enter_mark, name_mark, enter_box}
use Rattle.model.specs.History.{Answer, refusal, updated, counted, which_list}
use Rattle.table.specs.Layout.{open_place, capacity_place, live_place, list_place}
use Rattle.table.specs.Limits.{damaged}
use Rattle.table.specs.Grades.{sum_of, worst_of}
use Rattle.table.specs.Figures.{found_in, visits_in, grades_in}
use Rattle.table.specs.After.{After, after}
use Rattle.primary_search.specs.Find.{Sought, find♯}
use Rattle.primary_search.specs.Count.{main_count♯}
use Rattle.primary_search.specs.List.{main_list♯}
use Rattle.whole_table.specs.Empty.{empty♯}
use Rattle.whole_table.specs.Insert.{table_insert♯}
use Rattle.whole_table.specs.Strike.{table_strike♯}
use Rattle.table.specs.Header.{own_words, own_visits}
use Rattle.sorting.specs.Sorted.{SortedIn}
use Rattle.table.specs.declared.header.Header.{Header}
use Rattle.table.specs.Limits.{most_visits}
use Rattle.table.specs.Header.{live_of, OfCapacity}
use Rattle.table.specs.declared.damage.Damaged.{Damaged}
use Rattle.register.specs.declared.answers.Counted.{Counted}
use Rattle.register.specs.declared.refusal.Refusal.{Refusal}
use Rattle.register.specs.Answers.{number_of, ListFigures, list_refused}

-- what a header says of the words of a table
pub record OfHeader (h : Header) (xs : List ℕ) : Type 0 where
  pub capacity : OfCapacity h.capacity xs
  pub small : h.capacity ≤ largest_capacity
  pub live : h.live ≡ live_of xs
  pub few : h.live ≤ h.capacity
  pub visits : h.visits ≤ most_visits

-- the answer beside words of which n were lent on
unfoldable pub within : ℕ → List ℕ → After Answer → After Answer
within n xs p = after p.out (p.words ++ drop n xs)

-- what is made of arguments that were tested, or the refusal
unfoldable pub on_accepted : {A : Type 0} → Outcome A → List ℕ → (A → After Answer) → After Answer
on_accepted (accepted a) xs f = f a
on_accepted (refused n) xs f = after (refusal n 0) xs

unfoldable pub open♯ : ℕ → List ℕ → After Answer
open♯ c xs = on_accepted (open_table c (length xs)) xs (λ n. within n xs (after (updated 0 0) (empty♯ c (take n xs))))

unfoldable pub closed♯ : List ℕ → After Answer
closed♯ xs = after (refusal 4 0) (set xs open_place 0)

unfoldable pub settled♯ : Result ℕ Refusal → List ℕ → After Answer
settled♯ (Ok rebuilt) xs = after (updated (get_or xs live_place 0) rebuilt) xs
settled♯ (Err e) xs = after (refusal (number_of e) 0) (if eqb (number_of e) 4 then set xs open_place 0 else xs)

-- the same of a walk that gives a number for damage
unfoldable pub settled_after : After ℕ → After Answer
settled_after p = if eqb p.out damaged then closed♯ p.words else after (updated (get_or p.words live_place 0) p.out) p.words

-- what was looked for: damage closes the table; else what is done where there is no such mark, or where there is one
abbrev pub on_found : Sought → List ℕ → After Answer → (ℕ → After Answer) → After Answer
on_found (Err e) xs lacks has = closed♯ xs
on_found (Ok None) xs lacks has = lacks
on_found (Ok (Some s)) xs lacks has = has s

unfoldable pub insert_found : Mark → Sought → List ℕ → After Answer
insert_found m r xs =
    on_found r xs (if eqb (get_or xs live_place 0) (get_or xs capacity_place 0) then after (refusal 7 0) xs else settled_after (table_insert♯ m xs))
    (λ s. after (refusal 8 0) xs)

unfoldable pub insert_own♯ : Mark → List ℕ → After Answer
insert_own♯ m xs = insert_found m (find♯ xs m) xs

unfoldable pub strike_found : Sought → List ℕ → After Answer
strike_found r xs = on_found r xs (after (refusal 9 0) xs) (λ s. settled_after (table_strike♯ s xs))

unfoldable pub strike_own♯ : Mark → List ℕ → After Answer
strike_own♯ m xs = strike_found (find♯ xs m) xs

-- a table's own words, or the refusal 3
unfoldable pub on_table : List ℕ → (ℕ → After Answer) → After Answer
on_table xs f = if eqb (own_words xs) 0 then after (refusal 3 0) xs else f (own_words xs)

unfoldable pub update_own : Outcome Mark → (Mark → List ℕ → After Answer) → List ℕ → After Answer
update_own entered f xs = on_table xs (λ n. on_accepted entered xs (λ m. within n xs (f m (take n xs))))

unfoldable pub insert♯ : Mark → List ℕ → After Answer
insert♯ m xs = update_own (enter_mark m) insert_own♯ xs

unfoldable pub strike♯ : Mark → List ℕ → After Answer
strike♯ m xs = update_own (name_mark m) strike_own♯ xs

-- calls that only read
unfoldable pub or_number : {A : Type 0} → Outcome A → (A → Answer) → Answer
or_number (accepted a) f = f a
or_number (refused n) f = refusal n 0

-- a tally, with the most visits and the live marks that it may tell of
unfoldable pub tallied : ℕ → ℕ → ℕ → Answer
tallied most live t =
    if ltb most (visits_in t) then refusal 4 0
    else (if ltb live (found_in t) then refusal 4 0 else counted (found_in t) (visits_in t) (sum_of (grades_in t)) (worst_of (grades_in t)))

abbrev pub tally_answer : Result Counted Damaged → Answer
tally_answer (Ok c) = counted c.marks c.visits c.sum c.worst
tally_answer (Err _) = refusal 4 0

unfoldable pub count_own♯ : ℕ → Box → List ℕ → Answer
count_own♯ most b xs = tallied most (get_or xs live_place 0) (main_count♯ xs b)

unfoldable pub count♯ : Box → List ℕ → Answer
count♯ b xs = if eqb (own_words xs) 0 then refusal 3 0 else or_number (enter_box b) (λ b. count_own♯ (own_visits xs) b (take (own_words xs) xs))

-- A list's spare list is free, so what a listing does is a relation of the lists before and after.
module _ (b : Box) (most : ℕ) where
  -- k marks listed into the first list, then sorted
  pub record ListedOwn (k : ℕ) (xs first second first' second' : List ℕ) (f : ListFigures) : Type 0 where
    pub long : length (main_list♯ xs b (most + 2 * k) (take (list_place k) first)).words ≡ length (take (list_place k) first)
    pub figures : f ≡ record {
      number = 0;
      k = k;
      visits = (main_list♯ xs b (most + 2 * k) (take (list_place k) first)).out % 4294967296;
      which = which_list k;
    }
    pub sorted : SortedIn below_x k ((main_list♯ xs b (most + 2 * k) (take (list_place k) first)).words ++ drop (list_place k) first) second first' second'

  pub data ListsOwn (xs first second : List ℕ) : List ℕ → List ℕ → ListFigures → Type 0 where
    lost : (most < visits_in (main_count♯ xs b)) ⊎ (get_or xs live_place 0 < found_in (main_count♯ xs b))
        → ListsOwn xs first second first second (list_refused 4 0)
    short : visits_in (main_count♯ xs b) ≤ most → found_in (main_count♯ xs b) ≤ get_or xs live_place 0
        → (length first < list_place (found_in (main_count♯ xs b))) ⊎ (length second < list_place (found_in (main_count♯ xs b)))
        → ListsOwn xs first second first second (list_refused 10 (found_in (main_count♯ xs b)))
    lists : {first' second' : List ℕ} {f : ListFigures} → visits_in (main_count♯ xs b) ≤ most
        → found_in (main_count♯ xs b) ≤ get_or xs live_place 0
        → list_place (found_in (main_count♯ xs b)) ≤ length first → list_place (found_in (main_count♯ xs b)) ≤ length second
        → ListedOwn (found_in (main_count♯ xs b)) xs first second first' second' f → ListsOwn xs first second first' second' f

module _ (b : Box) where
  pub data Lists (xs first second : List ℕ) : List ℕ → List ℕ → ListFigures → Type 0 where
    not_table : own_words xs ≡ 0 → Lists xs first second first second (list_refused 3 0)
    crossed : {n : ℕ} → (own_words xs ≡ 0 → ⊥) → enter_box b ≡ refused n → Lists xs first second first second (list_refused n 0)
    on_own : {b' : Box} {first' second' : List ℕ} {f : ListFigures} → (own_words xs ≡ 0 → ⊥) → enter_box b ≡ accepted b'
        → ListsOwn b' (own_visits xs) (take (own_words xs) xs) first second first' second' f → Lists xs first second first' second' f
