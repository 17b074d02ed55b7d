-- Document 01's number and figures for each answer of a call ("Where each call may stop": a refusal gives "0 for every other figure; number 10 also
-- returns k"), as the history's record of figures. Assumes nothing.
use Rattle.std.specs.Prelude.{ℕ, List, [], eqb, if◌then◌else◌, Result, Ok, Err}
use Rattle.model.specs.Sheet.{Mark}
use Rattle.model.specs.History.{Answer, refusal, updated, counted}
use Rattle.table.specs.Marks.{list_marks}
use Rattle.sorting.specs.Values.{list_number}
use Rattle.geometry.specs.declared.MarkError.{MarkError}
use Rattle.geometry.specs.declared.MarkError.TheVariants as mark_error
use Rattle.sizes.specs.declared.Misfit.{Misfit}
use Rattle.sizes.specs.declared.Misfit.TheVariants as misfit
use Rattle.register.specs.declared.refusal.Refusal.{Refusal}
use Rattle.register.specs.declared.refusal.Refusal.TheVariants as refusals
use Rattle.register.specs.declared.answers.Updated.{Updated}
use Rattle.register.specs.declared.answers.Counted.{Counted}
use Rattle.register.specs.declared.answers.Listed.{Listed}

-- the number of each refusal, and the k that number 10 returns
abbrev pub number_of : Refusal → ℕ
number_of refusals.Capacity = 1
number_of refusals.ShortTable = 2
number_of refusals.NotTable = 3
number_of refusals.Unsound = 4
number_of refusals.Outside = 5
number_of refusals.Crossed = 6
number_of refusals.Full = 7
number_of refusals.Present = 8
number_of refusals.Absent = 9
number_of (refusals.ShortList k) = 10
number_of refusals.Ungraded = 12

abbrev pub marks_of : Refusal → ℕ
marks_of (refusals.ShortList k) = k
marks_of _ = 0

-- of what the crates below refuse
abbrev pub of_mark : MarkError → Refusal
of_mark mark_error.Outside = refusals.Outside
of_mark mark_error.Ungraded = refusals.Ungraded

abbrev pub of_misfit : Misfit → Refusal
of_misfit misfit.Capacity = refusals.Capacity
of_misfit misfit.Short = refusals.ShortTable

-- what a call answers, by what it was accepted with; a list's refusal has a figure besides
abbrev pub answer_of : {A : Type 0} → (A → Answer) → Result A Refusal → Answer
answer_of f (Ok a) = f a
answer_of f (Err e) = refusal (number_of e) 0

-- the answer that a number and its figures stand for: of open and check, of an update, of a count
abbrev pub update_given : ℕ → ℕ → ℕ → Answer
update_given n l w = record { number = n; live = l; rebuilt = w; k = 0; visits = 0; sum = 0; worst = 0; listed = []; which = 0 }

abbrev pub table_given : ℕ → ℕ → Answer
table_given n l = update_given n l 0

abbrev pub count_given : ℕ → ℕ → ℕ → ℕ → ℕ → Answer
count_given n found v s w = record { number = n; live = 0; rebuilt = 0; k = found; visits = v; sum = s; worst = w; listed = []; which = 0 }

-- open: the table has no marks
abbrev pub open_answer : Result Unit Refusal → Answer
open_answer r = answer_of (λ _. updated 0 0) r

-- insert, strike: live and 'rebuilt'
abbrev pub update_answer : Result Updated Refusal → Answer
update_answer r = answer_of (λ u. updated u.live u.rebuilt) r

-- count: the marks that the box holds, the visits, the sum of their grades and the worst
abbrev pub count_answer : Result Counted Refusal → Answer
count_answer r = answer_of (λ c. counted c.marks c.visits c.sum c.worst) r

-- check: live
abbrev pub check_answer : Result ℕ Refusal → Answer
check_answer r = answer_of (λ live. updated live 0) r

-- list: besides the figures, the marks that stand in one of the two lent lists
pub record ListFigures : Type 0 where
  pub number : ℕ
  pub k : ℕ
  pub visits : ℕ
  pub which : ℕ

abbrev pub list_refused : ℕ → ℕ → ListFigures
list_refused n k = record { number = n; k = k; visits = 0; which = 0 }

abbrev pub list_figures : Result Listed Refusal → ListFigures
list_figures (Ok l) = record { number = 0; k = l.marks; visits = l.visits; which = list_number l.which }
list_figures (Err e) = list_refused (number_of e) (marks_of e)

-- the lent list that `which` names, and the marks that it says are there: none where it is 0
abbrev pub in_list : ℕ → List ℕ → List ℕ → List ℕ
in_list which first second = if eqb which 1 then first else second

abbrev pub marks_in : ListFigures → List ℕ → List ℕ → List Mark
marks_in f first second = if eqb f.which 0 then [] else list_marks (in_list f.which first second) 0 f.k

abbrev pub list_given : ListFigures → List ℕ → List ℕ → Answer
list_given f first second = record {
  number = f.number;
  live = 0;
  rebuilt = 0;
  k = f.k;
  visits = f.visits;
  sum = 0;
  worst = 0;
  listed = marks_in f first second;
  which = f.which;
}

abbrev pub list_answer : Result Listed Refusal → List ℕ → List ℕ → Answer
list_answer l first second = list_given (list_figures l) first second
