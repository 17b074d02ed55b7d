-- A run (document 01, "The history"): "any list of the six calls .. whose first is an accepted open, on whatever words the table held", refused calls
-- included. Each call is given the table as the last one left it, and does what its contract says: `Performs`, and nothing else is asked of it. Assumes
-- nothing.
use Rattle.std.specs.Prelude.{ℕ, ◌+◌, ◌*◌, ◌≤◌, ◌≡◌, ◌≢◌, List, [], ◌∷◌, length, take}
use Rattle.model.specs.Sizes.{D}
use Rattle.model.specs.Sheet.{sheet, along_x}
use Rattle.model.specs.Laws.{Sorted, Distinct}
use Rattle.model.specs.History.{Call, open_for, State, Answer, answer, next}
use Rattle.table.specs.Layout.{list_place}
use Rattle.table.specs.Marks.{mark_words}
use Rattle.register.specs.Answers.{in_list}
use Rattle.register.specs.Performs.{Lent, Performs}

-- one call: its arguments, the words lent as they were and as they were left, and its answer
pub record Made : Type 0 where
  pub call : Call
  pub before : Lent
  pub after : Lent
  pub answer : Answer

-- the calls made from a table on
pub data Calls : List ℕ → List Made → Type 0 where
  none : {xs : List ℕ} → Calls xs []
  then : {m : Made} {ms : List Made} → Performs m.call m.before m.after m.answer → Calls m.after.table ms
      → Calls m.before.table (m ∷ ms)

-- a run from the table xs: its first call is an open, of that capacity on that many words, and is accepted
pub record Run (xs : List ℕ) (m : Made) (ms : List Made) : Type 0 where
  pub capacity : ℕ
  pub words : ℕ
  pub opens : m.call ≡ open_for capacity words
  pub accepted : m.answer.number ≡ 0
  pub calls : Calls xs (m ∷ ms)

-- "Beside it goes a plain list of marks": what a call of a run gives, where s is the plain list and the tree that the accepted calls before it make. All
-- figures, the sum of grades and the worst among them, are those of the history's step, "'Rebuilt' and visits .. those that the rules above give on
-- the tree"; an accepted list's marks stand as words
-- in the lent list that the answer names. "No step gives 3 or 4". "The n of the bound is the plain list's length"; a list of k marks visits at most 2k more.
-- The plain list that the call leaves is "ascending by x, y, tag", each mark once, and no longer than the capacity.
pub record AsPlain (s : State) (m : Made) : Type 0 where
  pub answers : m.answer ≡ answer m.call s
  pub words : take (list_place (length (answer m.call s).listed)) (in_list m.answer.which m.after.first m.after.second)
      ≡ mark_words (answer m.call s).listed
  pub not-3 : m.answer.number ≢ 3
  pub not-4 : m.answer.number ≢ 4
  pub visits : m.answer.visits ≤ (4 * D (length s.plain) + 1) * (2 * D (length s.plain) + 1) + 2 * length m.answer.listed
  pub ascending : Sorted along_x (next m.call s).plain
  pub once : Distinct sheet (next m.call s).plain
  pub fits : length (next m.call s).plain ≤ (next m.call s).capacity

pub data Beside : State → List Made → Type 0 where
  nothing : {s : State} → Beside s []
  and_then : {s : State} {m : Made} {ms : List Made} → AsPlain s m → Beside (next m.call s) ms → Beside s (m ∷ ms)
