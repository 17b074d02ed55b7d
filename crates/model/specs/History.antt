-- The history (document 01): what each call of a run gives by a plain list of marks, and the tree that the run's accepted calls make, from which
-- 'rebuilt' and visits come. It is fed each call's arguments and the lengths lent, nothing from the table. Assumes nothing.
use Rattle.std.specs.Prelude.{ℕ, ◌*◌, ◌%◌, Bool, ◌||◌, List, [], ◌∷◌, ltb, eqb, length, if◌then◌else◌}
use Rattle.std.proofs.Math.Option.{none}
use Rattle.model.specs.Lists.{count_if, filter_by, remove_first, insert_sorted}
use Rattle.model.specs.Totals.{total_if}
use Rattle.model.specs.Fold.{insert_rebuilt, strike_rebuilt}
use Rattle.model.specs.Sizes.{passes}
use Rattle.model.specs.Sheet.{Mark, Box, below_x, same, holds, summing, worst, along_x, auxiliary, Main, main}
use Rattle.model.specs.Refusals.{Outcome, accepted, refused, open_table, enter_mark, name_mark, enter_box}

-- the six calls: a call's arguments, and the lengths lent that its answer goes by. A strike is given no grade: whichever its mark has, it does the same
-- (proofs/History, strike-answers, strike-leaves).
pub data Call : Type 0 where
  open_for : (capacity words : ℕ) → Call
  insert : Mark → Call
  strike : Mark → Call
  count : Box → Call
  list : Box → (first second : ℕ) → Call
  check : Call

-- "Beside it goes a plain list of marks, ascending by x, y, tag, with a capacity C."
pub record State : Type 0 where
  pub capacity : ℕ
  pub plain : List Mark
  pub tree : Main

-- The figures of an answer, 0 where the call does not give one. `which` is the lent list that an accepted list's marks stand in, 1 or 2.
pub record Answer : Type 0 where
  pub number : ℕ
  pub live : ℕ
  pub rebuilt : ℕ
  pub k : ℕ
  pub visits : ℕ
  pub sum : ℕ
  pub worst : ℕ
  pub listed : List Mark
  pub which : ℕ

-- "A refused step changes nothing and gives 0 beside its number, save k with 10."
abbrev pub refusal : ℕ → ℕ → Answer
refusal n found = record { number = n; live = 0; rebuilt = 0; k = found; visits = 0; sum = 0; worst = 0; listed = []; which = 0 }

abbrev pub updated : ℕ → ℕ → Answer
updated n w = record { number = 0; live = n; rebuilt = w; k = 0; visits = 0; sum = 0; worst = 0; listed = []; which = 0 }

abbrev pub counted : ℕ → ℕ → ℕ → ℕ → Answer
counted n v s w = record { number = 0; live = 0; rebuilt = 0; k = n; visits = v; sum = s; worst = w; listed = []; which = 0 }

abbrev pub listed_in : ℕ → List Mark → ℕ → Answer
listed_in w l v = record { number = 0; live = 0; rebuilt = 0; k = length l; visits = v; sum = 0; worst = 0; listed = l; which = w }

-- the answer to what was asked for, or the refusal
abbrev pub or_refused : {A : Type 0} → Outcome A → (A → Answer) → Answer
or_refused (accepted a) f = f a
or_refused (refused n) f = refusal n 0

abbrev pub has : Mark → List Mark → Bool
has m l = ltb 0 (count_if (same m) l)

-- "even p means the first list" (The list)
abbrev pub which_list : ℕ → ℕ
which_list k = if eqb (passes k % 2) 0 then 1 else 2

abbrev pub answer : Call → State → Answer
answer (open_for c lent) s = or_refused (open_table c lent) (λ words. updated 0 0)
answer (insert m) s =
    or_refused (enter_mark m) (λ m.
    if has m s.plain then refusal 8 0
    else (if eqb (length s.plain) s.capacity then refusal 7 0
    else updated (length (insert_sorted below_x m s.plain)) (insert_rebuilt along_x auxiliary m s.tree)))
answer (strike m) s =
    or_refused (name_mark m) (λ m.
    if has m s.plain then updated (length (remove_first (same m) s.plain)) (strike_rebuilt along_x auxiliary m s.tree)
    else refusal 9 0)
answer (count b) s =
    or_refused (enter_box b) (λ b.
    counted (count_if (holds b) s.plain) (main.count b s.tree).visits (total_if summing (holds b) s.plain) (total_if worst (holds b) s.plain))
answer (list b first second) s =
    or_refused (enter_box b) (λ b.
    let l = filter_by (holds b) s.plain in
    let k = length l in
    if ltb first (4 * k) || ltb second (4 * k) then refusal 10 k
    else listed_in (which_list k) l (main.list b s.tree).visits)
answer check s = updated (length s.plain) 0

-- what an accepted call makes of the plain list and of the tree
abbrev pub change : Call → State → State
change (open_for c lent) s = record { capacity = c; plain = []; tree = none }
change (insert m) s = record { capacity = s.capacity; plain = insert_sorted below_x m s.plain; tree = main.insert m s.tree }
change (strike m) s = record { capacity = s.capacity; plain = remove_first (same m) s.plain; tree = main.strike m s.tree }
change (count b) s = s
change (list b first second) s = s
change check s = s

abbrev pub next : Call → State → State
next c s = if eqb (answer c s).number 0 then change c s else s

-- the answers of a run, and the state after it
abbrev pub answers : List Call → State → List Answer
answers [] s = []
answers (c ∷ cs) s = answer c s ∷ answers cs (next c s)

abbrev pub after : List Call → State → State
after [] s = s
after (c ∷ cs) s = after cs (next c s)
