-- List: on a sound table the answer is the plain list's, sorted and where the passes leave it; on any table the words past the marks listed stay.
-- Assumes nothing.
use Prim.Native.Nat.{ℕ, ◌+◌, ◌*◌, ◌%◌, ◌≤◌, ◌<◌}
use mathlib.Core.Path.{◌≡◌, refl, sym, ap, subst, ◌∙◌}
use mathlib.Core.Logic.{◌≢◌, ◌⊎◌, inl, inr}
use mathlib.Core.Bool.{true, false}
use mathlib.Core.List.{List, ◌++◌, append-nil}
use native.Mathlib.Omega.{arith}
use lib.Dec.{eqb, ltb}
use lib.ListN.{length, take, drop, length-append, drop_of_length-le}
use lib.Seq.{sets-eq, take_at, drop_at, length-take-le}
use borrow.Author.Tests.{ne_eqb, lt-ltb, le-ltb}
use Rattle.model.specs.Lists.{count_if, filter_by}
use Rattle.model.specs.Tree.{marks_of}
use Rattle.model.specs.Sizes.{passes}
use Rattle.model.specs.Sheet.{Mark, Box, Main, box_crossed, below_x, holds, main}
use Rattle.model.specs.Refusals.{accepted, refused, enter_box}
use Rattle.model.specs.History.{State, Answer, refusal, listed_in, which_list, answer, next}
use Rattle.model.specs.History as history
use Rattle.model.proofs.Logic.{by_cases, or_true_right}
use Rattle.model.proofs.Lists.{count_if-length, filter_by-length}
use Rattle.model.proofs.Orders.{sheet-sameness, along_x-laws}
use Rattle.table.specs.Layout.{list_place}
use Rattle.table.specs.Figures.{found_in, visits_in}
use Rattle.table.proofs.Tallies.{pack-visits}
use Rattle.table.specs.Marks.{list_marks, mark_words}
use Rattle.table.specs.Limits.{most_visits}
use Rattle.table.proofs.Lists.{mark_words-length}
use Rattle.sizes.specs.Sizes.{visits_within}
use Rattle.twofold_layout.specs.Sound.{Holding}
use Rattle.table.specs.Header.{capacity_of, own_words, own_visits}
use Rattle.primary_search.specs.Count.{main_count♯}
use Rattle.primary_search.specs.List.{main_list♯}
use Rattle.whole_table.proofs.Searching as searching
use Rattle.whole_table.proofs.Searching.{holding-within, holding-small, list-within, list-most, list-sound}
use Rattle.sorting.specs.Sorted.{stable_sort, sorted_words, SortedIn}
use Rattle.sorting.proofs.Stable.{stable_sort-distinct}
use Rattle.sorting.proofs.Words.{list_marks-length, list_marks-words, words-list_marks}
use Rattle.sorting.proofs.Sorting.{list_marks-take}
use Rattle.table.proofs.Own.{own-visits-few}
use Rattle.register.specs.Answers.{ListFigures, in_list, list_given}
use Rattle.register.specs.Performs.{lends, early, own, CountsTo, Later, unsound, LeavesLists, state_of, Performs}
use Rattle.register.specs.Performs as performs
use Rattle.register.specs.Mirrors.{ListsOwn, lost, short, lists, Lists, not_table, crossed, on_own}
use Rattle.register.proofs.Own.{own-none, own-some, own_is, sound-table}
use Rattle.register.proofs.Performing.{performs-kept, refused-early, refused-later}
use Rattle.register.proofs.Reading.{found-sound, own-limit, counts-to, damage-unsound}

-- the passes tell one of the two lists
which-some : (k : ℕ) → which_list k ≢ 0
which-some k e = by_cases (eqb (passes k % 2) 0) (λ t. omega (arith, (rw t at e))) (λ f. omega (arith, (rw f at e)))

list-keeps : (b : Box) (first second : ℕ) (s : State) → next (history.list b first second) s ≡ s
list-keeps b first second s = by_cases (eqb (answer (history.list b first second) s).number 0) (λ t. rw t) (λ t. rw t)

-- an answer with the marks that stand in the lists
abbrev figures : ℕ → ℕ → ListFigures
figures k v = record { number = 0; k = k; visits = v; which = which_list k }

module _ (k v : ℕ) (first second : List ℕ) where
  listed-marks : List Mark
  listed-marks = list_marks (in_list (which_list k) first second) 0 k

  listed-many : length listed-marks ≡ k
  unfolding listed-marks
  listed-many = list_marks-length (in_list (which_list k) first second) 0 k

  given-listed : list_given (figures k v) first second ≡ listed_in (which_list (length listed-marks)) listed-marks v
  unfolding listed-marks
  given-listed = rw (ne_eqb (which_list k) 0 (which-some k), list_marks-length (in_list (which_list k) first second) 0 k)

-- THE ACCEPTED LIST

-- k marks of a box were listed from the own words and sorted
module _ (b : Box) (limit k : ℕ) (xs first second first' second' : List ℕ) (room_first : list_place k ≤ length first)
    (room_second : list_place k ≤ length second)
    (same_first : length first' ≡ length first) (same_second : length second' ≡ length second) where
  abbrev most : ℕ
  most = limit + 2 * k

  -- the leading part of the first list, before and after the search, and the visits
  abbrev part : List ℕ
  part = take (list_place k) first

  abbrev met : List ℕ
  met = (main_list♯ (own xs) b most part).words

  abbrev visits : ℕ
  visits = (main_list♯ (own xs) b most part).out % 4294967296

  abbrev filled : List ℕ
  filled = in_list (which_list k) first' second'

  part_length : length part ≡ list_place k
  part_length = length-take-le (list_place k) first room_first

  filled-room : list_place k ≤ length filled
  filled-room = by_cases (eqb (which_list k) 1) (λ t. rw t (omega arith)) (λ f. rw f (omega arith))

  module _ (long : length met ≡ length part) (done : SortedIn below_x k (met ++ drop (list_place k) first) second first' second') where
    -- on any table
    listed-leaves : LeavesLists (listed_in (which_list (length (listed-marks k visits first' second'))) (listed-marks k visits first' second') visits)
        (lends xs first second) (lends xs first' second')
    unfolding listed-marks
    listed-leaves =
        let n = list_marks-length filled 0 k in
        record {
          answer = rw n (sym (words-list_marks k filled filled-room));
          past_first = rw n (done.past_first ∙ drop_at met (drop (list_place k) first) (list_place k) (long ∙ part_length));
          past_second = rw n done.past_second;
        }

    -- on a sound one, whose count gave k
    module _ (is : limit ≡ visits_within (capacity_of (own xs))) (small : limit ≤ most_visits) (T : Main) (h : Holding (own xs) T)
        (many : k ≡ count_if (holds b) (marks_of T)) where
      abbrev plain : List Mark
      plain = filter_by (holds b) (marks_of T)

      plain-many : length plain ≡ k
      plain-many = filter_by-length (holds b) (marks_of T) ∙ sym many

      few : k ≤ 65536
      few = omega (arith, count_if-length (holds b) (marks_of T), holding-within (own xs) T h, holding-small (own xs) T h)

      -- what the search met, written whole
      found : searching.Lists (own xs) T b most part
      found = list-sound (own xs) T h b most part (omega (arith, is, many, list-within (own xs) T h b)) (omega (arith, few)) (omega (arith, part_length))

      found-length : length (mark_words found.met) ≡ list_place k
      found-length = mark_words-length found.met ∙ ap list_place (found.many ∙ sym many)

      met-words : met ≡ mark_words found.met
      met-words =
          let room : 0 + length (mark_words found.met) ≤ length part = omega (arith, found-length, part_length) in
          let rest : length part ≤ 0 + length (mark_words found.met) = omega (arith, found-length, part_length) in
          ap (λ p. p.words) found.is ∙ sets-eq (mark_words found.met) part 0 room
          ∙ ap (λ l. mark_words found.met ++ l) (drop_of_length-le part rest)
          ∙ append-nil (mark_words found.met)

      visits-is : visits ≡ (main.list b T).visits
      visits-is =
          ap (λ p. p.out % 4294967296) found.is
          ∙ pack-visits (length found.met) (main.list b T).visits (omega (arith, list-most (own xs) T h b, few, many))

      sorted-plain : take (list_place k) filled ≡ mark_words plain
      unfolding sorted_words
      sorted-plain =
          let all = met ++ drop (list_place k) first in
          let front : take (list_place k) all ≡ mark_words found.met =
          take_at met (drop (list_place k) first) (list_place k) (long ∙ part_length) ∙ met-words in
          let room : list_place k ≤ length all = omega (arith, length-append met (drop (list_place k) first), long, part_length) in
          let marks : list_marks all 0 k ≡ found.met =
          sym (list_marks-take k all room) ∙ ap (λ l. list_marks l 0 k) front
          ∙ ap (λ n. list_marks (mark_words found.met) 0 n) (many ∙ sym found.many) ∙ list_marks-words found.met in
          done.answer ∙ ap (λ l. mark_words (stable_sort below_x l)) marks
          ∙ ap mark_words (stable_sort-distinct along_x-laws sheet-sameness found.met found.once ∙ found.sorts)

      listed_plain : listed-marks k visits first' second' ≡ plain
      unfolding listed-marks
      listed_plain =
          sym (list_marks-take k filled filled-room) ∙ ap (λ l. list_marks l 0 k) sorted-plain
          ∙ ap (λ n. list_marks (mark_words plain) 0 n) (sym plain-many) ∙ list_marks-words plain

      listed-answers : box_crossed b ≡ false
          → listed_in (which_list (length (listed-marks k visits first' second'))) (listed-marks k visits first' second') visits
          ≡ answer (history.list b (length first) (length second)) (state_of xs T)
      unfolding enter_box
      listed-answers fine =
          rw (
            fine,
            le-ltb (length first) (list_place (length plain)) (omega (arith, plain-many)),
            le-ltb (length second) (list_place (length plain)) (omega (arith, plain-many)),
          )
          (rw (listed_plain, visits-is))

-- THE CALL

-- a box that is entered is the one handed in
entered : (b b' : Box) → enter_box b ≡ accepted b' → (b' ≡ b) × (box_crossed b ≡ false)
unfolding enter_box
entered b b' e =
    by_cases (box_crossed b)
    (λ t. absurd (let q : refused 6 ≡ accepted b' = (rw t at e) in let z : ◌≡◌ {A = ℕ} 0 1 = cc in omega arith))
    (λ f. let q : accepted b ≡ accepted b' = (rw f at e) in (cc, f))

crossed-six : (b : Box) (n : ℕ) → enter_box b ≡ refused n → (n ≡ 6) × (box_crossed b ≡ true)
unfolding enter_box
crossed-six b n e =
    by_cases (box_crossed b)
    (λ t. let q : refused 6 ≡ refused n = (rw t at e) in (cc, t))
    (λ f. absurd (let q : accepted b ≡ refused n = (rw f at e) in let z : ◌≡◌ {A = ℕ} 0 1 = cc in omega arith))

module _ (b : Box) (xs first second : List ℕ) where
  abbrev call : history.Call
  call = history.list b (length first) (length second)

  module _ (table : own_words xs ≡ 0 → ⊥) (fine : box_crossed b ≡ false) where
    no_row : early call xs ≡ 0
    unfolding early enter_box
    no_row = rw (own-some xs table, fine)

    short-answer : (n : ℕ) → (length first < list_place n) ⊎ (length second < list_place n) → (T : Main)
        → n ≡ length (filter_by (holds b) (marks_of T))
        → refusal 10 n ≡ answer call (state_of xs T)
    unfolding enter_box
    short-answer n (inl h) T e = rw (fine, ← e, lt-ltb (length first) (list_place n) h)
    short-answer n (inr h) T e =
        rw (fine, ← e, or_true_right (ltb (length first) (list_place n)) (ltb (length second) (list_place n)) (lt-ltb (length second) (list_place n) h))

    own-performs : {first' second' : List ℕ} {f : ListFigures} → ListsOwn b (own_visits xs) (own xs) first second first' second' f
        → length first' ≡ length first → length second' ≡ length second
        → Performs call (lends xs first second) (lends xs first' second') (list_given f first' second')
    own-performs (lost h) sf ss =
        let wrong = damage-unsound xs table b fine h in
        refused-later call (lends xs first second) 4 0 (omega arith) (λ z. refl) (refl, refl)
        (λ T k. absurd (wrong (record { tree = T; holding = k }))) no_row
        (unsound refl wrong)
    own-performs (short soon few h) sf ss =
        refused-later call (lends xs first second) 10 (found_in (main_count♯ (own xs) b)) (omega arith) (λ z. refl) (refl, refl)
        (λ T k. short-answer (found_in (main_count♯ (own xs) b)) h T (found-sound xs b fine T k ∙ sym (filter_by-length (holds b) (marks_of T))))
        no_row (performs.short (counts-to xs table b soon few) h)
    own-performs {first' = first'} {second' = second'} (lists {f = f} soon few p q done) sf ss =
        let most = own_visits xs in
        let k = found_in (main_count♯ (own xs) b) in
        let v = visits b most k xs first second first' second' p q sf ss in
        let l = listed-marks k v first' second' in
        let many = listed-many k v first' second' in
        subst (Performs call (lends xs first second) (lends xs first' second'))
        (sym (ap (λ f. list_given f first' second') done.figures ∙ given-listed k v first' second'))
        (performs-kept call xs first second first' second' (listed_in (which_list (length l)) l v) (λ z. refl) (refl, refl) (λ z. absurd (z no_row))
        (λ z. performs.lists (subst (λ n. CountsTo (own xs) b n (visits_in (main_count♯ (own xs) b))) (sym many) (counts-to xs table b soon few))
        (rw many p) (rw many q))
        (listed-leaves b most k xs first second first' second' p q sf ss done.long done.sorted) (λ z. tt)
        (λ T h. (
          listed-answers b most k xs first second first' second' p q sf ss done.long done.sorted (own-limit xs table b) (own-visits-few xs) T h
              (found-sound xs b fine T h) fine,
          list-keeps b (length first) (length second) (state_of xs T),
        )))

  pub list-performs : {first' second' : List ℕ} {f : ListFigures} → Lists b xs first second first' second' f → length first' ≡ length first
      → length second' ≡ length second → Performs call (lends xs first second) (lends xs first' second') (list_given f first' second')
  unfolding early
  list-performs (not_table z) sf ss =
      refused-early call (lends xs first second) 3 0 (omega arith) (λ z. refl) (refl, refl) (λ T h. absurd (sound-table xs h z)) (rw (own-none xs z)) refl
  list-performs (crossed {n = n} table e) sf ss =
      let k = crossed-six b n e in
      refused-early call (lends xs first second) n 0 (omega (arith, k.0)) (λ z. refl) (refl, refl) (λ T h. rw e) (rw (own-some xs table, e)) refl
  list-performs {first' = first'} {second' = second'} (on_own {b' = b'} {f = f} table e does) sf ss =
      let k = entered b b' e in
      own-performs table k.1
      (subst (λ zs. ListsOwn b (own_visits xs) zs first second first' second' f) (own_is xs table)
      (subst (λ c. ListsOwn c (own_visits xs) (take (own_words xs) xs) first second first' second' f) k.0 does))
      sf ss
