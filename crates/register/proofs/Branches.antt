-- The branches of the calls' code, each equal to its mirror. Assumes nothing.
use Prim.Native.Nat.{ℕ, ◌+◌, ◌*◌, ◌%◌, ◌≤◌, ◌<◌}
use mathlib.Core.Path.{◌≡◌, sym, ap, subst, ◌∙◌}
use mathlib.Core.Logic.{◌⊎◌, inl, inr}
use mathlib.Core.List.{List, ◌++◌}
use lib.ListN.{take, drop, length, get_or}
use borrow.Author.Tests.{ne_eqb, ltb-true, ltb-false}
use lib.Dec.{ltb}
use native.Mathlib.Omega.{arith}
use Rattle.model.proofs.Logic.{by_cases}
use Rattle.model.specs.Sheet.{Mark, Box, below_x}
use Rattle.model.specs.Refusals.{Outcome, accepted, refused, open_table, enter_box}
use Rattle.model.specs.History.{Answer, refusal, updated, counted, which_list}
use Rattle.table.specs.After.{After, after}
use Rattle.table.specs.Layout.{live_place, list_place}
use Rattle.table.specs.Figures.{found_in, visits_in}
use Rattle.std.specs.Prelude.{Some, Ok}
use Rattle.primary_search.specs.Find.{Sought, find_from♯, find♯}
use Rattle.primary_search.proofs.Sought.{find-finds, finds-within}
use Rattle.primary_search.specs.Count.{count_from♯, main_count♯}
use Rattle.primary_search.specs.List.{list_from♯, main_list♯}
use Rattle.sorting.specs.Sorted.{SortedIn}
use Rattle.whole_table.specs.Empty.{empty♯}
use Rattle.table.specs.Header.{capacity_of, own_words, own_visits}
use Rattle.register.specs.Mirrors.{within, on_accepted, open♯, on_table, update_own, or_number, tallied, count_own♯, count♯}
use Rattle.register.specs.Mirrors.{ListedOwn, ListsOwn, lost, short, lists, Lists, crossed, on_own}
use Rattle.std.proofs.Common.{Err, refl}
use Rattle.geometry.specs.declared.MarkError.{MarkError}
use Rattle.geometry.specs.declared.MarkError.TheVariants as mark_error
use Rattle.geometry.specs.Values.{mark_outcome}
use Rattle.sizes.specs.Sizes.{opening_outcome}
use Rattle.sizes.specs.declared.Misfit.{Misfit}
use Rattle.sizes.specs.declared.Misfit.TheVariants as misfit
use Rattle.register.specs.Answers.{number_of, of_mark, of_misfit, ListFigures, list_refused}

module _ (xs : List ℕ) (f : Mark → List ℕ → After Answer) where
  pub update-not-table : (entered : Outcome Mark) → own_words xs ≡ 0 → after (refusal 3 0) xs ≡ update_own entered f xs
  unfolding update_own on_table
  update-not-table entered z = rw z

  module _ (some : own_words xs ≡ 0 → ⊥) where
    pub update-refused : {entered : Outcome Mark} (k : ℕ) → entered ≡ refused k → after (refusal k 0) xs ≡ update_own entered f xs
    unfolding update_own on_table on_accepted
    update-refused k e = rw (ne_eqb (own_words xs) 0 some, e)

    pub update-turned : (e : MarkError)
        → after (refusal (number_of (of_mark e)) 0) xs ≡ update_own (mark_outcome (Err e)) f xs
    update-turned mark_error.Outside = update-refused 5 refl
    update-turned mark_error.Ungraded = update-refused 12 refl

    pub update-own : {entered : Outcome Mark} (m : Mark) → entered ≡ accepted m → (a : Answer) (x : List ℕ) (n : ℕ) → n ≡ own_words xs
        → after a x ≡ f m (take n xs)
        → after a (x ++ drop n xs) ≡ update_own entered f xs
    unfolding update_own on_table on_accepted within
    update-own m e a x n is h = rw (ne_eqb (own_words xs) 0 some, e, ← is, ← h)

module _ (xs : List ℕ) (b : Box) where
  pub count-not-table : own_words xs ≡ 0 → refusal 3 0 ≡ count♯ b xs
  unfolding count♯
  count-not-table z = rw z

  module _ (some : own_words xs ≡ 0 → ⊥) where
    pub count-crossed : refused 6 ≡ enter_box b → refusal 6 0 ≡ count♯ b xs
    unfolding count♯ or_number
    count-crossed e = rw (ne_eqb (own_words xs) 0 some, ← e)

    pub count-own : (b' : Box) → accepted b' ≡ enter_box b → (a : Answer) (n v : ℕ) → n ≡ own_words xs → v ≡ own_visits xs
        → a ≡ count_own♯ v b' (take n xs) → a ≡ count♯ b xs
    unfolding count♯ or_number
    count-own b' e a n v is ev h = rw (ne_eqb (own_words xs) 0 some, ← e, ← is, ← ev, ← h)

module _ (c : ℕ) (xs : List ℕ) where
  pub open-turned : (e : Misfit) → opening_outcome (Err e) ≡ open_table c (length xs)
      → after (refusal (number_of (of_misfit e)) 0) xs ≡ open♯ c xs
  unfolding open♯ on_accepted
  open-turned misfit.Capacity h = rw (← h)
  open-turned misfit.Short h = rw (← h)

  pub open_own : (n : ℕ) → accepted n ≡ open_table c (length xs) → (x : List ℕ) → x ≡ empty♯ c (take n xs)
      → after (updated 0 0) (x ++ drop n xs) ≡ open♯ c xs
  unfolding open♯ on_accepted within
  open_own n e x h = rw (← e, ← h)

-- what a search gives for the capacity that the words say
module _ (xs : List ℕ) (capacity : ℕ) (is : capacity ≡ capacity_of xs) where
  pub find-read : (m : Mark) (r : Sought) → r ≡ find_from♯ xs capacity m → r ≡ find♯ xs m
  unfolding find♯
  find-read m r h = h ∙ ap (λ c. find_from♯ xs c m) is

  -- a slot that was found is one of the table's
  pub slot_read : (m : Mark) (s : ℕ) → Ok (Some s) ≡ find_from♯ xs capacity m → s < capacity
  slot_read m s h = rw is (finds-within (find-finds xs m (sym (find-read m (Ok (Some s)) h))))

  pub count-read : (b : Box) (t : ℕ) → t ≡ count_from♯ xs capacity b → t ≡ main_count♯ xs b
  unfolding main_count♯
  count-read b t h = h ∙ ap (λ c. count_from♯ xs c b) is

  pub list_read : (b : Box) (most : ℕ) (ys : List ℕ) (p : After ℕ) → p ≡ list_from♯ xs capacity b most ys → p ≡ main_list♯ xs b most ys
  unfolding main_list♯
  list_read b most ys p h = h ∙ ap (λ c. list_from♯ xs c b most ys) is

-- the k marks that a count has found are listed into the leading part x of the first list, and sorted
pub list-marks : (b : Box) (most k : ℕ) (xs first second first' second' x : List ℕ) (tally visits which : ℕ)
    → after tally x ≡ main_list♯ xs b (most + 2 * k) (take (list_place k) first) → length x ≡ length (take (list_place k) first)
    → visits ≡ tally % 4294967296 → which ≡ which_list k
    → SortedIn below_x k (x ++ drop (list_place k) first) second first' second'
    → ListedOwn b most k xs first second first' second' (record { number = 0; k = k; visits = visits; which = which })
list-marks b most k xs first second first' second' x tally visits which listed long ev ew sorted =
    record { long = rw (← listed) long; figures = rw (ev, ew, ← listed); sorted = rw (← listed) sorted }

-- what a list makes of the count
module _ (b : Box) (most : ℕ) (xs : List ℕ) where
  abbrev t : ℕ
  t = main_count♯ xs b

  abbrev live : ℕ
  live = get_or xs live_place 0

  -- the count's figures passed
  pub record Told (k : ℕ) : Type 0 where
    pub soon : visits_in t ≤ most
    pub few : found_in t ≤ live
    pub found : k ≡ found_in t

  pub list-told : (k v s w : ℕ) → counted k v s w ≡ count_own♯ most b xs → Told k
  unfolding count_own♯ tallied
  list-told k v s w h =
      by_cases (ltb most (visits_in t))
      (λ u. let e : ◌≡◌ {A = ℕ} 0 4 = ap (λ (a : Answer). a.number) (rw u at h) in absurd (omega arith))
      (λ f. by_cases (ltb live (found_in t))
      (λ u. let e : ◌≡◌ {A = ℕ} 0 4 = ap (λ (a : Answer). a.number) (rw (f, u) at h) in absurd (omega arith))
      (λ g. record {
        soon = ltb-false most (visits_in t) f;
        few = ltb-false live (found_in t) g;
        found = ap (λ (a : Answer). a.k) (rw (f, g) at h);
      }))

  module _ (first second : List ℕ) where
    pub list-damaged : refusal 4 0 ≡ count_own♯ most b xs → ListsOwn b most xs first second first second (list_refused 4 0)
    unfolding count_own♯ tallied
    list-damaged h =
        by_cases (ltb most (visits_in t))
        (λ u. lost (inl (ltb-true most (visits_in t) u)))
        (λ f. by_cases (ltb live (found_in t))
        (λ u. lost (inr (ltb-true live (found_in t) u)))
        (λ g. let e : ◌≡◌ {A = ℕ} 4 0 = ap (λ (a : Answer). a.number) (rw (f, g) at h) in absurd (omega arith)))

    module _ {k : ℕ} (told : Told k) where
      pub list-short : (length first < list_place k) ⊎ (length second < list_place k) → ListsOwn b most xs first second first second (list_refused 10 k)
      list-short h =
          subst (λ n. ListsOwn b most xs first second first second (list_refused 10 n)) (sym told.found)
          (short told.soon told.few (subst (λ n. (length first < list_place n) ⊎ (length second < list_place n)) told.found h))

      pub list-lists : (first' second' : List ℕ) (f : ListFigures) → list_place k ≤ length first → list_place k ≤ length second
          → ListedOwn b most k xs first second first' second' f → ListsOwn b most xs first second first' second' f
      list-lists first' second' f p q h =
          lists told.soon told.few (subst (λ n. list_place n ≤ length first) told.found p) (subst (λ n. list_place n ≤ length second) told.found q)
          (subst (λ n. ListedOwn b most n xs first second first' second' f) told.found h)

module _ (b : Box) (xs first second : List ℕ) (some : own_words xs ≡ 0 → ⊥) where
  pub list-crossed : refused 6 ≡ enter_box b → Lists b xs first second first second (list_refused 6 0)
  list-crossed e = crossed some (sym e)

  pub list-own : (b' : Box) → accepted b' ≡ enter_box b → (n v : ℕ) → n ≡ own_words xs → v ≡ own_visits xs
      → (first' second' : List ℕ) (f : ListFigures)
      → ListsOwn b' v (take n xs) first second first' second' f → Lists b xs first second first' second' f
  list-own b' e n v is ev first' second' f h =
      on_own some (sym e) (subst (λ v. ListsOwn b' v (take (own_words xs) xs) first second first' second' f) ev
      (subst (λ k. ListsOwn b' v (take k xs) first second first' second' f) is h))
