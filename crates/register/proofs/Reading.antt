-- The calls that only read the table: count and check. Assumes nothing.
use Rattle.std.specs.Prelude.{if◌then◌else◌}
use Prim.Native.Nat.{ℕ, ◌≤◌, ◌<◌}
use mathlib.Core.Path.{◌≡◌, refl, sym, ap, subst, ◌∙◌}
use mathlib.Core.Logic.{◌≢◌, ◌⊎◌, inl, inr}
use mathlib.Core.Bool.{Bool, true, false}
use mathlib.Core.List.{List, []}
use native.Mathlib.Omega.{arith}
use lib.Dec.{eqb, ltb}
use lib.ListN.{length, take}
use borrow.Author.Tests.{eqb-true, eqb-false, ltb-true, ltb-false}
use Rattle.model.specs.Lists.{count_if}
use Rattle.model.specs.Tree.{marks_of}
use Rattle.model.specs.Sheet.{Box, Main, box_crossed, holds, main}
use Rattle.model.specs.Refusals.{enter_box}
use Rattle.model.specs.History.{Call, State, Answer, refusal, updated, counted, answer, next}
use Rattle.model.specs.History as history
use Rattle.model.proofs.Logic.{by_cases}
use Rattle.std.proofs.Common.{Result, Ok, Err}
use Rattle.table.specs.declared.damage.Damaged.{Damaged}
use Rattle.model.proofs.Lists.{count_if-length}
use Rattle.sizes.specs.Sizes.{visits_within}
use Rattle.table.specs.Figures.{found_in, visits_in}
use Rattle.twofold_layout.specs.Sound.{Holding, SoundTable}
use Rattle.table.specs.Header.{capacity_of, live_of, own_words, own_visits, HeaderOf}
use Rattle.primary_search.specs.Count.{main_count♯}
use Rattle.whole_table.proofs.Searching.{count-within, count-found, count-visited, count-sum, count-worst}
use Rattle.checking.specs.Verdict.{Verdict}
use Rattle.checking.specs.Verdict as verdict
use Rattle.table.proofs.Own.{own-most}
use Rattle.register.specs.Performs.{alone, early, own, sum_by, worst_by, CountsTo, Later, counts, sound, unsound, state_of, Performs}
use Rattle.register.specs.Mirrors.{or_number, tallied, count_own♯, count♯}
use Rattle.table.specs.declared.header.Header.{Header}
use Rattle.register.proofs.Own.{own-none, own-some, own-capacity, own_is, sound-table, part-own, part-some}
use Rattle.register.proofs.Performing.{no-lists, performs-kept, refused-early, refused-later}

module _ (xs : List ℕ) (b : Box) (fine : box_crossed b ≡ false) (T : Main) (h : Holding (own xs) T) where
  pub visits-sound : visits_in (main_count♯ (own xs) b) ≡ (main.count b T).visits
  visits-sound = count-visited (own xs) T h b fine

  pub found-sound : found_in (main_count♯ (own xs) b) ≡ count_if (holds b) (marks_of T)
  found-sound = count-found (own xs) T h b fine

-- the figures of the search by the words, and where they are damage
module _ (xs : List ℕ) (table : own_words xs ≡ 0 → ⊥) (b : Box) where
  abbrev found : ℕ
  found = found_in (main_count♯ (own xs) b)

  abbrev visits : ℕ
  visits = visits_in (main_count♯ (own xs) b)

  pub own-limit : own_visits xs ≡ visits_within (capacity_of (own xs))
  own-limit = own-most xs table ∙ ap visits_within (sym (own-capacity xs))

  pub counts-to : visits ≤ own_visits xs → found ≤ live_of (own xs) → CountsTo (own xs) b found visits
  counts-to v k = record { found = refl; visited = refl; few = k; soon = omega (arith, v, own-limit) }

  pub damage-unsound : box_crossed b ≡ false → (own_visits xs < visits) ⊎ (live_of (own xs) < found) → SoundTable (own xs) → ⊥
  damage-unsound fine (inl h) k =
      omega (arith, h, own-limit, visits-sound xs b fine k.tree k.holding, count-within (own xs) k.tree k.holding b)
  damage-unsound fine (inr h) k =
      omega (arith, h, found-sound xs b fine k.tree k.holding, count_if-length (holds b) (marks_of k.tree), k.holding.live)

-- reading leaves the state as it is
pub count-keeps : (b : Box) (s : State) → next (history.count b) s ≡ s
count-keeps b s = by_cases (eqb (answer (history.count b) s).number 0) (λ t. rw t) (λ t. rw t)

module _ (b : Box) (xs : List ℕ) where
  count-refused : (n : ℕ) → n ≢ 0 → early (history.count b) xs ≡ n
      → ((T : Main) → Holding (own xs) T → refusal n 0 ≡ answer (history.count b) (state_of xs T))
      → Performs (history.count b) (alone xs) (alone xs) (refusal n 0)
  count-refused n some e says = refused-early (history.count b) (alone xs) n 0 some (λ z. refl) tt says e refl

  module _ (table : own_words xs ≡ 0 → ⊥) (entered : box_crossed b ≡ false) where
    no_row : early (history.count b) xs ≡ 0
    unfolding early enter_box
    no_row = rw (own-some xs table, entered)

    damage-performs : (own_visits xs < visits xs table b) ⊎ (live_of (own xs) < found xs table b)
        → Performs (history.count b) (alone xs) (alone xs) (refusal 4 0)
    damage-performs h =
        let wrong = damage-unsound xs table b entered h in
        refused-later (history.count b) (alone xs) 4 0 (omega arith) (λ z. refl) tt (λ T h. absurd (wrong (record { tree = T; holding = h }))) no_row
        (unsound refl wrong)

    counted-performs : CountsTo (own xs) b (found xs table b) (visits xs table b)
        → Performs (history.count b) (alone xs) (alone xs) (counted (found xs table b) (visits xs table b) (sum_by (own xs) b) (worst_by (own xs) b))
    unfolding enter_box
    counted-performs h =
        performs-kept (history.count b) xs [] [] [] [] (counted (found xs table b) (visits xs table b) (sum_by (own xs) b) (worst_by (own xs) b))
        (λ z. refl) tt
        (λ z. absurd (z no_row)) (λ z. counts h)
        (no-lists (counted (found xs table b) (visits xs table b) (sum_by (own xs) b) (worst_by (own xs) b)) xs xs [] [] refl) (λ z. tt)
        (λ T h. (
          rw (entered, found-sound xs b entered T h, visits-sound xs b entered T h, count-sum (own xs) T h b entered, count-worst (own xs) T h b entered),
          count-keeps b (state_of xs T),
        ))

    -- what is told, by the two tests
    told-performs : (late many : Bool) → ltb (own_visits xs) (visits xs table b) ≡ late → ltb (live_of (own xs)) (found xs table b) ≡ many
        → Performs (history.count b) (alone xs) (alone xs)
        (if late then refusal 4 0 else (if many then refusal 4 0 else counted (found xs table b) (visits xs table b) (sum_by (own xs) b) (worst_by (own xs) b)))
    told-performs true many t u = damage-performs (inl (ltb-true (own_visits xs) (visits xs table b) t))
    told-performs false true f t = damage-performs (inr (ltb-true (live_of (own xs)) (found xs table b) t))
    told-performs false false f g =
        counted-performs (counts-to xs table b (ltb-false (own_visits xs) (visits xs table b) f) (ltb-false (live_of (own xs)) (found xs table b) g))

    tallied-performs : Performs (history.count b) (alone xs) (alone xs) (tallied (own_visits xs) (live_of (own xs)) (main_count♯ (own xs) b))
    unfolding tallied
    tallied-performs = told-performs (ltb (own_visits xs) (visits xs table b)) (ltb (live_of (own xs)) (found xs table b)) refl refl

  pub count-performs : (a : Answer) → a ≡ count♯ b xs → Performs (history.count b) (alone xs) (alone xs) a
  unfolding count♯ count_own♯ or_number early enter_box
  count-performs a is =
      subst (Performs (history.count b) (alone xs) (alone xs)) (sym is)
      (by_cases (eqb (own_words xs) 0)
      (λ t.
      let z = eqb-true (own_words xs) 0 t in
      rw t (count-refused 3 (omega arith) (rw (own-none xs z)) (λ T h. absurd (sound-table xs h z))))
      (λ t.
      let z = eqb-false (own_words xs) 0 t in
      by_cases (box_crossed b)
      (λ u. rw (t, u) (count-refused 6 (omega arith) (rw (own-some xs z, u)) (λ T h. rw u)))
      (λ u. rw (t, u, own_is xs z) (tallied-performs z u))))

-- CHECK

-- of words that the check calls damaged no tree is sound, and of others it gives the marks
verdict-unsound : {zs : List ℕ} {v : Result ℕ Damaged} → Verdict zs v → (d : Damaged) → v ≡ Err d → SoundTable zs → ⊥
verdict-unsound (verdict.sound h) d e = cc
verdict-unsound (verdict.unsound wrong) d e = wrong

verdict-sound : {zs : List ℕ} {v : Result ℕ Damaged} → Verdict zs v → (n : ℕ) → v ≡ Ok n → (T : Main) × Holding zs T × (n ≡ length (marks_of T))
verdict-sound (verdict.sound {T = T} h) n e = (T, h, cc)
verdict-sound (verdict.unsound wrong) n e = cc

module _ (xs : List ℕ) where
  pub check-not-table : own_words xs ≡ 0 → Performs history.check (alone xs) (alone xs) (refusal 3 0)
  unfolding early
  check-not-table z =
      refused-early history.check (alone xs) 3 0 (omega arith) (λ z. refl) tt (λ T h. absurd (sound-table xs h z)) (rw (own-none xs z)) refl

  module _ {h : Header} (o : HeaderOf xs h) where
    own-says : {v : Result ℕ Damaged} → Verdict (take h.words xs) v → Verdict (own xs) v
    own-says {v = v} says = subst (λ l. Verdict l v) (part-own o) says

    check-row : early history.check xs ≡ 0
    unfolding early
    check-row = rw (own-some xs (part-some o))

    pub check-unsound : (d : Damaged) → Verdict (take h.words xs) (Err d) → Performs history.check (alone xs) (alone xs) (refusal 4 0)
    check-unsound d says =
        let wrong = verdict-unsound (own-says says) d refl in
        refused-later history.check (alone xs) 4 0 (omega arith) (λ z. refl) tt (λ T h. absurd (wrong (record { tree = T; holding = h }))) check-row
        (unsound refl wrong)

    pub check_sound : (n : ℕ) → Verdict (take h.words xs) (Ok n) → Performs history.check (alone xs) (alone xs) (updated n 0)
    check_sound n says =
        let k = verdict-sound (own-says says) n refl in
        performs-kept history.check xs [] [] [] [] (updated n 0) (λ z. refl) tt (λ z. absurd (z check-row))
        (λ z. subst (λ n. Later xs history.check (updated n 0)) (sym k.2) (sound k.1))
        (no-lists (updated n 0) xs xs [] [] refl) (λ z. tt)
        (λ T h. (ap (λ n. updated n 0) (k.2 ∙ sym k.1.live ∙ h.live), refl))
