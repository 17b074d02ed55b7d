-- Insertion and strike: what they do with a table's own words, and so what the calls perform. Assumes nothing.
use Rattle.std.specs.Prelude.{None, Some, Ok, Err, if◌then◌else◌}
use Prim.Native.Nat.{ℕ, ◌≤◌, ◌<◌}
use mathlib.Core.Path.{◌≡◌, refl, sym, ap, ap₂, ◌∙◌}
use mathlib.Core.Logic.{◌≢◌}
use mathlib.Core.Bool.{Bool, true, false}
use mathlib.Core.List.{List, [], ◌∷◌}
use native.Mathlib.Omega.{arith}
use lib.Dec.{eqb}
use lib.ListN.{length, get_or, set}
use borrow.Author.Tests.{eqb-true, eqb-false, eq-eqb, ne_eqb, ltb-true, ltb-false}
use Rattle.model.specs.Lists.{count_if, insert_sorted, remove_first}
use Rattle.model.specs.Tree.{marks_of}
use Rattle.model.specs.Sheet.{Mark, Main, mark_outside, grade_outside, same, below_x}
use Rattle.model.specs.Refusals.{enter_mark, name_mark}
use Rattle.model.specs.History.{State, Answer, refusal, updated, has, answer, next}
use Rattle.model.specs.History as history
use Rattle.model.proofs.Logic.{by_cases}
use Rattle.model.proofs.Sizes.{capacity-small}
use Rattle.model.proofs.TwoFold.{main-insert-marks, main-strike-marks}
use Rattle.table.specs.Layout.{open_place}
use Rattle.table.specs.Limits.{damaged}
use Rattle.table.specs.declared.damage.Damaged.{Damaged}
use Rattle.table.specs.After.{After, after}
use Rattle.twofold_layout.specs.Sound.{Holding, SoundTable}
use Rattle.table.specs.Header.{capacity_of, live_of}
use Rattle.primary_search.specs.Find.{Sought, find♯}
use Rattle.primary_search.proofs.Sought.{find-finds, find-lacks}
use Rattle.whole_table.specs.Insert.{table_insert♯}
use Rattle.whole_table.specs.Strike.{table_strike♯}
use Rattle.whole_table.proofs.Searching.{holding-agrees, find-sound, find-missing}
use Rattle.whole_table.proofs.Inserting.{insert-sound, insert-capacity}
use Rattle.whole_table.proofs.Striking.{strike-sound, strike-capacity}
use Rattle.whole_table.proofs.Gaps.{insert-unused, strike-unused}
use Rattle.table.proofs.Own.{own-table}
use Rattle.register.specs.Performs.{alone, early, own, present, full, inserts, missing, strikes, state_of, Performs}
use Rattle.register.specs.Mirrors.{closed♯, settled_after, insert_found, insert_own♯, insert♯, strike_found, strike_own♯, strike♯}
use Rattle.register.proofs.Own.{own-capacity, own-live}
use Rattle.register.proofs.Performing.{OwnUpdate, refuses, closes, accepts, Entering, turned, enters, update-performs}

-- a table that was closed
shut : (l : List ℕ) → get_or (set l open_place 0) open_place 0 ≡ 0
shut [] = refl
shut (x ∷ l) = refl

-- whether a sound table has the mark is told by its slot
module _ (zs : List ℕ) (T : Main) (h : Holding zs T) (m : Mark) where
  has-slot : has m (marks_of T) ≡ true → (s : ℕ) × (find♯ zs m ≡ Ok (Some s))
  has-slot t = let k = find-sound zs T h m (ltb-true 0 (count_if (same m) (marks_of T)) t) in (k.0, k.1)

  lacks-slot : has m (marks_of T) ≡ false → find♯ zs m ≡ Ok None
  lacks-slot f = find-missing zs T h m (omega (arith, ltb-false 0 (count_if (same m) (marks_of T)) f))

  slot-fine : (d : Damaged) → find♯ zs m ≢ Err d
  slot-fine d e = by_cases (has m (marks_of T)) (λ t. cc (has-slot t).1) (λ f. cc (lacks-slot f))

  slot-lacks : find♯ zs m ≡ Ok None → has m (marks_of T) ≡ false
  slot-lacks e = by_cases (has m (marks_of T)) (λ t. absurd (cc (has-slot t).1)) (λ f. f)

  slot_has : (s : ℕ) → find♯ zs m ≡ Ok (Some s) → has m (marks_of T) ≡ true
  slot_has s e = by_cases (has m (marks_of T)) (λ t. t) (λ f. absurd (cc (lacks-slot f)))

-- INSERTION

module _ (m : Mark) (on : mark_outside m ≡ false) (graded : grade_outside m ≡ false) (xs : List ℕ) (small : capacity_of xs ≤ 65536)
    (fits : live_of xs ≤ capacity_of xs) where
  abbrev zs : List ℕ
  zs = own xs

  insert-unsound : (d : Damaged) → find♯ zs m ≡ Err d → SoundTable zs → ⊥
  insert-unsound d e k = slot-fine zs k.tree k.holding m d e

  insert-present : (s : ℕ) → find♯ zs m ≡ Ok (Some s) → (T : Main) → Holding zs T → refusal 8 0 ≡ answer (history.insert m) (state_of zs T)
  unfolding enter_mark
  insert-present s e T h = rw (on, graded, slot_has zs T h m s e)

  module _ (new : find♯ zs m ≡ Ok None) where
    insert-full : live_of zs ≡ capacity_of zs → (T : Main) → Holding zs T → refusal 7 0 ≡ answer (history.insert m) (state_of zs T)
    unfolding enter_mark
    insert-full e T h = rw (on, graded, slot-lacks zs T h m new, eq-eqb (length (marks_of T)) (capacity_of zs) (sym h.live ∙ e))

    module _ (room : live_of zs ≢ capacity_of zs) where
      abbrev p : After ℕ
      p = table_insert♯ m zs

      module _ (T : Main) (h : Holding zs T) where
        lacks : count_if (same m) (marks_of T) ≡ 0
        lacks = omega (arith, ltb-false 0 (count_if (same m) (marks_of T)) (slot-lacks zs T h m new))

        spare : length (marks_of T) < capacity_of zs
        spare = omega (arith, h.live, fits, own-live xs, own-capacity xs, room)

        insert-fine : p.out ≢ damaged
        insert-fine = (insert-sound zs T h m on graded lacks spare).2

        insert-live : live_of p.words ≡ length (insert_sorted below_x m (marks_of T))
        insert-live = (insert-sound zs T h m on graded lacks spare).0.live ∙ ap length (main-insert-marks m T (holding-agrees zs T h).sorted)

        insert-goes : (updated (live_of p.words) p.out ≡ answer (history.insert m) (state_of zs T))
            × (capacity_of p.words ≡ (next (history.insert m) (state_of zs T)).capacity) × Holding p.words (next (history.insert m) (state_of zs T)).tree
        unfolding enter_mark
        insert-goes =
            let k = insert-sound zs T h m on graded lacks spare in
            rw (on, graded, slot-lacks zs T h m new, ne_eqb (length (marks_of T)) (capacity_of zs) (omega (arith, spare)))
            (ap₂ updated insert-live k.1, insert-capacity zs T h m on graded lacks spare, k.0)

      settle-insert : OwnUpdate (history.insert m) xs (settled_after p).out (settled_after p).words
      unfolding settled_after closed♯
      settle-insert =
          by_cases (eqb p.out damaged)
          (λ t. rw t (closes (λ k. insert-fine k.tree k.holding (eqb-true p.out damaged t)) (shut p.words)))
          (λ f. rw f (accepts (inserts (find-lacks zs m new) (omega (arith, fits, own-live xs, own-capacity xs, room))) insert-goes
          (λ T h. insert-unused zs T h m on graded (lacks T h) (spare T h))))

  -- what is done with a mark that is not there, by the test for room
  abbrev new_mark : Bool → After Answer
  new_mark is_full = if is_full then after (refusal 7 0) zs else settled_after (table_insert♯ m zs)

  insert-new : find♯ zs m ≡ Ok None → (is_full : Bool) → eqb (live_of zs) (capacity_of zs) ≡ is_full
      → OwnUpdate (history.insert m) xs (new_mark is_full).out (new_mark is_full).words
  insert-new lacks true t =
      let e = eqb-true (live_of zs) (capacity_of zs) t in
      refuses {n = 7} (omega arith) (omega arith) (full (find-lacks zs m lacks) (sym (own-live xs) ∙ e ∙ own-capacity xs)) (insert-full lacks e)
  insert-new lacks false f = settle-insert lacks (eqb-false (live_of zs) (capacity_of zs) f)

  insert-own : OwnUpdate (history.insert m) xs (insert_own♯ m zs).out (insert_own♯ m zs).words
  unfolding insert_own♯ insert_found closed♯
  insert-own = by (find♯ zs m) refl
    where
      by : (r : Sought) → find♯ zs m ≡ r → OwnUpdate (history.insert m) xs (insert_found m r zs).out (insert_found m r zs).words
      by (Err d) e = closes (insert-unsound d e) (shut zs)
      by (Ok None) e = insert-new e (eqb (live_of zs) (capacity_of zs)) refl
      by (Ok (Some s)) e = refuses {n = 8} (omega arith) (omega arith) (present (find-finds zs m e)) (insert-present s e)

-- STRIKE

module _ (m : Mark) (on : mark_outside m ≡ false) (xs : List ℕ) (small : capacity_of xs ≤ 65536) where
  abbrev ws : List ℕ
  ws = own xs

  strike-missing : find♯ ws m ≡ Ok None → (T : Main) → Holding ws T → refusal 9 0 ≡ answer (history.strike m) (state_of ws T)
  unfolding name_mark
  strike-missing e T h = rw (on, slot-lacks ws T h m e)

  module _ (s : ℕ) (old : find♯ ws m ≡ Ok (Some s)) where
    abbrev q : After ℕ
    q = table_strike♯ s ws

    module _ (T : Main) (h : Holding ws T) where
      stands : 0 < count_if (same m) (marks_of T)
      stands = ltb-true 0 (count_if (same m) (marks_of T)) (slot_has ws T h m s old)

      strike-live : live_of q.words ≡ length (remove_first (same m) (marks_of T))
      strike-live = (strike-sound ws T h m stands s old).0.live ∙ ap length (main-strike-marks m T (holding-agrees ws T h).sorted stands)

      strike-goes : (updated (live_of q.words) q.out ≡ answer (history.strike m) (state_of ws T))
          × (capacity_of q.words ≡ (next (history.strike m) (state_of ws T)).capacity) × Holding q.words (next (history.strike m) (state_of ws T)).tree
      unfolding name_mark
      strike-goes =
          let k = strike-sound ws T h m stands s old in
          rw (on, slot_has ws T h m s old) (ap₂ updated strike-live k.1, strike-capacity ws T h m stands s old, k.0)

    settle-strike : OwnUpdate (history.strike m) xs (settled_after q).out (settled_after q).words
    unfolding settled_after closed♯
    settle-strike =
        by_cases (eqb q.out damaged)
        (λ t. rw t (closes (λ k. (strike-sound ws k.tree k.holding m (stands k.tree k.holding) s old).2 (eqb-true q.out damaged t))
        (shut q.words)))
        (λ f. rw f (accepts (strikes (find-finds ws m old)) strike-goes (λ T h. strike-unused ws T h m (stands T h) s old)))

  strike-own : OwnUpdate (history.strike m) xs (strike_own♯ m ws).out (strike_own♯ m ws).words
  unfolding strike_own♯ strike_found closed♯
  strike-own = by (find♯ ws m) refl
    where
      by : (r : Sought) → find♯ ws m ≡ r → OwnUpdate (history.strike m) xs (strike_found r ws).out (strike_found r ws).words
      by (Err d) e = closes (λ k. slot-fine ws k.tree k.holding m d e) (shut ws)
      by (Ok None) e = refuses {n = 9} (omega arith) (omega arith) (missing (find-lacks ws m e)) (strike-missing e)
      by (Ok (Some s)) e = settle-strike s e

-- THE CALLS

module _ (m : Mark) where
  inserts-mark : Entering (enter_mark m) m ((mark_outside m ≡ false) × (grade_outside m ≡ false))
  unfolding enter_mark
  inserts-mark =
      by_cases (mark_outside m)
      (λ t. turned {n = 5} (omega arith) (omega arith) (rw t))
      (λ f. by_cases (grade_outside m) (λ t. turned {n = 12} (omega arith) (omega arith) (rw (f, t))) (λ g. enters (f, g) (rw (f, g))))

  names-mark : Entering (name_mark m) m (mark_outside m ≡ false)
  unfolding name_mark
  names-mark = by_cases (mark_outside m) (λ t. turned {n = 5} (omega arith) (omega arith) (rw t)) (λ f. enters f (rw f))

  module _ (xs ys : List ℕ) (a : Answer) (long : length ys ≡ length xs) where
    pub insert-performs : after a ys ≡ insert♯ m xs → Performs (history.insert m) (alone xs) (alone ys) a
    unfolding insert♯ early
    insert-performs e =
        update-performs (history.insert m) m (enter_mark m) xs tt refl refl refl (λ t. rw t) (λ f. rw f) (λ s n k. rw k) (λ ys. tt)
        ((mark_outside m ≡ false) × (grade_outside m ≡ false)) insert_own♯
        (λ table on. insert-own m on.0 on.1 xs (capacity-small (capacity_of xs) (own-table xs table).1)
        (own-table xs table).2) (after a ys) e long inserts-mark

    pub strike-performs : after a ys ≡ strike♯ m xs → Performs (history.strike m) (alone xs) (alone ys) a
    unfolding strike♯ early
    strike-performs e =
        update-performs (history.strike m) m (name_mark m) xs tt refl refl refl (λ t. rw t) (λ f. rw f) (λ s n k. rw k) (λ ys. tt)
        (mark_outside m ≡ false) strike_own♯
        (λ table on. strike-own m on xs (capacity-small (capacity_of xs) (own-table xs table).1)) (after a ys) e long names-mark
