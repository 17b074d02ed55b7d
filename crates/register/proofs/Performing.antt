-- What is done with a table's own words is what the call performs on all that it was lent. Assumes nothing.
use Prim.Native.Nat.{ℕ}
use mathlib.Core.Path.{◌≡◌, refl, sym, ap, subst, ◌∙◌}
use mathlib.Core.Logic.{◌≢◌}
use mathlib.Core.Bool.{true, false}
use mathlib.Core.List.{List, [], ◌++◌}
use native.Mathlib.Omega.{arith}
use lib.ListN.{length, get_or, drop, length-append, length-drop, get_or-append}
use lib.Seq.{drop_at, get_or-take}
use borrow.Author.Tests.{eqb-true, eqb-false, ne_eqb}
use lib.Dec.{eqb}
use Rattle.model.specs.Sizes.{W}
use Rattle.model.specs.Tree.{marks_of}
use Rattle.model.specs.Sheet.{Mark, Main}
use Rattle.model.specs.Refusals.{Outcome, accepted, refused}
use Rattle.model.specs.History.{Call, State, Answer, refusal, updated, answer, next}
use Rattle.model.proofs.Logic.{by_cases}
use Rattle.table.specs.Layout.{open_place}
use Rattle.table.specs.After.{After}
use Rattle.twofold_layout.specs.Sound.{Holding, SoundTable}
use Rattle.table.specs.Header.{capacity_of, not_table, own_words}
use Rattle.twofold_layout.specs.Gaps.{Unused}
use Rattle.whole_table.proofs.Gaps.{unused-within}
use Rattle.table.proofs.Own.{own-table}
use Rattle.register.specs.Performs.{Lent, lends, alone, LengthsOf, number_of, early, own, opens_table, updates, Later, unsound}
use Rattle.register.specs.Performs.{reach, unchanged, written, closed}
use Rattle.register.specs.Performs.{LeavesLists, Starts, state_of, Spares, Performs}
use Rattle.register.specs.Mirrors.{within, on_accepted, on_table, update_own}
use Rattle.register.proofs.Own.{W-header, own-none, own-some, own-capacity, own-beyond, sound-table, held-capacity, held-own}

-- a refused step changes nothing
pub next-refused : (c : Call) (s : State) (n k : ℕ) → n ≢ 0 → refusal n k ≡ answer c s → next c s ≡ s
next-refused c s n k h e = rw (← e, ne_eqb n 0 h)

-- a call that lists nothing leaves the lists as they are
pub no-lists : (a : Answer) (xs ys f s : List ℕ) → a.listed ≡ [] → LeavesLists a (lends xs f s) (lends ys f s)
no-lists a xs ys f s e = record { answer = rw e; past_first = refl; past_second = refl }

-- a call that leaves the table as it is
module _ (c : Call) (xs f s f' s' : List ℕ) (a : Answer) where
  pub performs-kept : (a.number ≡ 4 → updates c ≡ false) → LengthsOf c (lends xs f s) → (early c xs ≢ 0 → a ≡ refusal (early c xs) 0)
      → (early c xs ≡ 0 → Later xs c a)
      → LeavesLists a (lends xs f s) (lends xs f' s') → (a.number ≡ 0 → Starts c xs xs)
      → ((T : Main) → Holding (own xs) T → (a ≡ answer c (state_of xs T)) × (next c (state_of xs T) ≡ state_of xs T))
      → Performs c (lends xs f s) (lends xs f' s') a
  performs-kept shut lengths refuses later lists starts says = record {
    lengths = lengths;
    refuses = refuses;
    later = later;
    leaves = unchanged shut;
    leaves_lists = lists;
    starts = starts;
    follows = λ T h.
        let k = says T h in
        record { answers = k.0; capacity = sym (ap (λ s. s.capacity) k.1); holds = subst (λ s. Holding (own xs) s.tree) (sym k.1) h };
    spares = λ u h i k. refl;
  }

-- and one that is refused, with its number by an early row or a later one
module _ (c : Call) (w : Lent) (n k : ℕ) (some : n ≢ 0) (shut : n ≡ 4 → updates c ≡ false) (lengths : LengthsOf c w)
    (says : (T : Main) → Holding (own w.table) T → refusal n k ≡ answer c (state_of w.table T)) where
  refused-performs : (early c w.table ≢ 0 → refusal n k ≡ refusal (early c w.table) 0)
      → (early c w.table ≡ 0 → Later w.table c (refusal n k))
      → Performs c w w (refusal n k)
  refused-performs refuses later =
      performs-kept c w.table w.first w.second w.first w.second (refusal n k) shut lengths refuses later
      (no-lists (refusal n k) w.table w.table w.first w.second refl)
      (λ z. absurd (some z)) (λ T h. (says T h, next-refused c (state_of w.table T) n k some (says T h)))

  pub refused-later : early c w.table ≡ 0 → Later w.table c (refusal n k) → Performs c w w (refusal n k)
  refused-later e l = refused-performs (λ z. absurd (z e)) (λ z. l)

  pub refused-early : early c w.table ≡ n → k ≡ 0 → Performs c w w (refusal n k)
  refused-early e z = refused-performs (λ y. rw (e, z)) (λ y. absurd (some (sym e ∙ y)))

-- What an update does with the own words of a table that passed its early rows: it is refused, it closes the table, or it is accepted.
pub data OwnUpdate (c : Call) (xs : List ℕ) : Answer → List ℕ → Type 0 where
  refuses : {n : ℕ} → n ≢ 0 → n ≢ 4 → Later xs c (refusal n 0)
      → ((T : Main) → Holding (own xs) T → refusal n 0 ≡ answer c (state_of (own xs) T))
      → OwnUpdate c xs (refusal n 0) (own xs)
  closes : {ws : List ℕ} → (SoundTable (own xs) → ⊥) → get_or ws open_place 0 ≡ 0 → OwnUpdate c xs (refusal 4 0) ws
  accepts : {ws : List ℕ} {live rebuilt : ℕ} → Later xs c (updated live rebuilt)
      → ((T : Main) → Holding (own xs) T → (updated live rebuilt ≡ answer c (state_of (own xs) T))
      × (capacity_of ws ≡ (next c (state_of (own xs) T)).capacity)
      × Holding ws (next c (state_of (own xs) T)).tree)
      → ((T : Main) → Holding (own xs) T → Spares (own xs) ws)
      → OwnUpdate c xs (updated live rebuilt) ws

-- a mark is turned away by a number that closes no table, or it is entered, and F holds of it
pub data Entering (entering : Outcome Mark) (m : Mark) (F : Type 0) : Type 0 where
  turned : {n : ℕ} → n ≢ 0 → n ≢ 4 → entering ≡ refused n → Entering entering m F
  enters : F → entering ≡ accepted m → Entering entering m F

-- the state of a sound table goes by its own words
state-own : (xs : List ℕ) (T : Main) → state_of (own xs) T ≡ state_of xs T
state-own xs T = ap (λ c. record { capacity = c; plain = marks_of T; tree = T }) (own-capacity xs)

-- what an update of a mark does with a whole table, by whether its mark is entered, from what it does with the own words
module _ (c : Call) (m : Mark) (entering : Outcome Mark) (xs : List ℕ) (lengths : LengthsOf c (alone xs)) (updating : updates c ≡ true)
    (reaches : reach c xs ≡ W (capacity_of xs))
    (opens : opens_table c ≡ false) (not_one : not_table xs ≡ true → early c xs ≡ 3)
    (one : not_table xs ≡ false → early c xs ≡ number_of entering)
    (says : (s : State) (n : ℕ) → entering ≡ refused n → refusal n 0 ≡ answer c s) (starts : (ys : List ℕ) → Starts c xs ys) where
  abbrev beyond : List ℕ
  beyond = drop (W (capacity_of xs)) xs

  module _ (table : own_words xs ≡ 0 → ⊥) (entered : early c xs ≡ 0) where
    own-long : (ws : List ℕ) → length (ws ++ beyond) ≡ length xs → length ws ≡ W (capacity_of xs)
    own-long ws long = omega (arith, long, length-append ws beyond, length-drop (W (capacity_of xs)) xs, (own-table xs table).4)

    kept-beyond : (ws : List ℕ) → length (ws ++ beyond) ≡ length xs → drop (reach c xs) (ws ++ beyond) ≡ drop (reach c xs) xs
    kept-beyond ws long = rw reaches (drop_at ws beyond (W (capacity_of xs)) (own-long ws long))

    lift : {a : Answer} {ws : List ℕ} → OwnUpdate c xs a ws → length (ws ++ beyond) ≡ length xs → Performs c (alone xs) (alone (ws ++ beyond)) a
    lift (refuses {n} some shut later says) long =
        subst (λ ys. Performs c (alone xs) (alone ys) (refusal n 0)) (sym (own-beyond xs table))
        (refused-later c (alone xs) n 0 some (λ z. absurd (shut z)) lengths (λ T h. says T h ∙ ap (answer c) (state-own xs T)) entered later)
    lift (closes {ws} wrong shut) long = record {
      lengths = lengths;
      refuses = λ z. absurd (z entered);
      later = λ z. unsound opens wrong;
      leaves =
          closed updating (get_or-append ws beyond 0 open_place (omega (arith, own-long ws long, W-header (capacity_of xs))) ∙ shut) long
          (kept-beyond ws long);
      leaves_lists = no-lists (refusal 4 0) xs (ws ++ beyond) [] [] refl;
      starts = λ z. starts (ws ++ beyond);
      follows = λ T h. absurd (wrong (record { tree = T; holding = h }));
      spares = λ u h. absurd (wrong h);
    }
    lift (accepts {ws} {live} {rebuilt} later goes spared) long = record {
      lengths = lengths;
      refuses = λ z. absurd (z entered);
      later = λ z. later;
      leaves = written long (kept-beyond ws long);
      leaves_lists = no-lists (updated live rebuilt) xs (ws ++ beyond) [] [] refl;
      starts = λ z. starts (ws ++ beyond);
      follows = λ T h.
          let k = goes T h in
          let e = state-own xs T in
          record {
            answers = k.0 ∙ ap (answer c) e;
            capacity = held-capacity k.2 beyond ∙ k.1 ∙ ap (λ s. (next c s).capacity) e;
            holds = rw (held-own k.2 beyond) (subst (λ s. Holding ws (next c s).tree) e k.2);
          };
      spares = λ u h i k.
          let inside = unused-within k in
          get_or-append ws beyond 0 i (omega (arith, inside, own-long ws long))
          ∙ spared h.tree h.holding i (subst (λ c. Unused c i) (sym (own-capacity xs)) k)
          ∙ get_or-take (W (capacity_of xs)) xs i 0 inside;
    }

  -- the mark is refused by an early row, or it is entered, and then F holds of it
  module _ (F : Type 0) (f : Mark → List ℕ → After Answer)
      (does : (own_words xs ≡ 0 → ⊥) → F → OwnUpdate c xs (f m (own xs)).out (f m (own xs)).words)
      (p : After Answer) (is : p ≡ update_own entering f xs) (long : length p.words ≡ length xs) where
    performs-no_table : eqb (own_words xs) 0 ≡ true → Performs c (alone xs) (alone (update_own entering f xs).words) (update_own entering f xs).out
    unfolding update_own on_table
    performs-no_table t =
        let z = eqb-true (own_words xs) 0 t in
        rw t (refused-early c (alone xs) 3 0 (omega arith) (λ z. absurd (omega arith)) lengths (λ T h. absurd (sound-table xs h z))
        (not_one (own-none xs z)) refl)

    not_entered : eqb (own_words xs) 0 ≡ false → (n : ℕ) → n ≢ 0 → n ≢ 4 → entering ≡ refused n
        → Performs c (alone xs) (alone (update_own entering f xs).words) (update_own entering f xs).out
    unfolding update_own on_table on_accepted
    not_entered t n some shut e =
        let z = eqb-false (own_words xs) 0 t in
        rw (t, e)
        (refused-early c (alone xs) n 0 some (λ z. absurd (shut z)) lengths (λ T h. says (state_of xs T) n e) (one (own-some xs z) ∙ rw e) refl)

    on-sheet : eqb (own_words xs) 0 ≡ false → F → entering ≡ accepted m
        → Performs c (alone xs) (alone (update_own entering f xs).words) (update_own entering f xs).out
    unfolding update_own on_table on_accepted within
    on-sheet t u e =
        let z = eqb-false (own_words xs) 0 t in
        let k = (own-table xs z).3 in
        let l : length (update_own entering f xs).words ≡ length xs = ap (λ p. length p.words) (sym is) ∙ long in
        let l' : length ((f m (own xs)).words ++ beyond) ≡ length xs = (rw (t, e, k) at l) in
        rw (t, e, k) (lift z (one (own-some xs z) ∙ rw e) (does z u) l')

    by-entering : Entering entering m F → eqb (own_words xs) 0 ≡ false
        → Performs c (alone xs) (alone (update_own entering f xs).words) (update_own entering f xs).out
    by-entering (turned {n} some shut e) t = not_entered t n some shut e
    by-entering (enters u e) t = on-sheet t u e

    pub update-performs : Entering entering m F → Performs c (alone xs) (alone p.words) p.out
    update-performs enter =
        subst (λ p. Performs c (alone xs) (alone p.words) p.out) (sym is) (by_cases (eqb (own_words xs) 0) performs-no_table (by-entering enter))
