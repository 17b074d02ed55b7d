-- The lists of slots, used and place: a free slot, the lists after an insertion and after a strike, and what the freeing of a slot leaves alone. Assumes
-- nothing.
use Prim.Native.Nat.{ℕ, ◌+◌, ◌-◌, ◌≤◌, ◌<◌}
use mathlib.Core.Path.{◌≡◌, refl, sym, ap, ap₂, subst, ◌∙◌}
use mathlib.Core.Bool.{false}
use mathlib.Core.List.{List}
use mathlib.Core.Option.{Option, none, some}
use native.Mathlib.Omega.{arith}
use lib.Dec.{ltb, eqb}
use lib.ListN.{length, get_or, set, length-set}
use lib.Seq.{get_or-set_same, get_or-set_other}
use borrow.Author.Tests.{lt-ltb, le-ltb, ltb-true, ltb-false, eq-eqb, ne_eqb, eqb-true, eqb-false}
use Rattle.model.specs.Lists.{indicator}
use Rattle.model.specs.Tree.{marks_of}
use Rattle.model.proofs.Logic.{by_cases}
use Rattle.table.specs.Layout.{capacity_place, live_place, root_place, used_place, place_place, run_place}
use Rattle.table.specs.Marks.{slot_mark}
use Rattle.nodes.specs.Arms.{arm_at}
use Rattle.nodes.specs.Holds.{times_in}
use Rattle.nodes.proofs.Unchanged.{Off, Unchanged, unchanged-arm}
use Rattle.twofold_layout.specs.Rules.{SlotMain, marks_main}
use Rattle.twofold_layout.specs.TwoFold.{TwoFold}
use Rattle.twofold_layout.proofs.Same.{unchanged-two}
use Rattle.table.specs.Header.{capacity_of, live_of}
use Rattle.twofold_layout.specs.Sound.{used_at, place_at, HoldsTree, TreeByRules, EachOnce}
use Rattle.whole_table.specs.Strike.{exchanged, free_within, free_slot♯}
use Rattle.whole_table.proofs.Settled.{settled-holds, settled-rules, settled-stands}

-- the first slot that is not live is free
pub free-slot : {xs : List ℕ} {o : Option SlotMain} → EachOnce xs o → live_of xs < capacity_of xs
    → (used_at xs (live_of xs) < capacity_of xs) × (times_in (used_at xs (live_of xs)) (marks_of o) ≡ 0)
free-slot {xs = xs} e room =
    let n = live_of xs in
    let own = e.used n room in
    (own.0, e.live (used_at xs n) own.0 ∙ ap (λ p. indicator (ltb p n)) own.1 ∙ ap indicator (le-ltb n n (omega arith)))

-- tests that say the same
eqb-agree : (a b c d : ℕ) → (a ≡ b → c ≡ d) → (c ≡ d → a ≡ b) → eqb a b ≡ eqb c d
eqb-agree a b c d f g =
    by_cases (eqb a b)
    (λ t. t ∙ sym (eq-eqb c d (f (eqb-true a b t))))
    (λ u. u ∙ sym (ne_eqb c d (λ e. eqb-false a b u (g e))))

ltb_next : (p n : ℕ) → indicator (ltb p n) + indicator (eqb p n) ≡ indicator (ltb p (n + 1))
ltb_next p n =
    by_cases (ltb p n)
    (λ t. let h = ltb-true p n t in rw (t, ne_eqb p n (omega arith), lt-ltb p (n + 1) (omega arith)))
    (λ u. let h = ltb-false p n u in by_cases (eqb p n)
    (λ t. let e = eqb-true p n t in rw (u, t, lt-ltb p (n + 1) (omega arith)))
    (λ v. let e = eqb-false p n v in rw (u, v, le-ltb p (n + 1) (omega arith))))

-- words whose capacity and lists of slots are the same
pub record SameLists (xs ys : List ℕ) : Type 0 where
  pub capacity : capacity_of ys ≡ capacity_of xs
  pub same : (i : ℕ) → used_place (capacity_of xs) 0 ≤ i → i < run_place (capacity_of xs) 0 → get_or ys i 0 ≡ get_or xs i 0

module _ {xs ys : List ℕ} (k : SameLists xs ys) where
  same-used : (i : ℕ) → i < capacity_of xs → get_or ys (used_place (capacity_of xs) i) 0 ≡ used_at xs i
  same-used i h = k.same (used_place (capacity_of xs) i) (omega arith) (omega arith)

  same_place : (s : ℕ) → s < capacity_of xs → get_or ys (place_place (capacity_of xs) s) 0 ≡ place_at xs s
  same_place s h = k.same (place_place (capacity_of xs) s) (omega arith) (omega arith)

-- the lists are right where they are so by the capacity and the live marks that the words say
pub each-once-by : {ys : List ℕ} {o : Option SlotMain} (C n : ℕ) → capacity_of ys ≡ C → live_of ys ≡ n
    → ((i : ℕ) → i < C → (get_or ys (used_place C i) 0 < C) × (get_or ys (place_place C (get_or ys (used_place C i) 0)) 0 ≡ i))
    → ((s : ℕ) → s < C → (get_or ys (place_place C s) 0 < C) × (get_or ys (used_place C (get_or ys (place_place C s) 0)) 0 ≡ s))
    → ((s : ℕ) → s < C → times_in s (marks_of o) ≡ indicator (ltb (get_or ys (place_place C s) 0) n)) → EachOnce ys o
each-once-by C n cap many u p l = record {
  used = λ i h. rw cap (u i (subst (λ c. i < c) cap h));
  place = λ s h. rw cap (p s (subst (λ c. s < c) cap h));
  live = λ s h. rw (cap, many) (l s (subst (λ c. s < c) cap h));
}

-- INSERTION: the first free slot is put in
pub each-once-insert : {xs ys : List ℕ} {o o' : Option SlotMain} → SameLists xs ys → live_of ys ≡ live_of xs + 1 → EachOnce xs o
    → live_of xs < capacity_of xs
    → ((q : ℕ) → times_in q (marks_of o') ≡ times_in q (marks_of o) + indicator (eqb q (used_at xs (live_of xs)))) → EachOnce ys o'
each-once-insert {xs = xs} {o' = o'} k more e room slots =
    each-once-by (capacity_of xs) (live_of xs + 1) k.capacity more
    (λ i h. rw (same-used k i h, same_place k (used_at xs i) (e.used i h).0) (e.used i h))
    (λ s h. rw (same_place k s h, same-used k (place_at xs s) (e.place s h).0) (e.place s h))
    (λ s h. rw (same_place k s h) (live s h))
  where
    live : (s : ℕ) → s < capacity_of xs → times_in s (marks_of o') ≡ indicator (ltb (place_at xs s) (live_of xs + 1))
    live s h =
        let n = live_of xs in
        let test : eqb s (used_at xs n) ≡ eqb (place_at xs s) n =
        eqb-agree s (used_at xs n) (place_at xs s) n (λ q. ap (place_at xs) q ∙ (e.used n room).1) (λ q. sym (e.place s h).1 ∙ ap (used_at xs) q) in
        slots s ∙ ap₂ ◌+◌ (e.live s h) (ap indicator test) ∙ ltb_next (place_at xs s) n

-- THE EXCHANGE: lists u and p that are each other's inverse below C, and u' and p' after the slot s and the last one changed places
module _ (C last s : ℕ) (u p u' p' : ℕ → ℕ) (hl : last < C) (hs : s < C)
    (used : (j : ℕ) → j < C → (u j < C) × (p (u j) ≡ j)) (place : (q : ℕ) → q < C → (p q < C) × (u (p q) ≡ q))
    (own_place : p' s ≡ last) (last_used : u' last ≡ s)
    (moved_place : (u last ≡ s → ⊥) → p' (u last) ≡ p s) (moved_used : (p s ≡ last → ⊥) → u' (p s) ≡ u last)
    (other_place : (q : ℕ) → q < C → (q ≡ s → ⊥) → (q ≡ u last → ⊥) → p' q ≡ p q)
    (other_used : (j : ℕ) → j < C → (j ≡ last → ⊥) → (j ≡ p s → ⊥) → u' j ≡ u j) where
  -- the last slot is s just where s has the last place
  last-own : u last ≡ s → p s ≡ last
  last-own e = ap p (sym e) ∙ (used last hl).1

  own-last : p s ≡ last → u last ≡ s
  own-last e = ap u (sym e) ∙ (place s hs).1

  exchange-used : (j : ℕ) → j < C → (u' j < C) × (p' (u' j) ≡ j)
  exchange-used j h =
      by_cases (eqb j last)
      (λ t. rw (eqb-true j last t, last_used) (hs, own_place))
      (λ a. by_cases (eqb j (p s))
      (λ t.
      let e = eqb-true j (p s) t in
      let ne : (p s ≡ last → ⊥) = λ z. eqb-false j last a (e ∙ z) in
      rw (e, moved_used ne) ((used last hl).0, moved_place (λ z. ne (last-own z))))
      (λ b.
      let w = used j h in
      rw (other_used j h (eqb-false j last a) (eqb-false j (p s) b)) (
        w.0,
        other_place (u j) w.0 (λ z. eqb-false j (p s) b (sym w.1 ∙ ap p z))
            (λ z. eqb-false j last a (sym w.1 ∙ ap p z ∙ (used last hl).1)) ∙ w.1,
      )))

  exchange-place : (q : ℕ) → q < C → (p' q < C) × (u' (p' q) ≡ q)
  exchange-place q h =
      by_cases (eqb q s)
      (λ t. rw (eqb-true q s t, own_place) (hl, last_used))
      (λ a. by_cases (eqb q (u last))
      (λ t.
      let e = eqb-true q (u last) t in
      let ne : (u last ≡ s → ⊥) = λ z. eqb-false q s a (e ∙ z) in
      rw (e, moved_place ne) ((place s hs).0, moved_used (λ z. ne (own-last z))))
      (λ b.
      let w = place q h in
      rw (other_place q h (eqb-false q s a) (eqb-false q (u last) b)) (
        w.0,
        other_used (p q) w.0 (λ z. eqb-false q (u last) b (sym w.1 ∙ ap u z))
            (λ z. eqb-false q s a (sym w.1 ∙ ap u z ∙ (place s hs).1)) ∙ w.1,
      )))

  -- the live slots, where s was one of them
  module _ (n n' : ℕ → ℕ) (live : (q : ℕ) → q < C → n q ≡ indicator (ltb (p q) (last + 1))) (one : n s ≡ 1)
      (less : (q : ℕ) → n' q + indicator (eqb q s) ≡ n q) where
    own-none : n' s ≡ 0
    own-none = let w = (rw (eq-eqb s s refl) at (less s)) in omega (arith, one)

    other-same : (q : ℕ) → eqb q s ≡ false → n' q ≡ n q
    other-same q a = let w = (rw a at (less q)) in omega arith

    own-live : p s < last + 1
    own-live =
        by_cases (ltb (p s) (last + 1))
        (λ t. ltb-true (p s) (last + 1) t)
        (λ f. absurd (let w = (rw f at (live s hs)) in omega (arith, one)))

    exchange-live : (q : ℕ) → q < C → n' q ≡ indicator (ltb (p' q) last)
    exchange-live q h =
        by_cases (eqb q s)
        (λ t. rw (eqb-true q s t, own_place, le-ltb last last (omega arith)) own-none)
        (λ a. by_cases (eqb q (u last))
        (λ t.
        let e = eqb-true q (u last) t in
        let ne : (u last ≡ s → ⊥) = λ z. eqb-false q s a (e ∙ z) in
        let apart : (p s ≡ last → ⊥) = λ z. ne (own-last z) in
        let at : p q ≡ last = ap p e ∙ (used last hl).1 in
        let moved : p' q ≡ p s = ap p' e ∙ moved_place ne in
        rw (moved, lt-ltb (p s) last (omega (arith, own-live)))
        (other-same q a ∙ live q h ∙ ap indicator (lt-ltb (p q) (last + 1) (omega arith))))
        (λ b.
        let apart : (p q ≡ last → ⊥) = λ z. eqb-false q (u last) b (sym (place q h).1 ∙ ap u z) in
        let w = (rw (ne_eqb (p q) last apart) at (ltb_next (p q) last)) in
        rw (other_place q h (eqb-false q s a) (eqb-false q (u last) b)) (omega (arith, other-same q a, live q h))))

    exchange : ((j : ℕ) → j < C → (u' j < C) × (p' (u' j) ≡ j)) × ((q : ℕ) → q < C → (p' q < C) × (u' (p' q) ≡ q))
        × ((q : ℕ) → q < C → n' q ≡ indicator (ltb (p' q) last))
    exchange = (exchange-used, exchange-place, exchange-live)

-- the same in words: the last slot takes the place of the slot s
module _ (last s : ℕ) (zs : List ℕ) where
  abbrev C : ℕ
  C = capacity_of zs

  abbrev vacated : ℕ
  vacated = place_at zs s

  abbrev moved_slot : ℕ
  moved_slot = used_at zs last

  abbrev w1 : List ℕ
  w1 = set zs (used_place C vacated) moved_slot

  abbrev w2 : List ℕ
  w2 = set w1 (place_place C moved_slot) vacated

  abbrev w3 : List ℕ
  w3 = set w2 (used_place C last) s

  abbrev w4 : List ℕ
  w4 = set w3 (place_place C s) last

  abbrev w5 : List ℕ
  w5 = set w4 live_place last

  w3-length : length w3 ≡ length zs
  w3-length = length-set w2 (used_place C last) s ∙ length-set w1 (place_place C moved_slot) vacated ∙ length-set zs (used_place C vacated) moved_slot

  w4-length : length w4 ≡ length zs
  w4-length = length-set w3 (place_place C s) last ∙ w3-length

  w5-length : length w5 ≡ length zs
  w5-length = length-set w4 live_place last ∙ w4-length

  -- a word that is none of the five
  w5-other : (j : ℕ) → (j ≡ live_place → ⊥) → (j ≡ place_place C s → ⊥) → (j ≡ used_place C last → ⊥)
      → (j ≡ place_place C moved_slot → ⊥)
      → (j ≡ used_place C vacated → ⊥) → get_or w5 j 0 ≡ get_or zs j 0
  w5-other j a b c d e =
      get_or-set_other w4 live_place j last 0 a ∙ get_or-set_other w3 (place_place C s) j last 0 b ∙ get_or-set_other w2 (used_place C last) j s 0 c
      ∙ get_or-set_other w1 (place_place C moved_slot) j vacated 0 d ∙ get_or-set_other zs (used_place C vacated) j moved_slot 0 e

  module _ (hi : vacated < C) (hk : moved_slot < C) (hl : last < C) (hs : s < C) (room : place_place C C ≤ length zs) where
    w5-live : get_or w5 live_place 0 ≡ last
    w5-live = get_or-set_same w4 live_place last 0 (omega (arith, w4-length))

    w5-place-own : get_or w5 (place_place C s) 0 ≡ last
    w5-place-own =
        get_or-set_other w4 live_place (place_place C s) last 0 (omega arith) ∙ get_or-set_same w3 (place_place C s) last 0 (omega (arith, w3-length))

    w5-used-last : get_or w5 (used_place C last) 0 ≡ s
    w5-used-last =
        let j = used_place C last in
        get_or-set_other w4 live_place j last 0 (omega arith) ∙ get_or-set_other w3 (place_place C s) j last 0 (omega arith)
        ∙ get_or-set_same w2 j s 0 (omega (arith, length-set w1 (place_place C moved_slot) vacated, length-set zs (used_place C vacated) moved_slot))

    w5-place-moved : (moved_slot ≡ s → ⊥) → get_or w5 (place_place C moved_slot) 0 ≡ vacated
    w5-place-moved ne =
        let j = place_place C moved_slot in
        get_or-set_other w4 live_place j last 0 (omega arith) ∙ get_or-set_other w3 (place_place C s) j last 0 (λ e. ne (omega arith))
        ∙ get_or-set_other w2 (used_place C last) j s 0 (omega arith)
        ∙ get_or-set_same w1 j vacated 0 (omega (arith, length-set zs (used_place C vacated) moved_slot))

    w5-used-moved : (vacated ≡ last → ⊥) → get_or w5 (used_place C vacated) 0 ≡ moved_slot
    w5-used-moved ne =
        let j = used_place C vacated in
        get_or-set_other w4 live_place j last 0 (omega arith) ∙ get_or-set_other w3 (place_place C s) j last 0 (omega arith)
        ∙ get_or-set_other w2 (used_place C last) j s 0 (λ e. ne (omega arith)) ∙ get_or-set_other w1 (place_place C moved_slot) j vacated 0 (omega arith)
        ∙ get_or-set_same zs j moved_slot 0 (omega arith)

    w5-place-other : (q : ℕ) → q < C → (q ≡ s → ⊥) → (q ≡ moved_slot → ⊥)
        → get_or w5 (place_place C q) 0 ≡ get_or zs (place_place C q) 0
    w5-place-other q h a b =
        w5-other (place_place C q) (omega arith) (λ e. a (omega arith)) (omega arith) (λ e. b (omega arith)) (omega arith)

    w5-used-other : (j : ℕ) → j < C → (j ≡ last → ⊥) → (j ≡ vacated → ⊥) → get_or w5 (used_place C j) 0 ≡ get_or zs (used_place C j) 0
    w5-used-other j h a b =
        w5-other (used_place C j) (omega arith) (omega arith) (λ e. a (omega arith)) (omega arith) (λ e. b (omega arith))

    w5-exchange : {o : Option SlotMain} (o' : Option SlotMain) → live_of zs ≡ last + 1 → EachOnce zs o → times_in s (marks_of o) ≡ 1
        → ((q : ℕ) → times_in q (marks_of o') + indicator (eqb q s) ≡ times_in q (marks_of o)) → EachOnce w5 o'
    w5-exchange {o = o} o' many e one less =
        let x =
        exchange C last s (used_at zs) (place_at zs) (λ j. get_or w5 (used_place C j) 0) (λ q. get_or w5 (place_place C q) 0) hl hs e.used e.place
        w5-place-own w5-used-last w5-place-moved w5-used-moved w5-place-other w5-used-other (λ q. times_in q (marks_of o)) (λ q. times_in q (marks_of o'))
        (subst (λ n. (q : ℕ) → q < C → times_in q (marks_of o) ≡ indicator (ltb (place_at zs q) n)) many e.live) one less in
        each-once-by C last (w5-other capacity_place (omega arith) (omega arith) (omega arith) (omega arith) (omega arith)) w5-live x.0 x.1 x.2

-- a word that is not the number of live marks, and of none of the lists of slots
abbrev pub OffLists : ℕ → ℕ → Type 0
OffLists C i = (i ≡ live_place → ⊥) × Off (used_place C 0) (run_place C 0) i

-- STRIKE: a slot freed. In these words the slot, its place, the last live place and the slot there are below the capacity.
pub record Freeing (s : ℕ) (zs : List ℕ) : Type 0 where
  pub own : s < capacity_of zs
  pub place : place_at zs s < capacity_of zs
  pub last : live_of zs - 1 < capacity_of zs
  pub moved : used_at zs (live_of zs - 1) < capacity_of zs

module _ (s : ℕ) (zs : List ℕ) where
  free_slot-is : free_slot♯ s zs ≡ w5 (live_of zs - 1) s zs
  unfolding free_slot♯ free_within exchanged
  free_slot-is = refl

  pub free_slot-unchanged : Freeing s zs → Unchanged (OffLists (capacity_of zs)) zs (free_slot♯ s zs)
  free_slot-unchanged a = record {
    long = ap length free_slot-is ∙ w5-length (live_of zs - 1) s zs;
    same = λ j o.
        ap (λ ws. get_or ws j 0) free_slot-is
        ∙ w5-other (live_of zs - 1) s zs j o.0
        (λ e. omega (arith, o.1 (omega arith), a.own)) (λ e. omega (arith, o.1 (omega arith), a.last))
        (λ e. omega (arith, o.1 (omega arith), a.moved)) (λ e. omega (arith, o.1 (omega arith), a.place));
  }

  pub free_slot-live : live_place < length zs → live_of (free_slot♯ s zs) ≡ live_of zs - 1
  free_slot-live room =
      let l = live_of zs - 1 in
      ap (λ ws. live_of ws) free_slot-is ∙ get_or-set_same (w4 l s zs) live_place l 0 (omega (arith, w4-length l s zs))

-- the lists of words that agree with others whose lists are right
pub each-once-same : {xs zs : List ℕ} {o : Option SlotMain} → SameLists xs zs → live_of zs ≡ live_of xs → EachOnce xs o → EachOnce zs o
each-once-same {xs = xs} k many e =
    each-once-by (capacity_of xs) (live_of xs) k.capacity many
    (λ i h. rw (same-used k i h, same_place k (used_at xs i) (e.used i h).0) (e.used i h))
    (λ s h. rw (same_place k s h, same-used k (place_at xs s) (e.place s h).0) (e.place s h))
    (λ s h. rw (same_place k s h) (e.live s h))

module _ {zs : List ℕ} {o : Option SlotMain} (e : EachOnce zs o) (s : ℕ) (own : s < capacity_of zs) (full : live_of zs ≤ capacity_of zs)
    (one : times_in s (marks_of o) ≡ 1) where
  struck-placed : place_at zs s < live_of zs
  struck-placed =
      by_cases (ltb (place_at zs s) (live_of zs))
      (λ t. ltb-true (place_at zs s) (live_of zs) t)
      (λ f. absurd (let w = (rw f at (e.live s own)) in omega (arith, one)))

  pub freeing : Freeing s zs
  freeing =
      let last : live_of zs - 1 < capacity_of zs = omega (arith, struck-placed) in
      record { own = own; place = (e.place s own).0; last = last; moved = (e.used (live_of zs - 1) last).0 }

  pub each-once-freed : {o' : Option SlotMain} → place_place (capacity_of zs) (capacity_of zs) ≤ length zs
      → ((q : ℕ) → times_in q (marks_of o') + indicator (eqb q s) ≡ times_in q (marks_of o)) → EachOnce (free_slot♯ s zs) o'
  each-once-freed {o'} room less =
      let a = freeing in
      subst (λ ws. EachOnce ws o') (sym (free_slot-is s zs))
      (w5-exchange (live_of zs - 1) s zs a.place a.moved a.last own room o' (omega (arith, struck-placed)) e one less)

-- the same from the lists before the tree was struck
pub each-once-strike : {xs zs : List ℕ} {o o' : Option SlotMain} → SameLists xs zs → live_of zs ≡ live_of xs → EachOnce xs o → (s : ℕ)
    → s < capacity_of xs
    → live_of xs ≤ capacity_of xs → times_in s (marks_of o) ≡ 1 → place_place (capacity_of xs) (capacity_of xs) ≤ length zs
    → ((q : ℕ) → times_in q (marks_of o') + indicator (eqb q s) ≡ times_in q (marks_of o))
    → EachOnce (free_slot♯ s zs) o' × (live_of (free_slot♯ s zs) ≡ live_of xs - 1)
each-once-strike {xs = xs} {zs = zs} {o = o} {o' = o'} k many e s own full one room less =
    let cap = sym k.capacity in (
      each-once-freed (each-once-same k many e) s (subst (λ c. s < c) cap own) (rw (k.capacity, many) full) one (rw k.capacity room) less,
      free_slot-live s zs (omega arith) ∙ ap (λ n. n - 1) many,
    )

-- so the freeing of a slot keeps the marks, the tree and its rules
module _ {s : ℕ} {zs : List ℕ} (a : Freeing s zs) where
  pub free_slot-capacity : capacity_of (free_slot♯ s zs) ≡ capacity_of zs
  free_slot-capacity = (free_slot-unchanged s zs a).same capacity_place (omega arith)

  free_slot-root : arm_at (free_slot♯ s zs) root_place ≡ arm_at zs root_place
  free_slot-root = unchanged-arm (free_slot-unchanged s zs a) root_place (omega arith)

  free_slot-two : (t : SlotMain) → TwoFold (slot_mark zs) (capacity_of zs) 0 zs t → TwoFold (slot_mark zs) (capacity_of zs) 0 (free_slot♯ s zs) t
  free_slot-two t h = unchanged-two (free_slot-unchanged s zs a) 0 t (omega arith) (λ q c. let n = c.0 in omega arith) (omega arith) h

  pub free_slot-holds : (o : Option SlotMain) → HoldsTree zs o → TreeByRules zs o → HoldsTree (free_slot♯ s zs) o
  free_slot-holds none h r = ap (λ a. a.weight) free_slot-root ∙ h
  free_slot-holds (some t) h r = settled-holds t (free_slot-root ∙ h.0) (free_slot-two t h.1) r free_slot-capacity

  pub free_slot-rules : (o : Option SlotMain) → HoldsTree zs o → TreeByRules zs o → TreeByRules (free_slot♯ s zs) o
  free_slot-rules none h r = tt
  free_slot-rules (some t) h r = settled-rules t (free_slot-root ∙ h.0) (free_slot-two t h.1) r

  pub free_slot-stands : (o : Option SlotMain) → HoldsTree zs o → TreeByRules zs o
      → marks_main (slot_mark (free_slot♯ s zs)) o ≡ marks_main (slot_mark zs) o
  free_slot-stands none h r = refl
  free_slot-stands (some t) h r = settled-stands t (free_slot-root ∙ h.0) (free_slot-two t h.1) r
