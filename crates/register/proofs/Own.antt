-- The table's own words, W(C) of those lent: where they are, and what stands in them and beyond. Assumes nothing.
use Prim.Native.Nat.{ℕ, ◌≤◌, ◌<◌}
use mathlib.Core.Path.{◌≡◌, sym, ap, ◌∙◌}
use mathlib.Core.Bool.{true, false}
use mathlib.Core.List.{List, ◌++◌}
use native.Mathlib.Omega.{arith}
use lib.Dec.{eqb, ltb}
use lib.ListN.{length, get_or, take, drop, length-take, take-append-drop, get_or-append}
use lib.Seq.{get_or-take, length-take-le, take_at}
use borrow.Author.Tests.{eqb-true, eqb-false, ltb-false}
use Rattle.model.specs.Sizes.{W, capacity_outside}
use Rattle.model.specs.Sheet.{Main}
use Rattle.model.specs.Refusals.{accepted, refused, open_table}
use Rattle.model.proofs.Logic.{by_cases}
use Rattle.model.proofs.Sizes.{capacity-small}
use Rattle.table.specs.Layout.{open_place, capacity_place, live_place, runs_end}
use Rattle.nodes.proofs.Levels.{W-words}
use Rattle.twofold_layout.specs.Sound.{Holding}
use Rattle.table.specs.Header.{capacity_of, live_of, not_table, own_words, HeaderOf}
use Rattle.twofold_layout.proofs.Sound.{live-within}
use Rattle.table.specs.declared.header.Header.{Header}
use Rattle.table.proofs.Own.{own-table, table-own, own-visits-few}
use Rattle.register.specs.Mirrors.{OfHeader}
use Rattle.register.specs.Performs.{own}

pub own-fits : (xs : List ℕ) → own_words xs ≤ length xs
own-fits xs =
    by_cases (eqb (own_words xs) 0)
    (λ t. omega (arith, eqb-true (own_words xs) 0 t))
    (λ f. let k = own-table xs (eqb-false (own_words xs) 0 f) in omega (arith, k.3, k.4))

-- an opening is accepted exactly for a capacity in its range and as many words as it needs
pub open-needs : (c lent n : ℕ) → open_table c lent ≡ accepted n → (capacity_outside c ≡ false) × (n ≡ W c) × (W c ≤ lent)
unfolding open_table
open-needs c lent n e =
    by_cases (capacity_outside c)
    (λ t. clash (rw t at e))
    (λ f. by_cases (ltb lent (W c))
    (λ t. clash (rw (f, t) at e))
    (λ g. let k : accepted (W c) ≡ accepted n = (rw (f, g) at e) in (f, cc, ltb-false lent (W c) g)))
  where
    clash : {k : ℕ} {A : Type 0} → refused k ≡ accepted n → A
    clash p = absurd (let z : ◌≡◌ {A = ℕ} 0 1 = cc in omega arith)

pub open-fits : (c lent n : ℕ) → open_table c lent ≡ accepted n → n ≤ lent
open-fits c lent n e = omega (arith, (open-needs c lent n e).1, (open-needs c lent n e).2)

pub open-room : (c n : ℕ) (xs : List ℕ) → open_table c (length xs) ≡ accepted n → runs_end c ≤ length (take n xs)
open-room c n xs e =
    let k = open-needs c (length xs) n e in
    omega (arith, length-take-le n xs (omega (arith, k.1, k.2)), k.1, W-words c)

-- where 3 does not apply

pub W-header : (c : ℕ) → 64 ≤ W c
unfolding W
W-header c = omega arith

pub own-none : (xs : List ℕ) → own_words xs ≡ 0 → not_table xs ≡ true
unfolding own_words
own-none xs z = by_cases (not_table xs) (λ t. t) (λ f. absurd (omega (arith, W-header (capacity_of xs), (rw f at z))))

pub own-some : (xs : List ℕ) → (own_words xs ≡ 0 → ⊥) → not_table xs ≡ false
unfolding own_words
own-some xs z = by_cases (not_table xs) (λ t. absurd (z (rw t))) (λ f. f)

-- the header of the own words is the table's
module _ (xs : List ℕ) where
  own-header : (i : ℕ) → i < 64 → get_or (own xs) i 0 ≡ get_or xs i 0
  own-header i h = get_or-take (W (capacity_of xs)) xs i 0 (omega (arith, W-header (capacity_of xs)))

  pub own-capacity : capacity_of (own xs) ≡ capacity_of xs
  own-capacity = own-header capacity_place (omega arith)

  pub own-live : live_of (own xs) ≡ live_of xs
  own-live = own-header live_place (omega arith)

  module _ (table : own_words xs ≡ 0 → ⊥) where
    pub own_is : take (own_words xs) xs ≡ own xs
    own_is = ap (λ n. take n xs) (own-table xs table).3

    pub own-length : length (own xs) ≡ W (capacity_of xs)
    own-length = length-take-le (W (capacity_of xs)) xs (own-table xs table).4

    pub own-beyond : own xs ++ drop (W (capacity_of xs)) xs ≡ xs
    own-beyond = take-append-drop (W (capacity_of xs)) xs

  -- a sound table is one, whatever stands beyond it
  pub sound-table : {T : Main} → Holding (own xs) T → own_words xs ≡ 0 → ⊥
  sound-table h z =
      let c = own-capacity in
      let long : W (capacity_of xs) ≤ length xs = omega (arith, h.long, ap W c, length-take (W (capacity_of xs)) xs) in
      let k = table-own xs (sym (own-header open_place (omega arith)) ∙ h.is_open) (ap capacity_outside (sym c) ∙ h.capacity)
      (omega (arith, live-within h, c, own-live)) long in
      omega (arith, k.0, k.1)

-- the own words as the code lends them: those of a table of the capacity that the header says, and no more marks are live than the largest capacity
module _ {xs : List ℕ} {h : Header} (o : HeaderOf xs h) where
  pub part-some : own_words xs ≡ 0 → ⊥
  part-some z = o.some (o.words ∙ z)

  pub part-own : take h.words xs ≡ own xs
  part-own = ap (λ n. take n xs) o.words ∙ own_is xs part-some

  pub part-fits : h.words ≤ length xs
  part-fits = omega (arith, o.words, own-fits xs)

  pub part-length : h.words ≡ length (take h.words xs)
  part-length = sym (length-take-le h.words xs part-fits)

  pub part-header : OfHeader h (take h.words xs)
  part-header =
      let k = own-table xs part-some in
      rw part-own (record {
        capacity = (o.capacity ∙ sym (own-capacity xs), omega (arith, W-words h.capacity, own-length xs part-some, ap W o.capacity));
        small = omega (arith, o.capacity, capacity-small (capacity_of xs) k.1);
        live = o.live ∙ sym (own-live xs);
        few = omega (arith, k.2, o.live, o.capacity);
        visits = omega (arith, o.visits, own-visits-few xs);
      })

-- words that hold a tree, with others behind them: the own words are those that hold it
module _ {ws : List ℕ} {T : Main} (h : Holding ws T) (rest : List ℕ) where
  pub held-capacity : capacity_of (ws ++ rest) ≡ capacity_of ws
  held-capacity = get_or-append ws rest 0 capacity_place (omega (arith, h.long, W-header (capacity_of ws)))

  pub held-own : own (ws ++ rest) ≡ ws
  held-own = take_at ws rest (W (capacity_of (ws ++ rest))) (h.long ∙ ap W (sym held-capacity))
