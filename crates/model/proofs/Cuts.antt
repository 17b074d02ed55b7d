-- Panes that share a cut (R-2). Where panes are laid out over a box edge to edge, what the box comes to under any operation with laws is what the panes come
-- to, joined; the two parts of a box that a line cuts are such panes, along x and along y by one law. For a plain list and for the answers of the history.
-- And a box without a side is accepted and empty. Assumes nothing.
use Rattle.std.specs.Prelude.{if◌then◌else◌}
use Prim.Native.Nat.{ℕ, ◌+◌, max, ◌≤◌}
use mathlib.Core.Path.{◌≡◌, refl, sym, ap, ap₂, fun_ext, ◌∙◌}
use mathlib.Core.Logic.{◌⊎◌, inl, inr}
use mathlib.Core.Bool.{Bool, true, false, ◌&&◌}
use mathlib.Core.List.{List, [], ◌∷◌, ◌++◌}
use native.Mathlib.Omega.{arith}
use lib.Dec.{ltb, leb}
use borrow.Author.Tests.{lt-ltb, le-ltb, ltb-true, leb-true, leb-false, le-leb}
use Rattle.model.specs.Lists.{indicator, count_if}
use Rattle.model.specs.Totals.{Operation, total, figure_if, total_if, counting}
use Rattle.model.specs.Axis.{on_side}
use Rattle.model.specs.Sizes.{passes, rise_passes}
use Rattle.model.specs.Sheet.{Mark, Box, box, box_crossed, from_x1, to_x2, from_y1, to_y2, holds, summing, worst, along_x, along_y, main}
use Rattle.model.specs.Refusals.{enter_box}
use Rattle.model.specs.History.{count, list, State, counted, listed_in, answer}
use Rattle.model.specs.Laws.{OperationLaws, All, nil, cons}
use Rattle.model.specs.Cuts.{Cut, across_x, across_y, Tiles, AddsUp}
use Rattle.model.proofs.Logic.{by_cases}
use Rattle.model.proofs.Lists.{count_if-append, count_if-none, filter_by-none}
use Rattle.model.proofs.Totals.{counting-laws, total-count, join-zero, total_if-none}
use Rattle.model.proofs.TwoFold.{summing-laws, worst-laws}

-- of four figures the second and the third change places
swap : {M : Type 0} (P : Operation M) → OperationLaws P → (a b c d : ℕ) → P.join (P.join a b) (P.join c d) ≡ P.join (P.join a c) (P.join b d)
swap P L a b c d =
    L.assoc a b (P.join c d)
    ∙ ap (P.join a) (sym (L.assoc b c d) ∙ ap (λ n. P.join n d) (L.comm b c) ∙ L.assoc c b d)
    ∙ sym (L.assoc a c (P.join b d))

-- figures of panes, of any kind N, joined
module _ {M N : Type 0} (P : Operation M) (L : OperationLaws P) where
  total-zero : (ps : List N) → total P.join (λ p. 0) ps ≡ 0
  total-zero [] = refl
  total-zero (p ∷ ps) = L.neutral (total P.join (λ p. 0) ps) ∙ total-zero ps

  total-both : (f g : N → ℕ) (ps : List N)
      → P.join (total P.join f ps) (total P.join g ps) ≡ total P.join (λ p. P.join (f p) (g p)) ps
  total-both f g [] = L.neutral 0
  total-both f g (p ∷ ps) =
      swap P L (f p) (total P.join f ps) (g p) (total P.join g ps) ∙ ap (P.join (P.join (f p) (g p))) (total-both f g ps)

  -- a mark that is in one pane or in none counts once, or not at all
  module _ (within : N → M → Bool) (m : M) where
    once : (t : Bool) (ps : List N) → count_if (λ p. within p m) ps ≡ indicator t
        → (if t then P.of m else 0) ≡ total P.join (λ p. figure_if P (within p) m) ps
    once true [] e = absurd (omega arith)
    once false [] e = refl
    once true (p ∷ ps) e =
        by_cases (within p m)
        (λ u. let rest = (rw u at e) in rw (u, ← once false ps (omega arith)) (sym (join-zero P L (P.of m))))
        (λ u. let rest = (rw u at e) in rw (u, ← once true ps (omega arith)) (sym (L.neutral (P.of m))))
    once false (p ∷ ps) e =
        by_cases (within p m)
        (λ u. let rest = (rw u at e) in absurd (omega arith))
        (λ u. let rest = (rw u at e) in rw (u, ← once false ps (omega arith)) (sym (L.neutral 0)))

  tiles-join : (q : M → Bool) (within : N → M → Bool) (ps : List N) → ((m : M) → count_if (λ p. within p m) ps ≡ indicator (q m)) → (l : List M)
      → total_if P q l ≡ total P.join (λ p. total_if P (within p) l) ps
  tiles-join q within ps t [] = sym (total-zero ps)
  tiles-join q within ps t (m ∷ l) =
      ap₂ P.join (once within m (q m) ps (t m)) (tiles-join q within ps t l)
      ∙ total-both (λ p. figure_if P (within p) m) (λ p. total_if P (within p) l) ps

-- THE PANES, of a plain list and for any operation with laws
pub tiles-total : (b : Box) (ps : List Box) → Tiles b ps → (P : Operation Mark) → OperationLaws P → (l : List Mark)
    → total_if P (holds b) l ≡ total P.join (λ p. total_if P (holds p) l) ps
tiles-total b ps t P L l = tiles-join P L (holds b) holds ps t l

-- what passes a test passes exactly one of two others, and what does not passes neither
data Split : Bool → Bool → Bool → Type 0 where
  in_near : Split true true false
  in-far : Split true false true
  in-none : Split false false false

split-and : (d : Bool) {a b c : Bool} → Split a b c → Split (a && d) (b && d) (c && d)
split-and true in_near = in_near
split-and true in-far = in-far
split-and false in_near = in-none
split-and false in-far = in-none
split-and d in-none = in-none

and_split : (d : Bool) {a b c : Bool} → Split a b c → Split (d && a) (d && b) (d && c)
and_split true s = s
and_split false s = in-none

-- a side from lo to hi, cut at c: for x and y alike
side-split : (lo c hi v : ℕ) → lo ≤ c → c ≤ hi → Split (leb lo v && ltb v hi) (leb lo v && ltb v c) (leb c v && ltb v hi)
side-split lo c hi v h k =
    by_cases (leb c v)
    (λ t.
    let u = leb-true c v t in
    rw (t, le-leb lo v (omega arith), le-ltb v c (omega arith)) (by_cases (ltb v hi) (λ w. rw w in-far) (λ w. rw w in-none)))
    (λ t.
    let u = leb-false c v t in
    rw (t, lt-ltb v c (omega arith), lt-ltb v hi (omega arith)) (by_cases (leb lo v) (λ w. rw w in_near) (λ w. rw w in-none)))

-- each mark of the whole is in exactly one part
module _ (b : Box) (c : ℕ) (m : Mark) where
  across_x-holds : b.x1 ≤ c → c ≤ b.x2 → Split (holds b m) (holds (box b.x1 c b.y1 b.y2) m) (holds (box c b.x2 b.y1 b.y2) m)
  unfolding holds from_x1 to_x2 from_y1 to_y2
  across_x-holds h k = split-and (on_side along_y b m.y) (side-split b.x1 c b.x2 m.x h k)

  across_y-holds : b.y1 ≤ c → c ≤ b.y2 → Split (holds b m) (holds (box b.x1 b.x2 b.y1 c) m) (holds (box b.x1 b.x2 c b.y2) m)
  unfolding holds from_x1 to_x2 from_y1 to_y2
  across_y-holds h k = and_split (on_side along_x b m.x) (side-split b.y1 c b.y2 m.y h k)

cut_holds : {b near far : Box} → Cut b near far → (m : Mark) → Split (holds b m) (holds near m) (holds far m)
cut_holds {b} (across_x c h k) m = across_x-holds b c m h k
cut_holds {b} (across_y c h k) m = across_y-holds b c m h k

split-count : {a b c : Bool} → Split a b c → indicator b + indicator c ≡ indicator a
split-count in_near = refl
split-count in-far = refl
split-count in-none = refl

-- so a box is laid out with itself, and one that is cut with what its parts are laid out with: however often it is cut
pub uncut-tiles : (b : Box) → Tiles b (b ∷ [])
uncut-tiles b m = omega arith

pub cut-tiles : {b near far : Box} → Cut b near far → (ps qs : List Box) → Tiles near ps → Tiles far qs → Tiles b (ps ++ qs)
cut-tiles c ps qs s t m =
    count_if-append (λ p. holds p m) ps qs ∙ ap₂ ◌+◌ (s m) (t m) ∙ split-count (cut_holds c m)

-- the parts of a box are the wrong way round exactly where the box is
cut-crossed : {b near far : Box} → Cut b near far → (box_crossed near ≡ box_crossed b) × (box_crossed far ≡ box_crossed b)
unfolding box_crossed
cut-crossed {b} (across_x c h k) = let e = le-ltb b.x2 b.x1 (omega arith) in (rw (le-ltb c b.x1 h, e), rw (le-ltb b.x2 c k, e))
cut-crossed {b} (across_y c h k) = let e = le-ltb b.y2 b.y1 (omega arith) in (rw (le-ltb c b.y1 h, e), rw (le-ltb b.y2 c k, e))

-- a box without a side, or with one the wrong way round, holds nothing
abbrev Narrow : Box → Type 0
Narrow b = (b.x2 ≤ b.x1) ⊎ (b.y2 ≤ b.y1)

side-narrow : (lo hi v : ℕ) → hi ≤ lo → (leb lo v && ltb v hi) ≡ false
side-narrow lo hi v h = by_cases (leb lo v) (λ t. rw (t, le-ltb v hi (omega (arith, leb-true lo v t)))) (λ t. rw t)

and-false : (d : Bool) → (d && false) ≡ false
and-false true = refl
and-false false = refl

narrow-holds : (b : Box) → Narrow b → (m : Mark) → holds b m ≡ false
unfolding holds from_x1 to_x2 from_y1 to_y2
narrow-holds b (inl h) m = rw (side-narrow b.x1 b.x2 m.x h)
narrow-holds b (inr h) m = rw (side-narrow b.y1 b.y2 m.y h) (and-false (leb b.x1 m.x && ltb m.x b.x2))

narrow-all : (b : Box) → Narrow b → (l : List Mark) → All (λ m. holds b m ≡ false) l
narrow-all b n [] = nil
narrow-all b n (m ∷ l) = cons (narrow-holds b n m) (narrow-all b n l)

crossed-narrow : (b : Box) → box_crossed b ≡ true → Narrow b
unfolding box_crossed
crossed-narrow b e =
    by_cases (ltb b.x2 b.x1)
    (λ t. inl (omega (arith, ltb-true b.x2 b.x1 t)))
    (λ f. inr (omega (arith, ltb-true b.y2 b.y1 (rw f at e))))

-- so the figures of a count are those of the plain list's marks that the box holds, where it is refused by 6 too
module _ (b : Box) (s : State) where
  answer-number : (answer (count b) s).number ≡ (if box_crossed b then 6 else 0)
  unfolding enter_box
  answer-number = by_cases (box_crossed b) (λ t. rw t) (λ t. rw t)

  answer-k : (answer (count b) s).k ≡ count_if (holds b) s.plain
  unfolding enter_box
  answer-k = by_cases (box_crossed b) (λ t. rw (t, count_if-none (holds b) (narrow-all b (crossed-narrow b t) s.plain))) (λ t. rw t)

  answer-sum : (answer (count b) s).sum ≡ total_if summing (holds b) s.plain
  unfolding enter_box
  answer-sum =
      by_cases (box_crossed b) (λ t. rw (t, total_if-none summing summing-laws (holds b) (narrow-all b (crossed-narrow b t) s.plain))) (λ t. rw t)

  answer-worst : (answer (count b) s).worst ≡ total_if worst (holds b) s.plain
  unfolding enter_box
  answer-worst =
      by_cases (box_crossed b) (λ t. rw (t, total_if-none worst worst-laws (holds b) (narrow-all b (crossed-narrow b t) s.plain))) (λ t. rw t)

-- THE PANES, of the history's answers
pub tiles-answers : (b : Box) (ps : List Box) → Tiles b ps → (s : State)
    → ((answer (count b) s).k ≡ total ◌+◌ (λ p. (answer (count p) s).k) ps)
    × ((answer (count b) s).sum ≡ total ◌+◌ (λ p. (answer (count p) s).sum) ps)
    × ((answer (count b) s).worst ≡ total max (λ p. (answer (count p) s).worst) ps)
tiles-answers b ps t s = (
  answer-k b s
      ∙ sym (total-count (holds b) s.plain)
      ∙ tiles-total b ps t counting counting-laws s.plain
      ∙ ap (λ f. total ◌+◌ f ps) (fun_ext (λ p. total-count (holds p) s.plain ∙ sym (answer-k p s))),
  answer-sum b s ∙ tiles-total b ps t summing summing-laws s.plain ∙ ap (λ f. total ◌+◌ f ps) (fun_ext (λ p. sym (answer-sum p s))),
  answer-worst b s ∙ tiles-total b ps t worst worst-laws s.plain ∙ ap (λ f. total max f ps) (fun_ext (λ p. sym (answer-worst p s))),
)

module _ {b near far : Box} (c : Cut b near far) where
  parts : Tiles b (near ∷ far ∷ [])
  parts = cut-tiles c (near ∷ []) (far ∷ []) (uncut-tiles near) (uncut-tiles far)

  -- THE CUT, of a plain list and for any operation with laws
  pub cut-total : (P : Operation Mark) → OperationLaws P → (l : List Mark)
      → total_if P (holds b) l ≡ P.join (total_if P (holds near) l) (total_if P (holds far) l)
  cut-total P L l = tiles-total b (near ∷ far ∷ []) parts P L l ∙ ap (P.join (total_if P (holds near) l)) (join-zero P L (total_if P (holds far) l))

  -- and of the history's answers, whatever the box
  pub cut-answers : (s : State) → AddsUp (answer (count near) s) (answer (count far) s) (answer (count b) s)
  cut-answers s =
      let e = cut-crossed c in
      let t = tiles-answers b (near ∷ far ∷ []) parts s in
      record {
        near_number = answer-number near s ∙ ap (λ t. if t then 6 else 0) e.0 ∙ sym (answer-number b s);
        far_number = answer-number far s ∙ ap (λ t. if t then 6 else 0) e.1 ∙ sym (answer-number b s);
        k = omega (arith, t.0);
        sum = omega (arith, t.1);
        worst = omega (arith, t.2);
      }

-- "A box with x1 = x2 is empty and accepted", and so is one with y1 = y2: it gives 0 beside the visits of the written search
module _ (b : Box) (empty : (b.x1 ≡ b.x2) ⊎ (b.y1 ≡ b.y2)) (straight : box_crossed b ≡ false) (s : State) where
  none : All (λ m. holds b m ≡ false) s.plain
  none = narrow-all b (go empty) s.plain
    where
      go : (b.x1 ≡ b.x2) ⊎ (b.y1 ≡ b.y2) → Narrow b
      go (inl e) = inl (omega (arith, e))
      go (inr e) = inr (omega (arith, e))

  pub empty-count : answer (count b) s ≡ counted 0 (main.count b s.tree).visits 0 0
  unfolding enter_box
  empty-count = rw (
    straight,
    count_if-none (holds b) none,
    total_if-none summing summing-laws (holds b) none,
    total_if-none worst worst-laws (holds b) none,
  )

  pub empty-list : (first second : ℕ) → answer (list b first second) s ≡ listed_in 1 [] (main.list b s.tree).visits
  unfolding enter_box passes rise_passes
  empty-list first second = rw (straight, filter_by-none (holds b) none, le-ltb first 0 (omega arith), le-ltb second 0 (omega arith))
