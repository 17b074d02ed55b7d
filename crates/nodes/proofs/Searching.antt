-- On words that hold an ordered tree, the mirror of a count adds the model's figures to any kind of tally: for main and auxiliary trees alike. Assumes nothing.
use Prim.Native.Nat.{ℕ, zero, suc, ◌+◌, ◌*◌, ◌/◌, ◌≤◌, ◌<◌}
use mathlib.Core.Path.{◌≡◌, ap, sym, ◌∙◌}
use mathlib.Core.Bool.{Bool, true, false, not}
use mathlib.Core.List.{List, ◌++◌}
use native.Mathlib.Omega.{arith}
use borrow.Author.Tests.{lt-leb}
use Rattle.model.specs.Totals.{counting}
use Rattle.model.specs.Axis.{Axis}
use Rattle.model.specs.Register.{Found, Register}
use Rattle.model.specs.Tree.{Tree, leaf, node, depth, marks, least, greatest}
use Rattle.model.specs.Search.{inside, clear, arrive, together, nothing, search}
use Rattle.model.specs.Sheet.{Mark, Box, sheet}
use Rattle.model.specs.Slots.{slot_space, slot_axis, slot_operation}
use Rattle.model.specs.Laws.{AxisLaws, Straight, Sorted}
use Rattle.model.proofs.Logic.{by_cases, clash, and_left, and_right, or_true_right}
use Rattle.model.proofs.Sorted.{sorted-left, sorted-right}
use Rattle.model.proofs.Tree.{all-least}
use Rattle.model.proofs.Search.{cell-ordered, cells-follow, clear_none}
use Rattle.table.specs.Grades.{joined, grading}
use Rattle.table.specs.Figures.{packed, arrived}
use Rattle.table.proofs.Packing.{joined-assoc, joined-comm, joined-round, packed-joined, grading-laws}
use Rattle.nodes.specs.Arms.{Record, arms, record_at}
use Rattle.nodes.specs.Holds.{number, arm_of}
use Rattle.nodes.specs.Count.{Kind, figures, added, Side, side_along, low_record, low_node, low_from, high_record, high_node, high_from, low_end, high_end}
use Rattle.nodes.specs.Count.{open_record, open_node, open_from, count_tree}

-- a cell that begins past the side is clear of it
pub clear-past : {M I : Type 0} (A : Axis M Box) (b : Box) (t : Tree M I) → A.to_high b (A.at (least t)) ≡ false → clear A b t ≡ true
clear-past A b t e = or_true_right (not (A.from_low b (A.at (greatest t)))) (not (A.to_high b (A.at (least t)))) (rw e)

-- T is a tally, onto which a count's figures are added: those of two trees one after the other, in either order, and those of a node after its own visit
module _ {I T : Type 0} (K : Kind T) (X : Axis Mark Box) (b : Box) (f : ℕ → Mark) (R : Register ℕ Box I)
    (O : AxisLaws (slot_space f sheet) (slot_axis f X))
    (C : ℕ) (xs : List ℕ) (add : Found ℕ → T → T) (add-both : (g h : Found ℕ) (tally : T) → add (together g h) tally ≡ add h (add g tally))
    (add-swap : (g h : Found ℕ) (tally : T) → add g (add h tally) ≡ add h (add g tally))
    (add-arrive : (g : Found ℕ) (tally : T) → add (arrive g) tally ≡ add g (K.visit tally)) where
  abbrev S : Side
  S = side_along X b

  abbrev A : Axis ℕ Box
  A = slot_axis f X

  -- the model's count
  abbrev found : Tree ℕ I → Found ℕ
  found = search (slot_space f sheet) A R b

  -- the side has begun where the cell begins, and where it ends; and has not ended where the cell begins, and where it ends
  abbrev begun : Tree ℕ I → Bool
  begun t = A.from_low b (A.at (least t))

  abbrev begins : Tree ℕ I → Bool
  begins t = A.from_low b (A.at (greatest t))

  abbrev goes_on : Tree ℕ I → Bool
  goes_on t = A.to_high b (A.at (least t))

  abbrev lasts : Tree ℕ I → Bool
  lasts t = A.to_high b (A.at (greatest t))

  abbrev Ordered : Tree ℕ I → Type 0
  Ordered t = Sorted A (marks t)

  begun-begins : (t : Tree ℕ I) → Ordered t → begun t ≡ true → begins t ≡ true
  begun-begins t s e = O.low_rises b (A.at (least t)) (A.at (greatest t)) (cell-ordered (slot_space f sheet) A O t s) e

  lasts-goes_on : (t : Tree ℕ I) → Ordered t → lasts t ≡ true → goes_on t ≡ true
  lasts-goes_on t s e = O.high_falls b (A.at (least t)) (A.at (greatest t)) (cell-ordered (slot_space f sheet) A O t s) e

  -- across the seam of two children
  begins-begun : (l r : Tree ℕ I) → Sorted A (marks l ++ marks r) → begins l ≡ true → begun r ≡ true
  begins-begun l r s e = O.low_rises b (A.at (greatest l)) (A.at (least r)) (cells-follow (slot_space f sheet) A O l r s) e

  goes_on-lasts : (l r : Tree ℕ I) → Sorted A (marks l ++ marks r) → goes_on r ≡ true → lasts l ≡ true
  goes_on-lasts l r s e = O.high_falls b (A.at (greatest l)) (A.at (least r)) (cells-follow (slot_space f sheet) A O l r s) e

  -- a clear cell is visited, and adds nothing
  pub found-clear : (t : Tree ℕ I) → Ordered t → clear A b t ≡ true → found t ≡ nothing
  found-clear (leaf m) s e = let h = all-least {I = I} (leaf m) (clear_none {I = I} (slot_space f sheet) A O b (leaf m) s e) in rw h
  found-clear (node i l r) s e =
      by_cases (inside A b (node i l r))
      (λ t.
      let p = begun-begins (node i l r) s (and_left (begun (node i l r)) (lasts (node i l r)) t) in
      let q = lasts-goes_on (node i l r) s (and_right (begun (node i l r)) (lasts (node i l r)) t) in
      clash e (rw (p, q)))
      (λ t. rw (t, e))

  -- what the arrival at a tree makes of a tally where the tree is inside the side, ends before it, begins past it: its figures are added
  pub record Arrives (base : ℕ) (t : Tree ℕ I) : Type 0 where
    pub takes : inside A b t ≡ true → (tally : T) → K.take base (arm_of X f t) tally ≡ add (found t) tally
    pub skips : begins t ≡ false → (tally : T) → K.before (arm_of X f t) tally ≡ add (found t) tally
    pub passes : goes_on t ≡ false → (tally : T) → K.past tally ≡ add (found t) tally

  -- the record of a node over two trees is there and right
  pub record Opens (base : ℕ) (l r : Tree ℕ I) : Type 0 where
    pub within : least r < C
    pub children : record_at xs (K.place base (least r)) ≡ arms (arm_of X f l) (arm_of X f r)

  -- the words of a table of capacity C hold a tree whose level begins at a word, and what stands beneath it
  abbrev pub Laid : ℕ → Tree ℕ I → Type 0
  Laid base (leaf s) = Arrives base (leaf s)
  Laid base (node i l r) =
      Opens base l r × Arrives base (node i l r) × Laid (K.deeper base) l × Laid (K.deeper base) r

  laid-arrives : (base : ℕ) (t : Tree ℕ I) → Laid base t → Arrives base t
  laid-arrives base (leaf s) h = h
  laid-arrives base (node i l r) h = h.1

  -- an opened node adds what its children do
  opened-adds : (i : I) (l r : Tree ℕ I) → inside A b (node i l r) ≡ false → clear A b (node i l r) ≡ false → (tally : T)
      → add (found (node i l r)) tally ≡ add (found r) (add (found l) (K.visit tally))
  opened-adds i l r t u tally =
      let is : found (node i l r) ≡ arrive (together (found l) (found r)) = rw (t, u) in
      ap (λ g. add g tally) is ∙ add-arrive (together (found l) (found r)) tally ∙ add-both (found l) (found r) (K.visit tally)

  -- one node of each walk, on words that hold its record
  module _ (base : ℕ) (l r : Tree ℕ I) (o : Opens base l r) where
    abbrev both : Record
    both = arms (arm_of X f l) (arm_of X f r)

    half : (2 * least r + 1) / 2 ≡ least r
    half = omega arith

    low-node : (n : ℕ) (tally : T) → low_from K S C xs (suc n) base (2 * least r + 1) tally ≡ low_record K S (low_from K S C xs n) base both tally
    unfolding low_from low_node
    low-node n tally = rw (half, lt-leb C (least r) o.within, o.children)

    high-node : (n : ℕ) (tally : T) → high_from K S C xs (suc n) base (2 * least r + 1) tally ≡ high_record K S (high_from K S C xs n) base both tally
    unfolding high_from high_node
    high-node n tally = rw (half, lt-leb C (least r) o.within, o.children)

    open-node : (n : ℕ) (tally : T) → open_from K S C xs (suc n) base (2 * least r + 1) tally
        ≡ open_record K S C xs (open_from K S C xs n) base both tally
    unfolding open_from open_node
    open-node n tally = rw (half, lt-leb C (least r) o.within, o.children)

  -- beneath a node in which the side begins, and which ends on it, once it is visited
  low-adds : (n base : ℕ) (t : Tree ℕ I) → depth t ≤ n → Laid base t → Ordered t → begun t ≡ false → begins t ≡ true → lasts t ≡ true
      → (tally : T) → low_from K S C xs n base (number t) (K.visit tally) ≡ add (found t) tally
  unfolding low_record
  low-adds n base (leaf m) d h s o p q tally = clash p o
  low-adds zero base (node i l r) d h s o p q tally = absurd (omega arith)
  low-adds (suc n) base (node i l r) d h s o p q tally =
      let sl = sorted-left (marks l) (marks r) s in
      let sr = sorted-right (marks l) (marks r) s in
      let here = K.visit tally in
      let al = laid-arrives (K.deeper base) l h.2 in
      let ar = laid-arrives (K.deeper base) r h.3 in
      low-node base l r h.0 n here
      ∙ by_cases (begun r)
      (λ br. rw (br, ar.takes (rw (br, q)) here)
      (by_cases (begins l)
      (λ bl. rw (bl, low-adds n (K.deeper base) l (omega arith) h.2 sl o bl (goes_on-lasts l r s (lasts-goes_on r sr q)) (add (found r) here)))
      (λ bl. rw (bl, al.skips bl (add (found r) here)))
      ∙ add-swap (found l) (found r) here))
      (λ br.
      let bl = by_cases (begins l) (λ t. clash (begins-begun l r s t) br) (λ t. t) in
      rw (br, al.skips bl here, low-adds n (K.deeper base) r (omega arith) h.3 sr br p q (add (found l) here)))
      ∙ sym (opened-adds i l r (rw o) (rw (p, lasts-goes_on (node i l r) s q)) tally)

  -- beneath a node that begins on the side, and in which it ends, once it is visited
  high-adds : (n base : ℕ) (t : Tree ℕ I) → depth t ≤ n → Laid base t → Ordered t → begun t ≡ true → goes_on t ≡ true → lasts t ≡ false
      → (tally : T) → high_from K S C xs n base (number t) (K.visit tally) ≡ add (found t) tally
  unfolding high_record
  high-adds n base (leaf m) d h s o p q tally = clash p q
  high-adds zero base (node i l r) d h s o p q tally = absurd (omega arith)
  high-adds (suc n) base (node i l r) d h s o p q tally =
      let sl = sorted-left (marks l) (marks r) s in
      let sr = sorted-right (marks l) (marks r) s in
      let here = K.visit tally in
      let al = laid-arrives (K.deeper base) l h.2 in
      let ar = laid-arrives (K.deeper base) r h.3 in
      high-node base l r h.0 n here
      ∙ by_cases (lasts l)
      (λ ll. rw (ll, al.takes (rw (o, ll)) here)
      (by_cases (goes_on r)
      (λ gr. rw (gr, high-adds n (K.deeper base) r (omega arith) h.3 sr (begins-begun l r s (begun-begins l sl o)) gr q (add (found l) here)))
      (λ gr. rw (gr, ar.passes gr (add (found l) here)))))
      (λ ll.
      let gr = by_cases (goes_on r) (λ t. clash (goes_on-lasts l r s t) ll) (λ t. t) in
      rw (ll, high-adds n (K.deeper base) l (omega arith) h.2 sl o p ll (K.past here), ar.passes gr here) (add-swap (found l) (found r) here))
      ∙ sym (opened-adds i l r (rw (o, q)) (rw (begun-begins (node i l r) s o, p)) tally)

  -- the two children of a node where the ends of the side part
  low-end-adds : (base : ℕ) (t : Tree ℕ I) → depth t ≤ 40 → Laid base t → Ordered t → lasts t ≡ true
      → (tally : T) → low_end K S C xs base (arm_of X f t) tally ≡ add (found t) tally
  unfolding low_end
  low-end-adds base t d h s q tally =
      let a = laid-arrives base t h in
      by_cases (begins t)
      (λ p. by_cases (begun t)
      (λ o. rw (p, o) (a.takes (rw (o, q)) tally))
      (λ o. rw (p, o) (low-adds 40 base t d h s o p q tally)))
      (λ p. rw p (a.skips p tally))

  high-end-adds : (base : ℕ) (t : Tree ℕ I) → depth t ≤ 40 → Laid base t → Ordered t → begun t ≡ true
      → (tally : T) → high_end K S C xs base (arm_of X f t) tally ≡ add (found t) tally
  unfolding high_end
  high-end-adds base t d h s o tally =
      let a = laid-arrives base t h in
      by_cases (goes_on t)
      (λ p. by_cases (lasts t)
      (λ q. rw (p, q) (a.takes (rw (o, q)) tally))
      (λ q. rw (p, q) (high-adds 40 base t d h s o p q tally)))
      (λ p. rw p (a.passes p tally))

  -- a lone mark's cell that is not inside the side is clear of it
  leaf-clear : (m : ℕ) → inside {I = I} A b (leaf m) ≡ false → clear {I = I} A b (leaf m) ≡ true
  leaf-clear m e =
      by_cases (A.from_low b (A.at m))
      (λ t. let u : A.to_high b (A.at m) ≡ false = (rw t at e) in rw (t, u))
      (λ t. rw t)

  -- where the box's side is not the wrong way round
  module _ (straight : Straight X b) where
    past-outside : (t : Tree ℕ I) → lasts t ≡ false → inside A b t ≡ false
    past-outside t q = by_cases (begun t) (λ o. rw (o, q)) (λ o. rw o)

    past-begins : (t : Tree ℕ I) → lasts t ≡ false → begins t ≡ true
    past-begins t q = by_cases (begins t) (λ p. p) (λ p. clash (straight (A.at (greatest t)) p) q)

    -- beneath a node whose cell is neither inside the side nor clear of it, once it is visited
    open-adds : (n base : ℕ) (t : Tree ℕ I) → depth t ≤ n → depth t ≤ 40 → Laid base t → Ordered t → inside A b t ≡ false
        → begins t ≡ true → goes_on t ≡ true
        → (tally : T) → open_from K S C xs n base (number t) (K.visit tally) ≡ add (found t) tally
    unfolding open_record
    open-adds n base (leaf m) d g h s i p o tally = let no : clear {I = I} A b (leaf m) ≡ false = rw (p, o) in clash (leaf-clear m i) no
    open-adds zero base (node i l r) d g h s o p q tally = absurd (omega arith)
    open-adds (suc n) base (node i l r) d g h s o p q tally =
        let sl = sorted-left (marks l) (marks r) s in
        let sr = sorted-right (marks l) (marks r) s in
        let here = K.visit tally in
        let al = laid-arrives (K.deeper base) l h.2 in
        let ar = laid-arrives (K.deeper base) r h.3 in
        open-node base l r h.0 n here
        ∙ by_cases (begun r)
        (λ br. by_cases (lasts l)
        (λ ll. rw (
          br,
          ll,
          low-end-adds (K.deeper base) l (omega arith) h.2 sl ll here,
          high-end-adds (K.deeper base) r (omega arith) h.3 sr br (add (found l) here),
        ))
        (λ ll.
        let gr = by_cases (goes_on r) (λ t. clash (goes_on-lasts l r s t) ll) (λ t. t) in
        rw (
          br,
          ll,
          open-adds n (K.deeper base) l (omega arith) (omega arith) h.2 sl (past-outside l ll) (past-begins l ll) q (K.past here),
          ar.passes gr here,
        ) (add-swap (found l) (found r) here)))
        (λ br.
        let bl = by_cases (begins l) (λ t. clash (begins-begun l r s t) br) (λ t. t) in
        rw (
          br,
          al.skips bl here,
          open-adds n (K.deeper base) r (omega arith) (omega arith) h.3 sr (rw br) p (straight (A.at (least r)) br) (add (found l) here),
        ))
        ∙ sym (opened-adds i l r o (rw (p, q)) tally)

    pub count-adds : (base : ℕ) (t : Tree ℕ I) → depth t ≤ 40 → Laid base t → Ordered t → (tally : T)
        → count_tree K S C xs base (arm_of X f t) tally ≡ add (found t) tally
    unfolding count_tree
    count-adds base t d h s tally =
        let a = laid-arrives base t h in
        by_cases (begun t)
        (λ o. by_cases (lasts t)
        (λ q. rw (o, q) (a.takes (rw (o, q)) tally))
        (λ q. by_cases (goes_on t)
        (λ g. rw (o, q, g) (open-adds 40 base t d d h s (rw (o, q)) (begun-begins t s o) g tally))
        (λ g. rw (o, q, g) (a.passes g tally))))
        (λ o. by_cases (begins t)
        (λ p. rw (o, p) (open-adds 40 base t d d h s (rw o) p (straight (A.at (least t)) o) tally))
        (λ p. rw (o, p) (a.skips p tally)))

-- the tally in one number: sums go round at 2^64, so no bound is asked for
pub added-both : (f : ℕ → Mark) (g h : Found ℕ) (tally : ℕ) → added f (together g h) tally ≡ added f h (added f g tally)
unfolding added
added-both f g h tally = rw (
  joined-round (joined tally (figures f g)) (figures f h),
  joined-assoc tally (figures f g) (figures f h),
  packed-joined (g.found counting) g.visits (g.found (slot_operation f grading)) (h.found counting) h.visits (h.found (slot_operation f grading)),
)

pub added-swap : (f : ℕ → Mark) (g h : Found ℕ) (tally : ℕ) → added f g (added f h tally) ≡ added f h (added f g tally)
unfolding added
added-swap f g h tally = rw (
  joined-round (joined tally (figures f g)) (figures f h),
  joined-round (joined tally (figures f h)) (figures f g),
  joined-assoc tally (figures f g) (figures f h),
  joined-assoc tally (figures f h) (figures f g),
  joined-comm (figures f g) (figures f h),
)

pub added-arrive : (f : ℕ → Mark) (g : Found ℕ) (tally : ℕ) → added f (arrive g) tally ≡ added f g (arrived tally 0 0)
unfolding added arrived
added-arrive f g tally =
    let none : 0 + g.found counting ≡ g.found counting = omega arith in
    let one : 1 + g.visits ≡ g.visits + 1 = omega arith in
    rw (
      joined-round (joined tally (packed 0 1 0)) (figures f g),
      joined-assoc tally (packed 0 1 0) (figures f g),
      packed-joined 0 1 0 (g.found counting) g.visits (g.found (slot_operation f grading)),
      grading-laws.neutral (g.found (slot_operation f grading)),
      none,
      one,
    )
