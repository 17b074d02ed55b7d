-- Laws of the tree that do not ask what its nodes carry: its marks, weights and balance under building, insertion, strike and rebalancing. Assumes
-- nothing.
use Prim.Native.Nat.{ℕ, zero, suc, ◌+◌, ◌*◌, ◌/◌, ◌≤◌, ◌<◌}
use mathlib.Core.Path.{◌≡◌, refl, sym, ap, ap₂, ◌∙◌}
use mathlib.Core.Bool.{true, false}
use mathlib.Core.List.{List, [], ◌∷◌, ◌++◌, append-nil}
use mathlib.Core.Option.{Option, none, some}
use native.Mathlib.Omega.{arith}
use lib.ListN.{length, take, drop, length-append, length-take, length-drop, take-append-drop}
use lib.Dec.{leb}
use borrow.Author.Tests.{leb-true}
use Rattle.model.specs.Lists.{count_if, remove_first, insert_sorted}
use Rattle.model.specs.Axis.{Space, Axis}
use Rattle.model.specs.Register.{Register}
use Rattle.model.specs.Tree.{Tree, leaf, node, weight, marks, marks_of, least, greatest, evenly, Balanced, with_left, with_right, build_from}
use Rattle.model.specs.Tree.{build, insert_leaf, strike_leaf, rebalance}
use Rattle.model.specs.Laws.{SamenessLaws, AxisLaws, All, cons, Sorted, sorted∷, nil}
use Rattle.model.proofs.Logic.{by_cases, and_left, and_right}
use Rattle.model.proofs.Lists.{all_left, all_right, all_map, count_if-append, count_if-none, none_pass, insert_sorted-left, insert_sorted-right}
use Rattle.model.proofs.Lists.{remove_first-left, remove_first-right, all_append}
use Rattle.model.proofs.Sorted.{sorted-left, sorted-right, sorted-across, below-asym, below_apart, insert_sorted-sorted, remove_first-sorted}
use Rattle.model.proofs.Sorted.{sorted-append, below_self}

module _ {M I : Type 0} where
  pub weight-pos : (t : Tree M I) → 0 < weight t
  weight-pos (leaf m) = omega arith
  weight-pos (node i l r) = omega (arith, weight-pos l)

  pub weight-marks : (t : Tree M I) → weight t ≡ length (marks t)
  weight-marks (leaf m) = refl
  weight-marks (node i l r) = omega (arith, length-append (marks l) (marks r), weight-marks l, weight-marks r)

  -- the nodes of a tree, which a listing walks
  abbrev pub nodes : Tree M I → ℕ
  nodes (leaf m) = 1
  nodes (node i l r) = nodes l + nodes r + 1

  pub nodes-weight : (t : Tree M I) → nodes t + 1 ≡ 2 * weight t
  nodes-weight (leaf m) = refl
  nodes-weight (node i l r) = omega (arith, nodes-weight l, nodes-weight r)

  pub marks-pos : (t : Tree M I) → 0 < length (marks t)
  marks-pos t = omega (arith, weight-marks t, weight-pos t)

  pub all-least : {P : M → Type 0} (t : Tree M I) → All P (marks t) → P (least t)
  all-least (leaf m) (cons p h) = p
  all-least (node i l r) h = all-least l (all_left (marks l) (marks r) h)

  pub all-greatest : {P : M → Type 0} (t : Tree M I) → All P (marks t) → P (greatest t)
  all-greatest (leaf m) (cons p h) = p
  all-greatest (node i l r) h = all-greatest r (all_right (marks l) (marks r) h)

  pub marks-least : (t : Tree M I) → (k : List M) × (marks t ≡ least t ∷ k)
  marks-least (leaf m) = ([], refl)
  marks-least (node i l r) = ((marks-least l).0 ++ marks r, ap (λ z. z ++ marks r) (marks-least l).1)

  pub evenly-true : (l r : Tree M I) → evenly l r ≡ true → (weight l + weight r ≤ 4 * weight l) × (weight l + weight r ≤ 4 * weight r)
  evenly-true l r e =
      let w = weight l + weight r in (
        leb-true w (4 * weight l) (and_left (leb w (4 * weight l)) (leb w (4 * weight r)) e),
        leb-true w (4 * weight r) (and_right (leb w (4 * weight l)) (leb w (4 * weight r)) e),
      )

  pub with_left-marks : (i : I) (o : Option (Tree M I)) (r : Tree M I) → marks (with_left i o r) ≡ marks_of o ++ marks r
  with_left-marks i none r = refl
  with_left-marks i (some l) r = refl

  pub with_right-marks : (i : I) (l : Tree M I) (o : Option (Tree M I)) → marks (with_right i l o) ≡ marks l ++ marks_of o
  with_right-marks i l none = sym (append-nil (marks l))
  with_right-marks i l (some r) = refl

module _ {M B I : Type 0} (A : Axis M B) (R : Register M B I) where
  -- building: by the number that bounds the run's length
  build_from-marks : (d : M) (n : ℕ) (l : List M) → 0 < length l → length l ≤ n → marks (build_from A R d n l) ≡ l
  build_from-marks d zero l p h = absurd (omega arith)
  build_from-marks d (suc n) [] p h = absurd (omega arith)
  build_from-marks d (suc n) (m ∷ []) p h = refl
  build_from-marks d (suc n) (m ∷ q ∷ l) p h =
      let run = m ∷ q ∷ l in
      let half = length run / 2 in
      ap₂ ◌++◌
      (build_from-marks d n (take half run) (rw (length-take half run) (omega arith)) (rw (length-take half run) (omega arith)))
      (build_from-marks d n (drop half run) (rw (length-drop half run) (omega arith)) (rw (length-drop half run) (omega arith)))
      ∙ take-append-drop half run

  pub build-marks : (d : M) (l : List M) → 0 < length l → marks (build A R d l) ≡ l
  build-marks d l p = build_from-marks d (length l) l p (omega arith)

  -- "one leaf for w = 1; else the first ⌊w/2⌋ go left": what holds of a leaf, and of a node over two halves of which it holds, holds of what is built
  pub build-induction : (P : List M → Tree M I → Type 0) (d : M)
      → ((m : M) → P (m ∷ []) (leaf m))
      → ((run : List M) (l r : Tree M I) → marks l ++ marks r ≡ run → 1 < length run → weight l ≡ length run / 2 → P (marks l) l → P (marks r) r
      → P run (node (R.build run) l r))
      → (run : List M) → 0 < length run → P run (build A R d run)
  build-induction P d one two run p = go (length run) run p (omega arith)
    where
      go : (n : ℕ) (run : List M) → 0 < length run → length run ≤ n → P run (build_from A R d n run)
      go zero l p h = absurd (omega arith)
      go (suc n) [] p h = absurd (omega arith)
      go (suc n) (m ∷ []) p h = one m
      go (suc n) (m ∷ q ∷ l) p h =
          let run = m ∷ q ∷ l in
          let half = length run / 2 in
          let f1 = length-take half run in
          let f2 = length-drop half run in
          let p1 : 0 < length (take half run) = omega arith in
          let h1 : length (take half run) ≤ n = omega arith in
          let p2 : 0 < length (drop half run) = omega arith in
          let h2 : length (drop half run) ≤ n = omega arith in
          let left = build_from A R d n (take half run) in
          let right = build_from A R d n (drop half run) in
          let e1 = build_from-marks d n (take half run) p1 h1 in
          let e2 = build_from-marks d n (drop half run) p2 h2 in
          two run left right (ap₂ ◌++◌ e1 e2 ∙ take-append-drop half run) (omega arith)
          (weight-marks left ∙ ap length e1 ∙ omega arith)
          (rw e1 (go n (take half run) p1 h1))
          (rw e2 (go n (drop half run) p2 h2))

  pub build-balanced : (d : M) (l : List M) → 0 < length l → Balanced (build A R d l)
  build-balanced d l p =
      build-induction (λ run t. Balanced t) d (λ m. tt)
      (λ run l r e h w bl br.
      let n : weight l + weight r ≡ length run = weight-marks (node (R.build run) l r) ∙ ap length e in
      (omega arith, omega arith, bl, br))
      l p

  pub rebalance-marks : (t : Tree M I) → marks (rebalance A R t) ≡ marks t
  rebalance-marks (leaf m) = refl
  rebalance-marks (node i l r) =
      by_cases (evenly l r)
      (λ t. rw t (ap₂ ◌++◌ (rebalance-marks l) (rebalance-marks r)))
      (λ f. rw f (build-marks (least l) (marks l ++ marks r) (marks-pos (node i l r))))

  pub rebalance-weight : (t : Tree M I) → weight (rebalance A R t) ≡ weight t
  rebalance-weight t = weight-marks (rebalance A R t) ∙ ap length (rebalance-marks t) ∙ sym (weight-marks t)

  pub rebalance-balanced : (t : Tree M I) → Balanced (rebalance A R t)
  rebalance-balanced (leaf m) = tt
  rebalance-balanced (node i l r) =
      by_cases (evenly l r)
      (λ t. rw t (
        omega (arith, evenly-true l r t, rebalance-weight l, rebalance-weight r),
        omega (arith, evenly-true l r t, rebalance-weight l, rebalance-weight r),
        rebalance-balanced l,
        rebalance-balanced r,
      ))
      (λ f. rw f (build-balanced (least l) (marks l ++ marks r) (marks-pos (node i l r))))

-- a mark goes to its place
run-all-above : {M B : Type 0} (S : Space M B) (A : Axis M B) (O : AxisLaws S A) (m a : M) (k : List M) → A.below m a ≡ true
    → Sorted A (a ∷ k) → All (λ q. A.below m q ≡ true) (a ∷ k)
run-all-above S A O m a k e (sorted∷ h s) = cons e (all_map (λ q g. O.trans m a q e g) h)

module _ {M B I : Type 0} (S : Space M B) (E : SamenessLaws S) (A : Axis M B) (O : AxisLaws S A) where
  -- all beneath a node whose least is above m are above m
  pub all_above : (m : M) (t : Tree M I) → A.below m (least t) ≡ true → Sorted A (marks t) → All (λ q. A.below m q ≡ true) (marks t)
  all_above m t e s = rw (marks-least t).1 (run-all-above S A O m (least t) (marks-least t).0 e (rw (marks-least t).1 at s))

  -- all beneath the left child are below a mark that is not below the right child's least
  pub left-all-below : (m : M) (l r : Tree M I) → A.below m (least r) ≡ false → Sorted A (marks l ++ marks r)
      → All (λ q. A.below q m ≡ true) (marks l)
  left-all-below m l r f s = all_map (λ q h. O.linear q (least r) m (all-least r h) f) (sorted-across (marks l) (marks r) s)

  -- all beneath a node whose greatest is below m are below m; so a tree is ordered over two whose ends follow each other
  all-below : (m : M) (t : Tree M I) → A.below (greatest t) m ≡ true → Sorted A (marks t) → All (λ q. A.below q m ≡ true) (marks t)
  all-below m (leaf q) e s = cons e nil
  all-below m (node i l r) e s =
      let right : All (λ q. A.below q m ≡ true) (marks r) = all-below m r e (sorted-right (marks l) (marks r) s) in
      let left = all_map (λ q h. O.trans q (least r) m (all-least r h) (all-least r right)) (sorted-across (marks l) (marks r) s) in
      all_append left right

  pub sorted-over : (l r : Tree M I) → Sorted A (marks l) → Sorted A (marks r) → A.below (greatest l) (least r) ≡ true
      → Sorted A (marks l ++ marks r)
  sorted-over l r s t e = sorted-append s t (all_map (λ q h. all_above q r h t) (all-below (least r) l e s))

  -- none beneath a node is below its least, nor above its greatest
  pub none_below : (t : Tree M I) → Sorted A (marks t) → All (λ q. A.below q (least t) ≡ false) (marks t)
  none_below (leaf m) s = cons (below_self E O m) nil
  none_below (node i l r) s =
      all_append (none_below l (sorted-left (marks l) (marks r) s))
      (all_map (λ q e. below-asym E O (least l) q e) (all-least l (sorted-across (marks l) (marks r) s)))

  pub none_above : (t : Tree M I) → Sorted A (marks t) → All (λ q. A.below (greatest t) q ≡ false) (marks t)
  none_above (leaf m) s = cons (below_self E O m) nil
  none_above (node i l r) s =
      all_append
      (all_map (λ q h. below-asym E O q (greatest r) (all-greatest r h)) (sorted-across (marks l) (marks r) s))
      (none_above r (sorted-right (marks l) (marks r) s))

  module _ (R : Register M B I) where
    pub insert-marks : (m : M) (t : Tree M I) → Sorted A (marks t) → marks (insert_leaf A R m t) ≡ insert_sorted A.below m (marks t)
    insert-marks m (leaf q) s = by_cases (A.below m q) (λ t. rw t) (λ f. rw f)
    insert-marks m (node i l r) s =
        by_cases (A.below m (least r))
        (λ t. rw t
        (ap (λ z. z ++ marks r) (insert-marks m l (sorted-left (marks l) (marks r) s))
        ∙ sym (rw (marks-least r).1 (insert_sorted-left A.below m (marks l) (marks-least r).0 t))))
        (λ f. rw f
        (ap (λ z. marks l ++ z) (insert-marks m r (sorted-right (marks l) (marks r) s))
        ∙ sym (insert_sorted-right A.below m (marks r) (all_map (λ q h. below-asym E O q m h) (left-all-below m l r f s)))))

    pub strike-marks : (m : M) (t : Tree M I) → Sorted A (marks t) → 0 < count_if (S.same m) (marks t)
        → marks_of (strike_leaf A R m t) ≡ remove_first (S.same m) (marks t)
    strike-marks m (leaf q) s h =
        by_cases (S.same m q) (λ t. rw t) (λ f. absurd (let z = (rw f at h) in omega arith))
    strike-marks m (node i l r) s h =
        by_cases (A.below m (least r))
        (λ t.
        let z = count_if-none (S.same m) (all_map (λ q g. O.apart m q g) (all_above m r t (sorted-right (marks l) (marks r) s))) in
        let h' : 0 < count_if (S.same m) (marks l) = omega (arith, count_if-append (S.same m) (marks l) (marks r)) in
        rw t
        (with_left-marks _ (strike_leaf A R m l) r
        ∙ ap (λ k. k ++ marks r) (strike-marks m l (sorted-left (marks l) (marks r) s) h')
        ∙ sym (remove_first-left (S.same m) (marks l) (marks r) h')))
        (λ f.
        let g = all_map (λ q g. below_apart E O q m g) (left-all-below m l r f s) in
        let z = count_if-none (S.same m) g in
        let h' : 0 < count_if (S.same m) (marks r) = omega (arith, count_if-append (S.same m) (marks l) (marks r)) in
        rw f
        (with_right-marks _ l (strike_leaf A R m r)
        ∙ ap (λ k. marks l ++ k) (strike-marks m r (sorted-right (marks l) (marks r) s) h')
        ∙ sym (remove_first-right (S.same m) (marks r) g)))

    -- and the order is kept
    pub insert-sorted : (m : M) (t : Tree M I) → Sorted A (marks t) → count_if (S.same m) (marks t) ≡ 0 → Sorted A (marks (insert_leaf A R m t))
    insert-sorted m t s z = rw (insert-marks m t s) (insert_sorted-sorted E O m (none_pass (S.same m) (marks t) z) s)

    pub strike-sorted : (m : M) (t : Tree M I) → Sorted A (marks t) → 0 < count_if (S.same m) (marks t) → Sorted A (marks_of (strike_leaf A R m t))
    strike-sorted m t s h = rw (strike-marks m t s h) (remove_first-sorted (S.same m) s)
