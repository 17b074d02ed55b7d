-- What each node carries is a register of exactly the marks beneath it, after building, insertion, strike and rebalancing. Assumes nothing.
use Prim.Native.Nat.{ℕ, ◌+◌, ◌<◌}
use mathlib.Core.Path.{◌≡◌, sym, ap, ◌∙◌, subst}
use mathlib.Core.Bool.{Bool}
use mathlib.Core.List.{List, [], ◌∷◌, ◌++◌}
use mathlib.Core.Option.{Option, none, some}
use native.Mathlib.Omega.{arith}
use lib.ListN.{length}
use Rattle.model.specs.Lists.{indicator, count_if}
use Rattle.model.specs.Axis.{Space, Axis}
use Rattle.model.specs.Register.{Register}
use Rattle.model.specs.Tree.{Tree, leaf, node, marks, marks_of, least, evenly, with_left, with_right, build, insert_leaf, strike_leaf, rebalance}
use Rattle.model.specs.Laws.{SamenessLaws, Distinct, AxisLaws, Sorted, RegisterLaws}
use Rattle.model.proofs.Logic.{by_cases}
use Rattle.model.proofs.Lists.{all_map, count_if-append, count_if-none, insert_sorted-count_if, remove_first-left, remove_first-right}
use Rattle.model.proofs.Sorted.{below_apart, distinct_cons, distinct-left, distinct-right, sorted-left, sorted-right, sorted-distinct}
use Rattle.model.proofs.Tree.{build-induction, rebalance-marks, insert-marks, strike-marks, all_above, left-all-below, marks-pos}

module _
    {M B I : Type 0} (S : Space M B) (E : SamenessLaws S) (A : Axis M B) (O : AxisLaws S A) (R : Register M B I) (settled : B → M → Bool)
    (bound : ℕ → ℕ)
    (L : RegisterLaws S R settled bound) where
  abbrev pub Carried : Tree M I → Type 0
  Carried (leaf m) = Unit {0}
  Carried (node i l r) = L.Represents i (marks l ++ marks r) × Carried l × Carried r

  abbrev pub CarriedOf : Option (Tree M I) → Type 0
  CarriedOf none = Unit {0}
  CarriedOf (some t) = Carried t

  -- building: the register that a node carries is built of the node's run
  pub build-carried : (d : M) (l : List M) → 0 < length l → Distinct S l → Carried (build A R d l)
  build-carried d l p u =
      build-induction A R (λ run t. Distinct S run → Carried t) d (λ m u. tt)
      (λ run l r e h w cl cr u.
      let v : Distinct S (marks l ++ marks r) = subst (Distinct S) (sym e) u in
      (subst (L.Represents (R.build run)) (sym e) (L.build run u), cl (distinct-left S (marks l) (marks r) v), cr (distinct-right S (marks l) (marks r) v)))
      l p u

  -- insertion
  insert-count_if : (p : M → Bool) (m : M) (t : Tree M I) → Sorted A (marks t)
      → count_if p (marks (insert_leaf A R m t)) ≡ indicator (p m) + count_if p (marks t)
  insert-count_if p m t s = ap (count_if p) (insert-marks S E A O R m t s) ∙ insert_sorted-count_if A.below p m (marks t)

  pub insert-carried : (m : M) (t : Tree M I) → Sorted A (marks t) → count_if (S.same m) (marks t) ≡ 0 → Carried t → Carried (insert_leaf A R m t)
  insert-carried m (leaf q) s z c =
      let d : Distinct S (q ∷ []) = sorted-distinct E O s in
      let h = L.insert m (R.build (q ∷ [])) (q ∷ []) (distinct_cons E m (q ∷ []) z d) (L.build (q ∷ []) d) in
      by_cases (A.below m q)
      (λ t. rw t (h, tt, tt))
      (λ f. rw f (L.alike _ (m ∷ q ∷ []) (q ∷ m ∷ []) (λ p. omega arith) h, tt, tt))
  insert-carried m (node i l r) s z c =
      let sl = sorted-left (marks l) (marks r) s in
      let sr = sorted-right (marks l) (marks r) s in
      let z' = count_if-append (S.same m) (marks l) (marks r) in
      let h = L.insert m i (marks l ++ marks r) (distinct_cons E m (marks l ++ marks r) z (sorted-distinct E O s)) c.0 in
      by_cases (A.below m (least r))
      (λ t. rw t (
        L.alike _ (m ∷ (marks l ++ marks r)) (marks (insert_leaf A R m l) ++ marks r)
            (λ p. omega (arith, count_if-append p (marks l) (marks r), count_if-append p (marks (insert_leaf A R m l)) (marks r), insert-count_if p m l sl))
            h,
        insert-carried m l sl (omega arith) c.1,
        c.2,
      ))
      (λ f. rw f (
        L.alike _ (m ∷ (marks l ++ marks r)) (marks l ++ marks (insert_leaf A R m r))
            (λ p. omega (arith, count_if-append p (marks l) (marks r), count_if-append p (marks l) (marks (insert_leaf A R m r)), insert-count_if p m r sr))
            h,
        c.1,
        insert-carried m r sr (omega arith) c.2,
      ))

  -- strike
  with_left-carried : (i : I) (o : Option (Tree M I)) (r : Tree M I) → L.Represents i (marks_of o ++ marks r) → CarriedOf o → Carried r
      → Carried (with_left i o r)
  with_left-carried i none r h c d = d
  with_left-carried i (some l) r h c d = (h, c, d)

  with_right-carried : (i : I) (l : Tree M I) (o : Option (Tree M I)) → L.Represents i (marks l ++ marks_of o) → Carried l → CarriedOf o
      → Carried (with_right i l o)
  with_right-carried i l none h c d = c
  with_right-carried i l (some r) h c d = (h, c, d)

  pub strike-carried : (m : M) (t : Tree M I) → Sorted A (marks t) → 0 < count_if (S.same m) (marks t) → Carried t → CarriedOf (strike_leaf A R m t)
  strike-carried m (leaf q) s h c = tt
  strike-carried m (node i l r) s h c =
      let sl = sorted-left (marks l) (marks r) s in
      let sr = sorted-right (marks l) (marks r) s in
      let n = count_if-append (S.same m) (marks l) (marks r) in
      let i' = L.strike m i (marks l ++ marks r) (sorted-distinct E O s) h c.0 in
      by_cases (A.below m (least r))
      (λ t.
      let z = count_if-none (S.same m) (all_map (λ q g. O.apart m q g) (all_above S E A O m r t sr)) in
      let h' : 0 < count_if (S.same m) (marks l) = omega arith in
      rw t
      (with_left-carried (R.strike m i) (strike_leaf A R m l) r
      (rw (strike-marks S E A O R m l sl h', ← remove_first-left (S.same m) (marks l) (marks r) h') i')
      (strike-carried m l sl h' c.1)
      c.2))
      (λ f.
      let g = all_map (λ q g. below_apart E O q m g) (left-all-below S E A O m l r f s) in
      let z = count_if-none (S.same m) g in
      let h' : 0 < count_if (S.same m) (marks r) = omega arith in
      rw f
      (with_right-carried (R.strike m i) l (strike_leaf A R m r)
      (rw (strike-marks S E A O R m r sr h', ← remove_first-right (S.same m) (marks r) g) i')
      c.1
      (strike-carried m r sr h' c.2)))

  -- rebalancing
  pub rebalance-carried : (t : Tree M I) → Distinct S (marks t) → Carried t → Carried (rebalance A R t)
  rebalance-carried (leaf m) d c = tt
  rebalance-carried (node i l r) d c =
      by_cases (evenly l r)
      (λ t. rw t (
        rw (rebalance-marks A R l, rebalance-marks A R r) c.0,
        rebalance-carried l (distinct-left S (marks l) (marks r) d) c.1,
        rebalance-carried r (distinct-right S (marks l) (marks r) d) c.2,
      ))
      (λ f. rw f (build-carried (least l) (marks l ++ marks r) (marks-pos (node i l r)) d))
