-- Laws of ordered lists and of lists with no mark twice. Assumes nothing.
use Prim.Native.Nat.{◌<◌}
use mathlib.Core.Path.{◌≡◌, refl, sym, ap, ap₂, ◌∙◌, subst}
use mathlib.Core.Bool.{Bool, true, false}
use mathlib.Core.List.{List, [], ◌∷◌, ◌++◌}
use native.Mathlib.Omega.{arith}
use native.Mathlib.Nat.{zero-add}
use Rattle.model.specs.Lists.{count_if, filter_by, remove_first, insert_sorted, sort}
use Rattle.model.specs.Axis.{Space, Axis}
use Rattle.model.specs.Laws.{SameBag, SamenessLaws, Distinct, AxisLaws, All, nil, cons, Sorted, sorted[], sorted∷}
use Rattle.model.proofs.Logic.{by_cases, clash}
use Rattle.model.proofs.Lists.{all_left, all_right, all_map, all-filter_by, all-remove_first, all-insert_sorted, count_if-append, count_if-none}
use Rattle.model.proofs.Lists.{none_pass, same_bag-length, insert_sorted-head, sort-count_if, all_append}

-- ordered lists
module _ {M B : Type 0} {A : Axis M B} where
  pub sorted-left : (l r : List M) → Sorted A (l ++ r) → Sorted A l
  sorted-left [] r s = sorted[]
  sorted-left (m ∷ l) r (sorted∷ h s) = sorted∷ (all_left l r h) (sorted-left l r s)

  pub sorted-right : (l r : List M) → Sorted A (l ++ r) → Sorted A r
  sorted-right [] r s = s
  sorted-right (m ∷ l) r (sorted∷ h s) = sorted-right l r s

  pub sorted-across : (l r : List M) → Sorted A (l ++ r) → All (λ a. All (λ q. A.below a q ≡ true) r) l
  sorted-across [] r s = nil
  sorted-across (m ∷ l) r (sorted∷ h s) = cons (all_right l r h) (sorted-across l r s)

  pub filter_by-sorted : (q : M → Bool) {l : List M} → Sorted A l → Sorted A (filter_by q l)
  filter_by-sorted q sorted[] = sorted[]
  filter_by-sorted q (sorted∷ {m = m} h s) =
      by_cases (q m) (λ t. rw t (sorted∷ (all-filter_by q h) (filter_by-sorted q s))) (λ f. rw f (filter_by-sorted q s))

  pub remove_first-sorted : (q : M → Bool) {l : List M} → Sorted A l → Sorted A (remove_first q l)
  remove_first-sorted q sorted[] = sorted[]
  remove_first-sorted q (sorted∷ {m = m} h s) =
      by_cases (q m) (λ t. rw t s) (λ f. rw f (sorted∷ (all-remove_first q h) (remove_first-sorted q s)))

  -- what follows an ordered list and is above all of it is ordered with it
  pub sorted-append : {l r : List M} → Sorted A l → Sorted A r → All (λ a. All (λ q. A.below a q ≡ true) r) l → Sorted A (l ++ r)
  sorted-append sorted[] t h = t
  sorted-append (sorted∷ k s) t (cons g h) = sorted∷ (all_append k g) (sorted-append s t h)

  -- an ordered list put in order is as it was
  pub sort-id : {l : List M} → Sorted A l → sort A.below l ≡ l
  sort-id sorted[] = refl
  sort-id (sorted∷ {m = m} h s) = ap (insert_sorted A.below m) (sort-id s) ∙ insert_sorted-head A.below m h

-- no mark twice
module _ {M B : Type 0} (S : Space M B) where
  pub distinct-left : (l r : List M) → Distinct S (l ++ r) → Distinct S l
  distinct-left l r d q = omega (arith, count_if-append (S.same q) l r, d q)

  pub distinct-right : (l r : List M) → Distinct S (l ++ r) → Distinct S r
  distinct-right l r d q = omega (arith, count_if-append (S.same q) l r, d q)

-- sameness
module _ {M B : Type 0} {S : Space M B} (E : SamenessLaws S) where
  pub same-sym : (a b : M) → S.same a b ≡ true → S.same b a ≡ true
  same-sym a b e = ap (λ f. f a) (sym (E.alike a b e)) ∙ E.self a

  pub distinct_cons : (m : M) (l : List M) → count_if (S.same m) l ≡ 0 → Distinct S l → Distinct S (m ∷ l)
  distinct_cons m l e d q =
      by_cases (S.same q m)
      (λ t. let z : count_if (S.same q) l ≡ 0 = ap (λ f. count_if f l) (E.alike q m t) ∙ e in rw t (omega arith))
      (λ f. rw f (omega (arith, d q)))

  pub distinct_head : (m : M) (l : List M) → Distinct S (m ∷ l) → count_if (S.same m) l ≡ 0
  distinct_head m l d = let z = (rw (E.self m) at (d m)) in omega arith

-- the laws of an order, as the proofs use them
module _ {M B : Type 0} {S : Space M B} {A : Axis M B} (E : SamenessLaws S) (O : AxisLaws S A) where
  pub below-asym : (a b : M) → A.below a b ≡ true → A.below b a ≡ false
  below-asym a b e = by_cases (A.below b a) (λ t. clash (E.self a) (O.apart a a (O.trans a b a e t))) (λ f. f)

  pub below_self : (m : M) → A.below m m ≡ false
  below_self m = by_cases (A.below m m) (λ t. below-asym m m t) (λ f. f)

  pub below_apart : (a b : M) → A.below a b ≡ true → S.same b a ≡ false
  below_apart a b e = by_cases (S.same b a) (λ t. clash (same-sym E b a t) (O.apart a b e)) (λ f. f)

  -- marks that are the same stand alike in the order
  pub below_alike : (a b c : M) → S.same a b ≡ true → A.below a c ≡ A.below b c
  below_alike a b c e =
      by_cases (A.below a c)
      (λ t. by_cases (A.below b c) (λ u. rw (t, u)) (λ u. clash e (O.apart a b (O.linear a c b t u))))
      (λ t. by_cases (A.below b c) (λ u. clash (same-sym E a b e) (O.apart b a (O.linear b c a u t))) (λ u. rw (t, u)))

  pub insert_sorted-sorted : (m : M) {l : List M} → All (λ q. S.same m q ≡ false) l → Sorted A l → Sorted A (insert_sorted A.below m l)
  insert_sorted-sorted m nil s = sorted∷ nil sorted[]
  insert_sorted-sorted m (cons {m = q} d h) (sorted∷ k s) =
      by_cases (A.below m q)
      (λ t. rw t (sorted∷ (cons t (all_map (λ z e. O.trans m q z t e) k)) (sorted∷ k s)))
      (λ f.
      let g : A.below q m ≡ true = by_cases (A.below q m) (λ t. t) (λ g. clash (O.close m q f g) d) in
      rw f (sorted∷ (all-insert_sorted A.below m g k) (insert_sorted-sorted m h s)))

  pub sort_sorted : (l : List M) → Distinct S l → Sorted A (sort A.below l)
  sort_sorted [] d = sorted[]
  sort_sorted (m ∷ l) d =
      insert_sorted-sorted m (none_pass (S.same m) (sort A.below l) (sort-count_if A.below (S.same m) l ∙ distinct_head E m l d))
      (sort_sorted l (λ q. omega (arith, d q)))

  pub sorted-distinct : {l : List M} → Sorted A l → Distinct S l
  sorted-distinct sorted[] m = omega arith
  sorted-distinct (sorted∷ {m = q} {l = l} k s) m =
      by_cases (S.same m q)
      (λ t.
      let z : count_if (S.same m) l ≡ 0 = ap (λ f. count_if f l) (E.alike m q t) ∙ count_if-none (S.same q) (all_map (λ z e. O.apart q z e) k) in
      rw t (omega arith))
      (λ f. rw f (omega (arith, sorted-distinct s m)))

  -- an ordered list is known by its marks, where a test tells whether two marks are one
  module _ (eq : M → M → Bool) (eq_self : (a : M) → eq a a ≡ true) (eq-sound : (a b : M) → eq a b ≡ true → a ≡ b) where
    pub all-member : {P : M → Type 0} {l : List M} → All P l → (q : M) → 0 < count_if (eq q) l → P q
    all-member nil q k = absurd (omega arith)
    all-member {P} (cons {m = m} p h) q k =
        by_cases (eq q m)
        (λ e. subst P (sym (eq-sound q m e)) p)
        (λ e. all-member h q (rw (e, zero-add) at k))

    sorted-heads : (a c : M) (l k : List M) → Sorted A (a ∷ l) → Sorted A (c ∷ k) → SameBag (a ∷ l) (c ∷ k) → a ≡ c
    sorted-heads a c l k (sorted∷ h s) (sorted∷ g t) e =
        by_cases (eq a c)
        (λ u. eq-sound a c u)
        (λ u. by_cases (eq c a)
        (λ v. sym (eq-sound c a v))
        (λ v.
        let ca : A.below c a ≡ true = all-member g a (let z = (rw (eq_self a, u) at (e (eq a))) in omega arith) in
        let ac : A.below a c ≡ true = all-member h c (let z = (rw (eq_self c, v) at (e (eq c))) in omega arith) in
        clash ca (below-asym a c ac)))

    pub sorted-unique : {l k : List M} → Sorted A l → Sorted A k → SameBag l k → l ≡ k
    sorted-unique sorted[] sorted[] e = refl
    sorted-unique sorted[] (sorted∷ {m = c} {l = k} h s) e = absurd (omega (arith, same_bag-length [] (c ∷ k) e))
    sorted-unique (sorted∷ {m = c} {l = k} h s) sorted[] e = absurd (omega (arith, same_bag-length (c ∷ k) [] e))
    sorted-unique (sorted∷ {m = a} {l = l} h s) (sorted∷ {m = c} {l = k} g t) e =
        let q = sorted-heads a c l k (sorted∷ h s) (sorted∷ g t) e in
        ap₂ ◌∷◌ q (sorted-unique s t (λ p. let z = (rw q at (e p)) in omega arith))
