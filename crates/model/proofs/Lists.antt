-- Laws of lists under a test. Assumes nothing.
use Prim.Native.Nat.{◌+◌, ◌≤◌, ◌<◌}
use mathlib.Core.Path.{◌≡◌, refl, sym, ap, ◌∙◌}
use mathlib.Core.Bool.{Bool, true, false, not, ◌&&◌}
use mathlib.Core.List.{List, [], ◌∷◌, ◌++◌, map}
use native.Mathlib.Omega.{arith}
use native.Mathlib.Nat.{zero-add}
use lib.ListN.{length}
use Rattle.model.specs.Lists.{indicator, count_if, filter_by, remove_first, insert_sorted, sort}
use Rattle.model.specs.Laws.{SameBag, All, nil, cons}
use Rattle.model.proofs.Logic.{by_cases, clash}

module _ {M : Type 0} {P : M → Type 0} where
  pub all_append : {l r : List M} → All P l → All P r → All P (l ++ r)
  all_append nil k = k
  all_append (cons p h) k = cons p (all_append h k)

  pub all_left : (l r : List M) → All P (l ++ r) → All P l
  all_left [] r h = nil
  all_left (m ∷ l) r (cons p h) = cons p (all_left l r h)

  pub all_right : (l r : List M) → All P (l ++ r) → All P r
  all_right [] r h = h
  all_right (m ∷ l) r (cons p h) = all_right l r h

  pub all_map : {Q : M → Type 0} {l : List M} → ((q : M) → P q → Q q) → All P l → All Q l
  all_map f nil = nil
  all_map f (cons {m = m} p h) = cons (f m p) (all_map f h)

  pub all_both : {Q : M → Type 0} {l : List M} → All P l → All Q l → All (λ q. P q × Q q) l
  all_both nil nil = nil
  all_both (cons p h) (cons q k) = cons (p, q) (all_both h k)

  pub all-filter_by : (q : M → Bool) {l : List M} → All P l → All P (filter_by q l)
  all-filter_by q nil = nil
  all-filter_by q (cons {m = m} p h) = by_cases (q m) (λ t. rw t (cons p (all-filter_by q h))) (λ f. rw f (all-filter_by q h))

  pub all-remove_first : (q : M → Bool) {l : List M} → All P l → All P (remove_first q l)
  all-remove_first q nil = nil
  all-remove_first q (cons {m = m} p h) = by_cases (q m) (λ t. rw t h) (λ f. rw f (cons p (all-remove_first q h)))

  pub all-insert_sorted : (below : M → M → Bool) (m : M) {l : List M} → P m → All P l → All P (insert_sorted below m l)
  all-insert_sorted below m p nil = cons p nil
  all-insert_sorted below m p (cons {m = q} k h) =
      by_cases (below m q)
      (λ t. rw t (cons p (cons k h)))
      (λ f. rw f (cons k (all-insert_sorted below m p h)))

-- what is said of the values of a list
module _ {N M : Type 0} (f : N → M) {P : M → Type 0} where
  pub all-mapped : {l : List N} → All (λ s. P (f s)) l → All P (map f l)
  all-mapped nil = nil
  all-mapped (cons p h) = cons p (all-mapped h)

  pub all-unmapped : (l : List N) → All P (map f l) → All (λ s. P (f s)) l
  all-unmapped [] h = nil
  all-unmapped (s ∷ l) (cons p h) = cons p (all-unmapped l h)

module _ {M : Type 0} where
  pub count_if-append : (p : M → Bool) (l r : List M) → count_if p (l ++ r) ≡ count_if p l + count_if p r
  count_if-append p [] r = omega arith
  count_if-append p (m ∷ l) r = omega (arith, count_if-append p l r)

  pub count_if-none : (p : M → Bool) {l : List M} → All (λ q. p q ≡ false) l → count_if p l ≡ 0
  count_if-none p nil = refl
  count_if-none p (cons e h) = rw (e, count_if-none p h)

  pub count_if-all : (p : M → Bool) {l : List M} → All (λ q. p q ≡ true) l → count_if p l ≡ length l
  count_if-all p nil = refl
  count_if-all p (cons e h) = rw (e, count_if-all p h) (omega arith)

  pub count_if-cong : (p q : M → Bool) {l : List M} → All (λ m. p m ≡ q m) l → count_if p l ≡ count_if q l
  count_if-cong p q nil = refl
  count_if-cong p q (cons e h) = rw (e, count_if-cong p q h)

  pub none_pass : (p : M → Bool) (l : List M) → count_if p l ≡ 0 → All (λ q. p q ≡ false) l
  none_pass p [] e = nil
  none_pass p (q ∷ l) e =
      by_cases (p q)
      (λ t. absurd (let z = (rw t at e) in omega arith))
      (λ f. cons f (none_pass p l (omega arith)))

  pub count_if-true : (l : List M) → count_if (λ q. true) l ≡ length l
  count_if-true [] = refl
  count_if-true (m ∷ l) = omega (arith, count_if-true l)

  pub count_if-not : (p : M → Bool) (l : List M) → count_if p l + count_if (λ q. not (p q)) l ≡ length l
  count_if-not p [] = refl
  count_if-not p (m ∷ l) = by_cases (p m) (λ t. rw t (omega (arith, count_if-not p l))) (λ f. rw f (omega (arith, count_if-not p l)))

  pub count_if-length : (p : M → Bool) (l : List M) → count_if p l ≤ length l
  count_if-length p l = omega (arith, count_if-not p l)

  pub same_bag-length : (l k : List M) → SameBag l k → length l ≡ length k
  same_bag-length l k s = sym (count_if-true l) ∙ s (λ q. true) ∙ count_if-true k

  -- a test that all pass is passed by all of a list with the same marks
  pub all_alike : (p : M → Bool) (l k : List M) → SameBag l k → All (λ q. p q ≡ true) l → All (λ q. p q ≡ true) k
  all_alike p l k s h =
      all_map (λ q e. by_cases (p q) (λ t. t) (λ f. clash (ap not f) e))
      (none_pass (λ q. not (p q)) k (sym (s (λ q. not (p q))) ∙ count_if-none (λ q. not (p q)) (all_map (λ q e. ap not e) h)))

  -- those that pass two tests
  pub count_if-filter_by : (p q : M → Bool) (l : List M) → count_if p (filter_by q l) ≡ count_if (λ m. q m && p m) l
  count_if-filter_by p q [] = refl
  count_if-filter_by p q (m ∷ l) = by_cases (q m) (λ t. rw (t, count_if-filter_by p q l)) (λ f. rw (f, count_if-filter_by p q l) (omega arith))

  pub filter_by-alike : (q : M → Bool) (l k : List M) → SameBag l k → SameBag (filter_by q l) (filter_by q k)
  filter_by-alike q l k s p = count_if-filter_by p q l ∙ s (λ m. q m && p m) ∙ sym (count_if-filter_by p q k)

  pub filter_by-append : (q : M → Bool) (l r : List M) (p : M → Bool)
      → count_if p (filter_by q (l ++ r)) ≡ count_if p (filter_by q l) + count_if p (filter_by q r)
  filter_by-append q l r p = rw (count_if-filter_by p q (l ++ r), count_if-filter_by p q l, count_if-filter_by p q r) (count_if-append (λ m. q m && p m) l r)

  pub filter_by-all : (q : M → Bool) {l : List M} → All (λ m. q m ≡ true) l → SameBag (filter_by q l) l
  filter_by-all q {l} h p = count_if-filter_by p q l ∙ count_if-cong (λ m. q m && p m) p (all_map (λ m e. rw e) h)

  pub filter_by-none : (q : M → Bool) {l : List M} → All (λ m. q m ≡ false) l → filter_by q l ≡ []
  filter_by-none q nil = refl
  filter_by-none q (cons e h) = rw (e, filter_by-none q h)

  pub filter_by-length : (q : M → Bool) (l : List M) → length (filter_by q l) ≡ count_if q l
  filter_by-length q [] = refl
  filter_by-length q (m ∷ l) = by_cases (q m) (λ t. rw (t, filter_by-length q l) (omega arith)) (λ f. rw (f, filter_by-length q l) (omega arith))

  -- the place of a mark in two lists that follow each other
  pub insert_sorted-right : (below : M → M → Bool) (m : M) {l : List M} (r : List M) → All (λ q. below m q ≡ false) l
      → insert_sorted below m (l ++ r) ≡ l ++ insert_sorted below m r
  insert_sorted-right below m r nil = refl
  insert_sorted-right below m r (cons e h) = rw (e, insert_sorted-right below m r h)

  pub insert_sorted-left : (below : M → M → Bool) (m : M) (l : List M) {q : M} (r : List M) → below m q ≡ true
      → insert_sorted below m (l ++ (q ∷ r)) ≡ insert_sorted below m l ++ (q ∷ r)
  insert_sorted-left below m [] r e = rw e
  insert_sorted-left below m (a ∷ l) r e = by_cases (below m a) (λ t. rw t) (λ f. rw (f, insert_sorted-left below m l r e))

  pub insert_sorted-count_if : (below : M → M → Bool) (p : M → Bool) (m : M) (l : List M)
      → count_if p (insert_sorted below m l) ≡ indicator (p m) + count_if p l
  insert_sorted-count_if below p m [] = refl
  insert_sorted-count_if below p m (q ∷ l) = by_cases (below m q) (λ t. rw t) (λ f. rw f (omega (arith, insert_sorted-count_if below p m l)))

  pub insert_sorted-length : (below : M → M → Bool) (m : M) (l : List M) → length (insert_sorted below m l) ≡ length l + 1
  insert_sorted-length below m l =
      omega (arith, count_if-true (insert_sorted below m l), insert_sorted-count_if below (λ q. true) m l, count_if-true l)

  pub sort-count_if : (below : M → M → Bool) (p : M → Bool) (l : List M) → count_if p (sort below l) ≡ count_if p l
  sort-count_if below p [] = refl
  sort-count_if below p (m ∷ l) = omega (arith, insert_sorted-count_if below p m (sort below l), sort-count_if below p l)

  pub insert_sorted-head : (below : M → M → Bool) (m : M) {l : List M} → All (λ q. below m q ≡ true) l → insert_sorted below m l ≡ m ∷ l
  insert_sorted-head below m nil = refl
  insert_sorted-head below m (cons e h) = rw e

  -- the first that passes, taken out of two lists that follow each other
  pub remove_first-right : (p : M → Bool) {l : List M} (r : List M) → All (λ q. p q ≡ false) l → remove_first p (l ++ r) ≡ l ++ remove_first p r
  remove_first-right p r nil = refl
  remove_first-right p r (cons e h) = rw (e, remove_first-right p r h)

  pub remove_first-left : (p : M → Bool) (l r : List M) → 0 < count_if p l → remove_first p (l ++ r) ≡ remove_first p l ++ r
  remove_first-left p [] r h = absurd (omega arith)
  remove_first-left p (q ∷ l) r h =
      by_cases (p q) (λ t. rw t) (λ f. rw (f, remove_first-left p l r (rw (f, zero-add) at h)))

  -- where at most one passes
  pub remove_first-count_if : (p q : M → Bool) (l : List M) → count_if q l ≤ 1
      → count_if p (remove_first q l) + count_if (λ m. q m && p m) l ≡ count_if p l
  remove_first-count_if p q [] h = refl
  remove_first-count_if p q (m ∷ l) h =
      by_cases (q m)
      (λ t.
      let z : count_if q l ≡ 0 = (let k = (rw t at h) in omega arith) in
      let y = count_if-none (λ m. q m && p m) (all_map (λ m e. rw e) (none_pass q l z)) in
      rw (t, y) (omega arith))
      (λ f. rw f (omega (arith, remove_first-count_if p q l (rw (f, zero-add) at h))))

  pub remove_first-alike : (q : M → Bool) (l k : List M) → count_if q l ≤ 1 → SameBag l k → SameBag (remove_first q l) (remove_first q k)
  remove_first-alike q l k h s p =
      omega (arith, remove_first-count_if p q l h, remove_first-count_if p q k (rw (← s q) h), s p, s (λ m. q m && p m))

  pub remove_first-length : (q : M → Bool) (l : List M) → 0 < count_if q l → length (remove_first q l) + 1 ≡ length l
  remove_first-length q [] h = absurd (omega arith)
  remove_first-length q (m ∷ l) h =
      by_cases (q m) (λ t. rw t (omega arith)) (λ f. rw f (omega (arith, remove_first-length q l (rw (f, zero-add) at h))))
