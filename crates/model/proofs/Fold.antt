-- The innermost register keeps a register's laws, and so does a fold of one that keeps them: over any kind of mark, any axis, any inner register.
-- Assumes nothing.
use Prim.Native.Nat.{ℕ, ◌+◌, ◌*◌, ◌≤◌, ◌<◌}
use mathlib.Core.Path.{◌≡◌, refl, sym, ap, ap₂, ◌∙◌}
use mathlib.Core.Bool.{Bool, true, ◌&&◌}
use mathlib.Core.List.{List, [], ◌∷◌, ◌++◌}
use mathlib.Core.Option.{Option, none, some}
use native.Mathlib.Omega.{arith}
use native.Mathlib.Nat.{mul-le-mul}
use lib.ListN.{length, length-append}
use Rattle.model.specs.Lists.{count_if, filter_by, remove_first, sort}
use Rattle.model.specs.Totals.{Operation, figure_if, total_if, counting}
use Rattle.model.specs.Axis.{Space, Axis, on_side}
use Rattle.model.specs.Register.{Register, innermost}
use Rattle.model.specs.Tree.{Tree, leaf, node, weight, marks, marks_of, least, Balanced, insert_leaf, strike_leaf}
use Rattle.model.specs.Search.{inside, search, search_list}
use Rattle.model.specs.Fold.{strike_fold, rebalance_fold, rebuilt_of, strike_rebuilt, count_fold, list_fold, fold}
use Rattle.model.specs.Sizes.{D}
use Rattle.model.specs.Laws.{SameBag, OperationLaws, SamenessLaws, Distinct, AxisLaws, All, nil, Sorted, sorted[], sorted∷, RegisterLaws}
use Rattle.model.proofs.Lists.{all_left, all_right, all_both, all_map, all_alike, count_if-append, same_bag-length, filter_by-all}
use Rattle.model.proofs.Lists.{filter_by-none, filter_by-append, filter_by-alike, insert_sorted-count_if, sort-count_if, remove_first-alike}
use Rattle.model.proofs.Totals.{total-length, join-zero, total-append, total_if-all, total_if-none, same_bag-total}
use Rattle.model.proofs.Sorted.{distinct_head, below_alike, sorted-left, sorted-right, sorted-distinct, sort_sorted}
use Rattle.model.proofs.Sizes.{D-rises}
use Rattle.model.proofs.Tree.{weight-pos, weight-marks, nodes, nodes-weight, build-marks, build-balanced, rebalance-marks}
use Rattle.model.proofs.Tree.{rebalance-balanced, insert-marks, strike-marks, insert-sorted, strike-sorted}
use Rattle.model.proofs.Depth.{balanced-depth}
use Rattle.model.proofs.Search.{inside-on_side, clear_none, arrive-cases, Cheap, search-visits}
use Rattle.model.proofs.Carried.{Carried, CarriedOf, build-carried, insert-carried, strike-carried, rebalance-carried}

-- the sides that are settled once this axis' side is too
abbrev pub settled_with : {M B : Type 0} → Axis M B → (B → M → Bool) → B → M → Bool
settled_with A settled b m = settled b m && on_side A b (A.at m)

-- visits: 4D + 1 at the fold's own nodes, and at most 2D registers handed over to
abbrev pub fold_bound : (ℕ → ℕ) → ℕ → ℕ
fold_bound inner n = (4 * D n + 1) + 2 * D n * inner n

pub innermost-laws : {M B : Type 0} (S : Space M B) (settled : B → M → Bool) → ((b : B) (m : M) → settled b m ≡ true → S.holds b m ≡ true)
    → RegisterLaws S (innermost S) settled (λ n. 0)
innermost-laws S settled h = record {
  Represents = λ i l. SameBag i l;
  alike = λ i l k s e p. e p ∙ s p;
  build = λ l d p. refl;
  insert = λ m i l d e p. omega (arith, e p);
  strike = λ m i l d u e. remove_first-alike (S.same m) i l (rw (e (S.same m)) (d m)) e;
  count = λ P L b i l e s. same_bag-total P L P.of i l e ∙ sym (total_if-all P L (S.holds b) (all_map (h b) s));
  visits = λ b i l e. omega arith;
  list = λ b i l e s p. e p ∙ sym (filter_by-all (S.holds b) (all_map (h b) s) p);
  list_visits = λ b i l e. omega arith;
  bound_rises = λ m n e. omega arith;
}

-- what the laws' `Represents` says, for those who read it elsewhere: the marks themselves
module _
    {M B : Type 0} (S : Space M B) (settled : B → M → Bool) (h : (b : B) (m : M) → settled b m ≡ true → S.holds b m ≡ true) (i l : List M) where
  pub innermost-bag : (innermost-laws S settled h).Represents i l → SameBag i l
  unfolding innermost-laws
  innermost-bag r = r

  pub innermost-represents : SameBag i l → (innermost-laws S settled h).Represents i l
  unfolding innermost-laws
  innermost-represents e = e

-- Where a tree's nodes carry innermost registers, as an auxiliary's do, these give what document 01 says of the node: a count "adds the weight", and a
-- listing walks every node beneath, one visit each.
module _ {M B : Type 0} (S : Space M B) (E : SamenessLaws S) (A : Axis M B) (O : AxisLaws S A) (settled : B → M → Bool)
    (h : (b : B) (m : M) → settled b m ≡ true → S.holds b m ≡ true) (b : B) (i : List M) (l r : Tree M (List M))
    (c : Carried S E A O (innermost S) settled (λ n. 0) (innermost-laws S settled h) (node i l r)) where
  pub innermost-count : ((innermost S).count b i).found counting ≡ weight (node i l r)
  unfolding innermost-laws
  innermost-count = total-length i ∙ same_bag-length i (marks l ++ marks r) c.0 ∙ sym (weight-marks (node i l r))

  pub innermost-list_visits : ((innermost S).list b i).visits + 1 ≡ nodes (node i l r)
  innermost-list_visits = omega (arith, total-length i, innermost-count, nodes-weight (node i l r), weight-pos l, weight-pos r)

-- Marks that are the same are struck alike: their grades may differ.
module _ {M B : Type 0} (S : Space M B) (E : SamenessLaws S) (a b : M) (e : S.same a b ≡ true) where
  pub innermost-strike-alike : (l : List M) → (innermost S).strike a l ≡ (innermost S).strike b l
  innermost-strike-alike l = ap (λ p. remove_first p l) (E.alike a b e)

  module _ {I : Type 0} (A : Axis M B) (O : AxisLaws S A) (R : Register M B I) (h : (i : I) → R.strike a i ≡ R.strike b i) where
    strike_leaf-alike : (t : Tree M I) → strike_leaf A R a t ≡ strike_leaf A R b t
    strike_leaf-alike (leaf q) = refl
    strike_leaf-alike (node i l r) = rw (below_alike E O a b (least r) e, h i, strike_leaf-alike l, strike_leaf-alike r)

    strike_fold-alike : (o : Option (Tree M I)) → strike_fold A R a o ≡ strike_fold A R b o
    strike_fold-alike none = refl
    strike_fold-alike (some t) = strike_leaf-alike t

    pub fold-strike-alike : (o : Option (Tree M I)) → (fold S A R).strike a o ≡ (fold S A R).strike b o
    fold-strike-alike o = ap (rebalance_fold A R) (strike_fold-alike o)

    pub strike_rebuilt-alike : (o : Option (Tree M I)) → strike_rebuilt A R a o ≡ strike_rebuilt A R b o
    strike_rebuilt-alike o = ap (rebuilt_of A R) (strike_fold-alike o)

abbrev pub BalancedOf : {M I : Type 0} → Option (Tree M I) → Type 0
BalancedOf none = Unit {0}
BalancedOf (some t) = Balanced t

module _
    {M B I : Type 0} (S : Space M B) (E : SamenessLaws S) (A : Axis M B) (O : AxisLaws S A) (R : Register M B I) (settled : B → M → Bool)
    (bound : ℕ → ℕ)
    (L : RegisterLaws S R (settled_with A settled) bound) where
  abbrev Car : Tree M I → Type 0
  Car = Carried S E A O R (settled_with A settled) bound L

  -- a sound tree of the marks of l: in order, balanced, each node carrying a register of exactly the marks beneath
  pub record Sound (o : Option (Tree M I)) (l : List M) : Type 0 where
    pub bag : SameBag (marks_of o) l
    pub sorted : Sorted A (marks_of o)
    pub balanced : BalancedOf o
    pub carried : CarriedOf S E A O R (settled_with A settled) bound L o

  -- one tree's search
  settled-inside : (b : B) (t : Tree M I) → Sorted A (marks t) → inside A b t ≡ true → All (λ m. settled b m ≡ true) (marks t)
      → All (λ m. settled_with A settled b m ≡ true) (marks t)
  settled-inside b t s e f = all_map (λ q h. rw (h.0, h.1)) (all_both f (inside-on_side S A O b t s e))

  pub search-count : (P : Operation M) (Q : OperationLaws P) (b : B) (t : Tree M I) → Sorted A (marks t) → Car t
      → All (λ m. settled b m ≡ true) (marks t)
      → (search S A R b t).found P ≡ total_if P (S.holds b) (marks t)
  search-count P Q b (leaf m) s c f = sym (join-zero P Q _)
  search-count P Q b (node i l r) s c f =
      arrive-cases S A O b R (λ v u. u.found P ≡ total_if P (S.holds b) (marks l ++ marks r)) i l r
      (λ t. L.count P Q b i (marks l ++ marks r) c.0 (settled-inside b (node i l r) s t f))
      (λ u. sym (total_if-none P Q (S.holds b) (clear_none S A O b (node i l r) s u)))
      (ap₂ P.join
      (search-count P Q b l (sorted-left (marks l) (marks r) s) c.1 (all_left (marks l) (marks r) f))
      (search-count P Q b r (sorted-right (marks l) (marks r) s) c.2 (all_right (marks l) (marks r) f))
      ∙ sym (total-append P Q (figure_if P (S.holds b)) (marks l) (marks r)))

  pub search-list : (b : B) (t : Tree M I) → Sorted A (marks t) → Car t → All (λ m. settled b m ≡ true) (marks t)
      → SameBag (search_list S A R b t).marks (filter_by (S.holds b) (marks t))
  search-list b (leaf m) s c f p = refl
  search-list b (node i l r) s c f p =
      arrive-cases S A O b R (λ v u. count_if p v.marks ≡ count_if p (filter_by (S.holds b) (marks l ++ marks r))) i l r
      (λ t. L.list b i (marks l ++ marks r) c.0 (settled-inside b (node i l r) s t f) p)
      (λ u. sym (ap (count_if p) (filter_by-none (S.holds b) (clear_none S A O b (node i l r) s u))))
      (omega (
        arith,
        search-list b l (sorted-left (marks l) (marks r) s) c.1 (all_left (marks l) (marks r) f) p,
        search-list b r (sorted-right (marks l) (marks r) s) c.2 (all_right (marks l) (marks r) f) p,
        count_if-append p (search_list S A R b l).marks (search_list S A R b r).marks,
        filter_by-append (S.holds b) (marks l) (marks r) p,
      ))

  pub search-list_visits : (b : B) (t : Tree M I) → Car t
      → (search_list S A R b t).visits ≤ (search S A R b t).visits + 2 * length (search_list S A R b t).marks
  search-list_visits b (leaf m) c = omega arith
  search-list_visits b (node i l r) c =
      arrive-cases S A O b R (λ v u. v.visits ≤ u.visits + 2 * length v.marks) i l r
      (λ t. omega (arith, L.list_visits b i (marks l ++ marks r) c.0))
      (λ u. omega arith)
      (omega (
        arith,
        search-list_visits b l c.1,
        search-list_visits b r c.2,
        length-append (search_list S A R b l).marks (search_list S A R b r).marks,
      ))

  -- no carried register costs more than the bound for the whole
  carried-cheap : (b : B) (n : ℕ) (t : Tree M I) → weight t ≤ n → Car t → Cheap S A O b R (bound n) t
  carried-cheap b n (leaf m) h c = tt
  carried-cheap b n (node i l r) h c = (
    omega (arith, L.visits b i (marks l ++ marks r) c.0, L.bound_rises (length (marks l ++ marks r)) n (omega (arith, weight-marks (node i l r)))),
    carried-cheap b n l (omega arith) c.1,
    carried-cheap b n r (omega arith) c.2,
  )

  -- the fold's laws
  fold-count : (P : Operation M) → OperationLaws P → (b : B) (o : Option (Tree M I)) (l : List M) → Sound o l → All (λ m. settled b m ≡ true) l
      → (count_fold S A R b o).found P ≡ total_if P (S.holds b) l
  fold-count P Q b none l s f = same_bag-total P Q (figure_if P (S.holds b)) [] l s.bag
  fold-count P Q b (some t) l s f =
      search-count P Q b t s.sorted s.carried (all_alike (settled b) l (marks t) (λ p. sym (s.bag p)) f)
      ∙ same_bag-total P Q (figure_if P (S.holds b)) (marks t) l s.bag

  fold-visits : (b : B) (o : Option (Tree M I)) (l : List M) → Sound o l → (count_fold S A R b o).visits ≤ fold_bound bound (length l)
  fold-visits b none l s = omega arith
  fold-visits b (some t) l s =
      let e : weight t ≡ length l = weight-marks t ∙ same_bag-length (marks t) l s.bag in
      search-visits S A O b R (bound (length l)) (D (length l)) t
      (rw e at (balanced-depth t s.balanced)) s.sorted (carried-cheap b (length l) t (omega arith) s.carried)

  fold-list : (b : B) (o : Option (Tree M I)) (l : List M) → Sound o l → All (λ m. settled b m ≡ true) l
      → SameBag (list_fold S A R b o).marks (filter_by (S.holds b) l)
  fold-list b none l s f p = filter_by-alike (S.holds b) [] l s.bag p
  fold-list b (some t) l s f p =
      search-list b t s.sorted s.carried (all_alike (settled b) l (marks t) (λ p. sym (s.bag p)) f) p
      ∙ filter_by-alike (S.holds b) (marks t) l s.bag p

  fold-list_visits : (b : B) (o : Option (Tree M I)) (l : List M) → Sound o l
      → (list_fold S A R b o).visits ≤ (count_fold S A R b o).visits + 2 * length (list_fold S A R b o).marks
  fold-list_visits b none l s = omega arith
  fold-list_visits b (some t) l s = search-list_visits b t s.carried

  fold-build : (l : List M) → Distinct S l → Sound ((fold S A R).build l) l
  fold-build [] d = record { bag = λ p. refl; sorted = sorted[]; balanced = tt; carried = tt }
  fold-build (m ∷ l) d =
      let run = sort A.below (m ∷ l) in
      let e : length run ≡ length (m ∷ l) = same_bag-length run (m ∷ l) (λ p. sort-count_if A.below p (m ∷ l)) in
      let g = build-marks A R m run (omega arith) in
      record {
        bag = λ p. ap (count_if p) g ∙ sort-count_if A.below p (m ∷ l);
        sorted = rw g (sort_sorted E O (m ∷ l) d);
        balanced = build-balanced A R m run (omega arith);
        carried =
            build-carried S E A O R (settled_with A settled) bound L m run (omega arith) (λ q. omega (arith, sort-count_if A.below (S.same q) (m ∷ l), d q));
      }

  -- what an update's tree holds before it is rebalanced, it holds afterwards
  rebalance-sound : (o : Option (Tree M I)) (l : List M) → SameBag (marks_of o) l → Sorted A (marks_of o)
      → CarriedOf S E A O R (settled_with A settled) bound L o
      → Sound (rebalance_fold A R o) l
  rebalance-sound none l e s c = record { bag = e; sorted = s; balanced = tt; carried = tt }
  rebalance-sound (some t) l e s c =
      record {
        bag = λ p. ap (count_if p) (rebalance-marks A R t) ∙ e p;
        sorted = rw (rebalance-marks A R t) s;
        balanced = rebalance-balanced A R t;
        carried = rebalance-carried S E A O R (settled_with A settled) bound L t (sorted-distinct E O s) c;
      }

  fold-insert : (m : M) (o : Option (Tree M I)) (l : List M) → Distinct S (m ∷ l) → Sound o l → Sound ((fold S A R).insert m o) (m ∷ l)
  fold-insert m none l d s = record { bag = λ p. omega (arith, s.bag p); sorted = sorted∷ nil sorted[]; balanced = tt; carried = tt }
  fold-insert m (some t) l d s =
      let z : count_if (S.same m) (marks t) ≡ 0 = s.bag (S.same m) ∙ distinct_head E m l d in
      let g = insert-marks S E A O R m t s.sorted in
      rebalance-sound (some (insert_leaf A R m t)) (m ∷ l)
      (λ p. omega (arith, ap (count_if p) g, insert_sorted-count_if A.below p m (marks t), s.bag p))
      (insert-sorted S E A O R m t s.sorted z)
      (insert-carried S E A O R (settled_with A settled) bound L m t s.sorted z s.carried)

  fold-strike : (m : M) (o : Option (Tree M I)) (l : List M) → Distinct S l → 0 < count_if (S.same m) l → Sound o l
      → Sound ((fold S A R).strike m o) (remove_first (S.same m) l)
  fold-strike m none l d h s = absurd (omega (arith, s.bag (S.same m)))
  fold-strike m (some t) l d h s =
      let u : 0 < count_if (S.same m) (marks t) = rw (s.bag (S.same m)) h in
      let g = strike-marks S E A O R m t s.sorted u in
      rebalance-sound (strike_leaf A R m t) (remove_first (S.same m) l)
      (λ p. ap (count_if p) g ∙ remove_first-alike (S.same m) (marks t) l (sorted-distinct E O s.sorted m) s.bag p)
      (strike-sorted S E A O R m t s.sorted u)
      (strike-carried S E A O R (settled_with A settled) bound L m t s.sorted u s.carried)

  fold_bound-rises : (m n : ℕ) → m ≤ n → fold_bound bound m ≤ fold_bound bound n
  fold_bound-rises m n h = omega (arith, D-rises m n h, mul-le-mul (D-rises m n h) (L.bound_rises m n h))

  pub fold-laws : RegisterLaws S (fold S A R) settled (fold_bound bound)
  fold-laws = record {
    Represents = Sound;
    alike = λ o l k e s. record { bag = λ p. s.bag p ∙ e p; sorted = s.sorted; balanced = s.balanced; carried = s.carried };
    build = fold-build;
    insert = fold-insert;
    strike = fold-strike;
    count = fold-count;
    visits = fold-visits;
    list = fold-list;
    list_visits = fold-list_visits;
    bound_rises = fold_bound-rises;
  }

  pub fold-sound : (o : Option (Tree M I)) (l : List M) → fold-laws.Represents o l → Sound o l
  unfolding fold-laws
  fold-sound o l h = h

  pub fold-represents : (o : Option (Tree M I)) (l : List M) → Sound o l → fold-laws.Represents o l
  unfolding fold-laws
  fold-represents o l h = h
