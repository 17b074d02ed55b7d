-- A register over slots does what the register over their marks does: trees over slot numbers stand for trees over marks. Assumes nothing.
use Prim.Native.Nat.{ℕ, zero, suc, ◌+◌, ◌/◌}
use mathlib.Core.Path.{◌≡◌, refl, sym, ap, ap₂, ◌∙◌, fun_ext}
use mathlib.Core.Bool.{Bool}
use mathlib.Core.List.{List, [], ◌∷◌, ◌++◌, map}
use mathlib.Core.Option
use mathlib.Core.Option.{Option, none, some}
use lib.ListN.{length, take, drop, length-map}
use Rattle.model.specs.Lists.{filter_by, remove_first, insert_sorted, sort}
use Rattle.model.specs.Totals.{Operation, total}
use Rattle.model.specs.Axis.{Space, Axis}
use Rattle.model.specs.Register.{Register, Listed, innermost}
use Rattle.model.specs.Tree.{Tree, leaf, node, weight, marks, least, greatest, evenly, with_left, with_right, build_from, build, insert_leaf}
use Rattle.model.specs.Tree.{strike_leaf, rebalance, rebuilt}
use Rattle.model.specs.Search.{inside, clear, arrive, together, arrive_listing, joined, search, search_list}
use Rattle.model.specs.Fold.{rebalance_fold, rebuilt_of, insert_rebuilt, strike_rebuilt, fold}
use Rattle.model.specs.Sheet.{Mark, sheet, along_x, along_y, auxiliary, main}
use Rattle.model.specs.Slots.{slot_space, slot_axis, map_tree, slot_operation, map_found, map_listed, StandsFor}
use Rattle.model.specs.Laws.{OperationLaws, SamenessLaws, AxisLaws}
use Rattle.model.proofs.Logic.{by_cases}

-- the laws of sameness, of an operation and of an axis hold over slots
module _ {N M B : Type 0} (f : N → M) (S : Space M B) where
  pub slot_space-sameness : SamenessLaws S → SamenessLaws (slot_space f S)
  slot_space-sameness E = record { self = λ a. E.self (f a); alike = λ a b e. ap (λ h c. h (f c)) (E.alike (f a) (f b) e) }

  pub slot_operation-laws : (P : Operation M) → OperationLaws P → OperationLaws (slot_operation f P)
  slot_operation-laws P L = record { assoc = L.assoc; comm = L.comm; neutral = L.neutral }

  pub slot_axis-laws : (A : Axis M B) → AxisLaws S A → AxisLaws (slot_space f S) (slot_axis f A)
  slot_axis-laws A O = record {
    trans = λ a b c. O.trans (f a) (f b) (f c);
    linear = λ a b c. O.linear (f a) (f b) (f c);
    apart = λ a b. O.apart (f a) (f b);
    close = λ a b. O.close (f a) (f b);
    rises = λ a b. O.rises (f a) (f b);
    level = λ a b. O.level (f a) (f b);
    low_rises = O.low_rises;
    high_falls = O.high_falls;
    held = λ b m. O.held b (f m);
  }

module _ {N M : Type 0} (f : N → M) where
  -- lists
  pub map-append : (l r : List N) → map f (l ++ r) ≡ map f l ++ map f r
  map-append [] r = refl
  map-append (m ∷ l) r = ap (λ k. f m ∷ k) (map-append l r)

  map-take : (n : ℕ) (l : List N) → map f (take n l) ≡ take n (map f l)
  map-take zero l = refl
  map-take (suc n) [] = refl
  map-take (suc n) (m ∷ l) = ap (λ k. f m ∷ k) (map-take n l)

  map-drop : (n : ℕ) (l : List N) → map f (drop n l) ≡ drop n (map f l)
  map-drop zero l = refl
  map-drop (suc n) [] = refl
  map-drop (suc n) (m ∷ l) = map-drop n l

  pub map-remove_first : (p : M → Bool) (l : List N) → map f (remove_first (λ q. p (f q)) l) ≡ remove_first p (map f l)
  map-remove_first p [] = refl
  map-remove_first p (q ∷ l) = by_cases (p (f q)) (λ t. rw t) (λ u. rw (u, map-remove_first p l))

  pub map-filter_by : (p : M → Bool) (l : List N) → map f (filter_by (λ q. p (f q)) l) ≡ filter_by p (map f l)
  map-filter_by p [] = refl
  map-filter_by p (q ∷ l) = by_cases (p (f q)) (λ t. rw (t, map-filter_by p l)) (λ u. rw (u, map-filter_by p l))

  map-insert_sorted : (below : M → M → Bool) (m : N) (l : List N)
      → map f (insert_sorted (λ a b. below (f a) (f b)) m l) ≡ insert_sorted below (f m) (map f l)
  map-insert_sorted below m [] = refl
  map-insert_sorted below m (q ∷ l) = by_cases (below (f m) (f q)) (λ t. rw t) (λ u. rw (u, map-insert_sorted below m l))

  pub map-sort : (below : M → M → Bool) (l : List N) → map f (sort (λ a b. below (f a) (f b)) l) ≡ sort below (map f l)
  map-sort below [] = refl
  map-sort below (m ∷ l) = map-insert_sorted below m (sort (λ a b. below (f a) (f b)) l) ∙ ap (insert_sorted below (f m)) (map-sort below l)

  pub map-total : (join : ℕ → ℕ → ℕ) (v : M → ℕ) (l : List N) → total join (λ s. v (f s)) l ≡ total join v (map f l)
  map-total join v [] = refl
  map-total join v (m ∷ l) = ap (join (v (f m))) (map-total join v l)

  map-joined : (a b : Listed N) → map_listed f (joined a b) ≡ joined (map_listed f a) (map_listed f b)
  map-joined a b = ap (λ l. record { marks = l; visits = a.visits + b.visits }) (map-append a.marks b.marks)

  -- trees
  module _ {I J : Type 0} (g : I → J) where
    pub map-weight : (t : Tree N I) → weight (map_tree f g t) ≡ weight t
    map-weight (leaf m) = refl
    map-weight (node i l r) = ap₂ ◌+◌ (map-weight l) (map-weight r)

    pub map-marks : (t : Tree N I) → marks (map_tree f g t) ≡ map f (marks t)
    map-marks (leaf m) = refl
    map-marks (node i l r) = ap₂ ◌++◌ (map-marks l) (map-marks r) ∙ sym (map-append (marks l) (marks r))

    pub map-least : (t : Tree N I) → least (map_tree f g t) ≡ f (least t)
    map-least (leaf m) = refl
    map-least (node i l r) = map-least l

    pub map-greatest : (t : Tree N I) → greatest (map_tree f g t) ≡ f (greatest t)
    map-greatest (leaf m) = refl
    map-greatest (node i l r) = map-greatest r

    pub map-evenly : (l r : Tree N I) → evenly (map_tree f g l) (map_tree f g r) ≡ evenly l r
    map-evenly l r = rw (map-weight l, map-weight r)

    pub map-rebuilt : (t : Tree N I) → rebuilt (map_tree f g t) ≡ rebuilt t
    map-rebuilt (leaf m) = refl
    map-rebuilt (node i l r) = rw (map-evenly l r, map-weight l, map-weight r, map-rebuilt l, map-rebuilt r)

    map-with_left : (i : I) (o : Option (Tree N I)) (r : Tree N I)
        → map_tree f g (with_left i o r) ≡ with_left (g i) (Option.map (map_tree f g) o) (map_tree f g r)
    map-with_left i none r = refl
    map-with_left i (some l) r = refl

    map-with_right : (i : I) (l : Tree N I) (o : Option (Tree N I))
        → map_tree f g (with_right i l o) ≡ with_right (g i) (map_tree f g l) (Option.map (map_tree f g) o)
    map-with_right i l none = refl
    map-with_right i l (some r) = refl

    -- what the nodes carry stands for what they carry over marks
    module _ {B : Type 0} (S : Space M B) (A : Axis M B) (R : Register N B I) (Q : Register M B J) (T : StandsFor f g R Q) where
      map-build_from : (d : N) (n : ℕ) (l : List N) → map_tree f g (build_from (slot_axis f A) R d n l) ≡ build_from A Q (f d) n (map f l)
      map-build_from d zero l = refl
      map-build_from d (suc n) [] = refl
      map-build_from d (suc n) (m ∷ []) = refl
      map-build_from d (suc n) (m ∷ q ∷ l) =
          let run = m ∷ q ∷ l in
          let half = length run / 2 in
          let e = length-map l f in
          rw (e, T.build run, map-build_from d n (take half run), map-build_from d n (drop half run), map-take half run, map-drop half run)

      pub map-build : (d : N) (l : List N) → map_tree f g (build (slot_axis f A) R d l) ≡ build A Q (f d) (map f l)
      map-build d l = rw (length-map l f) (map-build_from d (length l) l)

      pub map-insert_leaf : (m : N) (t : Tree N I) → map_tree f g (insert_leaf (slot_axis f A) R m t) ≡ insert_leaf A Q (f m) (map_tree f g t)
      map-insert_leaf m (leaf q) =
          by_cases (A.below (f m) (f q))
          (λ t. rw (t, T.insert m (R.build (q ∷ [])), T.build (q ∷ [])))
          (λ u. rw (u, T.insert m (R.build (q ∷ [])), T.build (q ∷ [])))
      map-insert_leaf m (node i l r) =
          by_cases (A.below (f m) (f (least r)))
          (λ t. rw (map-least r, t, T.insert m i, map-insert_leaf m l))
          (λ u. rw (map-least r, u, T.insert m i, map-insert_leaf m r))

      pub map-strike_leaf : (m : N) (t : Tree N I) → Option.map (map_tree f g) (strike_leaf (slot_axis f A) R m t) ≡ strike_leaf A Q (f m) (map_tree f g t)
      map-strike_leaf m (leaf q) = refl
      map-strike_leaf m (node i l r) =
          by_cases (A.below (f m) (f (least r)))
          (λ t. rw (map-least r, t, map-with_left (R.strike m i) (strike_leaf (slot_axis f A) R m l) r, T.strike m i, map-strike_leaf m l))
          (λ u. rw (map-least r, u, map-with_right (R.strike m i) l (strike_leaf (slot_axis f A) R m r), T.strike m i, map-strike_leaf m r))

      pub map-rebalance : (t : Tree N I) → map_tree f g (rebalance (slot_axis f A) R t) ≡ rebalance A Q (map_tree f g t)
      map-rebalance (leaf m) = refl
      map-rebalance (node i l r) =
          by_cases (evenly l r)
          (λ t. rw (map-evenly l r, t, map-rebalance l, map-rebalance r))
          (λ u. rw (map-evenly l r, u, map-least l, map-marks l, map-marks r, ← map-append (marks l) (marks r)) (map-build (least l) (marks l ++ marks r)))

      pub map-search : (b : B) (t : Tree N I) → map_found f (search (slot_space f S) (slot_axis f A) R b t) ≡ search S A Q b (map_tree f g t)
      map-search b (leaf m) = refl
      map-search b (node i l r) =
          rw (map-least l, map-greatest r)
          (by_cases (inside (slot_axis f A) b (node i l r))
          (λ t. rw t (ap arrive (T.count b i)))
          (λ t. by_cases (clear (slot_axis f A) b (node i l r))
          (λ u. rw (t, u))
          (λ u. rw (t, u) (ap arrive (ap₂ together (map-search b l) (map-search b r))))))

      pub map-search_list : (b : B) (t : Tree N I) → map_listed f (search_list (slot_space f S) (slot_axis f A) R b t)
          ≡ search_list S A Q b (map_tree f g t)
      map-search_list b (leaf m) = ap (λ l. record { marks = l; visits = 1 }) (map-filter_by (S.holds b) (m ∷ []))
      map-search_list b (node i l r) =
          let ll = search_list (slot_space f S) (slot_axis f A) R b l in
          let lr = search_list (slot_space f S) (slot_axis f A) R b r in
          rw (map-least l, map-greatest r)
          (by_cases (inside (slot_axis f A) b (node i l r))
          (λ t. rw t (ap arrive_listing (T.list b i)))
          (λ t. by_cases (clear (slot_axis f A) b (node i l r))
          (λ u. rw (t, u))
          (λ u. rw (t, u) (ap arrive_listing (map-joined ll lr ∙ ap₂ joined (map-search_list b l) (map-search_list b r))))))

      -- and so the fold over slots stands for the fold over marks
      fold-build : (l : List N) → Option.map (map_tree f g) ((fold (slot_space f S) (slot_axis f A) R).build l) ≡ (fold S A Q).build (map f l)
      fold-build [] = refl
      fold-build (m ∷ l) =
          ap some
          (map-build m (sort (slot_axis f A).below (m ∷ l)) ∙ ap (build A Q (f m)) (map-sort A.below (m ∷ l)))

      map-rebalance_fold : (o : Option (Tree N I))
          → Option.map (map_tree f g) (rebalance_fold (slot_axis f A) R o) ≡ rebalance_fold A Q (Option.map (map_tree f g) o)
      map-rebalance_fold none = refl
      map-rebalance_fold (some t) = rw (map-rebalance t)

      fold-insert : (m : N) (o : Option (Tree N I))
          → Option.map (map_tree f g) ((fold (slot_space f S) (slot_axis f A) R).insert m o) ≡ (fold S A Q).insert (f m) (Option.map (map_tree f g) o)
      fold-insert m none = refl
      fold-insert m (some t) = rw (map-rebalance (insert_leaf (slot_axis f A) R m t), map-insert_leaf m t)

      fold-strike : (m : N) (o : Option (Tree N I))
          → Option.map (map_tree f g) ((fold (slot_space f S) (slot_axis f A) R).strike m o) ≡ (fold S A Q).strike (f m) (Option.map (map_tree f g) o)
      fold-strike m none = refl
      fold-strike m (some t) = map-rebalance_fold (strike_leaf (slot_axis f A) R m t) ∙ ap (rebalance_fold A Q) (map-strike_leaf m t)

      fold-count : (b : B) (o : Option (Tree N I))
          → map_found f ((fold (slot_space f S) (slot_axis f A) R).count b o) ≡ (fold S A Q).count b (Option.map (map_tree f g) o)
      fold-count b none = refl
      fold-count b (some t) = map-search b t

      fold-list : (b : B) (o : Option (Tree N I))
          → map_listed f ((fold (slot_space f S) (slot_axis f A) R).list b o) ≡ (fold S A Q).list b (Option.map (map_tree f g) o)
      fold-list b none = refl
      fold-list b (some t) = map-search_list b t

      pub fold-stands : StandsFor f (Option.map (map_tree f g)) (fold (slot_space f S) (slot_axis f A) R) (fold S A Q)
      fold-stands = record { build = fold-build; insert = fold-insert; strike = fold-strike; count = fold-count; list = fold-list }

      -- the figures 'rebuilt' are the same
      pub insert_rebuilt-stands : (m : N) (o : Option (Tree N I))
          → insert_rebuilt (slot_axis f A) R m o ≡ insert_rebuilt A Q (f m) (Option.map (map_tree f g) o)
      insert_rebuilt-stands m none = refl
      insert_rebuilt-stands m (some t) = sym (map-rebuilt (insert_leaf (slot_axis f A) R m t)) ∙ ap rebuilt (map-insert_leaf m t)

      rebuilt_of-stands : (o : Option (Tree N I)) → rebuilt_of (slot_axis f A) R o ≡ rebuilt_of A Q (Option.map (map_tree f g) o)
      rebuilt_of-stands none = refl
      rebuilt_of-stands (some t) = sym (map-rebuilt t)

      pub strike_rebuilt-stands : (m : N) (o : Option (Tree N I))
          → strike_rebuilt (slot_axis f A) R m o ≡ strike_rebuilt A Q (f m) (Option.map (map_tree f g) o)
      strike_rebuilt-stands m none = refl
      strike_rebuilt-stands m (some t) = rebuilt_of-stands (strike_leaf (slot_axis f A) R m t) ∙ ap (rebuilt_of A Q) (map-strike_leaf m t)

  pub innermost-stands : {B : Type 0} (S : Space M B) → StandsFor f (map f) (innermost (slot_space f S)) (innermost S)
  innermost-stands S = record {
    build = λ l. refl;
    insert = λ m l. refl;
    strike = λ m l. map-remove_first (S.same (f m)) l;
    count = λ b l. ap (λ h. record { found = h; visits = 0 }) (fun_ext (λ P. map-total P.join P.of l));
    list = λ b l. rw (length-map l f);
  }

-- the two-fold register over slots that hold the sheet's marks
module _ {N : Type 0} (f : N → Mark) where
  pub auxiliary-stands : StandsFor f (Option.map (map_tree f (map f)))
      (fold (slot_space f sheet) (slot_axis f along_y) (innermost (slot_space f sheet))) auxiliary
  auxiliary-stands = fold-stands f (map f) sheet along_y (innermost (slot_space f sheet)) (innermost sheet) (innermost-stands f sheet)

  pub main-stands :
      StandsFor f (Option.map (map_tree f (Option.map (map_tree f (map f)))))
      (fold (slot_space f sheet) (slot_axis f along_x) (fold (slot_space f sheet) (slot_axis f along_y) (innermost (slot_space f sheet)))) main
  main-stands =
      fold-stands f (Option.map (map_tree f (map f))) sheet along_x (fold (slot_space f sheet) (slot_axis f along_y) (innermost (slot_space f sheet))) auxiliary
      auxiliary-stands
