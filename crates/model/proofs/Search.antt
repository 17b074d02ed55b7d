-- The search of one tree: a clear cell holds none of the box's marks, and few nodes are visited. Assumes nothing.
use Prim.Native.Nat.{ℕ, zero, suc, ◌+◌, ◌*◌, ◌≤◌}
use mathlib.Core.Path.{◌≡◌}
use mathlib.Core.Bool.{true, false, not}
use mathlib.Core.List.{[], ◌++◌}
use native.Mathlib.Omega.{arith}
use Rattle.model.specs.Axis.{Space, Axis, on_side, cell_clear}
use Rattle.model.specs.Register.{Register, Found, Listed}
use Rattle.model.specs.Tree.{Tree, leaf, node, depth, marks, least, greatest}
use Rattle.model.specs.Search.{inside, clear, arrive, together, nothing, arrive_listing, joined, search, search_list}
use Rattle.model.specs.Laws.{AxisLaws, All, nil, cons, Sorted}
use Rattle.model.proofs.Logic.{by_cases, clash, not-true-false, and_left, and_right, or_true_right}
use Rattle.model.proofs.Lists.{all_append, all_map, all_both}
use Rattle.model.proofs.Sorted.{sorted-left, sorted-right, sorted-across}
use Rattle.model.proofs.Tree.{all-least, all-greatest}

-- a cell with a coordinate on the box's side is not clear
on_side-not-clear : {M B : Type 0} (S : Space M B) (A : Axis M B) (O : AxisLaws S A) (b : B) (lo hi v : ℕ) → lo ≤ v → v ≤ hi
    → on_side A b v ≡ true
    → cell_clear A b lo hi ≡ false
on_side-not-clear S A O b lo hi v p q e =
    rw (
      O.low_rises b v hi q (and_left (A.from_low b v) (A.to_high b v) e),
      O.high_falls b lo v p (and_right (A.from_low b v) (A.to_high b v) e),
    )

module _ {M B I : Type 0} (S : Space M B) (A : Axis M B) (O : AxisLaws S A) where
  -- a cell holds every coordinate beneath
  pub cell-spans : (t : Tree M I) → Sorted A (marks t) → All (λ q. (A.at (least t) ≤ A.at q) × (A.at q ≤ A.at (greatest t))) (marks t)
  cell-spans (leaf m) s = cons {m = m} (omega arith) nil
  cell-spans (node i l r) s =
      let x = sorted-across (marks l) (marks r) s in
      all_append
      (all_map (λ q h. (h.0.0, O.rises q (greatest r) (all-greatest r h.1))) (all_both (cell-spans l (sorted-left (marks l) (marks r) s)) x))
      (all_map (λ q h. (O.rises (least l) q h.1, h.0.1)) (all_both (cell-spans r (sorted-right (marks l) (marks r) s)) (all-least l x)))

  pub cell-ordered : (t : Tree M I) → Sorted A (marks t) → A.at (least t) ≤ A.at (greatest t)
  cell-ordered t s = (all-least t (cell-spans t s)).1

  -- two children's cells meet at most in one coordinate
  pub cells-follow : (l r : Tree M I) → Sorted A (marks l ++ marks r) → A.at (greatest l) ≤ A.at (least r)
  cells-follow l r s = O.rises (greatest l) (least r) (all-least r (all-greatest l (sorted-across (marks l) (marks r) s)))

  module _ (b : B) where
    pub inside-ends : (t : Tree M I) → inside A b t ≡ true → (A.from_low b (A.at (least t)) ≡ true) × (A.to_high b (A.at (greatest t)) ≡ true)
    inside-ends t e = (
      and_left (A.from_low b (A.at (least t))) (A.to_high b (A.at (greatest t))) e,
      and_right (A.from_low b (A.at (least t))) (A.to_high b (A.at (greatest t))) e,
    )

    -- all beneath a node whose cell is inside are on the box's side
    pub inside-on_side : (t : Tree M I) → Sorted A (marks t) → inside A b t ≡ true → All (λ q. on_side A b (A.at q) ≡ true) (marks t)
    inside-on_side t s e =
        let k = inside-ends t e in
        all_map
        (λ q h. rw (O.low_rises b (A.at (least t)) (A.at q) h.0 k.0, O.high_falls b (A.at q) (A.at (greatest t)) h.1 k.1))
        (cell-spans t s)

    pub clear_none : (t : Tree M I) → Sorted A (marks t) → clear A b t ≡ true → All (λ q. S.holds b q ≡ false) (marks t)
    clear_none t s e =
        all_map
        (λ q h. not-true-false (S.holds b q)
        (λ k. clash e (on_side-not-clear S A O b (A.at (least t)) (A.at (greatest t)) (A.at q) h.0 h.1 (O.held b q k))))
        (cell-spans t s)

    clear-before : (t : Tree M I) → A.from_low b (A.at (greatest t)) ≡ false → clear A b t ≡ true
    clear-before t e = rw e

    clear-after : (t : Tree M I) → A.to_high b (A.at (least t)) ≡ false → clear A b t ≡ true
    clear-after t e = or_true_right (not (A.from_low b (A.at (greatest t)))) (not (A.to_high b (A.at (least t)))) (rw e)

    module _ (R : Register M B I) where
      -- one arrival at a node, by the three ways on: of a listing beside the count
      pub arrive-cases : (P : Listed M → Found M → Type 0) (i : I) (l r : Tree M I)
          → (inside A b (node i l r) ≡ true → P (arrive_listing (R.list b i)) (arrive (R.count b i)))
          → (clear A b (node i l r) ≡ true → P (record { marks = []; visits = 1 }) nothing)
          → P (arrive_listing (joined (search_list S A R b l) (search_list S A R b r))) (arrive (together (search S A R b l) (search S A R b r)))
          → P (search_list S A R b (node i l r)) (search S A R b (node i l r))
      arrive-cases P i l r f g h =
          by_cases (inside A b (node i l r))
          (λ t. rw t (f t))
          (λ t. rw t (by_cases (clear A b (node i l r)) (λ u. rw u (g u)) (λ u. rw u h)))

      -- the visits, where those of every carried register are at most N
      module _ (N : ℕ) where
        abbrev pub Cheap : Tree M I → Type 0
        Cheap (leaf m) = Unit {0}
        Cheap (node i l r) = ((R.count b i).visits ≤ N) × Cheap l × Cheap r

        visits-clear : (t : Tree M I) → Sorted A (marks t) → clear A b t ≡ true → (search S A R b t).visits ≤ 1
        visits-clear (leaf m) s e = omega arith
        visits-clear (node i l r) s e =
            by_cases (inside A b (node i l r))
            (λ t.
            let k = all-least (node i l r) (inside-on_side (node i l r) s t) in
            clash e (on_side-not-clear S A O b (A.at (least l)) (A.at (greatest r)) (A.at (least l)) (omega arith) (cell-ordered (node i l r) s) k))
            (λ f. rw (f, e) (omega arith))

        visits-inside : (t : Tree M I) → Cheap t → A.from_low b (A.at (least t)) ≡ true → A.to_high b (A.at (greatest t)) ≡ true
            → (search S A R b t).visits ≤ N + 1
        visits-inside (leaf m) c p q = omega arith
        visits-inside (node i l r) c p q = rw (p, q) (omega (arith, c.0))

        -- the side ends beyond the cell: only its low end can cut
        visits-low : (n : ℕ) (t : Tree M I) → depth t ≤ n → Sorted A (marks t) → Cheap t → A.to_high b (A.at (greatest t)) ≡ true
            → (search S A R b t).visits ≤ 2 * n + 1 + n * N
        visits-low n (leaf m) d s c q = omega arith
        visits-low zero (node i l r) d s c q = absurd (omega arith)
        visits-low (suc n) (node i l r) d s c q =
            let sl = sorted-left (marks l) (marks r) s in
            let sr = sorted-right (marks l) (marks r) s in
            let seam = cells-follow l r s in
            arrive-cases (λ k f. f.visits ≤ 2 * suc n + 1 + suc n * N) i l r (λ t. omega (arith, c.0)) (λ u. omega arith)
            (by_cases (A.from_low b (A.at (least r)))
            (λ t. omega (
              arith,
              visits-low n l (omega arith) sl c.1 (O.high_falls b (A.at (greatest l)) (A.at (greatest r)) (omega (arith, cell-ordered r sr)) q),
              visits-inside r c.2 t q,
            ))
            (λ f. omega (
              arith,
              visits-clear l sl (clear-before l
                  (not-true-false (A.from_low b (A.at (greatest l))) (λ k. clash (O.low_rises b (A.at (greatest l)) (A.at (least r)) seam k) f))),
              visits-low n r (omega arith) sr c.2 q,
            )))

        -- the side begins before the cell: only its high end can cut
        visits-high : (n : ℕ) (t : Tree M I) → depth t ≤ n → Sorted A (marks t) → Cheap t → A.from_low b (A.at (least t)) ≡ true
            → (search S A R b t).visits ≤ 2 * n + 1 + n * N
        visits-high n (leaf m) d s c q = omega arith
        visits-high zero (node i l r) d s c q = absurd (omega arith)
        visits-high (suc n) (node i l r) d s c q =
            let sl = sorted-left (marks l) (marks r) s in
            let sr = sorted-right (marks l) (marks r) s in
            let seam = cells-follow l r s in
            arrive-cases (λ k f. f.visits ≤ 2 * suc n + 1 + suc n * N) i l r (λ t. omega (arith, c.0)) (λ u. omega arith)
            (by_cases (A.to_high b (A.at (greatest l)))
            (λ t. omega (
              arith,
              visits-inside l c.1 q t,
              visits-high n r (omega arith) sr c.2 (O.low_rises b (A.at (least l)) (A.at (least r)) (omega (arith, cell-ordered l sl)) q),
            ))
            (λ f. omega (
              arith,
              visits-high n l (omega arith) sl c.1 q,
              visits-clear r sr (clear-after r
                  (not-true-false (A.to_high b (A.at (least r))) (λ k. clash (O.high_falls b (A.at (greatest l)) (A.at (least r)) seam k) f))),
            )))

        -- until the side's two ends part, one child is clear
        pub search-visits : (n : ℕ) (t : Tree M I) → depth t ≤ n → Sorted A (marks t) → Cheap t
            → (search S A R b t).visits ≤ (4 * n + 1) + 2 * n * N
        search-visits n (leaf m) d s c = omega arith
        search-visits zero (node i l r) d s c = absurd (omega arith)
        search-visits (suc n) (node i l r) d s c =
            let sl = sorted-left (marks l) (marks r) s in
            let sr = sorted-right (marks l) (marks r) s in
            let seam = cells-follow l r s in
            arrive-cases (λ k f. f.visits ≤ (4 * suc n + 1) + 2 * suc n * N) i l r (λ t. omega (arith, c.0)) (λ u. omega arith)
            (by_cases (A.to_high b (A.at (least r)))
            (λ p. by_cases (A.from_low b (A.at (greatest l)))
            (λ q. omega (
              arith,
              visits-low n l (omega arith) sl c.1 (O.high_falls b (A.at (greatest l)) (A.at (least r)) seam p),
              visits-high n r (omega arith) sr c.2 (O.low_rises b (A.at (greatest l)) (A.at (least r)) seam q),
            ))
            (λ q. omega (arith, visits-clear l sl (clear-before l q), search-visits n r (omega arith) sr c.2)))
            (λ p. omega (arith, search-visits n l (omega arith) sl c.1, visits-clear r sr (clear-after r p))))
