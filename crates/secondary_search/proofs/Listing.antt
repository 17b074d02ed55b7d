-- On words that hold an auxiliary tree whose slots are on the box's x side, the mirror of the listing writes the marks of the slots that it meets, in
-- the tree's order, and adds the model's visits. Those slots are the model's, perhaps in another order. Assumes nothing.
use Rattle.std.specs.Prelude.{if◌then◌else◌}
use Prim.Native.Nat.{ℕ, zero, suc, ◌+◌, ◌*◌, ◌/◌, ◌%◌, ◌-◌, ◌≤◌, ◌<◌}
use mathlib.Core.Path.{◌≡◌, refl, sym, ◌∙◌}
use mathlib.Core.Bool.{true, false}
use mathlib.Core.List.{List, [], ◌∷◌, ◌++◌, map}
use native.Mathlib.Omega.{arith}
use borrow.Author.Tests.{lt-leb, le-leb, eq-eqb, ne_eqb}
use lib.Dec.{leb}
use lib.ListN.{length, length-append, length-map}
use lib.Seq.{sets, length-sets}
use Rattle.model.specs.Lists.{filter_by}
use Rattle.model.specs.Axis.{on_side}
use Rattle.model.specs.Register.{Listed, innermost}
use Rattle.model.specs.Tree.{Tree, leaf, node, weight, depth, marks, least}
use Rattle.model.specs.Search.{inside, clear, search_list}
use Rattle.model.specs.Sheet.{Mark, Box, sheet, holds, along_y}
use Rattle.model.specs.Slots.{slot_space, slot_axis}
use Rattle.model.specs.Laws.{cons, SameBag}
use Rattle.model.proofs.Logic.{by_cases}
use Rattle.model.proofs.Lists.{all_left, all_right, count_if-append, same_bag-length}
use Rattle.model.proofs.Slots.{map-append}
use Rattle.model.proofs.Tree.{weight-pos, weight-marks, nodes, nodes-weight}
use Rattle.table.specs.Layout.{mark_width, record_place, list_place}
use Rattle.table.specs.Marks.{slot_mark, put_mark, mark_words}
use Rattle.nodes.specs.Arms.{arms}
use Rattle.nodes.specs.Holds.{number, arm_of, Held, CarriesBag}
use Rattle.table.specs.Tally.{visited, pack}
use Rattle.table.specs.Limits.{lost}
use Rattle.table.specs.After.{After, after}
use Rattle.nodes.proofs.Frames.{sets-append}
use Rattle.nodes.proofs.Held.{times-least, held-least, held-left, held-right}
use Rattle.table.proofs.Lists.{mark_words-append, mark_words-length}
use Rattle.table.proofs.Tallies.{visited-pack, pack-visits, pack-found}
use Rattle.secondary_search.specs.List.{walk_leaf, walk_record, walk_node, walk♯, list_record, list_node, list♯}
use Rattle.secondary_search.proofs.Counting.{leaf-clear, Settled, settled-holds}

module _ (f : ℕ → Mark) where
  -- the list with the marks of slots written from its mark k on
  abbrev pub written : ℕ → List ℕ → List ℕ → List ℕ
  written k l ys = sets ys (list_place k) (mark_words (map f l))

  module _ (b : Box) where
    -- the model's listing
    abbrev pub listed : Tree ℕ (List ℕ) → Listed ℕ
    listed = search_list (slot_space f sheet) (slot_axis f along_y) (innermost (slot_space f sheet)) b

    -- the slots whose marks the listing writes, in the tree's order
    abbrev pub met : Tree ℕ (List ℕ) → List ℕ
    met (leaf s) = filter_by (λ q. holds b (f q)) (s ∷ [])
    met (node i l r) =
        if inside (slot_axis f along_y) b (node i l r) then marks l ++ marks r
        else (if clear (slot_axis f along_y) b (node i l r) then [] else met l ++ met r)

pub written-append : (f : ℕ → Mark) (k : ℕ) (l r ys : List ℕ) → written f k (l ++ r) ys ≡ written f (k + length l) r (written f k l ys)
written-append f k l r ys =
    let e : list_place k + length (mark_words (map f l)) ≡ list_place (k + length l) = omega (arith, mark_words-length (map f l), length-map l f) in
    rw (map-append f l r, mark_words-append (map f l) (map f r), sets-append (mark_words (map f l)) (mark_words (map f r)) ys (list_place k), e)

-- each node carries as many slots as stand beneath it
abbrev pub Carries : Tree ℕ (List ℕ) → Type 0
Carries (leaf s) = Unit {0}
Carries (node i l r) = (length i ≡ weight l + weight r) × Carries l × Carries r

pub carries_bag-carries : (t : Tree ℕ (List ℕ)) → CarriesBag t → Carries t
carries_bag-carries (leaf s) c = c
carries_bag-carries (node i l r) c =
    (same_bag-length i (marks l ++ marks r) c.0 ∙ sym (weight-marks (node i l r)), carries_bag-carries l c.1, carries_bag-carries r c.2)

module _ (f : ℕ → Mark) (b : Box) where
  -- the slots met are the model's
  pub met-listed : (t : Tree ℕ (List ℕ)) → CarriesBag t → SameBag (met f b t) (listed f b t).marks
  met-listed (leaf s) c p = refl
  met-listed (node i l r) c p =
      by_cases (inside (slot_axis f along_y) b (node i l r))
      (λ t. rw t (sym (c.0 p)))
      (λ t. by_cases (clear (slot_axis f along_y) b (node i l r))
      (λ u. rw (t, u))
      (λ u. rw (t, u)
      (omega (
        arith,
        count_if-append p (met f b l) (met f b r),
        count_if-append p (listed f b l).marks (listed f b r).marks,
        met-listed l c.1 p,
        met-listed r c.2 p,
      ))))

module _ (f : ℕ → Mark) (most : ℕ) (small : most < 4294967296) where
  -- what a step is to make of a tally and a list with room: it writes the marks of slots, in w visits
  abbrev Writes : (ℕ → List ℕ → After ℕ) → List ℕ → ℕ → Type 0
  Writes step l w = (k v : ℕ) (ys : List ℕ) → v + w ≤ most → k + length l ≤ 65536 → list_place (k + length l) ≤ length ys
      → step (pack k v) ys ≡ after (pack (k + length l) (v + w)) (written f k l ys)

  -- the budget is not spent before a step that visits
  budget-writes : (step : ℕ → List ℕ → After ℕ) (l : List ℕ) (w : ℕ) → 0 < w → Writes step l w
      → Writes (λ tally ys. if leb most (tally % 4294967296) then after lost ys else step tally ys) l w
  budget-writes step l w p h k v ys hv hk hy = rw (pack-visits k v (omega arith), lt-leb most v (omega arith)) (h k v ys hv hk hy)

  none-writes : Writes (λ tally ys. after (visited tally 0) ys) [] 1
  none-writes k v ys hv hk hy = rw (visited-pack k v 0 (omega arith) (omega arith))

  -- a node's visit, then its left child, then its right
  both-writes : (left right : ℕ → List ℕ → After ℕ) (l r : List ℕ) (wl wr : ℕ) → Writes left l wl → Writes right r wr
      → Writes (λ tally ys. right (left (visited tally 0) ys).out (left (visited tally 0) ys).words) (l ++ r) (wl + wr + 1)
  both-writes left right l r wl wr hl hr k v ys hv hk hy =
      let n = length-append l r in
      let e = length-sets ys (list_place k) (mark_words (map f l)) in
      let z : k + 0 ≡ k = omega arith in
      let q : pack (k + length l + length r) (v + 1 + wl + wr) ≡ pack (k + (length l + length r)) (v + (wl + wr + 1)) = omega arith in
      rw (
        visited-pack k v 0 (omega arith) (omega arith),
        z,
        hl k (v + 1) ys (omega arith) (omega arith) (omega arith),
        hr (k + length l) (v + 1 + wl) (written f k l ys) (omega arith) (omega arith) (omega arith),
        written-append f k l r ys,
        n,
        q,
      )

  module _ (base C : ℕ) (xs : List ℕ) where
    leaf-writes : (s : ℕ) → slot_mark xs s ≡ f s → Writes (walk_leaf xs s) (s ∷ []) 1
    unfolding walk_leaf put_mark
    leaf-writes s e k v ys hv hk hy =
        rw (visited-pack k v 1 (omega arith) (omega arith), pack-found k v (omega arith), e, le-leb (list_place k + mark_width) (length ys) (omega arith))

    -- a walk visits every node
    walk-holds : (n : ℕ) (t : Tree ℕ (List ℕ)) → Held along_y f (record_place base) C xs t → depth t < n
        → Writes (walk♯ n xs C base most (number t)) (marks t) (nodes t)
    unfolding walk♯ walk_node walk_record
    walk-holds zero t h d = absurd (omega arith)
    walk-holds (suc n) (leaf s) h d =
        let even : (2 * s) % 2 ≡ 0 = omega arith in
        let half : (2 * s) / 2 ≡ s = omega arith in
        rw (half, lt-leb C s (held-least h), eq-eqb ((2 * s) % 2) 0 even)
        (budget-writes (walk_leaf xs s) (s ∷ []) 1 (omega arith) (leaf-writes s (h.marked s (times-least {I = List ℕ} (leaf s)))))
    walk-holds (suc n) (node i l r) h d =
        let odd : ((2 * least r + 1) % 2 ≡ 0 → ⊥) = omega arith in
        let half : (2 * least r + 1) / 2 ≡ least r = omega arith in
        let rec = walk♯ n xs C base most in
        rw (half, lt-leb C (least r) (held-least (held-right h)), ne_eqb ((2 * least r + 1) % 2) 0 odd, h.records.0)
        (budget-writes (walk_record rec (arms (arm_of along_y f l) (arm_of along_y f r))) (marks l ++ marks r) (nodes l + nodes r + 1) (omega arith)
        (both-writes (rec (number l)) (rec (number r)) (marks l) (marks r) (nodes l) (nodes r)
        (walk-holds n l (held-left h) (omega arith)) (walk-holds n r (held-right h) (omega arith))))

    module _ (b : Box) where
      -- the listing at an arm, by the three ways on
      inside-writes : (n : ℕ) (t : Tree ℕ (List ℕ)) → inside (slot_axis f along_y) b t ≡ true → Held along_y f (record_place base) C xs t
          → depth t < suc n → Writes (list♯ (suc n) xs C base b most (arm_of along_y f t)) (marks t) (nodes t)
      unfolding list♯ list_node
      inside-writes n t e h d =
          rw e
          (budget-writes (walk♯ (suc n) xs C base most (number t)) (marks t) (nodes t) (omega (arith, nodes-weight t, weight-pos t))
          (walk-holds (suc n) t h d))

      clear-writes : (n : ℕ) (t : Tree ℕ (List ℕ)) → inside (slot_axis f along_y) b t ≡ false → clear (slot_axis f along_y) b t ≡ true
          → Writes (list♯ (suc n) xs C base b most (arm_of along_y f t)) [] 1
      unfolding list♯ list_node
      clear-writes n t e u = rw (e, u) (budget-writes (λ tally ys. after (visited tally 0) ys) [] 1 (omega arith) none-writes)

      open-writes : (n : ℕ) (i : List ℕ) (l r : Tree ℕ (List ℕ)) (ml mr : List ℕ) (wl wr : ℕ)
          → inside (slot_axis f along_y) b (node i l r) ≡ false → clear (slot_axis f along_y) b (node i l r) ≡ false
          → Held along_y f (record_place base) C xs (node i l r)
          → Writes (list♯ n xs C base b most (arm_of along_y f l)) ml wl → Writes (list♯ n xs C base b most (arm_of along_y f r)) mr wr
          → Writes (list♯ (suc n) xs C base b most (arm_of along_y f (node i l r))) (ml ++ mr) (wl + wr + 1)
      unfolding list♯ list_node list_record
      open-writes n i l r ml mr wl wr e u h hl hr =
          let half : (2 * least r + 1) / 2 ≡ least r = omega arith in
          let rec = list♯ n xs C base b most in
          rw (e, u, half, lt-leb C (least r) (held-least (held-right h)), h.records.0)
          (budget-writes (list_record rec (arms (arm_of along_y f l) (arm_of along_y f r))) (ml ++ mr) (wl + wr + 1) (omega arith)
          (both-writes (rec (arm_of along_y f l)) (rec (arm_of along_y f r)) ml mr wl wr hl hr))

      pub list-holds : (n : ℕ) (t : Tree ℕ (List ℕ)) → Held along_y f (record_place base) C xs t → Carries t → Settled f b t → depth t < n
          → (k v : ℕ) (ys : List ℕ) → v + (listed f b t).visits ≤ most → k + length (met f b t) ≤ 65536
          → list_place (k + length (met f b t)) ≤ length ys
          → list♯ n xs C base b most (arm_of along_y f t) (pack k v) ys
          ≡ after (pack (k + length (met f b t)) (v + (listed f b t).visits)) (sets ys (list_place k) (mark_words (map f (met f b t))))
      list-holds zero t h c g d = absurd (omega arith)
      list-holds (suc n) (leaf s) h c (cons e g) d =
          by_cases (on_side along_y b (f s).y)
          (λ t. rw (settled-holds f b (f s) e, t) (inside-writes n (leaf s) t h d))
          (λ t. rw (settled-holds f b (f s) e, t) (clear-writes n (leaf s) t (leaf-clear b (f s).y t)))
      list-holds (suc n) (node i l r) h c g d =
          by_cases (inside (slot_axis f along_y) b (node i l r))
          (λ t.
          let w : 2 * length i - 2 + 1 ≡ nodes l + nodes r + 1 = omega (arith, c.0, nodes-weight l, nodes-weight r, weight-pos l, weight-pos r) in
          rw (t, w) (inside-writes n (node i l r) t h d))
          (λ t. by_cases (clear (slot_axis f along_y) b (node i l r))
          (λ u. rw (t, u) (clear-writes n (node i l r) t u))
          (λ u.
          rw (t, u)
          (open-writes n i l r (met f b l) (met f b r) (listed f b l).visits (listed f b r).visits t u h
          (list-holds n l (held-left h) c.1 (all_left (marks l) (marks r) g) (omega arith))
          (list-holds n r (held-right h) c.2 (all_right (marks l) (marks r) g) (omega arith)))))
