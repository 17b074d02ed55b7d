-- On words that hold an ordered tree whose arm stands at a word, the mirror of the insertion leaves there the model's tree with the slot inserted,
-- mended where that is asked. Assumes nothing.
use Prim.Native.Nat.{ℕ, zero, suc, ◌+◌, ◌*◌, ◌/◌, ◌%◌, ◌≤◌, ◌<◌}
use mathlib.Core.Path.{◌≡◌, refl, sym, ap, subst, ◌∙◌}
use mathlib.Core.Bool.{Bool, true, false}
use mathlib.Core.List.{List, [], ◌∷◌, ◌++◌}
use mathlib.Core.Logic.{◌⊎◌, inl, inr}
use native.Mathlib.Omega.{arith}
use lib.Dec.{eqb}
use lib.ListN.{length}
use borrow.Author.Tests.{eq-eqb, ne_eqb, eqb-true, lt-leb}
use Rattle.model.specs.Lists.{indicator, count_if}
use Rattle.model.specs.Axis.{Space, Axis}
use Rattle.model.specs.Register.{Register}
use Rattle.model.specs.Sheet.{Mark, Box, sheet}
use Rattle.model.specs.Slots.{slot_axis, slot_operation}
use Rattle.model.specs.Tree.{Tree, leaf, node, weight, depth, marks, least, greatest, evenly, Balanced, build, insert_leaf, rebuilt}
use Rattle.model.specs.Laws.{AxisLaws, Sorted}
use Rattle.model.proofs.Logic.{by_cases, clash}
use Rattle.model.proofs.Lists.{count_if-append}
use Rattle.model.proofs.Totals.{same_bag-total}
use Rattle.model.proofs.Slots.{slot_operation-laws}
use Rattle.model.proofs.Sorted.{sorted-left, sorted-right, sorted-across}
use Rattle.model.proofs.Tree.{weight-pos, weight-marks, marks-pos, all-least, all-greatest, build-marks}
use Rattle.model.proofs.Rebalance.{rebalance-left, rebalance-right, rebuilt-left, rebuilt-right}
use Rattle.table.specs.Limits.{damaged, no_slot}
use Rattle.table.specs.Marks.{slot_mark}
use Rattle.nodes.specs.Arms.{Arm, arm, Record, arms, Way, way_of, grown_arm, arm_at, put_arm, child_at}
use Rattle.nodes.specs.Ways.{way_at}
use Rattle.nodes.specs.Weights.{sum}
use Rattle.nodes.proofs.Balance.{balanced-swap, unbalances-even, unbalances-uneven, way-weight}
use Rattle.table.specs.Words.{lesser, greater}
use Rattle.table.specs.Grades.{graded, grading, word, joined_word}
use Rattle.table.proofs.Packing.{joined-comm, grading-laws, word-joined}
use Rattle.nodes.specs.Holds.{number, grades_of, arm_of, times, Held}
use Rattle.table.specs.After.{After, after}
use Rattle.nodes.proofs.Unchanged.{unchanged-refl, put_arm-unchanged}
use Rattle.nodes.proofs.Frames.{put_arm-same, Region, frame_at-weaken, put_arm-frame}
use Rattle.nodes.proofs.Held.{times-node, times-least, held-weight, held-least, held-left, held-right, leaf_arm-of, Names, greatest-marks, names-marks, Leaves}
use Rattle.nodes.proofs.Spots.{record-arms, Spot, spot-weaken, record-spot, spot-mark, spot-held, LeavesAt, put-leaves, left-leaves, right-leaves}
use Rattle.nodes.proofs.Collecting.{every-slot}
use Rattle.secondary_build.specs.Build.{rebuild♯}
use Rattle.secondary_build.proofs.Building.{rebuild-holds}
use Rattle.secondary_update.specs.Insert.{node_at, split♯, put_fresh, rebuilt_at, afresh♯}
use Rattle.secondary_update.specs.Insert.{Insertion, insert_afresh, child♯, tree_steps, insert♯}
use Rattle.secondary_update.proofs.Mending.{mended, figure, MayMend}
use Rattle.secondary_update.proofs.Steps.{not-mending}
use Rattle.secondary_update.proofs.Mended.{mended-marks, mended-times, mended-weight, mended-least, may_mend-left, may_mend-right}
use Rattle.secondary_update.proofs.Node.{node-leaves}
use Rattle.table.specs.Layout.{arm_width}

-- what insertion does to a tree, whatever the order
module _ {B I : Type 0} (X : Axis ℕ B) (R : Register ℕ B I) (s : ℕ) where
  insert-bag : (p : ℕ → Bool) (t : Tree ℕ I) → count_if p (marks (insert_leaf X R s t)) ≡ count_if p (marks t) + indicator (p s)
  insert-bag p (leaf q) = by_cases (X.below s q) (λ e. rw e (omega arith)) (λ e. rw e (omega arith))
  insert-bag p (node i l r) =
      let were = count_if-append p (marks l) (marks r) in
      by_cases (X.below s (least r))
      (λ e. rw e (omega (arith, insert-bag p l, were, count_if-append p (marks (insert_leaf X R s l)) (marks r))))
      (λ e. rw e (omega (arith, insert-bag p r, were, count_if-append p (marks l) (marks (insert_leaf X R s r)))))

  pub insert-times : (q : ℕ) (t : Tree ℕ I) → times q (insert_leaf X R s t) ≡ times q t + indicator (eqb q s)
  insert-times q t = insert-bag (eqb q) t

  pub insert-weight : (t : Tree ℕ I) → weight (insert_leaf X R s t) ≡ weight t + 1
  insert-weight (leaf p) = by_cases (X.below s p) (λ e. rw e) (λ e. rw e)
  insert-weight (node i l r) =
      by_cases (X.below s (least r)) (λ e. rw e (omega (arith, insert-weight l))) (λ e. rw e (omega (arith, insert-weight r)))

  pub insert-depth : (t : Tree ℕ I) → depth (insert_leaf X R s t) ≤ depth t + 1
  insert-depth (leaf p) = by_cases (X.below s p) (λ e. rw e (omega arith)) (λ e. rw e (omega arith))
  insert-depth (node i l r) =
      by_cases (X.below s (least r)) (λ e. rw e (omega (arith, insert-depth l))) (λ e. rw e (omega (arith, insert-depth r)))

  -- no node is named anew
  pub insert-least : (t : Tree ℕ I) → X.below s (least t) ≡ false → least (insert_leaf X R s t) ≡ least t
  insert-least (leaf p) u = rw u
  insert-least (node i l r) u = by_cases (X.below s (least r)) (λ e. rw e (insert-least l u)) (λ e. rw e)

  -- the least stays, or the slot is the least: so all names stay names
  insert-first : (t : Tree ℕ I) → (least (insert_leaf X R s t) ≡ s) ⊎ (least (insert_leaf X R s t) ≡ least t)
  insert-first (leaf p) = by_cases (X.below s p) (λ e. rw e (inl refl)) (λ e. rw e (inr refl))
  insert-first (node i l r) = by_cases (X.below s (least r)) (λ e. rw e (insert-first l)) (λ e. rw e (inr refl))

  pub insert-names : (t : Tree ℕ I) → times s t ≡ 0 → (q : ℕ) → Names t q → Names (insert_leaf X R s t) q
  insert-names t z q k = (omega (arith, k.0, insert-times q t), λ e. go (insert-first t) e)
    where
      go : (least (insert_leaf X R s t) ≡ s) ⊎ (least (insert_leaf X R s t) ≡ least t) → q ≡ least (insert_leaf X R s t) → ⊥
      go (inl u) e = let p = subst (λ j. 0 < times j t) (e ∙ u) k.0 in omega arith
      go (inr u) e = k.1 (e ∙ u)

-- the figure is a weight of the tree
pub rebuilt-weight : {M I : Type 0} (t : Tree M I) → rebuilt t ≤ weight t
rebuilt-weight (leaf m) = omega arith
rebuilt-weight (node i l r) =
    by_cases (evenly l r) (λ t. rw t (omega (arith, rebuilt-weight l, rebuilt-weight r))) (λ u. rw u (omega arith))

figure-weight : {M I : Type 0} (mends : Bool) (t : Tree M I) → figure mends t ≤ weight t
figure-weight true t = rebuilt-weight t
figure-weight false t = omega arith

-- mending a node that is even, of which one child is balanced, mends the other
module _ {B I : Type 0} (X : Axis ℕ B) (R : Register ℕ B I) (i : I) (l r : Tree ℕ I) where
  -- a node that is mended and not even is built afresh
  abbrev Steady : Bool → Type 0
  Steady mends = mends ≡ true → evenly l r ≡ true

  steady-left : (mends : Bool) → MayMend mends r → Steady mends → mended X R mends (node i l r) ≡ node i (mended X R mends l) r
  steady-left true b e = rw (rebalance-left X R i l r b, e refl)
  steady-left false b e = refl

  steady-right : (mends : Bool) → MayMend mends l → Steady mends → mended X R mends (node i l r) ≡ node i l (mended X R mends r)
  steady-right true b e = rw (rebalance-right X R i l r b, e refl)
  steady-right false b e = refl

  figure-left : (mends : Bool) → MayMend mends r → Steady mends → figure mends (node i l r) ≡ figure mends l
  figure-left true b e = rw (rebuilt-left i l r b, e refl)
  figure-left false b e = refl

  figure-right : (mends : Bool) → MayMend mends l → Steady mends → figure mends (node i l r) ≡ figure mends r
  figure-right true b e = rw (rebuilt-right i l r b, e refl)
  figure-right false b e = refl

-- The order goes by the coordinate first: along it the coordinate does not fall, and two marks of which none is below the other have the same.
pub record ByCoordinate (A : Axis Mark Box) : Type 0 where
  pub rises : (a b : Mark) → A.below a b ≡ true → A.at a ≤ A.at b
  pub level : (a b : Mark) → A.below a b ≡ false → A.at b ≤ A.at a

-- so it does by the laws of an axis
pub axis-coordinate : {S : Space Mark Box} {A : Axis Mark Box} → AxisLaws S A → ByCoordinate A
axis-coordinate O = record { rises = O.rises; level = O.level }

pub sum_one : (w : ℕ) → w ≤ 65536 → sum w 1 ≡ w + 1
unfolding sum
sum_one w h = omega arith

lesser-new : (a v : ℕ) → v ≤ a → lesser a v ≡ v
lesser-new a v h = omega arith

lesser-old : (a v : ℕ) → a ≤ v → lesser a v ≡ a
lesser-old a v h = omega arith

greater-new : (a v : ℕ) → a ≤ v → greater a v ≡ v
greater-new a v h = omega arith

greater-old : (a v : ℕ) → v ≤ a → greater a v ≡ a
greater-old a v h = omega arith

module _ {I : Type 0} (A : Axis Mark Box) (f : ℕ → Mark) (R : Register ℕ Box I) (s : ℕ) where
  abbrev grown : Tree ℕ I → Tree ℕ I
  grown t = insert_leaf (slot_axis f A) R s t

  -- The arm of the grown tree, which is written before the tree is grown. In an ordered tree the coordinates of least and greatest are those of before,
  -- or the slot's.
  module _ (K : ByCoordinate A) where
    abbrev low : Tree ℕ I → ℕ
    low t = A.at (f (least t))

    abbrev high : Tree ℕ I → ℕ
    high t = A.at (f (greatest t))

    low-high : (t : Tree ℕ I) → Sorted (slot_axis f A) (marks t) → low t ≤ high t
    low-high (leaf q) o = omega arith
    low-high (node i l r) o = K.rises (f (least l)) (f (greatest r)) (all-greatest r (all-least l (sorted-across (marks l) (marks r) o)))

    grown-low : (t : Tree ℕ I) → Sorted (slot_axis f A) (marks t) → lesser (low t) (A.at (f s)) ≡ low (grown t)
    grown-low (leaf q) o =
        by_cases (A.below (f s) (f q))
        (λ e. rw e (lesser-new (A.at (f q)) (A.at (f s)) (K.rises (f s) (f q) e)))
        (λ e. rw e (lesser-old (A.at (f q)) (A.at (f s)) (K.level (f s) (f q) e)))
    grown-low (node i l r) o =
        by_cases (A.below (f s) (f (least r)))
        (λ e. rw e (grown-low l (sorted-left (marks l) (marks r) o)))
        (λ e.
        let across = K.rises (f (least l)) (f (least r)) (all-least r (all-least l (sorted-across (marks l) (marks r) o))) in
        rw e (lesser-old (low l) (A.at (f s)) (omega (arith, K.level (f s) (f (least r)) e))))

    grown-high : (t : Tree ℕ I) → Sorted (slot_axis f A) (marks t) → greater (high t) (A.at (f s)) ≡ high (grown t)
    grown-high (leaf q) o =
        by_cases (A.below (f s) (f q))
        (λ e. rw e (greater-old (A.at (f q)) (A.at (f s)) (K.rises (f s) (f q) e)))
        (λ e. rw e (greater-new (A.at (f q)) (A.at (f s)) (K.level (f s) (f q) e)))
    grown-high (node i l r) o =
        by_cases (A.below (f s) (f (least r)))
        (λ e.
        let across = low-high r (sorted-right (marks l) (marks r) o) in
        rw e (greater-old (high r) (A.at (f s)) (omega (arith, K.rises (f s) (f (least r)) e))))
        (λ e. rw e (grown-high r (sorted-right (marks l) (marks r) o)))

    grown-number : (i : I) (l r : Tree ℕ I) → number (node i l r) ≡ number (grown (node i l r))
    grown-number i l r = by_cases (A.below (f s) (f (least r))) (λ e. rw e) (λ e. rw (e, insert-least (slot_axis f A) R s r e))

    grown-grades : (t : Tree ℕ I) → joined_word (word (grades_of f t)) (word (graded (f s).grade)) ≡ word (grades_of f (grown t))
    unfolding joined_word
    grown-grades t =
        let bag : ((p : ℕ → Bool) → count_if p (s ∷ marks t) ≡ count_if p (marks (grown t))) =
        λ p. omega (arith, insert-bag (slot_axis f A) R s p t) in
        word-joined (grades_of f t) (graded (f s).grade)
        ∙ ap word (joined-comm (grades_of f t) (graded (f s).grade)
        ∙ same_bag-total (slot_operation f grading) (slot_operation-laws f sheet grading grading-laws) (λ q. grading.of (f q)) (s ∷ marks t)
        (marks (grown t)) bag)

    pub grown-arm : (i : I) (l r : Tree ℕ I) → Sorted (slot_axis f A) (marks (node i l r)) → weight l + weight r ≤ 65536
        → grown_arm (arm_of A f (node i l r)) (A.at (f s)) (f s).grade ≡ arm_of A f (insert_leaf (slot_axis f A) R s (node i l r))
    unfolding grown_arm
    grown-arm i l r o h =
        let w = sum_one (weight l + weight r) h ∙ sym (insert-weight (slot_axis f A) R s (node i l r)) in
        λ k. arm (grown-number i l r k) (w k) (grown-low (node i l r) o k) (grown-high (node i l r) o k) (grown-grades (node i l r) k)

  -- mending a child keeps the node's arm
  mended-arm-left : (mends : Bool) (i : I) (l r : Tree ℕ I) → arm_of A f (node i (mended (slot_axis f A) R mends l) r) ≡ arm_of A f (node i l r)
  mended-arm-left mends i l r = rw (mended-weight (slot_axis f A) R mends l, mended-least (slot_axis f A) R mends l, mended-marks (slot_axis f A) R mends l)

  mended-arm-right : (mends : Bool) (i : I) (l r : Tree ℕ I) → arm_of A f (node i l (mended (slot_axis f A) R mends r)) ≡ arm_of A f (node i l r)
  mended-arm-right mends i l r =
      let e = greatest-marks (mended (slot_axis f A) R mends r) r (mended-marks (slot_axis f A) R mends r) in
      rw (mended-weight (slot_axis f A) R mends r, mended-least (slot_axis f A) R mends r, e, mended-marks (slot_axis f A) R mends r)

module _ {I : Type 0} (A : Axis Mark Box) (f : ℕ → Mark) (R : Register ℕ Box I) (place : ℕ → ℕ) (C s : ℕ) where
  -- before the insertion of slot s: the tree is held, in order and without the slot, its arm stands at a spot, and the slot has its mark
  pub record Ready (at : ℕ) (xs : List ℕ) (t : Tree ℕ I) : Type 0 where
    pub region : Region place C (length xs)
    pub marked : slot_mark xs s ≡ f s
    pub is : arm_at xs at ≡ arm_of A f t
    pub held : Held A f place C xs t
    pub new : times s t ≡ 0
    pub sorted : Sorted (slot_axis f A) (marks t)
    pub spot : Spot place C (Names (insert_leaf (slot_axis f A) R s t)) at (length xs)

  -- an insertion leaves the tree t, mended where that is asked, and the figure
  abbrev pub Grows : ℕ → List ℕ → After ℕ → Bool → Tree ℕ I → Type 0
  Grows at xs p mends t = LeavesAt A f place C at xs p.words (mended (slot_axis f A) R mends t) × (p.out ≡ figure mends t)

  abbrev X : Axis ℕ Box
  X = slot_axis f A

  abbrev grow : Tree ℕ I → Tree ℕ I
  grow t = grown A f R s t

  -- so it does not tell of damage
  pub grows-sound : (at : ℕ) (xs : List ℕ) (p : After ℕ) (mends : Bool) (t : Tree ℕ I) → C ≤ 65536 → Grows at xs p mends t
      → p.out ≡ damaged → ⊥
  grows-sound at xs p mends t small h e = omega (arith, h.1, figure-weight mends t, mended-weight X R mends t, held-weight h.0.held)

  -- what was inserted without mending is built afresh
  module _ (at : ℕ) (xs ws : List ℕ) (i : I) (l r : Tree ℕ I) (g : Region place C (length xs))
      (spot : Spot place C (Names (node i l r)) at (length xs)) (h : LeavesAt A f place C at xs ws (node i l r)) where
    abbrev fresh : Tree ℕ I
    fresh = build X R (least l) (marks l ++ marks r)

    fresh-marks : marks fresh ≡ marks l ++ marks r
    fresh-marks = build-marks X R (least l) (marks l ++ marks r) (marks-pos (node i l r))

    abbrev rebuilding : After Arm
    rebuilding = rebuild♯ A place C no_slot (weight l + weight r) (weight l + weight r) (2 * least r + 1) ws

    fresh-leaves : depth (node i l r) < 40 → Leaves A f place C ws rebuilding.out rebuilding.words fresh
    fresh-leaves deep =
        (rebuild-holds A f place C R no_slot (weight l + weight r) (least l) (node i l r) (marks l ++ marks r) ws
        (subst (Region place C) (sym h.frame.long) g) h.held deep
        (sym (every-slot (node i l r) g.small h.held)) (marks-pos (node i l r)) (weight-marks (node i l r))).0

    afresh-words : depth (node i l r) < 40 → afresh♯ A C place at 0 ws ≡ after (weight l + weight r) (put_arm rebuilding.words at rebuilding.out)
    unfolding afresh♯ rebuilt_at put_fresh
    afresh-words deep =
        let e : rebuilding.out.weight ≡ weight fresh = ap (λ a. a.weight) (fresh-leaves deep).is in
        rw (h.is, ne_eqb rebuilding.out.weight 0 (omega (arith, weight-pos fresh)))

    afresh-grows : depth (node i l r) < 40 → evenly l r ≡ false → Grows at xs (afresh♯ A C place at 0 ws) true (node i l r)
    afresh-grows deep u =
        let old = names-marks fresh (node i l r) fresh-marks in
        let new = names-marks (node i l r) fresh (sym fresh-marks) in
        let e : mended X R true (node i l r) ≡ fresh = rw u in
        let n : figure true (node i l r) ≡ weight l + weight r = rw u in
        let k = put-leaves A f fresh refl (spot-weaken old spot) (frame_at-weaken new h.frame) (fresh-leaves deep) in
        rw (afresh-words deep) (subst (LeavesAt A f place C at xs _) (sym e) k, sym n)

  again-grows : (at : ℕ) (xs : List ℕ) (rec : Insertion) (i : I) (l r : Tree ℕ I) → Region place C (length xs)
      → Spot place C (Names (node i l r)) at (length xs) → depth (node i l r) < 40 → evenly l r ≡ false
      → Grows at xs (rec false at xs) false (node i l r)
      → Grows at xs (insert_afresh A rec C place at xs) true (node i l r)
  unfolding insert_afresh
  again-grows at xs rec i l r g spot deep u h = rw h.1 (afresh-grows at xs (rec false at xs).words i l r g spot h.0 deep u)

  module _ (in_c : s < C) where
    pub leaf-held : (xs : List ℕ) → slot_mark xs s ≡ f s → Held {I = I} A f place C xs (leaf s)
    leaf-held xs marked = record {
      once = λ q. by_cases (eqb q s) (λ e. rw e (omega arith)) (λ e. rw e (omega arith));
      within = λ q k. by_cases (eqb q s) (λ e. rw (eqb-true q s e) in_c) (λ e. absurd (let z = (rw e at k) in omega arith));
      marked = λ q k. by_cases (eqb q s) (λ e. rw (eqb-true q s e) marked) (λ e. absurd (let z = (rw e at k) in omega arith));
      records = tt;
    }

    -- the new slot stands in the grown tree once, and below C
    pub grown-once : {xs : List ℕ} (t : Tree ℕ I) → Held A f place C xs t → times s t ≡ 0 → (q : ℕ) → times q t + indicator (eqb q s) ≤ 1
    grown-once t h z q =
        by_cases (eqb q s)
        (λ e. let k : times q t ≡ 0 = rw (eqb-true q s e) z in rw e (omega arith))
        (λ e. rw e (omega (arith, h.once q)))

    pub grown-within : {xs : List ℕ} (t : Tree ℕ I) → Held A f place C xs t → (q : ℕ) → 0 < times q (insert_leaf (slot_axis f A) R s t) → q < C
    grown-within t h q k =
        by_cases (eqb q s)
        (λ e. rw (eqb-true q s e) in_c)
        (λ e. h.within q (let z = (rw e at (insert-times X R s q t)) in omega arith))

    -- a leaf is split
    pair-grows : (mends : Bool) (at : ℕ) (xs : List ℕ) (i : I) (a b : ℕ) → Region place C (length xs)
        → Held {I = I} A f place C xs (leaf a) → Held {I = I} A f place C xs (leaf b)
        → ((q : ℕ) → times {I = I} q (leaf a) + times {I = I} q (leaf b) ≤ 1) → Spot place C (Names (node i (leaf a) (leaf b))) at (length xs)
        → Grows at xs (after 0 (node_at place at b (arm_of {I = I} A f (leaf a)) (arm_of {I = I} A f (leaf b)) xs)) mends (node i (leaf a) (leaf b))
    unfolding node_at
    pair-grows true at xs i a b g ha hb d spot =
        (put-leaves A f (node i (leaf a) (leaf b)) refl spot (unchanged-refl xs) (node-leaves A f i (leaf a) (leaf b) xs g ha hb d), refl)
    pair-grows false at xs i a b g ha hb d spot =
        (put-leaves A f (node i (leaf a) (leaf b)) refl spot (unchanged-refl xs) (node-leaves A f i (leaf a) (leaf b) xs g ha hb d), refl)

    split-grows : (mends : Bool) (at : ℕ) (xs : List ℕ) (q : ℕ) → Ready at xs (leaf q)
        → Grows at xs (after 0 (split♯ A place (f s) s at (arm_of {I = I} A f (leaf q)) xs)) mends (grow (leaf q))
    unfolding split♯
    split-grows mends at xs q k =
        let half : 2 * q / 2 ≡ q = omega arith in
        let small = k.region.small in
        let once = grown-once (leaf q) k.held k.new in
        let i = R.insert s (R.build (q ∷ [])) in
        let new = leaf-held xs k.marked in
        rw (half, k.held.marked q (times-least {I = I} (leaf q)), leaf_arm-of f s (A.at (f s)) (omega arith))
        (by_cases (A.below (f s) (f q))
        (λ e. rw e (pair-grows mends at xs i s q k.region new k.held (λ p. omega (arith, once p)) (rw e at k.spot)))
        (λ e. rw e (pair-grows mends at xs i q s k.region k.held new (λ p. omega (arith, once p)) (rw e at k.spot))))

    -- at a node the arm is widened, and then the child's turn comes
    module _ (K : ByCoordinate A) (at : ℕ) (xs : List ℕ) (i : I) (l r : Tree ℕ I) (k : Ready at xs (node i l r)) where
      abbrev here : I
      here = R.insert s i

      abbrev wide : Arm
      wide = grown_arm (arm_of A f (node i l r)) (A.at (f s)) (f s).grade

      abbrev widened : List ℕ
      widened = put_arm xs at wide

      room : at + arm_width ≤ length xs
      room = k.spot.room

      long : length widened ≡ length xs
      long = (put_arm-unchanged xs at wide).long

      widened-region : Region place C (length widened)
      widened-region = subst (Region place C) (sym long) k.region

      widened-marked : slot_mark widened s ≡ f s
      widened-marked = spot-mark k.spot xs wide s in_c ∙ k.marked

      widened-held : Held A f place C widened (node i l r)
      widened-held =
          spot-held k.spot xs wide A f (node i l r)
          (insert-names X R s (node i l r) k.new) k.held

      named : least r < C
      named = held-least (held-right k.held)

      children : arms (arm_at widened (place (least r))) (arm_at widened (place (least r) + arm_width)) ≡ arms (arm_of A f l) (arm_of A f r)
      children = sym (record-arms widened (place (least r))) ∙ widened-held.records.0

      once : (q : ℕ) → times q l + times q r + indicator (eqb q s) ≤ 1
      once q = omega (arith, grown-once (node i l r) k.held k.new q, times-node q i l r)

      is-widened : arm_at widened at ≡ arm_of A f (grow (node i l r))
      is-widened =
          put_arm-same xs at wide room
          ∙ grown-arm A f R s K i l r k.sorted (omega (arith, held-weight k.held, k.region.small))

      left-ready : Ready (place (least r)) widened l
      left-ready = record {
        region = widened-region;
        marked = widened-marked;
        is = ap (λ p. p.left) children;
        held = held-left widened-held;
        new = omega (arith, k.new, times-node s i l r);
        sorted = sorted-left (marks l) (marks r) k.sorted;
        spot = record-spot (place (least r)) (least r) widened-region named (λ q p. grown-within l (held-left widened-held) q p.0)
            (λ p. omega (arith, p.0, insert-times X R s (least r) l, once (least r), times-least r)) (omega arith) (omega arith);
      }

      right-ready : A.below (f s) (f (least r)) ≡ false → Ready (place (least r) + arm_width) widened r
      right-ready e = record {
        region = widened-region;
        marked = widened-marked;
        is = ap (λ p. p.right) children;
        held = held-right widened-held;
        new = omega (arith, k.new, times-node s i l r);
        sorted = sorted-right (marks l) (marks r) k.sorted;
        spot = record-spot (place (least r) + arm_width) (least r) widened-region named (λ q p. grown-within r (held-right widened-held) q p.0)
            (λ p. p.1 (sym (insert-least X R s r e))) (omega arith) (omega arith);
      }

      left-grows : (mends : Bool) (p : After ℕ) → A.below (f s) (f (least r)) ≡ true → MayMend mends r → Steady X R here (grow l) r mends
          → Grows (place (least r)) widened p mends (grow l) → Grows at xs p mends (node here (grow l) r)
      left-grows mends p e b t h =
          let m : Tree ℕ I = mended X R mends (grow l) in
          let same = mended-marks X R mends (grow l) in
          let names = names-marks (node here m r) (node here (grow l) r) (ap (λ z. z ++ marks r) same) in
          let d : ((q : ℕ) → times q m + times q r ≤ 1) =
          λ q. omega (arith, once q, mended-times X R mends (grow l) q, insert-times X R s q l) in
          let e' : arm_at widened at ≡ arm_of A f (node here (grow l) r) = (rw e at is-widened) in
          let u = left-leaves A f k.region here m r (spot-weaken names (rw e at k.spot)) d long
          (rw (mended-arm-left A f R s mends here (grow l) r) e')
          (put_arm-frame xs at wide) (held-right widened-held) (ap (λ p. p.right) children) h.0 in (
            subst (LeavesAt A f place C at xs p.words) (sym (steady-left X R here (grow l) r mends b t)) u,
            rw (figure-left X R here (grow l) r mends b t) h.1,
          )

      right-grows : (mends : Bool) (p : After ℕ) → A.below (f s) (f (least r)) ≡ false → MayMend mends l → Steady X R here l (grow r) mends
          → Grows (place (least r) + arm_width) widened p mends (grow r) → Grows at xs p mends (node here l (grow r))
      right-grows mends p e b t h =
          let m : Tree ℕ I = mended X R mends (grow r) in
          let same = mended-marks X R mends (grow r) in
          let names = names-marks (node here l m) (node here l (grow r)) (ap (λ z. marks l ++ z) same) in
          let name : least m ≡ least r = mended-least X R mends (grow r) ∙ insert-least X R s r e in
          let d : ((q : ℕ) → times q l + times q m ≤ 1) =
          λ q. omega (arith, once q, mended-times X R mends (grow r) q, insert-times X R s q r) in
          let e' : arm_at widened at ≡ arm_of A f (node here l (grow r)) = (rw e at is-widened) in
          let u = right-leaves A f k.region here l m (spot-weaken names (rw e at k.spot)) d long
          (rw (mended-arm-right A f R s mends here l (grow r)) e')
          (put_arm-frame xs at wide) (held-left widened-held)
          (subst (λ q. arm_at widened (place q) ≡ arm_of A f l) (sym name) (ap (λ p. p.left) children))
          (subst (λ q. LeavesAt A f place C (place q + arm_width) widened p.words m) (sym name) h.0) in (
            subst (LeavesAt A f place C at xs p.words) (sym (steady-right X R here l (grow r) mends b t)) u,
            rw (figure-right X R here l (grow r) mends b t) h.1,
          )

      -- the mirror at a node, and its way to either child
      insert♯-node : (fuel : ℕ) (mends : Bool) → insert♯ A (suc fuel) C place (f s) s mends at xs
          ≡ child♯ A C place mends (f s) s (tree_steps A (insert♯ A fuel C place (f s) s) C place mends) (least r)
          (way_of (arms (arm_of A f l) (arm_of A f r)) (A.below (f s) (f (least r)))) at (arm_of A f (node i l r)) xs
      unfolding insert♯ way_at
      insert♯-node fuel mends =
          let odd : ((2 * least r + 1) % 2 ≡ 0 → ⊥) = omega arith in
          let half : (2 * least r + 1) / 2 ≡ least r = omega arith in
          let member : 0 < times (least r) (node i l r) = omega (arith, times-node (least r) i l r, times-least r) in
          let p : Record = arms (arm_of A f l) (arm_of A f r) in
          let left : Bool = A.below (f s) (f (least r)) in
          let v : Way = way_of p left in
          rw (
            k.is,
            half,
            lt-leb C (least r) named,
            ne_eqb ((2 * least r + 1) % 2) 0 odd,
            k.held.records.0,
            k.held.marked (least r) member,
            eq-eqb (v.child.weight + v.sibling.weight) (weight l + weight r) (way-weight p left),
          )

      module _ (rec : Insertion) where
        abbrev Onward : Bool → Bool → After ℕ
        Onward left mends =
            child♯ A C place mends (f s) s (tree_steps A rec C place mends) (least r) (way_of (arms (arm_of A f l) (arm_of A f r)) left) at
            (arm_of A f (node i l r)) xs

        way-left : (mends : Bool) → Steady X R here (grow l) r mends → Onward true mends ≡ rec mends (place (least r)) widened
        unfolding way_of child_at
        way-left true t = rw (unbalances-even (weight l) (weight r) (weight (grow l)) (insert-weight X R s l) (t refl))
        way-left false t = rw (not-mending (weight l) (weight r))

        way-right : (mends : Bool) → Steady X R here l (grow r) mends → Onward false mends ≡ rec mends (place (least r) + arm_width) widened
        unfolding way_of child_at
        way-right true t =
            let even = balanced-swap (weight (grow r)) (weight l) ∙ t refl in
            rw (unbalances-even (weight r) (weight l) (weight (grow r)) (insert-weight X R s r) even)
        way-right false t = rw (not-mending (weight r) (weight l))

        afresh-left : Balanced (node i l r) → evenly (grow l) r ≡ false → Onward true true ≡ insert_afresh A rec C place at xs
        unfolding way_of
        afresh-left b u = rw (unbalances-uneven (weight l) (weight r) (weight (grow l)) b.0 (insert-weight X R s l) u)

        afresh-right : Balanced (node i l r) → evenly l (grow r) ≡ false → Onward false true ≡ insert_afresh A rec C place at xs
        unfolding way_of
        afresh-right b u =
            let uneven = balanced-swap (weight (grow r)) (weight l) ∙ u in
            rw (unbalances-uneven (weight r) (weight l) (weight (grow r)) (omega (arith, b.1)) (insert-weight X R s r) uneven)

        -- where mending is asked and the node will not be even, its tree is grown without mending, and then built afresh
        module _ (shallow : depth (node i l r) + 1 < 40) where
          left-way : (mends : Bool) → A.below (f s) (f (least r)) ≡ true → MayMend mends (node i l r)
              → Grows (place (least r)) widened (rec mends (place (least r)) widened) mends (grow l)
              → (mends ≡ true → Grows at xs (rec false at xs) false (grow (node i l r)))
              → Grows at xs (Onward true mends) mends (node here (grow l) r)
          left-way true e b h again =
              by_cases (evenly (grow l) r)
              (λ t. rw (way-left true (λ z. t)) (left-grows true (rec true (place (least r)) widened) e b.3 (λ z. t) h))
              (λ u. rw (afresh-left b u)
              (again-grows at xs rec here (grow l) r k.region (rw e at k.spot)
              (omega (arith, insert-depth X R s l)) u (rw e at (again refl))))
          left-way false e b h again =
              rw (way-left false (λ z. clash z refl)) (left-grows false (rec false (place (least r)) widened) e b (λ z. clash z refl) h)

          right-way : (mends : Bool) → A.below (f s) (f (least r)) ≡ false → MayMend mends (node i l r)
              → Grows (place (least r) + arm_width) widened (rec mends (place (least r) + arm_width) widened) mends (grow r)
              → (mends ≡ true → Grows at xs (rec false at xs) false (grow (node i l r)))
              → Grows at xs (Onward false mends) mends (node here l (grow r))
          right-way true e b h again =
              by_cases (evenly l (grow r))
              (λ t. rw (way-right true (λ z. t)) (right-grows true (rec true (place (least r) + arm_width) widened) e b.2 (λ z. t) h))
              (λ u. rw (afresh-right b u)
              (again-grows at xs rec here l (grow r) k.region (rw e at k.spot)
              (omega (arith, insert-depth X R s r)) u (rw e at (again refl))))
          right-way false e b h again =
              rw (way-right false (λ z. clash z refl)) (right-grows false (rec false (place (least r) + arm_width) widened) e b (λ z. clash z refl) h)

    -- THE INSERTION: where mending is asked, a step of fuel more may be spent on the tree that is built afresh
    pub insert-holds : ByCoordinate A → (fuel : ℕ) (t : Tree ℕ I) (mends : Bool) (at : ℕ) (xs : List ℕ) → Ready at xs t
        → depth t + indicator mends < fuel → depth t + 1 < 40 → MayMend mends t
        → LeavesAt A f place C at xs (insert♯ A fuel C place (f s) s mends at xs).words (mended (slot_axis f A) R mends (insert_leaf (slot_axis f A) R s t))
        × ((insert♯ A fuel C place (f s) s mends at xs).out ≡ figure mends (insert_leaf (slot_axis f A) R s t))
    unfolding insert♯
    insert-holds K zero t mends at xs k n d b = absurd (omega arith)
    insert-holds K (suc fuel) (leaf q) mends at xs k n d b =
        let even : 2 * q % 2 ≡ 0 = omega arith in
        let half : 2 * q / 2 ≡ q = omega arith in
        rw (k.is, half, lt-leb C q (held-least k.held), eq-eqb (2 * q % 2) 0 even) (split-grows mends at xs q k)
    insert-holds K (suc fuel) (node i l r) mends at xs k n d b =
        let again : (mends ≡ true → Grows at xs (insert♯ A fuel C place (f s) s false at xs) false (grow (node i l r))) =
        λ e. insert-holds K fuel (node i l r) false at xs k (let m = (rw e at n) in omega arith) d tt in
        let rec : Insertion = insert♯ A fuel C place (f s) s in
        rw (insert♯-node K at xs i l r k fuel mends)
        (by_cases (A.below (f s) (f (least r)))
        (λ e. rw e (left-way K at xs i l r k rec d mends e b
        (insert-holds K fuel l mends (place (least r)) (widened K at xs i l r k) (left-ready K at xs i l r k) (omega arith) (omega arith)
        (may_mend-left mends i l r b)) again))
        (λ e. rw e (right-way K at xs i l r k rec d mends e b
        (insert-holds K fuel r mends (place (least r) + arm_width) (widened K at xs i l r k) (right-ready K at xs i l r k e) (omega arith) (omega arith)
        (may_mend-right mends i l r b)) again)))
