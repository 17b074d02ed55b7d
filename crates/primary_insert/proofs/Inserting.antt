-- On words that hold a two-fold tree by the rules, the mirror of the insertion leaves the model's two-fold tree with the slot inserted and mended, and
-- gives the model's figure. Assumes nothing.
use Prim.Native.Nat.{ℕ, zero, suc, ◌+◌, ◌*◌, ◌/◌, ◌%◌, ◌≤◌, ◌<◌}
use mathlib.Core.Path.{◌≡◌, refl, sym, ap, subst, ◌∙◌}
use mathlib.Core.Bool.{Bool, true, false}
use mathlib.Core.List.{List, ◌∷◌, ◌++◌}
use native.Mathlib.Omega.{arith}
use lib.Dec.{eqb}
use lib.ListN.{length}
use borrow.Author.Tests.{eq-eqb, ne_eqb, lt-leb}
use Rattle.model.specs.Lists.{indicator, count_if}
use Rattle.model.specs.Sizes.{D, W}
use Rattle.model.specs.Sheet.{Mark, below_x, sheet, along_x}
use Rattle.model.specs.Slots.{slot_space, slot_axis}
use Rattle.model.specs.Tree.{leaf, node, weight, depth, marks, least, evenly, insert_leaf, rebalance, rebuilt}
use Rattle.model.proofs.Logic.{by_cases}
use Rattle.model.proofs.Lists.{count_if-append}
use Rattle.model.proofs.Sizes.{D-rises}
use Rattle.model.proofs.Depth.{balanced-depth}
use Rattle.model.proofs.Tree.{weight-pos, rebalance-marks, rebalance-weight, rebalance-balanced}
use Rattle.model.proofs.Rebalance.{rebalance-left, rebalance-right, rebuilt-left, rebuilt-right}
use Rattle.table.specs.Layout.{arm_width, record_width, main_place, root_place, level_place}
use Rattle.table.specs.Limits.{deepest, damaged}
use Rattle.table.specs.Marks.{slot_mark}
use Rattle.nodes.specs.Arms.{Arm, Record, arms, Way, way_of, grown_arm, arm_at, put_arm, child_at}
use Rattle.nodes.specs.Ways.{way_at}
use Rattle.nodes.proofs.Balance.{balanced-swap, unbalances-even, unbalances-uneven, way-weight}
use Rattle.nodes.specs.Holds.{arm_of, times_in, times}
use Rattle.table.specs.After.{After}
use Rattle.nodes.proofs.Frames.{put_arm-same}
use Rattle.nodes.proofs.Held.{times-node, times-least, held-weight, held-least, leaf_arm-of, Names, least-marks, greatest-marks, names-marks, names-own}
use Rattle.nodes.proofs.Unchanged.{unchanged-trans}
use Rattle.nodes.proofs.Spots.{record-arms}
use Rattle.nodes.proofs.Levels.{most-levels, held-shallow}
use Rattle.twofold_layout.specs.Rules.{SlotAuxiliary, SlotMain, slot_auxiliary, ByRules}
use Rattle.twofold_layout.specs.TwoFold.{HoldsAuxiliary, TwoFold}
use Rattle.twofold_layout.proofs.Frames.{TwoFrame, two_frame-weaken, two_frame-at, level-frame_at, arm-two_frame, two_spot-weaken, root-spot, child-spot}
use Rattle.twofold_layout.proofs.Kept.{clear_none, clear-spot, kept-mark, kept_arm}
use Rattle.twofold_layout.proofs.Over.{TwoLeavesAt, two-left, two-right, top-level, deeper-level, two-main}
use Rattle.twofold_layout.proofs.Rules.{rules-left, rules-right}
use Rattle.secondary_update.specs.Insert.{auxiliary_insert♯}
use Rattle.secondary_update.proofs.Inserting.{insert-times, insert-weight, insert-least, insert-names}
use Rattle.secondary_update.proofs.Inserting.{rebuilt-weight, grown-arm, leaf-held, grown-within}
use Rattle.primary_insert.specs.Insert.{main_leaf♯, main_afresh♯, MainInsertion, insert_beneath♯, main_insert♯}
use Rattle.primary_insert.specs.Insert.{main_steps}
use Rattle.secondary_update.specs.Insert.{child♯, turn♯}
use Rattle.twofold_layout.proofs.Beneath.{beneath-record, beneath-two}
use Rattle.primary_insert.proofs.Way.{arm-kept, AuxiliaryGrown, auxiliary-grown, two-way-left, two-way-right}
use Rattle.primary_insert.proofs.Ready.{TwoReady, X, R, grow, mend, Grown, by_x, ready-room, ready-new, ready-within, ready-once}
use Rattle.primary_insert.proofs.Afresh.{afresh-grown}
use Rattle.primary_insert.proofs.Leaf.{leaf-grown}

module _ (f : ℕ → Mark) (C s : ℕ) (small : C ≤ 65536) (in_c : s < C) where
  -- AT A NODE THAT STAYS EVEN: the arm is widened, the auxiliary tree gets the slot, and then the child's turn comes
  module _ {d at : ℕ} {xs : List ℕ} (i : SlotAuxiliary) (l r : SlotMain) (k : TwoReady f C s d at xs (node i l r)) (low : d < D C) where
    abbrev here : SlotAuxiliary
    here = (R f).insert s i

    abbrev wide : Arm
    wide = grown_arm (arm_of along_x f (node i l r)) (f s).x (f s).grade

    abbrev widened : List ℕ
    widened = put_arm xs at wide

    abbrev handed : After ℕ
    handed = auxiliary_insert♯ (level_place C d) C (f s) s (least r) widened

    node-apart : (q : ℕ) → times q l + times q r ≤ 1
    node-apart q = omega (arith, k.held.main.once q, times-node q i l r)

    node-named : least r < C
    node-named = k.held.main.within (least r) (omega (arith, times-node (least r) i l r, times-least r))

    widened-frame : TwoFrame C d (λ q. ⊥) (λ q. ⊥) at arm_width xs widened
    widened-frame = arm-two_frame xs at wide

    widened-held : TwoFold f C d widened (node i l r)
    widened-held =
        arm-kept xs wide (node i l r) k.spot (insert-names (X f) (R f) s (node i l r) (ready-new k)) k.rules.auxiliaries k.held

    handed-grown : AuxiliaryGrown f C s d (least r) widened i (marks l ++ marks r) handed
    handed-grown =
        auxiliary-grown f C s d (least r) widened (marks l ++ marks r) small in_c low node-named (widened-frame.long ∙ k.long)
        (kept-mark (λ q p. absurd p) (clear-spot k.spot) widened-frame s in_c ∙ k.marked) k.new i widened-held.auxiliaries.0
        k.rules.auxiliaries.0

    handed-tells : (q : ℕ) → 0 < times_in q (s ∷ marks l ++ marks r) → 0 < times q (grow f s (node i l r))
    handed-tells q h = omega (arith, insert-times (X f) (R f) s q (node i l r))

    handed-within : (q : ℕ) → 0 < times_in q (s ∷ marks l ++ marks r) → q < C
    handed-within q h = ready-within in_c k q (handed-tells q h)

    handed-frame : TwoFrame C d (Names (grow f s (node i l r))) (λ q. 0 < times q (grow f s (node i l r))) 0 0 widened handed.words
    handed-frame =
        level-frame_at (least r) (insert-names (X f) (R f) s (node i l r) (ready-new k) (least r) (names-own i l r node-apart (least r) refl)) handed-tells
        handed-grown.frame

    handed-before : TwoFrame C d (Names (grow f s (node i l r))) (λ q. 0 < times q (grow f s (node i l r))) at arm_width xs handed.words
    handed-before = unchanged-trans (arm-two_frame xs at wide) (two_frame-at handed-frame)

    handed-is : arm_at handed.words at ≡ arm_of along_x f (grow f s (node i l r))
    handed-is =
        kept_arm (λ q p. ready-within in_c k q p.0) clear_none handed-frame at k.spot (omega arith) ∙ put_arm-same xs at wide (ready-room small k)
        ∙ grown-arm along_x f (R f) s by_x i l r k.rules.sorted (omega (arith, held-weight k.held.main))

    handed-long : length handed.words ≡ W C
    handed-long = handed-before.long ∙ k.long

    handed-room : main_place (least r) + record_width ≤ length handed.words
    handed-room = (two-main small handed-long).room (least r) node-named

    handed-marked : slot_mark handed.words s ≡ f s
    handed-marked = kept-mark (λ q p. ready-within in_c k q p.0) (clear-spot k.spot) handed-before s in_c ∙ k.marked

    handed-left : TwoFold f C (suc d) handed.words l
    handed-left =
        beneath-two C d (least r) node-named handed-within handed-grown.frame f (suc d) l (omega arith) (λ q p e. other q p e) (two-left widened-held)
      where
        other : (q : ℕ) → Names l q → q ≡ least r → ⊥
        other q p e = let z = subst (λ j. 0 < times j r) (sym e) (times-least r) in omega (arith, p.0, node-apart q)

    handed-right : TwoFold f C (suc d) handed.words r
    handed-right =
        beneath-two C d (least r) node-named handed-within handed-grown.frame f (suc d) r (omega arith) (λ q p e. p.1 e) (two-right widened-held)

    handed-arms : arms (arm_at handed.words (main_place (least r))) (arm_at handed.words (main_place (least r) + arm_width))
        ≡ arms (arm_of along_x f l) (arm_of along_x f r)
    handed-arms =
        sym (record-arms handed.words (main_place (least r)))
        ∙ beneath-record C d (least r) node-named handed-within handed-grown.frame (least r) node-named ∙ widened-held.main.records.0

    left-ready : TwoReady f C s (suc d) (main_place (least r)) handed.words l
    left-ready = record {
      long = handed-long;
      marked = handed-marked;
      is = ap (λ p. p.left) handed-arms;
      held = handed-left;
      rules = rules-left f k.rules;
      new = omega (arith, k.new, count_if-append ((slot_space f sheet).same s) (marks l) (marks r));
      spot = child-spot (least r) (main_place (least r)) node-named (λ q p. grown-within along_x f (R f) main_place C s in_c l handed-left.main q p.0)
          (λ p. omega (arith, p.0, insert-times (X f) (R f) s (least r) l, node-once (least r), times-least r)) (omega arith) (omega arith);
    }
      where
        node-once : (q : ℕ) → times q l + times q r + indicator (eqb q s) ≤ 1
        node-once q = omega (arith, ready-once in_c k q, insert-times (X f) (R f) s q (node i l r), times-node q i l r)

    right-ready : below_x (f s) (f (least r)) ≡ false → TwoReady f C s (suc d) (main_place (least r) + arm_width) handed.words r
    right-ready e = record {
      long = handed-long;
      marked = handed-marked;
      is = ap (λ p. p.right) handed-arms;
      held = handed-right;
      rules = rules-right f k.rules;
      new = omega (arith, k.new, count_if-append ((slot_space f sheet).same s) (marks l) (marks r));
      spot =
          child-spot (least r) (main_place (least r) + arm_width) node-named
          (λ q p. grown-within along_x f (R f) main_place C s in_c r handed-right.main q p.0)
          (λ p. p.1 (sym (insert-least (X f) (R f) s r e))) (omega arith) (omega arith);
    }

    -- the node over the mended child
    left_grown : (p : After ℕ) → below_x (f s) (f (least r)) ≡ true → evenly (grow f s l) r ≡ true
        → Grown f C (suc d) (main_place (least r)) handed.words p (grow f s l) → Grown f C d at xs p (node here (grow f s l) r)
    left_grown p e t h =
        let m : SlotMain = mend f (grow f s l) in
        let b = k.rules.balanced.3 in
        let g : grow f s (node i l r) ≡ node here (grow f s l) r = rw e in
        let same : marks m ≡ marks (grow f s l) = rebalance-marks (X f) (R f) (grow f s l) in
        let all : marks (node here m r) ≡ marks (grow f s (node i l r)) = ap (λ z. z ++ marks r) same ∙ sym (ap marks g) in
        let apart : ((q : ℕ) → times q m + times q r ≤ 1) =
        λ q. omega (arith, ready-once in_c k q, ap (times_in q) all, times-node q here m r) in
        let arm : arm_of along_x f (node here (grow f s l) r) ≡ arm_of along_x f (node here m r) =
        rw (rebalance-weight (X f) (R f) (grow f s l), least-marks m (grow f s l) same, same) in
        let u : TwoLeavesAt f C d at xs p.words (node here m r) =
        two-way-left here m r (two_spot-weaken (names-marks (node here m r) (grow f s (node i l r)) all) k.spot) apart handed-room
        (handed-is ∙ ap (arm_of along_x f) g ∙ arm)
        (two_frame-weaken (omega arith) (names-marks (grow f s (node i l r)) (node here m r) (sym all)) (λ q z. subst (λ j. 0 < times_in q j) (sym all) z)
        handed-before)
        handed-grown.holds handed-right k.rules.auxiliaries.2 (ap (λ p. p.right) handed-arms) h.0 in
        let mended : mend f (node here (grow f s l) r) ≡ node here m r = rw (rebalance-left (X f) (R f) here (grow f s l) r b, t) in (
          subst (TwoLeavesAt f C d at xs p.words) (sym mended) u,
          rw (rebuilt-left here (grow f s l) r b, t) h.1,
        )

    right-grown : (p : After ℕ) → below_x (f s) (f (least r)) ≡ false → evenly l (grow f s r) ≡ true
        → Grown f C (suc d) (main_place (least r) + arm_width) handed.words p (grow f s r) → Grown f C d at xs p (node here l (grow f s r))
    right-grown p e t h =
        let m : SlotMain = mend f (grow f s r) in
        let b = k.rules.balanced.2 in
        let g : grow f s (node i l r) ≡ node here l (grow f s r) = rw e in
        let same : marks m ≡ marks (grow f s r) = rebalance-marks (X f) (R f) (grow f s r) in
        let name : least m ≡ least r = least-marks m (grow f s r) same ∙ insert-least (X f) (R f) s r e in
        let all : marks (node here l m) ≡ marks (grow f s (node i l r)) = ap (λ z. marks l ++ z) same ∙ sym (ap marks g) in
        let apart : ((q : ℕ) → times q l + times q m ≤ 1) =
        λ q. omega (arith, ready-once in_c k q, ap (times_in q) all, times-node q here l m) in
        let arm : arm_of along_x f (node here l (grow f s r)) ≡ arm_of along_x f (node here l m) =
        rw (rebalance-weight (X f) (R f) (grow f s r), least-marks m (grow f s r) same, greatest-marks m (grow f s r) same, same) in
        let u : TwoLeavesAt f C d at xs p.words (node here l m) =
        two-way-right here l m (two_spot-weaken (names-marks (node here l m) (grow f s (node i l r)) all) k.spot) apart
        (subst (λ q. main_place q + record_width ≤ length handed.words) (sym name) handed-room)
        (handed-is ∙ ap (arm_of along_x f) g ∙ arm)
        (two_frame-weaken (omega arith) (names-marks (grow f s (node i l r)) (node here l m) (sym all)) (λ q z. subst (λ j. 0 < times_in q j) (sym all) z)
        handed-before)
        (subst (λ q. HoldsAuxiliary f C d q handed.words here) (sym name) handed-grown.holds) handed-left k.rules.auxiliaries.1
        (subst (λ q. arm_at handed.words (main_place q) ≡ arm_of along_x f l) (sym name) (ap (λ p. p.left) handed-arms))
        (subst (λ q. TwoLeavesAt f C (suc d) (main_place q + arm_width) handed.words p.words m) (sym name) h.0) in
        let mended : mend f (node here l (grow f s r)) ≡ node here l m = rw (rebalance-right (X f) (R f) here l (grow f s r) b, t) in (
          subst (TwoLeavesAt f C d at xs p.words) (sym mended) u,
          rw (rebuilt-right here l (grow f s r) b, t) h.1,
        )

  -- THE MIRROR AT A NODE
  module _ {d at : ℕ} {xs : List ℕ} (i : SlotAuxiliary) (l r : SlotMain) (k : TwoReady f C s d at xs (node i l r)) (rec : MainInsertion) where
    abbrev Onward : Bool → After ℕ
    Onward left =
        child♯ along_x C main_place true (f s) s (main_steps rec C (f s) s (level_place C d)) (least r)
        (way_of (arms (arm_of along_x f l) (arm_of along_x f r)) left) at (arm_of along_x f (node i l r)) xs

    insert_beneath-node : turn♯ along_x C main_place true (f s) s (main_steps rec C (f s) s (level_place C d)) at xs ≡ Onward (below_x (f s) (f (least r)))
    unfolding way_at
    insert_beneath-node =
        let odd : ((2 * least r + 1) % 2 ≡ 0 → ⊥) = omega arith in
        let half : (2 * least r + 1) / 2 ≡ least r = omega arith in
        let member : 0 < times (least r) (node i l r) = omega (arith, times-node (least r) i l r, times-least r) in
        let p : Record = arms (arm_of along_x f l) (arm_of along_x f r) in
        let left : Bool = below_x (f s) (f (least r)) in
        let v : Way = way_of p left in
        rw (
          k.is,
          half,
          lt-leb C (least r) (held-least (two-right k.held).main),
          ne_eqb ((2 * least r + 1) % 2) 0 odd,
          k.held.main.records.0,
          k.held.main.marked (least r) member,
          eq-eqb (v.child.weight + v.sibling.weight) (weight l + weight r) (way-weight p left),
        )

    afresh-left : evenly (grow f s l) r ≡ false → Onward true ≡ main_afresh♯ C (f s) s (level_place C d) at xs
    unfolding way_of
    afresh-left u =
        rw (unbalances-uneven (weight l) (weight r) (weight (grow f s l)) k.rules.balanced.0 (insert-weight (X f) (R f) s l) u)

    afresh-right : evenly l (grow f s r) ≡ false → Onward false ≡ main_afresh♯ C (f s) s (level_place C d) at xs
    unfolding way_of
    afresh-right u =
        let uneven = balanced-swap (weight (grow f s r)) (weight l) ∙ u in
        rw (unbalances-uneven (weight r) (weight l) (weight (grow f s r)) (omega (arith, k.rules.balanced.1)) (insert-weight (X f) (R f) s r) uneven)

    module _ (low : d < D C) where
      way-left : evenly (grow f s l) r ≡ true → Onward true ≡ rec (level_place C (suc d)) (main_place (least r)) (handed i l r k low).words
      unfolding way_of child_at
      way-left t =
          rw (
            unbalances-even (weight l) (weight r) (weight (grow f s l)) (insert-weight (X f) (R f) s l) t,
            ne_eqb (handed i l r k low).out damaged (handed-grown i l r k low).sound,
            deeper-level C d small (omega (arith, most-levels C small)),
          )

      way-right : evenly l (grow f s r) ≡ true → Onward false ≡ rec (level_place C (suc d)) (main_place (least r) + arm_width) (handed i l r k low).words
      unfolding way_of child_at
      way-right t =
          rw (
            unbalances-even (weight r) (weight l) (weight (grow f s r)) (insert-weight (X f) (R f) s r) (balanced-swap (weight (grow f s r)) (weight l) ∙ t),
            ne_eqb (handed i l r k low).out damaged (handed-grown i l r k low).sound,
            deeper-level C d small (omega (arith, most-levels C small)),
          )

  insert_beneath-leaf : {d at : ℕ} {xs : List ℕ} (q : ℕ) (rec : MainInsertion) → TwoReady f C s d at xs (leaf q)
      → turn♯ along_x C main_place true (f s) s (main_steps rec C (f s) s (level_place C d)) at xs
      ≡ main_leaf♯ C (f s) s (level_place C d) at (arm_of {I = SlotAuxiliary} along_x f (leaf q)) xs
  insert_beneath-leaf q rec k =
      let even : 2 * q % 2 ≡ 0 = omega arith in
      let half : 2 * q / 2 ≡ q = omega arith in
      rw (k.is, half, lt-leb C q (held-least k.held.main), eq-eqb (2 * q % 2) 0 even)

  leaf-low : {d : ℕ} (q : ℕ) → d + depth (mend f (grow f s (leaf q))) ≤ D C → d < D C
  leaf-low {d = d} q fits = by_cases (below_x (f s) (f q)) (λ e. let z = (rw e at fits) in omega arith) (λ e. let z = (rw e at fits) in omega arith)

  module _ {d at : ℕ} {xs : List ℕ} (i : SlotAuxiliary) (l r : SlotMain) (k : TwoReady f C s d at xs (node i l r)) (rec : MainInsertion)
      (shallow : depth (node i l r) + 1 < 40) (fits : d + depth (mend f (grow f s (node i l r))) ≤ D C) where
    left-way : below_x (f s) (f (least r)) ≡ true
        → ((low : d < D C) → suc d + depth (mend f (grow f s l)) ≤ D C → Grown f C (suc d) (main_place (least r)) (handed i l r k low).words
        (rec (level_place C (suc d)) (main_place (least r)) (handed i l r k low).words) (grow f s l))
        → Grown f C d at xs (Onward i l r k rec true) (grow f s (node i l r))
    left-way e next =
        let g : grow f s (node i l r) ≡ node ((R f).insert s i) (grow f s l) r = rw e in
        by_cases (evenly (grow f s l) r)
        (λ t.
        let m : mend f (grow f s (node i l r)) ≡ node ((R f).insert s i) (mend f (grow f s l)) r =
        rw (e, rebalance-left (X f) (R f) ((R f).insert s i) (grow f s l) r k.rules.balanced.3, t) in
        let deep : d + depth (node ((R f).insert s i) (mend f (grow f s l)) r) ≤ D C = subst (λ u. d + depth u ≤ D C) m fits in
        let low : d < D C = omega arith in
        rw (way-left i l r k rec low t) (subst (Grown f C d at xs (rec (level_place C (suc d)) (main_place (least r)) (handed i l r k low).words)) (sym g)
        (left_grown i l r k low (rec (level_place C (suc d)) (main_place (least r)) (handed i l r k low).words) e t (next low (omega arith)))))
        (λ u. rw (afresh-left i l r k rec u) (afresh-grown small in_c k shallow fits ((R f).insert s i) (grow f s l) r g u))

    right-way : below_x (f s) (f (least r)) ≡ false
        → ((low : d < D C) → suc d + depth (mend f (grow f s r)) ≤ D C → Grown f C (suc d) (main_place (least r) + arm_width) (handed i l r k low).words
        (rec (level_place C (suc d)) (main_place (least r) + arm_width) (handed i l r k low).words) (grow f s r))
        → Grown f C d at xs (Onward i l r k rec false) (grow f s (node i l r))
    right-way e next =
        let g : grow f s (node i l r) ≡ node ((R f).insert s i) l (grow f s r) = rw e in
        by_cases (evenly l (grow f s r))
        (λ t.
        let m : mend f (grow f s (node i l r)) ≡ node ((R f).insert s i) l (mend f (grow f s r)) =
        rw (e, rebalance-right (X f) (R f) ((R f).insert s i) l (grow f s r) k.rules.balanced.2, t) in
        let deep : d + depth (node ((R f).insert s i) l (mend f (grow f s r))) ≤ D C = subst (λ u. d + depth u ≤ D C) m fits in
        let low : d < D C = omega arith in
        rw (way-right i l r k rec low t)
        (subst (Grown f C d at xs (rec (level_place C (suc d)) (main_place (least r) + arm_width) (handed i l r k low).words)) (sym g)
        (right-grown i l r k low (rec (level_place C (suc d)) (main_place (least r) + arm_width) (handed i l r k low).words) e t (next low (omega arith)))))
        (λ u. rw (afresh-right i l r k rec u) (afresh-grown small in_c k shallow fits ((R f).insert s i) l (grow f s r) g u))

  -- THE INSERTION beneath an arm
  pub insert_beneath-holds : (fuel : ℕ) (t : SlotMain) (d at : ℕ) (xs : List ℕ) → TwoReady f C s d at xs t
      → d + depth (rebalance (slot_axis f along_x) (slot_auxiliary f) (insert_leaf (slot_axis f along_x) (slot_auxiliary f) s t)) ≤ D C → depth t < fuel
      → depth t + 1 < 40
      → let p = insert_beneath♯ fuel C (f s) s (level_place C d) at xs in
      TwoLeavesAt f C d at xs p.words (rebalance (slot_axis f along_x) (slot_auxiliary f) (insert_leaf (slot_axis f along_x) (slot_auxiliary f) s t))
      × (p.out ≡ rebuilt (insert_leaf (slot_axis f along_x) (slot_auxiliary f) s t))
  unfolding insert_beneath♯
  insert_beneath-holds zero t d at xs k fits deep shallow = absurd (omega arith)
  insert_beneath-holds (suc fuel) (leaf q) d at xs k fits deep shallow =
      rw (insert_beneath-leaf q (insert_beneath♯ fuel C (f s) s) k) (leaf-grown small in_c q k (leaf-low q fits))
  insert_beneath-holds (suc fuel) (node i l r) d at xs k fits deep shallow =
      let rec : MainInsertion = insert_beneath♯ fuel C (f s) s in
      rw (insert_beneath-node i l r k rec)
      (by_cases (below_x (f s) (f (least r)))
      (λ e. subst (λ b. Grown f C d at xs (Onward i l r k rec b) (grow f s (node i l r))) (sym e)
      (left-way i l r k rec shallow fits e (λ low h.
      insert_beneath-holds fuel l (suc d) (main_place (least r)) (handed i l r k low).words (left-ready i l r k low) h (omega arith) (omega arith))))
      (λ e. subst (λ b. Grown f C d at xs (Onward i l r k rec b) (grow f s (node i l r))) (sym e)
      (right-way i l r k rec shallow fits e (λ low h.
      insert_beneath-holds fuel r (suc d) (main_place (least r) + arm_width) (handed i l r k low).words (right-ready i l r k low e) h (omega arith)
      (omega arith)))))

-- THE INSERTION: the tree of the root
module _ (f : ℕ → Mark) (C s : ℕ) (small : C ≤ 65536) (in_c : s < C) (xs : List ℕ) (long : length xs ≡ W C) (marked : slot_mark xs s ≡ f s) where
  -- of a table with room the grown tree, mended, has no more levels than the table
  mended-depth : (t : SlotMain) → weight t < C
      → depth (rebalance (slot_axis f along_x) (slot_auxiliary f) (insert_leaf (slot_axis f along_x) (slot_auxiliary f) s t)) ≤ D C
  mended-depth t free =
      let g : SlotMain = insert_leaf (slot_axis f along_x) (slot_auxiliary f) s t in
      let m : SlotMain = rebalance (slot_axis f along_x) (slot_auxiliary f) g in
      let w : weight m ≡ weight t + 1 =
      rebalance-weight (slot_axis f along_x) (slot_auxiliary f) g ∙ insert-weight (slot_axis f along_x) (slot_auxiliary f) s t in
      omega (arith, balanced-depth m (rebalance-balanced (slot_axis f along_x) (slot_auxiliary f) g), D-rises (weight m) C (omega arith))

  pub main_insert-holds : (t : SlotMain) → arm_at xs root_place ≡ arm_of along_x f t → TwoFold f C 0 xs t → ByRules f t
      → count_if ((slot_space f sheet).same s) (marks t) ≡ 0 → weight t < C
      → let p = main_insert♯ C (f s) s xs in
      TwoLeavesAt f C 0 root_place xs p.words (rebalance (slot_axis f along_x) (slot_auxiliary f) (insert_leaf (slot_axis f along_x) (slot_auxiliary f) s t))
      × (p.out ≡ rebuilt (insert_leaf (slot_axis f along_x) (slot_auxiliary f) s t)) × (p.out ≡ damaged → ⊥)
  unfolding main_insert♯
  main_insert-holds t is h rules new free =
      let ready : TwoReady f C s 0 root_place xs t = record {
        long = long;
        marked = marked;
        is = is;
        held = h;
        rules = rules;
        new = new;
        spot = root-spot;
      } in
      let d : depth t ≤ 38 = held-shallow h.main rules.balanced small in
      let k = insert_beneath-holds f C s small in_c deepest t 0 root_place xs ready (omega (arith, mended-depth t free)) (omega arith) (omega arith) in
      let most : rebuilt (insert_leaf (slot_axis f along_x) (slot_auxiliary f) s t) ≤ 65536 =
      omega (arith, rebuilt-weight (insert_leaf (slot_axis f along_x) (slot_auxiliary f) s t), insert-weight (slot_axis f along_x) (slot_auxiliary f) s t) in
      rw (is, ne_eqb (weight t) 0 (omega (arith, weight-pos t)), top-level C small) (k.0, k.1, λ e. omega (arith, k.1))

  -- the first slot is a lone leaf
  pub main_insert-first : (arm_at xs root_place).weight ≡ 0
      → let p = main_insert♯ C (f s) s xs in TwoLeavesAt f C 0 root_place xs p.words (leaf s) × (p.out ≡ 0)
  unfolding main_insert♯
  main_insert-first e =
      let room : root_place + arm_width ≤ length xs = omega (arith, (two-main small long).run_room) in
      let a : Arm = arm_of {I = SlotAuxiliary} along_x f (leaf s) in
      let frame : TwoFrame C 0 (Names {I = SlotAuxiliary} (leaf s)) (λ q. 0 < times {I = SlotAuxiliary} q (leaf s)) root_place arm_width xs
      (put_arm xs root_place a) =
      arm-two_frame xs root_place a in
      let b : TwoFrame C 0 (λ q. ⊥) (λ q. ⊥) root_place arm_width xs (put_arm xs root_place a) = arm-two_frame xs root_place a in
      let kept : slot_mark (put_arm xs root_place a) s ≡ f s = kept-mark (λ q p. absurd p) (clear-spot (root-spot {P = λ q. ⊥})) b s in_c ∙ marked in
      rw (eq-eqb (arm_at xs root_place).weight 0 e, leaf_arm-of f s (f s).x (omega arith)) (
        record {
          is = put_arm-same xs root_place a room;
          held = record { main = leaf-held along_x f (slot_auxiliary f) main_place C s in_c (put_arm xs root_place a) kept; auxiliaries = tt };
          frame = frame;
        },
        refl,
      )
