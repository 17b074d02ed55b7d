-- On words that hold a small two-fold tree, the mirror of the lifting leaves words that hold it one level up. Assumes nothing.
use Prim.Native.Nat.{ℕ, zero, suc, ◌+◌, ◌*◌, ◌/◌, ◌%◌, ◌^◌, ◌≤◌, ◌<◌}
use mathlib.Core.Path.{◌≡◌, refl, sym, subst, ◌∙◌}
use mathlib.Core.List.{List, ◌++◌}
use mathlib.Core.Option.{some, some-injective}
use native.Mathlib.Omega.{arith}
use lib.ListN.{length, length-append}
use borrow.Author.Tests.{leb-true, ltb-true, lt-leb, le-ltb, eq-eqb, ne_eqb}
use Rattle.model.specs.Sizes.{D, W}
use Rattle.model.specs.Tree.{Tree, leaf, node, weight, depth, marks, least, Balanced}
use Rattle.model.specs.Sheet.{Mark, along_x, along_y}
use Rattle.model.proofs.Lists.{same_bag-length}
use Rattle.model.proofs.Sizes.{D-between, D-rises}
use Rattle.model.proofs.Depth.{balanced-depth}
use Rattle.model.proofs.Tree.{weight-marks}
use Rattle.table.specs.Layout.{main_place, run_place, level_place, record_place, level_end}
use Rattle.nodes.specs.Arms.{arms, record_at}
use Rattle.nodes.specs.Holds.{number, arm_of, times}
use Rattle.nodes.proofs.Unchanged.{unchanged-refl, unchanged-trans}
use Rattle.nodes.proofs.Frames.{level-there, frame-run}
use Rattle.nodes.proofs.Held.{times-node, times-least, held-right, held-least, Names, names-left, names-right}
use Rattle.nodes.proofs.Levels.{most-levels, levels-apart}
use Rattle.twofold_layout.specs.Rules.{SlotAuxiliary, SlotMain, AuxiliaryOf, AuxiliariesOf}
use Rattle.twofold_layout.specs.TwoFold.{HoldsAuxiliary, TwoFold}
use Rattle.twofold_layout.proofs.Frames.{TwoFrame, two_frame-weaken, level-frame}
use Rattle.twofold_layout.proofs.Kept.{clear_none, kept_record, kept-auxiliary, kept-own}
use Rattle.twofold_layout.proofs.Rules.{rules-auxiliary-times}
use Rattle.twofold_layout.proofs.Over.{TwoLeaves, two-left, two-right, two-over, deeper-level, two-level}
use Rattle.secondary_build.specs.Copy.{copy♯}
use Rattle.secondary_build.proofs.Copying.{Copied, copy_holds}
use Rattle.primary_strike.specs.Lift.{lift♯}
use Rattle.table.specs.Limits.{sibling_deepest}
use Rattle.twofold_layout.proofs.Beneath.{deep-two}
use Rattle.twofold_layout.proofs.Node.{kept-sibling}

-- a balanced tree of at most three slots is at most three deep
pub small-depth : {I : Type 0} (t : Tree ℕ I) → Balanced t → weight t ≤ 3 → depth t ≤ 3
small-depth t b w =
    let low : 4 ^ 3 ≤ 3 ^ 3 * 3 = leb-true (4 ^ 3) (3 ^ 3 * 3) refl in
    let high : 3 ^ 4 * 3 < 4 ^ 4 = ltb-true (3 ^ 4 * 3) (4 ^ 4) refl in
    omega (arith, balanced-depth t b, D-rises (weight t) 3 w, D-between 3 3 low high)

-- and so is the auxiliary tree of a node of at most three
auxiliary-depth : {f : ℕ → Mark} (l r : SlotMain) (o : SlotAuxiliary) (x : Tree ℕ (List ℕ)) → AuxiliaryOf f (marks l ++ marks r) o → o ≡ some x
    → weight l + weight r ≤ 3 → depth x ≤ 3
auxiliary-depth l r o x a e small =
    let t : Tree ℕ (List ℕ) = a.tree in
    let same : t ≡ x = some-injective t x (sym a.is ∙ e) in
    subst (λ x. depth x ≤ 3) same (small-depth t a.balanced (omega (
      arith,
      weight-marks t,
      same_bag-length (marks t) (marks l ++ marks r) a.bag,
      length-append (marks l) (marks r),
      weight-marks l,
      weight-marks r,
    )))

module _ (f : ℕ → Mark) (C : ℕ) (small : C ≤ 65536) where
  -- a node: its auxiliary tree was copied, then its left child was lifted, then its right
  module _ (d : ℕ) (i : SlotAuxiliary) (l r : SlotMain) (xs ys zs ws : List ℕ) (h : TwoFold f C (suc d) xs (node i l r)) (of : AuxiliariesOf f (node i l r))
      (c : Copied along_y f (record_place (level_place C (suc d))) (record_place (level_place C d)) C xs ys h.auxiliaries.0.tree)
      (a : TwoLeaves f C (suc d) ys (arm_of along_x f l) zs l) (b : TwoLeaves f C (suc d) zs (arm_of along_x f r) ws r) where
    apart : (s : ℕ) → times s l + times s r ≤ 1
    apart s = omega (arith, h.main.once s, times-node s i l r)

    own : least r < C
    own = held-least b.held.main

    copied-frame : TwoFrame C d (λ s. ⊥) (λ s. 0 < times s (node i l r)) 0 0 xs ys
    copied-frame =
        level-frame (λ s k. subst (λ n. 0 < n) (rules-auxiliary-times f of.0 h.auxiliaries.0.is s) k.0)
        (frame-run (run_place C 0) (run_place C C) c.frame)

    in_l : (s : ℕ) → 0 < times s l → s < C
    in_l s k = a.held.main.within s k

    in_r : (s : ℕ) → 0 < times s r → s < C
    in_r s k = b.held.main.within s k

    not_left : Names l (least r) → ⊥
    not_left k = omega (arith, k.0, apart (least r), times-least r)

    not_right : Names r (least r) → ⊥
    not_right k = k.1 refl

    node-record : record_at ws (main_place (least r)) ≡ arms (arm_of along_x f l) (arm_of along_x f r)
    node-record =
        kept_record (λ s k. in_r s k.0) clear_none b.frame (least r) own not_right (omega arith)
        ∙ kept_record (λ s k. in_l s k.0) clear_none a.frame (least r) own not_left (omega arith)
        ∙ kept_record (λ s k. absurd k) clear_none copied-frame (least r) own (λ k. k) (omega arith)
        ∙ h.main.records.0

    copied-holds : HoldsAuxiliary f C d (least r) ys i
    copied-holds = record {
      tree = h.auxiliaries.0.tree;
      is = h.auxiliaries.0.is;
      arm = kept-auxiliary (λ s k. absurd k) clear_none copied-frame (least r) own (λ k. k) (omega arith) ∙ h.auxiliaries.0.arm;
      held = c.held;
    }

    node-holds : HoldsAuxiliary f C d (least r) ws i
    node-holds =
        kept-own (λ s k. in_r s k.0) clear_none b.frame d (least r) i (omega arith) in_r own not_right (omega arith)
        (kept-own (λ s k. in_l s k.0) clear_none a.frame d (least r) i (omega arith) in_l own not_left (omega arith) copied-holds)

    node-lifted : TwoLeaves f C d xs (arm_of along_x f (node i l r)) ws (node i l r)
    node-lifted =
        let hl : TwoFold f C (suc d) ws l = kept-sibling (suc d) r l b.frame in_r (λ s. omega (arith, apart s)) of.1 a.held in
        record {
          is = refl;
          held = two-over i l r node-record node-holds hl b.held apart;
          frame = unchanged-trans (two_frame-weaken (omega arith) (λ s k. absurd k) (λ s k. k) copied-frame)
              (unchanged-trans (two_frame-weaken (omega arith) (names-left i l r) (λ s k. omega (arith, times-node s i l r)) a.frame)
              (two_frame-weaken (omega arith) (λ s k. names-right i l r apart s k.0) (λ s k. omega (arith, times-node s i l r)) b.frame));
        }

  -- the mirror at a node whose words are right
  lift-node : (k d : ℕ) (i : SlotAuxiliary) (l r : SlotMain) (xs : List ℕ) (h : TwoFold f C (suc d) xs (node i l r)) → length xs ≡ W C → suc d < D C
      → lift♯ (suc k) C (level_place C (suc d)) (level_place C d) (number (node i l r)) xs
      ≡ (let rec : (ℕ → List ℕ → List ℕ) = lift♯ k C (level_place C (suc (suc d))) (level_place C (suc d)) in
      rec (number r) (rec (number l)
      (copy♯ sibling_deepest C (record_place (level_place C (suc d))) (record_place (level_place C d)) (number h.auxiliaries.0.tree) xs)))
  unfolding lift♯
  lift-node k d i l r xs h ln deep =
      let odd : ((2 * least r + 1) % 2 ≡ 0 → ⊥) = omega arith in
      let half : (2 * least r + 1) / 2 ≡ least r = omega arith in
      let name : least r < C = held-least (held-right h.main) in
      rw (
        ne_eqb ((2 * least r + 1) % 2) 0 odd,
        half,
        lt-leb C (least r) name,
        le-ltb (length xs) (level_end (level_place C (suc d)) C)
            (level-there (level_place C (suc d)) C (length xs) (two-level C (suc d) (length xs) small deep ln) (omega arith)),
        le-ltb (length xs) (level_end (level_place C d) C)
            (level-there (level_place C d) C (length xs) (two-level C d (length xs) small (omega arith) ln) (omega arith)),
        h.main.records.0,
        h.auxiliaries.0.arm,
        deeper-level C (suc d) small (omega (arith, most-levels C small)),
      )

  lift-leaf : (k from to s : ℕ) (xs : List ℕ) → lift♯ k C from to (2 * s) xs ≡ xs
  unfolding lift♯
  lift-leaf zero from to s xs = refl
  lift-leaf (suc k) from to s xs =
      let even : (2 * s) % 2 ≡ 0 = omega arith in
      rw (eq-eqb ((2 * s) % 2) 0 even)

  leaf-lifted : (k d s : ℕ) (xs : List ℕ) → TwoFold f C (suc d) xs (leaf s)
      → TwoLeaves f C d xs (arm_of {I = SlotAuxiliary} along_x f (leaf s)) (lift♯ k C (level_place C (suc d)) (level_place C d) (2 * s) xs) (leaf s)
  leaf-lifted k d s xs h =
      rw (lift-leaf k (level_place C (suc d)) (level_place C d) s xs)
      record { is = refl; held = record { main = h.main; auxiliaries = tt }; frame = unchanged-refl xs }

  -- what a lifting by `rec` of trees at depth d + 1 leaves
  abbrev Lifts : ℕ → (ℕ → List ℕ → List ℕ) → SlotMain → Type 0
  Lifts d rec u = (xs : List ℕ) → length xs ≡ W C → TwoFold f C (suc d) xs u → TwoLeaves f C d xs (arm_of along_x f u) (rec (number u) xs) u

  lift-step : (rec : ℕ → List ℕ → List ℕ) (d : ℕ) (i : SlotAuxiliary) (l r : SlotMain) (xs : List ℕ) → length xs ≡ W C
      → (h : TwoFold f C (suc d) xs (node i l r)) → AuxiliariesOf f (node i l r) → weight l + weight r ≤ 3 → suc d ≤ D C
      → Lifts (suc d) rec l → Lifts (suc d) rec r
      → TwoLeaves f C d xs (arm_of along_x f (node i l r))
      (rec (number r) (rec (number l)
      (copy♯ sibling_deepest C (record_place (level_place C (suc d))) (record_place (level_place C d)) (number h.auxiliaries.0.tree) xs)))
      (node i l r)
  lift-step rec d i l r xs ln h of w deep lifts-l lifts-r =
      let x : Tree ℕ (List ℕ) = h.auxiliaries.0.tree in
      let from : (ℕ → ℕ) = record_place (level_place C (suc d)) in
      let to : (ℕ → ℕ) = record_place (level_place C d) in
      let c = copy_holds along_y f from to C sibling_deepest x xs (two-level C d (length xs) small (omega arith) ln)
      (λ s q hs hq k. levels-apart C d (suc d) q s (omega arith) hq hs) h.auxiliaries.0.held
      (auxiliary-depth l r i x of.0 h.auxiliaries.0.is w) in
      let ys : List ℕ = copy♯ sibling_deepest C from to (number x) xs in
      let fr = frame-run (run_place C 0) (run_place C C) c.frame in
      let in_x : ((s : ℕ) → Names x s → s < C) = λ s z. h.auxiliaries.0.held.within s z.0 in
      let a = lifts-l ys (c.frame.long ∙ ln) (deep-two in_x fr (suc (suc d)) l (omega arith) (two-left h)) in
      let zs : List ℕ = rec (number l) ys in
      let apart : ((s : ℕ) → times s l + times s r ≤ 1) = λ s. omega (arith, h.main.once s, times-node s i l r) in
      let hr = kept-sibling (suc (suc d)) l r a.frame (λ s z. a.held.main.within s z) apart of.2
      (deep-two in_x fr (suc (suc d)) r (omega arith) (two-right h)) in
      let b = lifts-r zs (a.frame.long ∙ c.frame.long ∙ ln) hr in
      node-lifted d i l r xs ys zs (rec (number r) zs) h of c a b

  node-lift : (k d : ℕ) (i : SlotAuxiliary) (l r : SlotMain) → AuxiliariesOf f (node i l r) → weight l + weight r ≤ 3 → suc d < D C
      → Lifts (suc d) (lift♯ k C (level_place C (suc (suc d))) (level_place C (suc d))) l
      → Lifts (suc d) (lift♯ k C (level_place C (suc (suc d))) (level_place C (suc d))) r
      → Lifts d (lift♯ (suc k) C (level_place C (suc d)) (level_place C d)) (node i l r)
  node-lift k d i l r of w deep a b xs ln h =
      rw (lift-node k d i l r xs h ln deep) (lift-step (lift♯ k C (level_place C (suc (suc d))) (level_place C (suc d))) d i l r xs ln h of w
      (omega arith) a b)

  lift-lifts : (fuel : ℕ) (u : SlotMain) (d : ℕ) → AuxiliariesOf f u → weight u ≤ 3 → depth u ≤ fuel → suc d + depth u ≤ D C
      → Lifts d (lift♯ fuel C (level_place C (suc d)) (level_place C d)) u
  lift-lifts zero (leaf s) d of w n deep = λ xs ln h. leaf-lifted zero d s xs h
  lift-lifts zero (node i l r) d of w n deep = absurd (omega arith)
  lift-lifts (suc k) (leaf s) d of w n deep = λ xs ln h. leaf-lifted (suc k) d s xs h
  lift-lifts (suc k) (node i l r) d of w n deep = λ xs ln h.
      node-lift k d i l r of w (omega arith)
      (lift-lifts k l (suc d) of.1 (omega (arith, w)) (omega arith) (omega arith))
      (lift-lifts k r (suc d) of.2 (omega (arith, w)) (omega arith) (omega arith)) xs ln h

  pub lift-holds : (fuel : ℕ) (u : SlotMain) (d : ℕ) (xs : List ℕ) → length xs ≡ W C → TwoFold f C (suc d) xs u → AuxiliariesOf f u
      → weight u ≤ 3 → depth u ≤ fuel → suc d + depth u ≤ D C
      → TwoLeaves f C d xs (arm_of along_x f u) (lift♯ fuel C (level_place C (suc d)) (level_place C d) (number u) xs) u
  lift-holds fuel u d xs ln h of w n deep = lift-lifts fuel u d of w n deep xs ln h
