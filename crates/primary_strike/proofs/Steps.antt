-- The parts of a strike at one node of a two-fold tree: its child goes, it is built afresh, or its auxiliary tree and one child are struck and it is
-- written anew. Assumes nothing.
use Prim.Native.Nat.{ℕ, suc, ◌+◌, ◌-◌, ◌≤◌, ◌<◌}
use mathlib.Core.Path.{◌≡◌, refl, sym, ap, subst, ◌∙◌}
use mathlib.Core.Bool.{true, false}
use mathlib.Core.List.{List, ◌++◌}
use mathlib.Core.Option.{some, some-injective}
use Rattle.std.specs.Prelude.{Option, Some}
use native.Mathlib.Omega.{arith}
use lib.ListN.{length, length-append}
use borrow.Author.Tests.{ne_eqb}
use Rattle.model.specs.Axis.{Axis}
use Rattle.model.specs.Register.{Register}
use Rattle.model.specs.Sizes.{D, W}
use Rattle.model.specs.Sheet.{Mark, Box, along_x, along_y}
use Rattle.model.specs.Slots.{slot_axis}
use Rattle.model.specs.Tree.{Tree, leaf, node, weight, depth, marks, least, Balanced, build, rebalance, rebuilt}
use Rattle.model.specs.Laws.{Sorted}
use Rattle.model.proofs.Lists.{same_bag-length}
use Rattle.model.proofs.Tree.{weight-pos, weight-marks, marks-pos, rebalance-marks}
use Rattle.model.proofs.Rebalance.{balanced-rebuilt, balanced-rebalance}
use Rattle.table.specs.Layout.{main_place, auxiliary_place, level_place, record_place}
use Rattle.nodes.specs.Arms.{Arm, over_arm, arm_at, put_arm, put_record}
use Rattle.nodes.specs.Holds.{number, arm_of, times_in, times, Held}
use Rattle.table.specs.After.{After}
use Rattle.nodes.proofs.Unchanged.{unchanged-trans}
use Rattle.nodes.proofs.Frames.{Region}
use Rattle.nodes.proofs.Held.{times-node, held-right, held-least, Names, least-marks, names-left, names-right, Leaves}
use Rattle.nodes.proofs.Levels.{most-levels}
use Rattle.twofold_layout.specs.Rules.{SlotAuxiliary, SlotMain, slot_auxiliary, AuxiliaryOf, AuxiliariesOf, ByRules}
use Rattle.twofold_layout.specs.TwoFold.{TwoFold}
use Rattle.twofold_layout.proofs.Frames.{TwoFrame, two_frame-weaken, level-frame}
use Rattle.twofold_layout.proofs.Rules.{rules-auxiliary-times, rules-left, rules-right, strike-auxiliaries, strike-rules, slot-count}
use Rattle.twofold_layout.proofs.Over.{TwoLeaves, two-left, two-right, deeper-level, two-level}
use Rattle.secondary_update.proofs.Striking.{Strikes, in_left, in_right, strikes-leaf, strikes-marks, strikes-times, strikes-in, strikes-weight}
use Rattle.secondary_update.proofs.Auxiliaries.{auxiliary-strike}
use Rattle.primary_build.proofs.Building.{main-rebuild-holds}
use Rattle.secondary_update.specs.Updates.{Strike, strike_of}
use Rattle.primary_strike.specs.Strike.{lifted♯, struck_afresh♯, struck_auxiliary♯}
use Rattle.twofold_layout.proofs.Beneath.{deep-two}
use Rattle.twofold_layout.proofs.Kept.{clear_none, kept-tree}
use Rattle.twofold_layout.proofs.Node.{kept-sibling, node-leaves}
use Rattle.primary_strike.proofs.Lifting.{small-depth, lift-holds}

-- what a strike of s from t leaves: t' mended, the figure, and t''s least where t's was struck
pub record LeavesMain (f : ℕ → Mark) (C s d : ℕ) (xs : List ℕ) (t t' : SlotMain) (p : After Strike) : Type 0 where
  pub leaves : TwoLeaves f C d xs p.out.arm p.words (rebalance (slot_axis f along_x) (slot_auxiliary f) t')
  pub figure : p.out.rebuilt ≡ rebuilt t'
  pub first : least t ≡ s → p.out.first ≡ least t'

-- once struck
pub record StruckAuxiliary (f : ℕ → Mark) (C d : ℕ) (o : SlotAuxiliary) (xs : List ℕ) (p : After (Option Arm)) : Type 0 where
  pub tree : Tree ℕ (List ℕ)
  pub is : o ≡ some tree
  pub arm : p.out ≡ Some (arm_of along_y f tree)
  pub leaves : Leaves along_y f (record_place (level_place C d)) C xs (arm_of along_y f tree) p.words tree

module _ (f : ℕ → Mark) (s : ℕ) where
  -- what remains is by the rules
  module _ {t t' : SlotMain} (k : Strikes along_x f s (slot_auxiliary f) t t') (b : ByRules f t) where
    struck-auxiliaries : AuxiliariesOf f t'
    struck-auxiliaries =
        strike-auxiliaries f s t (slot-count f s t (strikes-in along_x f s (slot_auxiliary f) k)) b t' (strikes-leaf along_x f s (slot_auxiliary f) k)

    pub struck-rules : ByRules f (rebalance (slot_axis f along_x) (slot_auxiliary f) t')
    struck-rules = strike-rules f s t (slot-count f s t (strikes-in along_x f s (slot_auxiliary f) k)) b t' (strikes-leaf along_x f s (slot_auxiliary f) k)

module _ (f : ℕ → Mark) (C : ℕ) (small : C ≤ 65536) (s : ℕ) where
  -- the model's axis and register over slots
  abbrev X : Axis ℕ Box
  X = slot_axis f along_x

  abbrev R : Register ℕ Box SlotAuxiliary
  R = slot_auxiliary f

  -- THE LEAF GOES: its sibling, of at most three slots, takes the node's place
  pub goes-holds : (d : ℕ) (u : SlotMain) (xs : List ℕ) (t : SlotMain) (first : ℕ) → length xs ≡ W C → TwoFold f C (suc d) xs u
      → ByRules f u → weight u ≤ 3
      → suc d + depth u ≤ D C → (least t ≡ s → first ≡ least u)
      → LeavesMain f C s d xs t u (lifted♯ C (level_place C d) (arm_of along_x f u) first xs)
  unfolding strike_of
  goes-holds d u xs t first ln h b w deep e =
      let a = lift-holds f C small 3 u d xs ln h b.auxiliaries w (small-depth u b.balanced w) deep in
      rw (deeper-level C d small (omega (arith, most-levels C small))) record {
        leaves = rw (balanced-rebalance X R u b.balanced) a;
        figure = sym (balanced-rebuilt u b.balanced);
        first = e;
      }

  -- THE REBUILDING of a node that will not be even
  pub afresh-holds : (d d₀ : ℕ) (t t' : SlotMain) (xs : List ℕ) → Strikes along_x f s R t t' → length xs ≡ W C → TwoFold f C d xs t
      → ByRules f t → depth t < 40 → d + depth (rebalance X R t') ≤ D C → rebalance X R t' ≡ build X R d₀ (marks t')
      → rebuilt t' ≡ weight t'
      → LeavesMain f C s d xs t t' (struck_afresh♯ C s (level_place C d) (weight t) (number t) xs)
  unfolding strike_of
  afresh-holds d d₀ t t' xs k ln h b low deep e n =
      let w : weight t - 1 ≡ weight t' = omega (arith, strikes-weight along_x f s R k) in
      let a = main-rebuild-holds f C s (weight t') d₀ d t (marks t') xs h.main low b.sorted small ln
      (strikes-marks along_x f s R k h.main.once) (marks-pos t') (rw e at deep) (weight-marks t') in
      rw (w, a.is, ne_eqb (weight (build X R d₀ (marks t'))) 0 (omega (arith, weight-pos (build X R d₀ (marks t'))))) record {
        leaves = rw e record { is = refl; held = a.held; frame = a.frame };
        figure = sym n;
        first = λ z. a.first ∙ ap least (sym e) ∙ least-marks (rebalance X R t') t' (rebalance-marks X R t');
      }

  -- THE AUXILIARY TREE of a node
  auxiliary-tree : (l r : SlotMain) (o : SlotAuxiliary) (x : Tree ℕ (List ℕ)) → AuxiliaryOf f (marks l ++ marks r) o → o ≡ some x
      → Sorted (slot_axis f along_y) (marks x) × Balanced x × (1 < weight x)
  auxiliary-tree l r o x a e =
      let t : Tree ℕ (List ℕ) = a.tree in
      subst (λ x. Sorted (slot_axis f along_y) (marks x) × Balanced x × (1 < weight x)) (some-injective t x (sym a.is ∙ e)) (
        a.sorted,
        a.balanced,
        omega (arith, weight-marks t, same_bag-length (marks t) (marks l ++ marks r) a.bag, length-append (marks l) (marks r), marks-pos l, marks-pos r),
      )

  auxiliary-struck : (d name : ℕ) (o : SlotAuxiliary) (xs : List ℕ) (x : Tree ℕ (List ℕ)) → Region (record_place (level_place C d)) C (length xs)
      → name < C → o ≡ some x → arm_at xs (auxiliary_place name) ≡ arm_of along_y f x → Held along_y f (record_place (level_place C d)) C xs x
      → Sorted (slot_axis f along_y) (marks x) → Balanced x → 1 < weight x → 0 < times s x
      → StruckAuxiliary f C d (R.strike s o) xs (struck_auxiliary♯ C (f s) s (level_place C d) name xs)
  auxiliary-struck d name o xs (leaf q) g in_c is arm h order b many k = absurd (omega arith)
  auxiliary-struck d name o xs (node i l r) g in_c is arm h order b many k =
      let a = auxiliary-strike f (level_place C d) C xs g s name i l r in_c arm h b order k in
      record {
        tree = a.tree;
        is = ap (λ o. R.strike s o) is ∙ a.is;
        arm = rw (a.leaves.is, ne_eqb (weight a.tree) 0 (omega (arith, weight-pos a.tree)));
        leaves = record { is = refl; held = a.leaves.held; frame = a.leaves.frame };
      }

  -- THE NODE over m and n after the strikes from its auxiliary tree and from one child
  even-leaves : (d : ℕ) (j : SlotAuxiliary) (m n : SlotMain) (x : Tree ℕ (List ℕ)) (xs ys zs : List ℕ) (a : Arm) {P Q : ℕ → Type 0}
      → length xs ≡ W C → j ≡ some x → ((q : ℕ) → times q x ≡ times q (node j m n))
      → Leaves along_y f (record_place (level_place C d)) C xs a ys x → TwoFrame C (suc d) P Q 0 0 ys zs
      → ((q : ℕ) → P q → Names (node j m n) q) → ((q : ℕ) → Q q → 0 < times q (node j m n)) → ((q : ℕ) → times q m + times q n ≤ 1)
      → TwoFold f C (suc d) zs m → TwoFold f C (suc d) zs n → AuxiliariesOf f m → AuxiliariesOf f n
      → TwoLeaves f C d xs (over_arm (least n) (arm_of along_x f m) (arm_of along_x f n))
      (put_arm (put_record zs (main_place (least n)) (arm_of along_x f m) (arm_of along_x f n)) (auxiliary_place (least n)) (arm_of along_y f x)) (node j m n)
  even-leaves d j m n x xs ys zs a ln is same h fr in_p in_q apart hm hn of_m of_n =
      let in_c : ((q : ℕ) → 0 < times q (node j m n) → q < C) = λ q k. h.held.within q (rw (same q) k) in
      let hx : Held along_y f (record_place (level_place C d)) C zs x =
      kept-tree (λ q p. in_c q (in_p q p).0) clear_none fr d x (λ q k. in_c q (in_q q k)) (λ e. absurd (omega arith)) h.held in
      let w = node-leaves small m n x zs (fr.long ∙ h.frame.long ∙ ln) apart hm hn hx of_m of_n j is in
      record {
        is = w.is;
        held = w.held;
        frame = unchanged-trans (level-frame (λ q k. subst (λ n. 0 < n) (same q) k.0) h.frame)
            (unchanged-trans (two_frame-weaken (omega arith) in_p in_q fr) w.frame);
      }

  -- an inner node at depth d, whose words are right
  module _ (d : ℕ) (i : SlotAuxiliary) (l r : SlotMain) (xs : List ℕ) (ln : length xs ≡ W C)
      (h : TwoFold f C d xs (node i l r)) (b : ByRules f (node i l r)) (level : d < D C) where
    abbrev struck : After (Option Arm)
    struck = struck_auxiliary♯ C (f s) s (level_place C d) (least r) xs

    pub node-struck : 0 < times s (node i l r) → StruckAuxiliary f C d (R.strike s i) xs struck
    node-struck k =
        let a = h.auxiliaries.0 in
        let v = auxiliary-tree l r i a.tree b.auxiliaries.0 a.is in
        auxiliary-struck d (least r) i xs a.tree (two-level C d (length xs) small level ln) (held-least (held-right h.main))
        a.is a.arm a.held v.0 v.1 v.2
        (rw (rules-auxiliary-times f b.auxiliaries.0 a.is s) k)

    node-apart : (q : ℕ) → times q l + times q r ≤ 1
    node-apart q = omega (arith, h.main.once q, times-node q i l r)

    -- the children stay where the auxiliary tree is struck
    module _ (u : StruckAuxiliary f C d (R.strike s i) xs struck) where
      pub struck-long : length struck.words ≡ W C
      struck-long = u.leaves.frame.long ∙ ln

      pub struck-left : TwoFold f C (suc d) struck.words l
      struck-left = deep-two (λ q k. u.leaves.held.within q k.0) u.leaves.frame (suc d) l (omega arith) (two-left h)

      pub struck-right : TwoFold f C (suc d) struck.words r
      struck-right = deep-two (λ q k. u.leaves.held.within q k.0) u.leaves.frame (suc d) r (omega arith) (two-right h)

      -- the left child is struck
      pub left-node : (l' : SlotMain) (p : After Strike) → along_x.below (f s) (f (least r)) ≡ true → Strikes along_x f s R l l'
          → LeavesMain f C s (suc d) struck.words l l' p
          → let m = rebalance X R l' in
          TwoLeaves f C d xs (over_arm (least r) (arm_of along_x f m) (arm_of along_x f r))
          (put_arm (put_record p.words (main_place (least r)) (arm_of along_x f m) (arm_of along_x f r)) (auxiliary_place (least r)) (arm_of along_y f u.tree))
          (node (R.strike s i) m r)
      left-node l' p e k q =
          let m : SlotMain = rebalance X R l' in
          let j : SlotAuxiliary = R.strike s i in
          let of = struck-auxiliaries f s (in_left {i = i} {r = r} e k) b in
          let alike : ((z : ℕ) → times z m ≡ times z l') = λ z. ap (times_in z) (rebalance-marks X R l') in
          let apart : ((z : ℕ) → times z m + times z r ≤ 1) = λ z. omega (arith, alike z, node-apart z, strikes-times along_x f s R k z) in
          let same : ((z : ℕ) → times z u.tree ≡ times z (node j m r)) =
          λ z. rules-auxiliary-times f of.0 u.is z ∙ ap (λ l. times_in z (l ++ marks r)) (sym (rebalance-marks X R l')) in
          even-leaves d j m r u.tree xs struck.words p.words (arm_of along_y f u.tree) ln u.is same u.leaves q.leaves.frame (names-left j m r)
          (λ z n. omega (arith, times-node z j m r)) apart q.leaves.held
          (kept-sibling (suc d) m r q.leaves.frame (λ z n. q.leaves.held.main.within z n) apart b.auxiliaries.2 struck-right)
          (struck-rules f s k (rules-left f b)).auxiliaries b.auxiliaries.2

      -- or the right one
      pub right-node : (r' : SlotMain) (p : After Strike) → along_x.below (f s) (f (least r)) ≡ false → Strikes along_x f s R r r'
          → LeavesMain f C s (suc d) struck.words r r' p
          → let m = rebalance X R r' in
          TwoLeaves f C d xs (over_arm (least m) (arm_of along_x f l) (arm_of along_x f m))
          (put_arm (put_record p.words (main_place (least m)) (arm_of along_x f l) (arm_of along_x f m)) (auxiliary_place (least m)) (arm_of along_y f u.tree))
          (node (R.strike s i) l m)
      right-node r' p e k q =
          let m : SlotMain = rebalance X R r' in
          let j : SlotAuxiliary = R.strike s i in
          let of = struck-auxiliaries f s (in_right {i = i} {l = l} e k) b in
          let alike : ((z : ℕ) → times z m ≡ times z r') = λ z. ap (times_in z) (rebalance-marks X R r') in
          let apart : ((z : ℕ) → times z l + times z m ≤ 1) = λ z. omega (arith, alike z, node-apart z, strikes-times along_x f s R k z) in
          let same : ((z : ℕ) → times z u.tree ≡ times z (node j l m)) =
          λ z. rules-auxiliary-times f of.0 u.is z ∙ ap (λ r. times_in z (marks l ++ r)) (sym (rebalance-marks X R r')) in
          even-leaves d j l m u.tree xs struck.words p.words (arm_of along_y f u.tree) ln u.is same u.leaves q.leaves.frame
          (λ z n. names-right j l m apart z n.0) (λ z n. omega (arith, times-node z j l m)) apart
          (kept-sibling (suc d) m l q.leaves.frame (λ z n. q.leaves.held.main.within z n)
          (λ z. omega (arith, apart z)) b.auxiliaries.1 struck-left)
          q.leaves.held b.auxiliaries.1 (struck-rules f s k (rules-right f b)).auxiliaries
