-- An insertion at a leaf: the main tree gets a node over the leaf and the slot, and that node an auxiliary tree of the two. Assumes nothing.
use Prim.Native.Nat.{ℕ, ◌+◌, ◌*◌, ◌/◌, ◌%◌, ◌≤◌, ◌<◌}
use mathlib.Core.Path.{◌≡◌, refl, ◌∙◌}
use mathlib.Core.Bool.{false}
use mathlib.Core.List.{List, [], ◌∷◌}
use mathlib.Core.Option.{some}
use native.Mathlib.Omega.{arith}
use lib.ListN.{length}
use borrow.Author.Tests.{eq-eqb, lt-leb}
use Rattle.model.specs.Sizes.{D, W}
use Rattle.model.specs.Sheet.{Mark, below_x, along_x, along_y}
use Rattle.model.specs.Tree.{leaf, node}
use Rattle.model.specs.Laws.{nil, sorted[], sorted∷}
use Rattle.model.proofs.Logic.{by_cases}
use Rattle.table.specs.Layout.{arm_width, main_place, auxiliary_place, run_place, level_place, record_place}
use Rattle.table.specs.Marks.{slot_mark}
use Rattle.nodes.specs.Arms.{Arm, put_arm}
use Rattle.nodes.specs.Holds.{arm_of, times_in, times}
use Rattle.table.specs.After.{After}
use Rattle.nodes.proofs.Unchanged.{unchanged-trans}
use Rattle.nodes.proofs.Frames.{put_arm-same, FrameAt, put_arm-frame}
use Rattle.nodes.proofs.Held.{times-least, held-least, leaf_arm-of, Names, names-own, held_same}
use Rattle.nodes.proofs.Spots.{LeavesAt}
use Rattle.twofold_layout.specs.Rules.{SlotAuxiliary, SlotMain, AuxiliaryOf}
use Rattle.twofold_layout.specs.TwoFold.{HoldsAuxiliary}
use Rattle.twofold_layout.proofs.Frames.{TwoFrame, TwoSpot, two_frame-at, main-frame_at, level-frame_at}
use Rattle.twofold_layout.proofs.Kept.{clear_none, kept_arm}
use Rattle.twofold_layout.proofs.Over.{TwoLeavesAt, two-main}
use Rattle.secondary_update.specs.Insert.{split♯, insert♯, auxiliary_insert♯}
use Rattle.secondary_update.proofs.Inserting.{leaf-held}
use Rattle.secondary_update.proofs.Auxiliaries.{carried}
use Rattle.secondary_update.specs.Insert.{split_name}
use Rattle.primary_insert.specs.Insert.{pair_auxiliary, main_leaf♯}
use Rattle.twofold_layout.proofs.Beneath.{beneath-mark, beneath-record}
use Rattle.primary_insert.proofs.Way.{AuxiliaryGrown, auxiliary-grown}
use Rattle.primary_insert.proofs.Ready.{TwoReady, R, grow, Grown, main-grows}

module _ {f : ℕ → Mark} {C s : ℕ} (small : C ≤ 65536) (in_c : s < C) where
  -- AT A LEAF: the node over the leaf q and the slot stands in the words ys, and then its auxiliary tree is made, of q first and then of the slot too
  module _ {d at : ℕ} {xs ys : List ℕ} (q a b : ℕ) (k : TwoReady f C s d at xs (leaf q)) (low : d < D C)
      (spot : TwoSpot C (Names (node ((R f).insert s (some (leaf q))) (leaf a) (leaf b))) at)
      (h : LeavesAt along_x f main_place C at xs ys (node ((R f).insert s (some (leaf q))) (leaf a) (leaf b)))
      (tells : (p : ℕ) → 0 < times_in p (s ∷ q ∷ []) → 0 < times_in p (a ∷ b ∷ [])) where
    abbrev pair : SlotMain
    pair = node ((R f).insert s (some (leaf q))) (leaf a) (leaf b)

    pair-within : (p : ℕ) → 0 < times_in p (s ∷ q ∷ []) → p < C
    pair-within p e = h.held.within p (tells p e)

    pair-marked : (p : ℕ) → 0 < times_in p (s ∷ q ∷ []) → slot_mark ys p ≡ f p
    pair-marked p e = h.held.marked p (tells p e)

    has-slot : 0 < times_in s (s ∷ q ∷ [])
    has-slot = rw (eq-eqb s s refl) (omega arith)

    has-leaf : 0 < times_in q (s ∷ q ∷ [])
    has-leaf = rw (eq-eqb q q refl) (omega arith)

    pair-named : b < C
    pair-named = h.held.within b (omega (arith, times-least {I = SlotAuxiliary} (leaf b)))

    pair-own : Names pair b
    pair-own = names-own ((R f).insert s (some (leaf q))) (leaf a) (leaf b) (λ p. omega (arith, h.held.once p)) b refl

    pair-long : length ys ≡ W C
    pair-long = h.frame.long ∙ k.long

    pair-room : auxiliary_place b + arm_width ≤ length ys
    pair-room = omega (arith, pair-named, (two-main small pair-long).run_room)

    -- the arm of q alone
    abbrev lone : Arm
    lone = arm_of {I = List ℕ} along_y f (leaf q)

    abbrev lone_words : List ℕ
    lone_words = put_arm ys (auxiliary_place b) lone

    lone-frame : FrameAt (record_place (level_place C d)) (λ p. 0 < times_in p (s ∷ q ∷ [])) (auxiliary_place b) (run_place C 0) (run_place C C)
        ys lone_words
    lone-frame = put_arm-frame ys (auxiliary_place b) lone

    lone-holds : HoldsAuxiliary f C d b lone_words (some (leaf q))
    lone-holds = record {
      tree = leaf q;
      is = refl;
      arm = put_arm-same ys (auxiliary_place b) lone pair-room;
      held = leaf-held along_y f (carried f) (record_place (level_place C d)) C q (pair-within q has-leaf) lone_words
          (beneath-mark C d b pair-named pair-within lone-frame q (pair-within q has-leaf) ∙ pair-marked q has-leaf);
    }

    lone-auxiliary : AuxiliaryOf f (q ∷ []) (some (leaf q))
    lone-auxiliary = record { tree = leaf q; is = refl; bag = λ p. refl; sorted = sorted∷ nil sorted[]; balanced = tt; carries = tt }

    abbrev paired : After ℕ
    paired = auxiliary_insert♯ (level_place C d) C (f s) s b lone_words

    pair-grown : AuxiliaryGrown f C s d b lone_words (some (leaf q)) (q ∷ []) paired
    pair-grown =
        auxiliary-grown f C s d b lone_words (q ∷ []) small in_c low pair-named (lone-frame.long ∙ pair-long)
        (beneath-mark C d b pair-named pair-within lone-frame s in_c ∙ pair-marked s has-slot) k.new (some (leaf q)) lone-holds lone-auxiliary

    pair-frame : FrameAt (record_place (level_place C d)) (λ p. 0 < times_in p (s ∷ q ∷ []))
        (auxiliary_place b) (run_place C 0) (run_place C C) ys paired.words
    pair-frame = unchanged-trans lone-frame pair-grown.frame

    pair-two_frame : TwoFrame C d (Names pair) (λ p. 0 < times p pair) 0 0 ys paired.words
    pair-two_frame = level-frame_at b pair-own tells pair-frame

    pair-leaves : TwoLeavesAt f C d at xs paired.words pair
    pair-leaves = record {
      is = kept_arm (λ p e. h.held.within p e.0) clear_none pair-two_frame at spot (omega arith) ∙ h.is;
      held = record {
        main = held_same along_x f pair (λ p e. beneath-record C d b pair-named pair-within pair-frame p (h.held.within p e.0))
            (λ p e. beneath-mark C d b pair-named pair-within pair-frame p (h.held.within p e)) h.held;
        auxiliaries = (pair-grown.holds, tt, tt);
      };
      frame = unchanged-trans (main-frame_at h.frame) (two_frame-at pair-two_frame);
    }

    pair-figure : paired.out ≡ 0
    pair-figure = pair-grown.figure ∙ by_cases (along_y.below (f s) (f q)) (λ e. rw e) (λ e. rw e)

    pair-words : pair_auxiliary C (f s) s (level_place C d) b q ys ≡ paired
    pair-words = rw (pair-marked q has-leaf, leaf_arm-of f q (f q).y (omega (arith, pair-within q has-leaf)))

    pair-holds : Grown f C d at xs (pair_auxiliary C (f s) s (level_place C d) b q ys) pair
    pair-holds = rw pair-words (pair-leaves, pair-figure)

  split-words : {d at : ℕ} {xs : List ℕ} (q : ℕ) → TwoReady f C s d at xs (leaf q)
      → (insert♯ along_x 1 C main_place (f s) s false at xs).words ≡ split♯ along_x main_place (f s) s at
      (arm_of {I = SlotAuxiliary} along_x f (leaf q)) xs
  unfolding insert♯
  split-words q k =
      let even : 2 * q % 2 ≡ 0 = omega arith in
      let half : 2 * q / 2 ≡ q = omega arith in
      rw (k.is, half, lt-leb C q (held-least k.held.main), eq-eqb (2 * q % 2) 0 even)

  pub leaf-grown : {d at : ℕ} {xs : List ℕ} (q : ℕ) → TwoReady f C s d at xs (leaf q) → d < D C
      → Grown f C d at xs (main_leaf♯ C (f s) s (level_place C d) at (arm_of {I = SlotAuxiliary} along_x f (leaf q)) xs) (grow f s (leaf q))
  unfolding split_name
  leaf-grown {d = d} {at = at} {xs = xs} q k low =
      let half : 2 * q / 2 ≡ q = omega arith in
      let h : LeavesAt along_x f main_place C at xs (split♯ along_x main_place (f s) s at (arm_of {I = SlotAuxiliary} along_x f (leaf q)) xs)
      (grow f s (leaf q)) =
      rw (← split-words q k) (main-grows small in_c k 1 (omega arith) (omega arith)).0 in
      rw (half, k.held.main.marked q (times-least {I = SlotAuxiliary} (leaf q)))
      (by_cases (below_x (f s) (f q))
      (λ e. rw e (pair-holds q s q k low (rw e at k.spot) (rw e at h) (λ p e. e)))
      (λ e. rw e (pair-holds q q s k low (rw e at k.spot) (rw e at h) (λ p e. omega arith))))
