-- An insertion where a node will not be even: the main tree alone gets the slot, and the two-fold tree is built afresh of its slots, which is the model's
-- mended tree. Assumes nothing.
use Prim.Native.Nat.{ℕ, ◌+◌, ◌≤◌, ◌<◌}
use mathlib.Core.Path.{◌≡◌, sym, ap, subst, ◌∙◌}
use mathlib.Core.Bool.{false}
use mathlib.Core.List.{List}
use native.Mathlib.Omega.{arith}
use lib.ListN.{length}
use borrow.Author.Tests.{ne_eqb}
use Rattle.model.specs.Sizes.{D, W}
use Rattle.model.specs.Sheet.{Mark, along_x}
use Rattle.model.specs.Tree.{node, weight, depth, marks, least, evenly, build, rebuilt}
use Rattle.model.specs.Laws.{Sorted}
use Rattle.model.proofs.Tree.{weight-pos, weight-marks, marks-pos, build-marks}
use Rattle.table.specs.Layout.{arm_width, main_place, level_place}
use Rattle.table.specs.Limits.{deepest, no_slot}
use Rattle.nodes.specs.Arms.{put_arm}
use Rattle.nodes.specs.Holds.{number, times, Held}
use Rattle.table.specs.After.{After, after}
use Rattle.nodes.proofs.Held.{Names, names-marks}
use Rattle.nodes.proofs.Spots.{LeavesAt}
use Rattle.twofold_layout.specs.Rules.{SlotAuxiliary, SlotMain}
use Rattle.twofold_layout.proofs.Frames.{TwoFrame, two_frame-weaken, main-frame_at, two_spot-weaken}
use Rattle.twofold_layout.proofs.Over.{TwoLeaves, TwoLeavesAt}
use Rattle.twofold_layout.proofs.Rules.{build-rules, insert-ordered}
use Rattle.secondary_update.specs.Insert.{insert♯}
use Rattle.secondary_update.proofs.Inserting.{insert-depth}
use Rattle.primary_build.specs.Build.{Freshly, main_rebuild♯}
use Rattle.nodes.proofs.Collecting.{every-slot}
use Rattle.primary_build.proofs.Building.{main-rebuild-holds}
use Rattle.primary_insert.specs.Insert.{main_afresh♯}
use Rattle.primary_insert.proofs.Way.{put_two}
use Rattle.primary_insert.proofs.Ready.{TwoReady, X, R, grow, mend, Grown, ready-room, main-grows}

module _ {f : ℕ → Mark} {C s : ℕ} (small : C ≤ 65536) (in_c : s < C) where
  -- a tree whose main nodes are held, built afresh: no slot is left out
  rebuild-leaves : (t : SlotMain) (xs : List ℕ) (d₀ d : ℕ) → Held along_x f main_place C xs t → depth t < 40 → Sorted (X f) (marks t)
      → length xs ≡ W C → d + depth (build (X f) (R f) d₀ (marks t)) ≤ D C
      → let p = main_rebuild♯ C (level_place C d) no_slot (weight t) (weight t) (number t) xs in
      TwoLeaves f C d xs p.out.arm p.words (build (X f) (R f) d₀ (marks t))
  rebuild-leaves t xs d₀ d h shallow o long fits =
      let m =
      main-rebuild-holds f C no_slot (weight t) d₀ d t (marks t) xs h shallow o small long (sym (every-slot t small h)) (marks-pos t) fits (weight-marks t) in
      record { is = m.is; held = m.held; frame = m.frame }

  -- WHERE A NODE WILL NOT BE EVEN: the main tree alone is grown, and the two-fold tree is built afresh of it
  module _ {d at : ℕ} {xs : List ℕ} {t : SlotMain} (k : TwoReady f C s d at xs t) (shallow : depth t + 1 < 40) (d₀ : ℕ) where
    abbrev fresh : SlotMain
    fresh = build (X f) (R f) d₀ (marks (grow f s t))

    fresh-marks : marks fresh ≡ marks (grow f s t)
    fresh-marks = build-marks (X f) (R f) d₀ (marks (grow f s t)) (marks-pos (grow f s t))

    abbrev put_words : List ℕ
    put_words = (insert♯ along_x deepest C main_place (f s) s false at xs).words

    put-leaves : LeavesAt along_x f main_place C at xs put_words (grow f s t)
    put-leaves = (main-grows small in_c k deepest (omega arith) shallow).0

    put-frame : TwoFrame C d (Names (grow f s t)) (λ q. 0 < times q fresh) at arm_width xs put_words
    put-frame = main-frame_at put-leaves.frame

    abbrev rebuilding : After Freshly
    rebuilding = main_rebuild♯ C (level_place C d) no_slot (weight (grow f s t)) (weight (grow f s t)) (number (grow f s t)) put_words

    module _ (fits : d + depth fresh ≤ D C) where
      fresh-leaves : TwoLeaves f C d put_words rebuilding.out.arm rebuilding.words fresh
      fresh-leaves =
          rebuild-leaves (grow f s t) put_words d₀ d put-leaves.held (omega (arith, insert-depth (X f) (R f) s t))
          (insert-ordered f s t k.new k.rules)
          (put-frame.long ∙ k.long) fits

      afresh-words : main_afresh♯ C (f s) s (level_place C d) at xs ≡ after (weight (grow f s t)) (put_arm rebuilding.words at rebuilding.out.arm)
      afresh-words =
          let e : rebuilding.out.arm.weight ≡ weight fresh = ap (λ a. a.weight) fresh-leaves.is in
          rw (
            (main-grows small in_c k deepest (omega arith) shallow).1,
            put-leaves.is,
            ne_eqb rebuilding.out.arm.weight 0 (omega (arith, weight-pos fresh)),
          )

      afresh-leaves : TwoLeavesAt f C d at xs (put_arm rebuilding.words at rebuilding.out.arm) fresh
      afresh-leaves =
          put_two fresh (ready-room small k) (two_spot-weaken (names-marks fresh (grow f s t) fresh-marks) k.spot)
          (build-rules f d₀ (marks (grow f s t)) (marks-pos (grow f s t)) (insert-ordered f s t k.new k.rules)).auxiliaries
          (two_frame-weaken (omega arith) (names-marks (grow f s t) fresh (sym fresh-marks)) (λ q p. p) put-frame) fresh-leaves

  pub afresh-grown : {d at : ℕ} {xs : List ℕ} {t : SlotMain} → TwoReady f C s d at xs t → depth t + 1 < 40 → d + depth (mend f (grow f s t)) ≤ D C
      → (i : SlotAuxiliary) (l r : SlotMain) → grow f s t ≡ node i l r → evenly l r ≡ false
      → Grown f C d at xs (main_afresh♯ C (f s) s (level_place C d) at xs) (grow f s t)
  afresh-grown {d = d} {at = at} {xs = xs} {t = t} k shallow fits i l r g u =
      let e : mend f (grow f s t) ≡ build (X f) (R f) (least l) (marks (grow f s t)) = rw (g, u) in
      let n : rebuilt (grow f s t) ≡ weight (grow f s t) = rw (g, u) in
      let fits' : d + depth (build (X f) (R f) (least l) (marks (grow f s t))) ≤ D C = rw (← e) fits in
      rw (afresh-words k shallow (least l) fits') (
        subst (TwoLeavesAt f C d at xs _) (sym e) (afresh-leaves k shallow (least l) fits'),
        sym n,
      )
