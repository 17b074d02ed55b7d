-- A change of one auxiliary tree, whose records stand in the level of depth d, leaves the main records, the marks, and all two-fold trees that begin
-- deeper and do not have the tree's owner as a name. Assumes nothing.
use Prim.Native.Nat.{ℕ, ◌<◌}
use mathlib.Core.Path.{◌≡◌}
use mathlib.Core.List.{List}
use native.Mathlib.Omega.{arith}
use lib.ListN.{get_or}
use Rattle.model.specs.Tree.{least}
use Rattle.model.specs.Sheet.{Mark}
use Rattle.table.specs.Layout.{capacity_place, main_place, auxiliary_place, run_place, level_place, record_place}
use Rattle.table.specs.Marks.{slot_mark}
use Rattle.nodes.specs.Arms.{record_at}
use Rattle.nodes.proofs.Unchanged.{unchanged-record, unchanged-mark}
use Rattle.nodes.proofs.Frames.{Frame, FrameAt, frame_at-of}
use Rattle.nodes.proofs.Held.{held-least, Names}
use Rattle.nodes.proofs.Levels.{levels-apart}
use Rattle.twofold_layout.specs.Rules.{SlotMain}
use Rattle.twofold_layout.specs.TwoFold.{TwoFold}
use Rattle.twofold_layout.proofs.Same.{unchanged-two}

module _ (C d owner : ℕ) {P : ℕ → Type 0} {xs ys : List ℕ} (own : owner < C) (in_p : (s : ℕ) → P s → s < C)
    (a : FrameAt (record_place (level_place C d)) P (auxiliary_place owner) (run_place C 0) (run_place C C) xs ys) where
  pub beneath-capacity : get_or ys capacity_place 0 ≡ get_or xs capacity_place 0
  beneath-capacity = a.same capacity_place (omega arith)

  pub beneath-mark : (s : ℕ) → s < C → slot_mark ys s ≡ slot_mark xs s
  beneath-mark s h = unchanged-mark a s (omega arith)

  pub beneath-record : (s : ℕ) → s < C → record_at ys (main_place s) ≡ record_at xs (main_place s)
  beneath-record s h = unchanged-record a (main_place s) (omega arith)

  pub beneath-two : (f : ℕ → Mark) (e : ℕ) (u : SlotMain) → d < e → ((s : ℕ) → Names u s → s ≡ owner → ⊥) → TwoFold f C e xs u
      → TwoFold f C e ys u
  beneath-two f e u low out h =
      unchanged-two a e u
      (λ s n k. let other : (s ≡ owner → ⊥) = out s k in omega arith)
      (λ s c. let n = c.0 in omega arith)
      (λ b s l c i k m. (λ q p o. omega (arith, levels-apart C d b q s (omega arith) (in_p q p) c.0), omega arith, omega arith)) h

-- where no arm is written: no node of a tree is named by its least slot
pub deep-two : {f : ℕ → Mark} {C d : ℕ} {P : ℕ → Type 0} {xs ys : List ℕ} → ((s : ℕ) → P s → s < C)
    → Frame (record_place (level_place C d)) P (run_place C 0) (run_place C C) xs ys
    → (e : ℕ) (u : SlotMain) → d < e → TwoFold f C e xs u → TwoFold f C e ys u
deep-two {f = f} {C = C} {d = d} in_p a e u low h = beneath-two C d (least u) (held-least h.main) in_p (frame_at-of a) f e u low (λ s k. k.1) h
