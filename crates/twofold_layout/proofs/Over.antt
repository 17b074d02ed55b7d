-- A two-fold tree in words: its children, a node over two, what an operation leaves, and where its levels stand. Assumes nothing.
use Prim.Native.Nat.{ℕ, suc, ◌+◌, ◌*◌, ◌≤◌, ◌<◌}
use mathlib.Core.Path.{◌≡◌, sym, subst}
use mathlib.Core.List.{List}
use native.Mathlib.Omega.{arith}
use native.Mathlib.Nat.{suc-mul, mul-le-mul}
use Rattle.model.specs.Sizes.{D, W}
use Rattle.model.specs.Tree.{node, least}
use Rattle.model.specs.Sheet.{Mark, along_x}
use Rattle.table.specs.Layout.{arm_width, main_place, root_place, level_place, record_place}
use Rattle.nodes.specs.Arms.{Arm, arms, arm_at, record_at}
use Rattle.nodes.specs.Holds.{arm_of, times}
use Rattle.nodes.proofs.Frames.{Region}
use Rattle.nodes.proofs.Held.{held-left, held-right, held-over, Names}
use Rattle.nodes.proofs.Levels.{table-level, table-main}
use Rattle.twofold_layout.specs.Levels.{top_level, deeper}
use Rattle.twofold_layout.specs.Rules.{SlotAuxiliary, SlotMain}
use Rattle.twofold_layout.specs.TwoFold.{HoldsAuxiliary, TwoFold}
use Rattle.twofold_layout.proofs.Frames.{TwoFrame, two_frame-weaken}

-- What an operation on a two-fold tree whose root is at depth d leaves: the arm of a tree that the words hold, and all words as they were but for the
-- tree's main nodes, the records of its slots from that depth on, and the runs.
pub record TwoLeaves (f : ℕ → Mark) (C d : ℕ) (xs : List ℕ) (a : Arm) (ys : List ℕ) (t : SlotMain) : Type 0 where
  pub is : a ≡ arm_of along_x f t
  pub held : TwoFold f C d ys t
  pub frame : TwoFrame C d (Names t) (λ s. 0 < times s t) 0 0 xs ys

-- and where the tree's arm stands at `at`: that arm too
pub record TwoLeavesAt (f : ℕ → Mark) (C d at : ℕ) (xs ys : List ℕ) (t : SlotMain) : Type 0 where
  pub is : arm_at ys at ≡ arm_of along_x f t
  pub held : TwoFold f C d ys t
  pub frame : TwoFrame C d (Names t) (λ s. 0 < times s t) at arm_width xs ys

-- what a change anywhere in a table's tree leaves: all words but the records of the slots, the runs and the root's arm
abbrev pub TableFrame : ℕ → List ℕ → List ℕ → Type 0
TableFrame C xs ys = TwoFrame C 0 (λ s. s < C) (λ s. s < C) root_place arm_width xs ys

pub table-frame : {f : ℕ → Mark} {C : ℕ} {xs ys : List ℕ} {t : SlotMain} → TwoLeavesAt f C 0 root_place xs ys t → TableFrame C xs ys
table-frame a = two_frame-weaken (omega arith) (λ s k. a.held.main.within s k.0) a.held.main.within a.frame

module _ {f : ℕ → Mark} {C d : ℕ} {xs : List ℕ} where
  -- the children of a node, one level deeper
  pub two-left : {i : SlotAuxiliary} {l r : SlotMain} → TwoFold f C d xs (node i l r) → TwoFold f C (suc d) xs l
  two-left h = record { main = held-left h.main; auxiliaries = h.auxiliaries.1 }

  pub two-right : {i : SlotAuxiliary} {l r : SlotMain} → TwoFold f C d xs (node i l r) → TwoFold f C (suc d) xs r
  two-right h = record { main = held-right h.main; auxiliaries = h.auxiliaries.2 }

  -- a node over two trees with no slot in common, where its record and its auxiliary tree are right
  pub two-over : (i : SlotAuxiliary) (l r : SlotMain) → record_at xs (main_place (least r)) ≡ arms (arm_of along_x f l) (arm_of along_x f r)
      → HoldsAuxiliary f C d (least r) xs i → TwoFold f C (suc d) xs l → TwoFold f C (suc d) xs r → ((s : ℕ) → times s l + times s r ≤ 1)
      → TwoFold f C d xs (node i l r)
  two-over i l r e a hl hr apart = record {
    main = held-over i l r e hl.main hr.main apart;
    auxiliaries = (a, hl.auxiliaries, hr.auxiliaries);
  }

-- the levels' places as the code finds them
pub top-level : (C : ℕ) → C ≤ 65536 → top_level C ≡ level_place C 0
unfolding top_level
top-level C small = omega arith

pub deeper-level : (C d : ℕ) → C ≤ 65536 → d < 40 → deeper (level_place C d) C ≡ level_place C (suc d)
unfolding deeper
deeper-level C d small low =
    let most : d * C ≤ 40 * 65536 = mul-le-mul {n₁ = d} {m₁ = C} {n₂ = 40} {m₂ = 65536} (omega arith) small in
    omega (arith, suc-mul d C)

-- a level, and the main records, have their room in a table of W(C) words
pub two-level : (C d n : ℕ) → C ≤ 65536 → d < D C → n ≡ W C → Region (record_place (level_place C d)) C n
two-level C d n small low e = subst (λ k. Region (record_place (level_place C d)) C k) (sym e) (table-level C small d low)

pub two-main : {C n : ℕ} → C ≤ 65536 → n ≡ W C → Region main_place C n
two-main {C = C} small e = subst (λ k. Region main_place C k) (sym e) (table-main C small)
