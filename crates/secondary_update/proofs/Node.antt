-- A node written over two trees that the words hold, one of them left by an update. For any axis, any register and any places of records that form a region.
-- Assumes nothing.
use Prim.Native.Nat.{ℕ, ◌+◌, ◌≤◌, ◌<◌}
use mathlib.Core.Path.{refl, sym, subst}
use mathlib.Core.List.{List}
use mathlib.Core.Logic.{inl}
use native.Mathlib.Omega.{arith}
use lib.ListN.{length}
use Rattle.model.specs.Axis.{Axis}
use Rattle.model.specs.Sheet.{Mark, Box}
use Rattle.model.specs.Tree.{Tree, node, weight, least}
use Rattle.table.specs.Layout.{run_place}
use Rattle.nodes.specs.Arms.{Arm, over_arm, put_record}
use Rattle.nodes.specs.Holds.{arm_of, times, Held}
use Rattle.nodes.proofs.Unchanged.{unchanged-trans}
use Rattle.nodes.proofs.Frames.{Region, Frame, frame-weaken, frame-run, put_record-frame}
use Rattle.nodes.proofs.Held.{held-weight, held-least, over_arm-of, held-frame, node-held, Names, names-left, names-right, names-own, Leaves}

module _ {I : Type 0} {A : Axis Mark Box} {f : ℕ → Mark} {place : ℕ → ℕ} {C : ℕ} where
  -- what is left after a change within the tree's own names is left of the words before it
  pub leaves_after : {P : ℕ → Type 0} {xs ys zs : List ℕ} {a : Arm} {t : Tree ℕ I} → ((s : ℕ) → P s → Names t s)
      → Frame place P (run_place C 0) (run_place C C) xs ys → Leaves A f place C ys a zs t → Leaves A f place C xs a zs t
  leaves_after w a h = record { is = h.is; held = h.held; frame = unchanged-trans (frame-weaken w a) h.frame }

  module _ {xs ys : List ℕ} {a : Arm} {t : Tree ℕ I} (g : Region place C (length xs)) (h : Leaves A f place C xs a ys t) where
    -- the region stays, and so does a tree with no slot of t
    pub leaves-region : Region place C (length ys)
    leaves-region = subst (Region place C) (sym h.frame.long) g

    pub leaves-apart : (u : Tree ℕ I) → ((s : ℕ) → times s t + times s u ≤ 1) → Held A f place C xs u → Held A f place C ys u
    leaves-apart u d k = held-frame A f g (omega arith) (omega arith) h.frame (λ s p. h.held.within s p.0) u (λ s p. inl (omega (arith, p.0, d s))) k

module _ {I : Type 0} (A : Axis Mark Box) (f : ℕ → Mark) {place : ℕ → ℕ} {C : ℕ} where
  -- the record of a node written over two trees with no slot in common
  pub node-leaves : (i : I) (l r : Tree ℕ I) (xs : List ℕ) → Region place C (length xs) → Held A f place C xs l → Held A f place C xs r
      → ((s : ℕ) → times s l + times s r ≤ 1)
      → Leaves A f place C xs (over_arm (least r) (arm_of A f l) (arm_of A f r)) (put_record xs (place (least r)) (arm_of A f l) (arm_of A f r)) (node i l r)
  node-leaves i l r xs g hl hr d =
      let h = node-held A f g i l r xs refl hl hr d in
      let w : weight l + weight r ≤ C = held-weight h in
      let in_c : least r < C = held-least hr in
      let small = g.small in
      record {
        is = over_arm-of A f i l r (omega arith) (omega arith);
        held = h;
        frame = frame-weaken (names-own i l r d)
            (frame-run (run_place C 0) (run_place C C) (put_record-frame place xs (least r) (arm_of A f l) (arm_of A f r)));
      }

  -- the node over what an update has left of one child, and the other child, which it has not touched
  pub over-left : (i : I) (l r : Tree ℕ I) {xs ys : List ℕ} {a : Arm} → Region place C (length xs) → ((s : ℕ) → times s l + times s r ≤ 1)
      → Leaves A f place C xs a ys l → Held A f place C xs r
      → Leaves A f place C xs (over_arm (least r) (arm_of A f l) (arm_of A f r)) (put_record ys (place (least r)) (arm_of A f l) (arm_of A f r)) (node i l r)
  over-left i l r {ys = ys} g d h k =
      leaves_after (names-left i l r) h.frame (node-leaves i l r ys (leaves-region g h) h.held (leaves-apart g h r d k) d)

  pub over-right : (i : I) (l r : Tree ℕ I) {xs ys : List ℕ} {a : Arm} → Region place C (length xs) → ((s : ℕ) → times s l + times s r ≤ 1)
      → Held A f place C xs l → Leaves A f place C xs a ys r
      → Leaves A f place C xs (over_arm (least r) (arm_of A f l) (arm_of A f r)) (put_record ys (place (least r)) (arm_of A f l) (arm_of A f r)) (node i l r)
  over-right i l r {ys = ys} g d k h =
      leaves_after (λ s p. names-right i l r d s p.0) h.frame
      (node-leaves i l r ys (leaves-region g h) (leaves-apart g h l (λ s. omega (arith, d s)) k) h.held d)
