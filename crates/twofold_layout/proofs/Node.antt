-- The node of a two-fold tree written over two trees, the arm of a tree written at the root, and what a change leaves beside it and above. Assumes nothing.
use Prim.Native.Nat.{ℕ, suc, ◌+◌, ◌≤◌, ◌<◌}
use mathlib.Core.Path.{◌≡◌, refl, sym, subst, ◌∙◌}
use mathlib.Core.List.{List}
use mathlib.Core.Logic.{inl, inr}
use mathlib.Core.Option.{some}
use native.Mathlib.Omega.{arith}
use lib.ListN.{length}
use Rattle.model.specs.Sizes.{W}
use Rattle.model.specs.Tree.{Tree, node, weight, least}
use Rattle.model.specs.Sheet.{Mark, along_x, along_y}
use Rattle.table.specs.Layout.{arm_width, node_width, main_place, auxiliary_place, root_place, level_place, record_place}
use Rattle.nodes.specs.Arms.{Arm, arms, over_arm, record_at, put_arm, put_record}
use Rattle.nodes.specs.Holds.{arm_of, times, Held}
use Rattle.nodes.proofs.Unchanged.{unchanged-trans, unchanged-record, put_arm-unchanged, put_record-unchanged}
use Rattle.nodes.proofs.Frames.{put_arm-same, put_record-same}
use Rattle.nodes.proofs.Held.{times-least, held-least, held-weight, over_arm-of, Names, names-own}
use Rattle.twofold_layout.specs.Rules.{SlotAuxiliary, SlotMain, AuxiliariesOf}
use Rattle.twofold_layout.specs.TwoFold.{TwoFold}
use Rattle.twofold_layout.proofs.Frames.{TwoFrame, two_frame-weaken, two_frame-at, arm-two_frame, auxiliary-two_frame, record-two_frame, root-spot}
use Rattle.twofold_layout.proofs.Kept.{clear_none, clear-spot, kept-tree, kept-two}
use Rattle.twofold_layout.proofs.Over.{TwoLeaves, TwoLeavesAt, two-over, two-main}

-- BESIDE: a tree with no slot of the one that is changed
pub kept-sibling : {f : ℕ → Mark} {C d : ℕ} {xs ys : List ℕ} (e : ℕ) (t u : SlotMain) → TwoFrame C d (Names t) (λ s. 0 < times s t) 0 0 xs ys
    → ((s : ℕ) → 0 < times s t → s < C) → ((s : ℕ) → times s t + times s u ≤ 1) → AuxiliariesOf f u → TwoFold f C e xs u
    → TwoFold f C e ys u
kept-sibling e t u a in_c apart of h =
    kept-two (λ s p. in_c s p.0) clear_none a e u in_c (λ s p. inl (omega (arith, p.0, apart s)))
    (λ s q. omega (arith, apart s)) of (omega arith) h

-- THE NODE: its record and the arm of its auxiliary tree written over two trees with no slot in common
module _ {f : ℕ → Mark} {C d : ℕ} (small : C ≤ 65536) (l r : SlotMain) (x : Tree ℕ (List ℕ)) (xs : List ℕ) (ln : length xs ≡ W C)
    (apart : (s : ℕ) → times s l + times s r ≤ 1) (hl : TwoFold f C (suc d) xs l) (hr : TwoFold f C (suc d) xs r)
    (hx : Held along_y f (record_place (level_place C d)) C xs x) (of_l : AuxiliariesOf f l) (of_r : AuxiliariesOf f r) where
  abbrev recorded : List ℕ
  recorded = put_record xs (main_place (least r)) (arm_of along_x f l) (arm_of along_x f r)

  abbrev written : List ℕ
  written = put_arm recorded (auxiliary_place (least r)) (arm_of along_y f x)

  own : least r < C
  own = held-least hr.main

  room : main_place (least r) + node_width ≤ length xs
  room = omega (arith, own, (two-main small ln).run_room)

  long : length recorded ≡ length xs
  long = (put_record-unchanged xs (main_place (least r)) (arm_of along_x f l) (arm_of along_x f r)).long

  written-frame : TwoFrame C d (λ s. s ≡ least r) (λ s. ⊥) 0 0 xs written
  written-frame =
      unchanged-trans (record-two_frame xs (least r) (arm_of along_x f l) (arm_of along_x f r) refl)
      (auxiliary-two_frame recorded (least r) (arm_of along_y f x) refl)

  in_p : (s : ℕ) → s ≡ least r → s < C
  in_p s e = rw e own

  written-record : record_at written (main_place (least r)) ≡ arms (arm_of along_x f l) (arm_of along_x f r)
  written-record =
      unchanged-record (put_arm-unchanged recorded (auxiliary_place (least r)) (arm_of along_y f x)) (main_place (least r)) (omega arith)
      ∙ put_record-same xs (main_place (least r)) (arm_of along_x f l) (arm_of along_x f r) (omega (arith, room))

  written-left : TwoFold f C (suc d) written l
  written-left =
      kept-two in_p clear_none written-frame (suc d) l (λ q z. absurd z)
      (λ s e. inl (let p = subst (λ q. 0 < times q r) (sym e) (times-least r) in omega (arith, apart s)))
      (λ s z. absurd z) of_l (omega arith) hl

  written-right : TwoFold f C (suc d) written r
  written-right = kept-two in_p clear_none written-frame (suc d) r (λ q z. absurd z) (λ s e. inr e) (λ s z. absurd z) of_r (omega arith) hr

  written-node : (i : SlotAuxiliary) → i ≡ some x → TwoFold f C d written (node i l r)
  written-node i is =
      two-over i l r written-record
      record {
        tree = x;
        is = is;
        arm = put_arm-same recorded (auxiliary_place (least r)) (arm_of along_y f x) (omega (arith, room, long));
        held = kept-tree in_p clear_none written-frame d x (λ q z. absurd z) (λ e s z. absurd z) hx;
      }
      written-left written-right apart

  pub node-leaves : (i : SlotAuxiliary) → i ≡ some x
      → TwoLeaves f C d xs (over_arm (least r) (arm_of along_x f l) (arm_of along_x f r)) written (node i l r)
  node-leaves i is =
      let h = written-node i is in
      let w : weight l + weight r ≤ C = held-weight h.main in
      let o = own in
      record {
        is = over_arm-of along_x f i l r (omega arith) (omega arith);
        held = h;
        frame = two_frame-weaken (omega arith) (names-own i l r apart) (λ s z. absurd z) written-frame;
      }

-- THE ROOT: the arm of the tree written at its word
pub root-leaves : {f : ℕ → Mark} {C : ℕ} {xs zs : List ℕ} {a : Arm} {t : SlotMain} → C ≤ 65536 → length xs ≡ W C → AuxiliariesOf f t
    → TwoLeaves f C 0 xs a zs t
    → TwoLeavesAt f C 0 root_place xs (put_arm zs root_place a) t
root-leaves {C = C} {zs = zs} {a = a} {t = t} small ln of h =
    let room : root_place + arm_width ≤ length zs = omega (arith, (two-main small (h.frame.long ∙ ln)).run_room) in
    let here : TwoFrame C 0 (λ s. ⊥) (λ s. ⊥) root_place arm_width zs (put_arm zs root_place a) = arm-two_frame zs root_place a in
    record {
      is = put_arm-same zs root_place a room ∙ h.is;
      held = kept-two (λ s z. absurd z) (clear-spot (root-spot {P = λ s. ⊥})) here 0 t (λ s z. absurd z) (λ s z. absurd z) (λ s z. absurd z) of
          (omega arith) h.held;
      frame = unchanged-trans (two_frame-at h.frame) (arm-two_frame zs root_place a);
    }
