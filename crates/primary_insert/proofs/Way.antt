-- The way of an insertion down a two-fold tree in words: an arm put at its spot, the slot put into a node's auxiliary tree, and the node over a child
-- that was changed, its arm standing in the node's record. Assumes nothing.
use Prim.Native.Nat.{ℕ, suc, ◌+◌, ◌≤◌, ◌<◌}
use mathlib.Core.Path.{◌≡◌, refl, sym, ap₂, subst, ◌∙◌}
use mathlib.Core.List.{List, ◌∷◌}
use mathlib.Core.Logic.{◌⊎◌, inl, inr}
use mathlib.Core.Option.{some, some-injective}
use native.Mathlib.Omega.{arith}
use lib.ListN.{length}
use Rattle.model.specs.Lists.{count_if}
use Rattle.model.specs.Tree.{Tree, node, marks, least, Balanced}
use Rattle.model.specs.Fold.{insert_rebuilt}
use Rattle.model.specs.Sizes.{D, W}
use Rattle.model.specs.Sheet.{Mark, sheet, along_x, along_y}
use Rattle.model.specs.Slots.{slot_space, slot_axis}
use Rattle.model.specs.Laws.{SameBag, Sorted}
use Rattle.table.specs.Layout.{arm_width, record_width, node_width, main_place, auxiliary_place, run_place, level_place, record_place}
use Rattle.table.specs.Limits.{damaged}
use Rattle.table.specs.Marks.{slot_mark}
use Rattle.nodes.specs.Arms.{Arm, arms, arm_at, put_arm}
use Rattle.nodes.specs.Holds.{arm_of, times_in, times, Held}
use Rattle.table.specs.After.{After}
use Rattle.nodes.proofs.Unchanged.{apart-sym, unchanged-trans}
use Rattle.nodes.proofs.Frames.{put_arm-same, FrameAt, frame_at-weaken}
use Rattle.nodes.proofs.Held.{times-node, times-least, held-least, Names, names-left, names-right, names-own}
use Rattle.nodes.proofs.Spots.{record-arms}
use Rattle.twofold_layout.specs.Rules.{SlotAuxiliary, SlotMain, slot_auxiliary, AuxiliaryOf, AuxiliariesOf}
use Rattle.twofold_layout.specs.TwoFold.{HoldsAuxiliary, TwoFold}
use Rattle.twofold_layout.proofs.Frames.{TwoFrame, TwoSpot, two_frame-weaken, two_frame-at, two_frame-inner, arm-two_frame, two_spot-weaken, child-spot}
use Rattle.twofold_layout.proofs.Kept.{Clear, clear-spot, kept_arm, kept-own, kept-two}
use Rattle.twofold_layout.proofs.Over.{TwoLeaves, TwoLeavesAt, two-over, two-level}
use Rattle.twofold_layout.proofs.Rules.{auxiliary-insert-of, rules-auxiliary-times, new-slot}
use Rattle.secondary_update.specs.Insert.{auxiliary_insert♯}
use Rattle.secondary_update.proofs.Auxiliaries.{carried, auxiliary-insert}

-- an arm written at a spot leaves a tree whose names the spot is apart from
pub arm-kept : {f : ℕ → Mark} {C at e : ℕ} {P : ℕ → Type 0} (zs : List ℕ) (a : Arm) (t : SlotMain) → TwoSpot C P at
    → ((s : ℕ) → Names t s → P s) → AuxiliariesOf f t → TwoFold f C e zs t → TwoFold f C e (put_arm zs at a) t
arm-kept {C = C} {at = at} {e = e} zs a t spot w of h =
    let b : TwoFrame C 0 (λ s. ⊥) (λ s. ⊥) at arm_width zs (put_arm zs at a) = arm-two_frame zs at a in
    kept-two (λ s p. absurd p) (clear-spot spot) b e t (λ q k. absurd k) (λ s p. absurd p) (λ s k. absurd k) of
    (λ s k. apart-sym (main_place s) node_width at arm_width (spot.off_nodes s (w s k))) h

-- the arm of a tree put at its spot
pub put_two : {f : ℕ → Mark} {C d at : ℕ} {xs ys zs : List ℕ} {a : Arm} (t : SlotMain) → at + arm_width ≤ length xs
    → TwoSpot C (Names t) at → AuxiliariesOf f t
    → TwoFrame C d (Names t) (λ q. 0 < times q t) at arm_width xs ys → TwoLeaves f C d ys a zs t → TwoLeavesAt f C d at xs (put_arm zs at a) t
put_two {at = at} {zs = zs} {a = a} t room spot of b h =
    let fits : at + arm_width ≤ length zs = omega (arith, h.frame.long, b.long) in
    record {
      is = put_arm-same zs at a fits ∙ h.is;
      held = arm-kept zs a t spot (λ s k. k) of h.held;
      frame = unchanged-trans b (unchanged-trans (two_frame-at h.frame) (arm-two_frame zs at a));
    }

-- THE AUXILIARY TREE: of the words ys, an insertion of slot s into the auxiliary tree o of the slots l has left p
pub record AuxiliaryGrown (f : ℕ → Mark) (C s d name : ℕ) (ys : List ℕ) (o : SlotAuxiliary) (l : List ℕ) (p : After ℕ) : Type 0 where
  pub holds : HoldsAuxiliary f C d name p.words ((slot_auxiliary f).insert s o)
  pub frame : FrameAt (record_place (level_place C d)) (λ q. 0 < times_in q (s ∷ l)) (auxiliary_place name) (run_place C 0) (run_place C C) ys p.words
  pub figure : p.out ≡ insert_rebuilt (slot_axis f along_y) (carried f) s o
  pub sound : p.out ≡ damaged → ⊥

module _ (f : ℕ → Mark) (C s d name : ℕ) (ys l : List ℕ) (small : C ≤ 65536) (in_c : s < C) (low : d < D C) (named : name < C)
    (long : length ys ≡ W C)
    (marked : slot_mark ys s ≡ f s) (new : count_if ((slot_space f sheet).same s) l ≡ 0) where
  abbrev grown_words : After ℕ
  grown_words = auxiliary_insert♯ (level_place C d) C (f s) s name ys

  tree-grown : (u : Tree ℕ (List ℕ)) → arm_at ys (auxiliary_place name) ≡ arm_of along_y f u → Held along_y f (record_place (level_place C d)) C ys u
      → AuxiliaryOf f l (some u) → AuxiliaryGrown f C s d name ys (some u) l grown_words
  tree-grown u is h a =
      let e : u ≡ a.tree = some-injective u a.tree a.is in
      let b : Balanced u = subst Balanced (sym e) a.balanced in
      let o : Sorted (slot_axis f along_y) (marks u) = subst (λ t. Sorted (slot_axis f along_y) (marks t)) (sym e) a.sorted in
      let bag : SameBag (marks u) l = subst (λ t. SameBag (marks t) l) (sym e) a.bag in
      let z : times s u ≡ 0 = new-slot f s u (bag ((slot_space f sheet).same s) ∙ new) in
      let k = auxiliary-insert f (level_place C d) C ys (two-level C d (length ys) small low long) s name u (omega arith) named is h b o in_c marked z in
      let of = auxiliary-insert-of f s l (some u) new a in
      record {
        holds = record { tree = k.tree; is = k.is; arm = k.leaves.is; held = k.leaves.held };
        frame = frame_at-weaken (λ q p. omega (arith, p.0, rules-auxiliary-times f of k.is q)) k.leaves.frame;
        figure = k.figure;
        sound = k.sound;
      }

  pub auxiliary-grown : (o : SlotAuxiliary) → HoldsAuxiliary f C d name ys o → AuxiliaryOf f l o
      → AuxiliaryGrown f C s d name ys o l (auxiliary_insert♯ (level_place C d) C (f s) s name ys)
  auxiliary-grown o h a =
      subst (λ o. AuxiliaryGrown f C s d name ys o l grown_words) (sym h.is) (tree-grown h.tree h.arm h.held (subst (AuxiliaryOf f l) h.is a))

-- THE WAY DOWN: the arm of a node over l and r stands at its spot, and then one child is changed, its arm standing in the node's record
module _ {f : ℕ → Mark} {C d at : ℕ} (i : SlotAuxiliary) (l r : SlotMain) (spot : TwoSpot C (Names (node i l r)) at)
    (apart : (s : ℕ) → times s l + times s r ≤ 1) {xs zs ws : List ℕ} (room : main_place (least r) + record_width ≤ length zs)
    (is : arm_at zs at ≡ arm_of along_x f (node i l r))
    (before : TwoFrame C d (Names (node i l r)) (λ q. 0 < times q (node i l r)) at arm_width xs zs) (aux : HoldsAuxiliary f C d (least r) zs i) where
  two-way : (u : SlotMain) (other : ℕ) → ((s : ℕ) → Names u s → Names (node i l r) s) → ((s : ℕ) → 0 < times s u → 0 < times s (node i l r))
      → (Names u (least r) → ⊥) → main_place (least r) ≤ other → other + arm_width ≤ main_place (least r) + record_width → least r < C
      → ((s : ℕ) → 0 < times s u → s < C)
      → TwoFrame C (suc d) (Names u) (λ q. 0 < times q u) other arm_width zs ws → TwoFold f C (suc d) ws l → TwoFold f C (suc d) ws r
      → arm_at ws (main_place (least r)) ≡ arm_of along_x f l → arm_at ws (main_place (least r) + arm_width) ≡ arm_of along_x f r
      → TwoLeavesAt f C d at xs ws (node i l r)
  two-way u other w v out low high in_c within a hl hr el er =
      let name = least r in
      let in_p : ((s : ℕ) → Names u s → s < C) = λ s k. within s k.0 in
      let clear : Clear C other arm_width = clear-spot (child-spot {P = Names u} name other in_c in_p out low high) in
      let fits : main_place name + record_width ≤ length ws = omega (arith, a.long) in
      record {
        is = kept_arm in_p clear a at (two_spot-weaken w spot) (λ k. omega
            (arith, spot.off_nodes name (names-own i l r apart name refl) (omega arith))) ∙ is;
        held = two-over i l r (record-arms ws (main_place name) ∙ ap₂ arms el er)
            (kept-own in_p clear a d name i (omega arith) within in_c out (omega arith) aux) hl hr apart;
        frame = unchanged-trans before (two_frame-at (two_frame-weaken (omega arith) (λ s k. tells s k) v (two_frame-inner name low (omega arith) a)));
      }
    where
      tells : (s : ℕ) → Names u s ⊎ (s ≡ least r) → Names (node i l r) s
      tells s (inl k) = w s k
      tells s (inr e) = names-own i l r apart s e

  pub two-way-left : TwoFold f C (suc d) zs r → AuxiliariesOf f r → arm_at zs (main_place (least r) + arm_width) ≡ arm_of along_x f r
      → TwoLeavesAt f C (suc d) (main_place (least r)) zs ws l → TwoLeavesAt f C d at xs ws (node i l r)
  two-way-left hr of er h =
      let name = least r in
      let in_c : name < C = held-least hr.main in
      let within : ((s : ℕ) → 0 < times s l → s < C) = h.held.main.within in
      let in_p : ((s : ℕ) → Names l s → s < C) = λ s k. within s k.0 in
      let out : (Names l name → ⊥) = λ k. omega (arith, k.0, apart name, times-least r) in
      let clear : Clear C (main_place name) arm_width = clear-spot (child-spot {P = Names l} name (main_place name) in_c in_p out (omega arith)
      (omega arith)) in
      let right = child-spot {P = Names l} name (main_place name + arm_width) in_c in_p out (omega arith) (omega arith) in
      two-way l (main_place name) (names-left i l r) (λ s k. omega (arith, times-node s i l r)) out (omega arith) (omega arith) in_c within h.frame h.held
      (kept-two in_p clear h.frame (suc d) r within (λ s k. inl (omega (arith, k.0, apart s))) (λ s k. omega (arith, apart s)) of
      (λ s k. omega (arith, k.1)) hr)
      h.is (kept_arm in_p clear h.frame (main_place name + arm_width) right (omega arith) ∙ er)

  pub two-way-right : TwoFold f C (suc d) zs l → AuxiliariesOf f l → arm_at zs (main_place (least r)) ≡ arm_of along_x f l
      → TwoLeavesAt f C (suc d) (main_place (least r) + arm_width) zs ws r → TwoLeavesAt f C d at xs ws (node i l r)
  two-way-right hl of el h =
      let name = least r in
      let in_c : name < C = held-least h.held.main in
      let within : ((s : ℕ) → 0 < times s r → s < C) = h.held.main.within in
      let in_p : ((s : ℕ) → Names r s → s < C) = λ s k. within s k.0 in
      let out : (Names r name → ⊥) = λ k. k.1 refl in
      let clear : Clear C (main_place name + arm_width) arm_width =
      clear-spot (child-spot {P = Names r} name (main_place name + arm_width) in_c in_p out (omega arith) (omega arith)) in
      let left = child-spot {P = Names r} name (main_place name) in_c in_p out (omega arith) (omega arith) in
      two-way r (main_place name + arm_width) (λ s k. names-right i l r apart s k.0) (λ s k. omega (arith, times-node s i l r)) out
      (omega arith) (omega arith) in_c
      within h.frame
      (kept-two in_p clear h.frame (suc d) l within (λ s k. inl (omega (arith, k.0, apart s))) (λ s k. omega (arith, apart s)) of
      (λ s k. omega (arith, other s k)) hl)
      h.held (kept_arm in_p clear h.frame (main_place name) left (omega arith) ∙ el) h.is
    where
      other : (s : ℕ) → Names l s → s ≡ least r → ⊥
      other s k e = let p = subst (λ q. 0 < times q r) (sym e) (times-least r) in omega (arith, k.0, apart s)
