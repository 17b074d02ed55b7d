-- On words that hold a tree at some places of records, the mirror of the copy leaves words that hold it there and at other places, and writes only its
-- names' records there. Assumes nothing.
use Prim.Native.Nat.{ℕ, zero, suc, ◌+◌, ◌*◌, ◌/◌, ◌%◌, ◌≤◌, ◌<◌}
use mathlib.Core.Path.{◌≡◌, refl, ◌∙◌}
use mathlib.Core.List.{List}
use mathlib.Core.Logic.{inl}
use native.Mathlib.Omega.{arith}
use borrow.Author.Tests.{lt-leb, eq-eqb, ne_eqb}
use lib.ListN.{length}
use Rattle.model.specs.Axis.{Axis}
use Rattle.model.specs.Tree.{Tree, leaf, node, depth, least}
use Rattle.model.specs.Sheet.{Mark, Box}
use Rattle.table.specs.Layout.{record_width, run_place}
use Rattle.table.specs.Marks.{slot_mark}
use Rattle.nodes.specs.Arms.{arms, record_at, put_record}
use Rattle.nodes.specs.Holds.{number, arm_of, times, Held}
use Rattle.nodes.proofs.Unchanged.{Apart, unchanged-refl, unchanged-trans, unchanged-record}
use Rattle.nodes.proofs.Frames.{Region, Frame, frame-weaken, frame-run, frame-record, frame-mark, put_record-frame, put_record-same}
use Rattle.nodes.proofs.Held.{times-node, times-least, held-left, held-right, held-least, held_same, held-frame, Names, names-left, names-right, names-own}
use Rattle.secondary_build.specs.Copy.{copy_record, copy_node, copy♯}

-- what copying leaves: the tree at its new places and at its old ones, and all words as they were but for the records of its names at the new places
pub record Copied {I : Type 0} (A : Axis Mark Box) (f : ℕ → Mark) (from to : ℕ → ℕ) (C : ℕ) (xs ys : List ℕ) (t : Tree ℕ I) : Type 0 where
  pub held : Held A f to C ys t
  pub kept : Held A f from C ys t
  pub frame : Frame to (Names t) 0 0 xs ys

-- where no record at the old places meets one at the new
module _ (from to : ℕ → ℕ) (C n : ℕ) (g : Region to C n)
    (clear : (s q : ℕ) → s < C → q < C → Apart (to q) record_width (from s) record_width) where
  -- a change of new records leaves all marks and the tree at its old places
  module _ {P : ℕ → Type 0} {xs ys : List ℕ} (a : Frame to P 0 0 xs ys) (in_c : (s : ℕ) → P s → s < C) where
    same-mark : (s : ℕ) → s < C → slot_mark ys s ≡ slot_mark xs s
    same-mark = frame-mark g (omega arith) (omega arith) (frame-run (run_place C 0) (run_place C C) a) in_c

    old-held : {I : Type 0} (A : Axis Mark Box) (f : ℕ → Mark) (t : Tree ℕ I) → Held A f from C xs t → Held A f from C ys t
    old-held A f t h =
        held_same A f t
        (λ s k. unchanged-record a (from s) (λ i l u. (λ q p o. omega (arith, clear s q (h.within s k.0) (in_c q p) (omega arith)), omega arith)))
        (λ s k. same-mark s (h.within s k)) h

  module _ {I : Type 0} (A : Axis Mark Box) (f : ℕ → Mark) where
    -- the same without the old places: a right child's least names its parent, and no node of its own, so the parent's record stays as it was written
    record Copies (xs ys : List ℕ) (t : Tree ℕ I) : Type 0 where
      held : Held A f to C ys t
      frame : Frame to (Names t) 0 0 xs ys

    leaf-copies : (s : ℕ) (xs : List ℕ) → Held {I = I} A f from C xs (leaf s) → Copies xs xs (leaf s)
    leaf-copies s xs h = record { held = record { once = h.once; within = h.within; marked = h.marked; records = tt }; frame = unchanged-refl xs }

    -- the record of a node written, then its left child copied, then its right
    node-copies : (i : I) (l r : Tree ℕ I) (xs ys zs : List ℕ) → length xs ≡ n → Held A f from C xs (node i l r)
        → Copies (put_record xs (to (least r)) (arm_of A f l) (arm_of A f r)) ys l → Copies ys zs r → Copies xs zs (node i l r)
    node-copies i l r xs ys zs ln h cl cr =
        let name = least r in
        let d : ((s : ℕ) → times s l + times s r ≤ 1) = λ s. omega (arith, h.once s, times-node s i l r) in
        let room : to name + record_width ≤ length xs = omega (arith, g.room name (held-least (held-right h))) in
        let in_l : ((s : ℕ) → Names l s → s < C) = λ s k. cl.held.within s k.0 in
        let in_r : ((s : ℕ) → Names r s → s < C) = λ s k. cr.held.within s k.0 in
        let fl = frame-run (run_place C 0) (run_place C C) cl.frame in
        let fr = frame-run (run_place C 0) (run_place C C) cr.frame in
        let in_c : name < C = held-least cr.held in
        let here : record_at zs (to name) ≡ arms (arm_of A f l) (arm_of A f r) =
        frame-record g (omega arith) (omega arith) fr in_r name in_c (λ k. k.1 refl)
        ∙ frame-record g (omega arith) (omega arith) fl in_l name in_c (λ k. omega (arith, k.0, d name, times-least r))
        ∙ put_record-same xs (to name) (arm_of A f l) (arm_of A f r) room in
        let hl : Held A f to C zs l = held-frame A f g (omega arith) (omega arith) fr in_r l (λ s k. inl (omega (arith, k.0, d s))) cl.held in
        let a : Frame to (Names (node i l r)) 0 0 xs zs =
        unchanged-trans (frame-weaken (names-own i l r d) (put_record-frame to xs name (arm_of A f l) (arm_of A f r)))
        (unchanged-trans (frame-weaken (names-left i l r) cl.frame) (frame-weaken (λ s k. names-right i l r d s k.0) cr.frame)) in
        record {
          held = record {
            once = h.once;
            within = h.within;
            marked = λ s k. same-mark a (λ s k. h.within s k.0) s (h.within s k) ∙ h.marked s k;
            records = (here, hl.records, cr.held.records);
          };
          frame = a;
        }

    copy-copies : (fuel : ℕ) (t : Tree ℕ I) (xs : List ℕ) → length xs ≡ n → Held A f from C xs t → depth t ≤ fuel
        → Copies xs (copy♯ fuel C from to (number t) xs) t
    unfolding copy♯ copy_node copy_record
    copy-copies zero (leaf s) xs ln h d = leaf-copies s xs h
    copy-copies zero (node i l r) xs ln h d = absurd (omega arith)
    copy-copies (suc k) (leaf s) xs ln h d =
        let even : (2 * s) % 2 ≡ 0 = omega arith in
        rw (eq-eqb ((2 * s) % 2) 0 even) (leaf-copies s xs h)
    copy-copies (suc k) (node i l r) xs ln h d =
        let odd : ((2 * least r + 1) % 2 ≡ 0 → ⊥) = omega arith in
        let half : (2 * least r + 1) / 2 ≡ least r = omega arith in
        let name = least r in
        let in_c : name < C = held-least (held-right h) in
        let a = put_record-frame to xs name (arm_of A f l) (arm_of A f r) in
        let ys : List ℕ = put_record xs (to name) (arm_of A f l) (arm_of A f r) in
        let cl = copy-copies k l ys (a.long ∙ ln) (old-held a (λ s e. rw e in_c) A f l (held-left h)) (omega arith) in
        let hr = old-held cl.frame (λ s p. cl.held.within s p.0) A f r (old-held a (λ s e. rw e in_c) A f r (held-right h)) in
        let zs : List ℕ = copy♯ k C from to (number l) ys in
        let cr = copy-copies k r zs (cl.frame.long ∙ a.long ∙ ln) hr (omega arith) in
        rw (ne_eqb ((2 * least r + 1) % 2) 0 odd, half, lt-leb C name in_c, h.records.0)
        (node-copies i l r xs zs (copy♯ k C from to (number r) zs) ln h cl cr)

module _ {I : Type 0} (A : Axis Mark Box) (f : ℕ → Mark) (from to : ℕ → ℕ) (C : ℕ) where
  pub copy_holds : (fuel : ℕ) (t : Tree ℕ I) (xs : List ℕ) → Region to C (length xs)
      → ((s q : ℕ) → s < C → q < C → Apart (to q) record_width (from s) record_width)
      → Held A f from C xs t → depth t ≤ fuel → Copied A f from to C xs (copy♯ fuel C from to (number t) xs) t
  copy_holds fuel t xs g clear h d =
      let c = copy-copies from to C (length xs) g clear A f fuel t xs refl h d in
      record {
        held = c.held;
        kept = old-held from to C (length xs) g clear c.frame (λ s k. h.within s k.0) A f t h;
        frame = c.frame;
      }
