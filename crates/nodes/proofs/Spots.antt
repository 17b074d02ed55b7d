-- Arms at words of their own, outside the records of the tree they point to: written, read again, and kept by changes elsewhere. Assumes nothing.
use Prim.Native.Nat.{ℕ, ◌+◌, ◌≤◌, ◌<◌}
use mathlib.Core.Path.{◌≡◌, refl, sym, ap₂, subst, ◌∙◌}
use mathlib.Core.List.{List}
use mathlib.Core.Logic.{◌⊎◌, inl, inr}
use native.Mathlib.Omega.{arith}
use lib.ListN.{length, get_or}
use Rattle.model.specs.Axis.{Axis}
use Rattle.model.specs.Sheet.{Mark, Box}
use Rattle.model.specs.Tree.{Tree, node, least}
use Rattle.table.specs.Layout.{mark_width, arm_width, record_width, capacity_place, slot_place, auxiliary_place, run_place, record_place}
use Rattle.table.specs.Marks.{slot_mark}
use Rattle.nodes.specs.Arms.{Arm, arms, arm_at, put_arm, record_at}
use Rattle.nodes.specs.Holds.{arm_of, times, Held}
use Rattle.nodes.proofs.Unchanged.{Apart, apart-sym, unchanged-trans, unchanged-arm, unchanged-record, unchanged-mark, put_arm-unchanged}
use Rattle.nodes.proofs.Frames.{put_arm-same, Region, Frame, FrameAt, frame-weaken, frame_at-of, frame_at-record, put_arm-frame}
use Rattle.nodes.proofs.Held.{times-least, held-least, held_same, held-frame, held-over, Names, names-left, names-right, names-own, Leaves}

-- a record is two arms
pub record-arms : (xs : List ℕ) (p : ℕ) → record_at xs p ≡ arms (arm_at xs p) (arm_at xs (p + arm_width))
unfolding record_at
record-arms xs p = refl

-- The words from `at` on are a place for the arm of a tree whose update touches the records of P, in a table of capacity C and n words: after the
-- capacity's word, and apart from run A, from the marks and from those records.
pub record Spot (place : ℕ → ℕ) (C : ℕ) (P : ℕ → Type 0) (at n : ℕ) : Type 0 where
  pub room : at + arm_width ≤ n
  pub after_capacity : capacity_place < at
  pub off_run : Apart (run_place C 0) C at arm_width
  pub off_marks : (q : ℕ) → q < C → Apart at arm_width (slot_place q) mark_width
  pub off_records : (q : ℕ) → P q → Apart (place q) record_width at arm_width

module _ {place : ℕ → ℕ} {C n : ℕ} where
  pub spot-weaken : {P Q : ℕ → Type 0} {at : ℕ} → ((s : ℕ) → Q s → P s) → Spot place C P at n → Spot place C Q at n
  spot-weaken w t = record {
    room = t.room;
    after_capacity = t.after_capacity;
    off_run = t.off_run;
    off_marks = t.off_marks;
    off_records = λ q p. t.off_records q (w q p);
  }

  -- an arm of the record of a slot that P does not tell
  pub record-spot : {P : ℕ → Type 0} (at name : ℕ) → Region place C n → name < C → ((s : ℕ) → P s → s < C) → (P name → ⊥)
      → place name ≤ at
      → at + arm_width ≤ place name + record_width → Spot place C P at n
  record-spot {P = P} at name g h in_c out l u = record {
    room = omega (arith, g.room name h);
    after_capacity = omega (arith, g.after_header name h);
    off_run = λ k. omega (arith, g.off_run name h (omega arith));
    off_marks = λ q m k. omega (arith, g.off_marks name q h m (omega arith));
    off_records = λ q p k. omega (arith, g.apart q name (in_c q p) h (λ e. out (subst P e p)) (omega arith));
  }

  module _ {P : ℕ → Type 0} {at : ℕ} (t : Spot place C P at n) where
    -- the arm at a spot stays where another arm is changed
    pub spot-kept : {other : ℕ} {xs ys : List ℕ} → FrameAt place P other (run_place C 0) (run_place C C) xs ys
        → Apart other arm_width at arm_width → arm_at ys at ≡ arm_at xs at
    spot-kept a h =
        unchanged-arm a at (λ i l u. (
          λ q p k. omega (arith, t.off_records q p (omega arith)),
          λ k. omega (arith, t.off_run (omega arith)),
          λ k. omega (arith, h (omega arith)),
        ))

    -- an arm within the record of a slot that P tells is apart from the spot
    pub spot-apart : (name other : ℕ) → P name → place name ≤ other → other + arm_width ≤ place name + record_width
        → Apart other arm_width at arm_width
    spot-apart name other p l u k = omega (arith, t.off_records name p (omega arith))

    -- the capacity stays
    pub spot-capacity : {xs ys : List ℕ} → Region place C n → ((s : ℕ) → P s → s < C) → FrameAt place P at (run_place C 0) (run_place C C) xs ys
        → get_or ys capacity_place 0 ≡ get_or xs capacity_place 0
    spot-capacity g in_c a = a.same capacity_place (λ q p. omega (arith, g.after_header q (in_c q p)), omega arith, omega (arith, t.after_capacity))

    -- an arm written at a spot leaves the marks, and a tree whose names' records P tells
    module _ (xs : List ℕ) (a : Arm) where
      pub spot-mark : (q : ℕ) → q < C → slot_mark (put_arm xs at a) q ≡ slot_mark xs q
      spot-mark q h = unchanged-mark (put_arm-unchanged xs at a) q (λ i l u k. omega (arith, t.off_marks q h (omega arith)))

      pub spot-held : {I : Type 0} (A : Axis Mark Box) (f : ℕ → Mark) (u : Tree ℕ I) → ((s : ℕ) → Names u s → P s) → Held A f place C xs u
          → Held A f place C (put_arm xs at a) u
      spot-held A f u w h =
          held_same A f u
          (λ s k. unchanged-record (put_arm-unchanged xs at a) (place s)
          (λ i l m o. omega (arith, apart-sym (place s) record_width at arm_width (t.off_records s (w s k)) (omega arith))))
          (λ s k. spot-mark s (h.within s k)) h

-- the arm of the auxiliary tree of a main node, whose records stand in a level
pub auxiliary-spot : {P : ℕ → Type 0} (base C n owner : ℕ) → owner < C → run_place C C ≤ base → run_place C C ≤ n
    → Spot (record_place base) C P (auxiliary_place owner) n
auxiliary-spot base C n owner h low high = omega arith

-- What an operation on the tree whose arm stands at `at` leaves: the arm there of a tree that the words hold, and all words as they were but for that
-- arm, the records of the tree's names and run A.
pub record LeavesAt {I : Type 0} (A : Axis Mark Box) (f : ℕ → Mark) (place : ℕ → ℕ) (C at : ℕ) (xs ys : List ℕ) (t : Tree ℕ I) : Type 0 where
  pub is : arm_at ys at ≡ arm_of A f t
  pub held : Held A f place C ys t
  pub frame : FrameAt place (Names t) at (run_place C 0) (run_place C C) xs ys

module _ {I : Type 0} (A : Axis Mark Box) (f : ℕ → Mark) {place : ℕ → ℕ} {C n at : ℕ} where
  -- the arm of a tree put at its spot
  pub put-leaves : {xs ys zs : List ℕ} {a : Arm} (t : Tree ℕ I) → length xs ≡ n → Spot place C (Names t) at n
      → FrameAt place (Names t) at (run_place C 0) (run_place C C) xs ys → Leaves A f place C ys a zs t → LeavesAt A f place C at xs (put_arm zs at a) t
  put-leaves {zs = zs} {a = a} t ln s b h =
      let long : length zs ≡ n = h.frame.long ∙ b.long ∙ ln in
      let room : at + arm_width ≤ length zs = omega (arith, s.room) in
      record {
        is = put_arm-same zs at a room ∙ h.is;
        held = spot-held s zs a A f t (λ q k. k) h.held;
        frame = unchanged-trans b (unchanged-trans (frame_at-of h.frame) (put_arm-frame zs at a));
      }

  -- THE WAY DOWN: the arm of a node over l and r stands at its spot, and then one child is changed, its arm standing in the node's record
  module _ (g : Region place C n) (i : I) (l r : Tree ℕ I) (spot : Spot place C (Names (node i l r)) at n) (d : (s : ℕ) → times s l + times s r ≤ 1)
      {xs ys zs : List ℕ} (ln : length ys ≡ n) (is : arm_at ys at ≡ arm_of A f (node i l r))
      (before : FrameAt place (Names (node i l r)) at (run_place C 0) (run_place C C) xs ys) where
    over-leaves : {P : ℕ → Type 0} (other : ℕ) → ((s : ℕ) → P s → Names (node i l r) s) → place (least r) ≤ other
        → other + arm_width ≤ place (least r) + record_width
        → FrameAt place P other (run_place C 0) (run_place C C) ys zs
        → Held A f place C zs l → Held A f place C zs r → arm_at zs (place (least r)) ≡ arm_of A f l
        → arm_at zs (place (least r) + arm_width) ≡ arm_of A f r
        → LeavesAt A f place C at xs zs (node i l r)
    over-leaves {P = P} other w low high b hl hr el er =
        let name = least r in
        let own = names-own i l r d name refl in
        let room : place name + record_width ≤ length zs = omega (arith, g.room name (held-least hr), b.long) in
        let c : Frame place (Names (node i l r)) (run_place C 0) (run_place C C) ys zs =
        frame-weaken (λ s p. tells s p) (frame_at-record name low high b) in
        record {
          is = spot-kept (spot-weaken w spot) b (spot-apart spot name other own low high) ∙ is;
          held = held-over i l r (record-arms zs (place name) ∙ ap₂ arms el er) hl hr d;
          frame = unchanged-trans before (frame_at-of c);
        }
      where
        tells : (s : ℕ) → P s ⊎ (s ≡ least r) → Names (node i l r) s
        tells s (inl p) = w s p
        tells s (inr e) = names-own i l r d s e

    pub left-leaves : Held A f place C ys r → arm_at ys (place (least r) + arm_width) ≡ arm_of A f r → LeavesAt A f place C (place (least r)) ys zs l
        → LeavesAt A f place C at xs zs (node i l r)
    left-leaves hr er h =
        let name = least r in
        let in_c : ((s : ℕ) → Names l s → s < C) = λ s k. h.held.within s k.0 in
        let own : name < C = held-least hr in
        let beside = record-spot (place name + arm_width) name g own in_c (λ k. omega (arith, k.0, d name, times-least r)) (omega arith) (omega arith) in
        let c = frame_at-record name (omega arith) (omega arith) h.frame in
        over-leaves (place name) (names-left i l r) (omega arith) (omega arith) h.frame h.held
        (held-frame A f g (omega arith) (omega arith) c (λ s k. within s k) r (λ s k. out s k) hr)
        h.is (spot-kept beside h.frame (omega arith) ∙ er)
      where
        within : (s : ℕ) → Names l s ⊎ (s ≡ least r) → s < C
        within s (inl k) = h.held.within s k.0
        within s (inr e) = subst (λ q. q < C) (sym e) (held-least hr)

        out : (s : ℕ) → Names l s ⊎ (s ≡ least r) → (times s r ≡ 0) ⊎ (s ≡ least r)
        out s (inl k) = inl (omega (arith, k.0, d s))
        out s (inr e) = inr e

    pub right-leaves : Held A f place C ys l → arm_at ys (place (least r)) ≡ arm_of A f l → LeavesAt A f place C (place (least r) + arm_width) ys zs r
        → LeavesAt A f place C at xs zs (node i l r)
    right-leaves hl el h =
        let name = least r in
        let in_c : ((s : ℕ) → Names r s → s < C) = λ s k. h.held.within s k.0 in
        let own : name < C = held-least h.held in
        let beside = record-spot (place name) name g own in_c (λ k. k.1 refl) (omega arith) (omega arith) in
        let c = frame_at-record name (omega arith) (omega arith) h.frame in
        over-leaves (place name + arm_width) (λ s k. names-right i l r d s k.0) (omega arith) (omega arith) h.frame
        (held-frame A f g (omega arith) (omega arith) c (λ s k. within s k) l (λ s k. inl (out s k)) hl)
        h.held (spot-kept beside h.frame (omega arith) ∙ el) h.is
      where
        within : (s : ℕ) → Names r s ⊎ (s ≡ least r) → s < C
        within s (inl k) = h.held.within s k.0
        within s (inr e) = subst (λ q. q < C) (sym e) (held-least h.held)

        out : (s : ℕ) → Names r s ⊎ (s ≡ least r) → times s l ≡ 0
        out s (inl k) = omega (arith, k.0, d s)
        out s (inr e) = let p = subst (λ q. 0 < times q r) (sym e) (times-least r) in omega (arith, d s)
