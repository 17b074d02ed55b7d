-- What stands before the insertion of a slot into a two-fold tree, what the insertion is to leave, and what the main tree alone becomes. Assumes nothing.
use Prim.Native.Nat.{ℕ, ◌+◌, ◌≤◌, ◌<◌}
use mathlib.Core.Path.{◌≡◌}
use mathlib.Core.Bool.{false}
use mathlib.Core.List.{List}
use native.Mathlib.Omega.{arith}
use lib.ListN.{length}
use Rattle.model.specs.Lists.{count_if}
use Rattle.model.specs.Axis.{Axis}
use Rattle.model.specs.Register.{Register}
use Rattle.model.specs.Sizes.{W}
use Rattle.model.specs.Sheet.{Mark, Box, sheet, along_x}
use Rattle.model.specs.Slots.{slot_space, slot_axis}
use Rattle.model.specs.Tree.{depth, marks, insert_leaf, rebalance, rebuilt}
use Rattle.model.proofs.Orders.{along_x-laws}
use Rattle.table.specs.Layout.{arm_width, main_place}
use Rattle.table.specs.Marks.{slot_mark}
use Rattle.nodes.specs.Arms.{arm_at}
use Rattle.nodes.specs.Holds.{arm_of, times}
use Rattle.table.specs.After.{After}
use Rattle.nodes.proofs.Frames.{Region}
use Rattle.nodes.proofs.Held.{Names}
use Rattle.nodes.proofs.Spots.{Spot, LeavesAt}
use Rattle.twofold_layout.specs.Rules.{SlotAuxiliary, SlotMain, slot_auxiliary, ByRules}
use Rattle.twofold_layout.specs.TwoFold.{TwoFold}
use Rattle.twofold_layout.proofs.Frames.{TwoSpot}
use Rattle.twofold_layout.proofs.Over.{TwoLeavesAt, two-main}
use Rattle.twofold_layout.proofs.Rules.{new-slot}
use Rattle.secondary_update.specs.Insert.{insert♯}
use Rattle.secondary_update.proofs.Inserting.{insert-times, ByCoordinate, axis-coordinate, grown-once, grown-within, insert-holds}

-- Before the insertion of slot s into the two-fold tree t, whose root is at depth d and whose arm stands at a spot: the slot has its mark, and no slot of
-- the tree has the same.
pub record TwoReady (f : ℕ → Mark) (C s d at : ℕ) (xs : List ℕ) (t : SlotMain) : Type 0 where
  pub long : length xs ≡ W C
  pub marked : slot_mark xs s ≡ f s
  pub is : arm_at xs at ≡ arm_of along_x f t
  pub held : TwoFold f C d xs t
  pub rules : ByRules f t
  pub new : count_if ((slot_space f sheet).same s) (marks t) ≡ 0
  pub spot : TwoSpot C (Names (insert_leaf (slot_axis f along_x) (slot_auxiliary f) s t)) at

-- the axis of the main tree, the register that its nodes carry, the tree t with the slot s put in, and the tree t mended
abbrev pub X : (ℕ → Mark) → Axis ℕ Box
X f = slot_axis f along_x

abbrev pub R : (ℕ → Mark) → Register ℕ Box SlotAuxiliary
R f = slot_auxiliary f

abbrev pub grow : (ℕ → Mark) → ℕ → SlotMain → SlotMain
grow f s t = insert_leaf (X f) (R f) s t

abbrev pub mend : (ℕ → Mark) → SlotMain → SlotMain
mend f t = rebalance (X f) (R f) t

-- an insertion leaves the tree t mended, and the figure
abbrev pub Grown : (ℕ → Mark) → ℕ → ℕ → ℕ → List ℕ → After ℕ → SlotMain → Type 0
Grown f C d at xs p t = TwoLeavesAt f C d at xs p.words (mend f t) × (p.out ≡ rebuilt t)

pub by_x : ByCoordinate along_x
by_x = axis-coordinate along_x-laws

-- a spot of a two-fold tree's arm is one of the main tree's
main-spot : {C n at : ℕ} {P : ℕ → Type 0} → Region main_place C n → TwoSpot C P at → Spot main_place C P at n
main-spot g t = record {
  room = omega (arith, t.low, g.run_room);
  after_capacity = t.after_capacity;
  off_run = omega (arith, t.low);
  off_marks = t.off_marks;
  off_records = λ q p k. omega (arith, t.off_nodes q p k);
}

pub ready-new : {f : ℕ → Mark} {C s d at : ℕ} {xs : List ℕ} {t : SlotMain} → TwoReady f C s d at xs t → times s t ≡ 0
ready-new {f = f} {s = s} {t = t} k = new-slot f s t k.new

module _ {f : ℕ → Mark} {C s : ℕ} (small : C ≤ 65536) {d at : ℕ} {xs : List ℕ} {t : SlotMain} (k : TwoReady f C s d at xs t) where
  ready-region : Region main_place C (length xs)
  ready-region = two-main small k.long

  pub ready-room : at + arm_width ≤ length xs
  ready-room = omega (arith, k.spot.low, ready-region.run_room)

module _ {f : ℕ → Mark} {C s : ℕ} (in_c : s < C) {d at : ℕ} {xs : List ℕ} {t : SlotMain} (k : TwoReady f C s d at xs t) where
  pub ready-within : (q : ℕ) → 0 < times q (grow f s t) → q < C
  ready-within q h = grown-within along_x f (R f) main_place C s in_c t k.held.main q h

  pub ready-once : (q : ℕ) → times q (grow f s t) ≤ 1
  ready-once q = omega (arith, grown-once along_x f (R f) main_place C s in_c t k.held.main (ready-new k) q, insert-times (X f) (R f) s q t)

-- the slot put into the main tree alone
pub main-grows : {f : ℕ → Mark} {C s : ℕ} → C ≤ 65536 → s < C → {d at : ℕ} {xs : List ℕ} {t : SlotMain} → TwoReady f C s d at xs t
    → (fuel : ℕ)
    → depth t < fuel → depth t + 1 < 40
    → LeavesAt along_x f main_place C at xs (insert♯ along_x fuel C main_place (f s) s false at xs).words (grow f s t)
    × ((insert♯ along_x fuel C main_place (f s) s false at xs).out ≡ 0)
main-grows {f = f} {C = C} {s = s} small in_c {at = at} {xs = xs} {t = t} k fuel deep shallow =
    insert-holds along_x f (R f) main_place C s in_c by_x fuel t false at xs (record {
      region = ready-region small k;
      marked = k.marked;
      is = k.is;
      held = k.held.main;
      new = ready-new k;
      sorted = k.rules.sorted;
      spot = main-spot (ready-region small k) k.spot;
    }) (omega arith) shallow tt
