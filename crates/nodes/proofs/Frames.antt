-- Where the records of a tree may stand, which words a change of some of them leaves alone, and a record written and read again. Assumes nothing.
use Prim.Native.Nat.{ℕ, zero, suc, ◌+◌, ◌-◌, ◌≤◌, ◌<◌}
use mathlib.Core.Path.{◌≡◌, refl, sym, ap, subst, ◌∙◌}
use mathlib.Core.List.{List, [], ◌∷◌, ◌++◌}
use mathlib.Core.Logic.{◌⊎◌, inl, inr}
use native.Mathlib.Omega.{arith}
use lib.ListN.{length, get_or, set, length-set}
use lib.Seq.{sets, get_or-set_same}
use Rattle.table.specs.Layout.{mark_width, arm_width, record_width, slot_place, main_place, run_place, record_place, level_end}
use Rattle.table.specs.Marks.{slot_mark}
use Rattle.nodes.specs.Arms.{Arm, arm_words, arm_at, put_arm, arms, record_at, put_record}
use Rattle.nodes.proofs.Unchanged.{Off, Apart, Unchanged, unchanged-weaken, unchanged-arm, unchanged-record, unchanged-mark}
use Rattle.nodes.proofs.Unchanged.{sets-unchanged, put_arm-unchanged, put_record-unchanged}

-- a run of stores reads as what was stored
pub sets-at : (vs xs : List ℕ) (i j : ℕ) → j < length vs → i + length vs ≤ length xs → get_or (sets xs i vs) (i + j) 0 ≡ get_or vs j 0
sets-at [] xs i j h r = absurd (omega arith)
sets-at (v ∷ vs) xs i zero h r =
    let e : i + 0 ≡ i = omega arith in
    rw e ((sets-unchanged vs (set xs i v) (suc i)).same i (omega arith) ∙ get_or-set_same xs i v 0 (omega arith))
sets-at (v ∷ vs) xs i (suc j) h r =
    let e : i + suc j ≡ suc i + j = omega arith in
    let l = length-set xs i v in
    rw e (sets-at vs (set xs i v) (suc i) j (omega arith) (omega arith))

-- two runs of stores, one after the other
pub sets-append : (vs us xs : List ℕ) (i : ℕ) → sets xs i (vs ++ us) ≡ sets (sets xs i vs) (i + length vs) us
sets-append [] us xs i = let e : i + 0 ≡ i = omega arith in rw e
sets-append (v ∷ vs) us xs i =
    let e : i + suc (length vs) ≡ suc i + length vs = omega arith in
    rw e (sets-append vs us (set xs i v) (suc i))

-- Where the records of a tree's inner nodes may stand in a table of capacity C and n words: apart from each other, from the header, from the marks and
-- from run A.
pub record Region (place : ℕ → ℕ) (C n : ℕ) : Type 0 where
  pub small : C ≤ 65536
  pub run_room : run_place C C ≤ n
  pub room : (s : ℕ) → s < C → place s + record_width ≤ n
  pub after_header : (s : ℕ) → s < C → 64 ≤ place s
  pub apart : (s q : ℕ) → s < C → q < C → (s ≡ q → ⊥) → Apart (place s) record_width (place q) record_width
  pub off_marks : (s q : ℕ) → s < C → q < C → Apart (place s) record_width (slot_place q) mark_width
  pub off_run : (s : ℕ) → s < C → Apart (run_place C 0) C (place s) record_width

-- a level of auxiliary records is such a region, and so are the main records

pub level-region : (base C n : ℕ) → C ≤ 65536 → run_place C C ≤ base → level_end base C ≤ n → Region (record_place base) C n
level-region base C n small low high = omega arith

-- and all the records of such a level are there
pub level-there : (base C n : ℕ) → Region (record_place base) C n → 0 < C → level_end base C ≤ n
level-there base C n g some = omega (arith, g.room (C - 1) (omega arith))

pub main-region : (C n : ℕ) → C ≤ 65536 → run_place C C ≤ n → Region main_place C n
main-region C n small high = omega arith

-- a word outside the records of the slots that P tells
abbrev pub Outside : (ℕ → ℕ) → (ℕ → Type 0) → ℕ → Type 0
Outside place P i = (s : ℕ) → P s → Off (place s) (place s + record_width) i

-- all words are the same but for the records of the slots that P tells, and the words from lo to hi
abbrev pub Frame : (ℕ → ℕ) → (ℕ → Type 0) → ℕ → ℕ → List ℕ → List ℕ → Type 0
Frame place P lo hi xs ys = Unchanged (λ i. Outside place P i × Off lo hi i) xs ys

-- and but for the arm at the word `at`
abbrev pub FrameAt : (ℕ → ℕ) → (ℕ → Type 0) → ℕ → ℕ → ℕ → List ℕ → List ℕ → Type 0
FrameAt place P at lo hi xs ys = Unchanged (λ i. Outside place P i × Off lo hi i × Off at (at + arm_width) i) xs ys

module _ {place : ℕ → ℕ} {P : ℕ → Type 0} {lo hi : ℕ} {xs ys : List ℕ} where
  pub frame-weaken : {Q : ℕ → Type 0} → ((s : ℕ) → P s → Q s) → Frame place P lo hi xs ys → Frame place Q lo hi xs ys
  frame-weaken w a = unchanged-weaken (λ i o. (λ s p. o.0 s (w s p), o.1)) a

  pub frame_at-weaken : {Q : ℕ → Type 0} {at : ℕ} → ((s : ℕ) → P s → Q s) → FrameAt place P at lo hi xs ys → FrameAt place Q at lo hi xs ys
  frame_at-weaken w a = unchanged-weaken (λ i o. (λ s p. o.0 s (w s p), o.1, o.2)) a

  pub frame_at-of : {at : ℕ} → Frame place P lo hi xs ys → FrameAt place P at lo hi xs ys
  frame_at-of a = unchanged-weaken (λ i o. (o.0, o.1)) a

  -- an arm within a record: its words are words of that record
  pub frame_at-record : {at : ℕ} (name : ℕ) → place name ≤ at → at + arm_width ≤ place name + record_width
      → FrameAt place P at lo hi xs ys → Frame place (λ s. P s ⊎ (s ≡ name)) lo hi xs ys
  frame_at-record name l u a =
      unchanged-weaken (λ i o. (λ s p. o.0 s (inl p), o.1, λ h. omega (arith, o.0 name (inr refl) (omega arith)))) a

-- where no word was written outside the records, any run will do
pub frame-run : {place : ℕ → ℕ} {P : ℕ → Type 0} {xs ys : List ℕ} (lo hi : ℕ) → Frame place P 0 0 xs ys → Frame place P lo hi xs ys
frame-run lo hi a = unchanged-weaken (λ i o. (o.0, omega arith)) a

-- an arm and a record written
pub put_arm-frame : {place : ℕ → ℕ} {P : ℕ → Type 0} {lo hi : ℕ} (xs : List ℕ) (at : ℕ) (a : Arm)
    → FrameAt place P at lo hi xs (put_arm xs at a)
put_arm-frame xs at a = unchanged-weaken (λ i o. o.2) (put_arm-unchanged xs at a)

pub put_record-frame : (place : ℕ → ℕ) (xs : List ℕ) (name : ℕ) (l r : Arm) → Frame place (λ s. s ≡ name) 0 0 xs (put_record xs (place name) l r)
put_record-frame place xs name l r = unchanged-weaken (λ i o. o.0 name refl) (put_record-unchanged xs (place name) l r)

-- by a frame: the record of a slot that P does not tell, every mark, and the header
module _ {place : ℕ → ℕ} {C n : ℕ} (g : Region place C n) {P : ℕ → Type 0} {lo hi : ℕ} (low : run_place C 0 ≤ lo) (high : hi ≤ run_place C C)
    {xs ys : List ℕ} (a : Frame place P lo hi xs ys) (in_c : (s : ℕ) → P s → s < C) where
  pub frame-record : (s : ℕ) → s < C → (P s → ⊥) → record_at ys (place s) ≡ record_at xs (place s)
  frame-record s h out =
      unchanged-record a (place s) (λ i l u. (
        λ q p k. omega (arith, g.apart q s (in_c q p) h (λ e. out (subst P e p)) (omega arith)),
        λ k. omega (arith, g.off_run s h (omega arith)),
      ))

  pub frame-mark : (s : ℕ) → s < C → slot_mark ys s ≡ slot_mark xs s
  frame-mark s h = unchanged-mark a s (λ i l u. (λ q p k. omega (arith, g.off_marks q s (in_c q p) h (omega arith)), omega arith))

  pub frame-header : (i : ℕ) → i < 64 → get_or ys i 0 ≡ get_or xs i 0
  frame-header i h = a.same i (λ q p. omega (arith, g.after_header q (in_c q p)), omega arith)

-- THE CODEC: an arm, and a record, written and read again
pub put_arm-same : (xs : List ℕ) (at : ℕ) (a : Arm) → at + arm_width ≤ length xs → arm_at (put_arm xs at a) at ≡ a
unfolding arm_at put_arm
put_arm-same xs at a room =
    let e : at + 0 ≡ at = omega arith in
    let first : get_or (sets xs at (arm_words a)) at 0 ≡ a.node =
    ap (λ i. get_or (sets xs at (arm_words a)) i 0) (sym e) ∙ sets-at (arm_words a) xs at 0 (omega arith) room in
    rw (
      first,
      sets-at (arm_words a) xs at 1 (omega arith) room,
      sets-at (arm_words a) xs at 2 (omega arith) room,
      sets-at (arm_words a) xs at 3 (omega arith) room,
      sets-at (arm_words a) xs at 4 (omega arith) room,
    )

pub put_record-same : (xs : List ℕ) (at : ℕ) (l r : Arm) → at + record_width ≤ length xs → record_at (put_record xs at l r) at ≡ arms l r
unfolding record_at put_record
put_record-same xs at l r room =
    let ys = put_arm xs at l in
    let n = (put_arm-unchanged xs at l).long in
    rw (
      unchanged-arm (put_arm-unchanged ys (at + arm_width) r) at (λ i lo hi. omega arith),
      put_arm-same xs at l (omega arith),
      put_arm-same ys (at + arm_width) r (omega (arith, n)),
    )
