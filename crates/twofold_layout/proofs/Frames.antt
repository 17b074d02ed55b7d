-- Which words a change within a two-fold tree leaves alone, where such frames come from, and where the arm of such a tree may stand. Assumes nothing.
use Prim.Native.Nat.{ℕ, ◌+◌, ◌≤◌, ◌<◌}
use mathlib.Core.Path.{◌≡◌, refl, subst}
use mathlib.Core.List.{List}
use mathlib.Core.Logic.{◌⊎◌, inl, inr}
use native.Mathlib.Omega.{arith}
use lib.ListN.{length}
use lib.Seq.{sets}
use Rattle.model.proofs.Logic.{by_order}
use Rattle.table.specs.Layout.{mark_width, arm_width, record_width, node_width, capacity_place, slot_place, main_place, auxiliary_place, root_place}
use Rattle.table.specs.Layout.{used_place, run_place, second_run_place, level_place, record_place}
use Rattle.nodes.specs.Arms.{Arm, put_arm, put_record}
use Rattle.nodes.proofs.Unchanged.{Off, Apart, Unchanged, unchanged-weaken, sets-unchanged, put_arm-unchanged, put_record-unchanged}
use Rattle.nodes.proofs.Frames.{Outside, Frame, FrameAt}

-- in a table of capacity C the word i is none of those of the main nodes that P tells with the arms of their auxiliary trees (12 words), and none of the
-- records of the slots that Q tells in the levels of depth d and deeper
pub record OffTree (C d : ℕ) (P Q : ℕ → Type 0) (i : ℕ) : Type 0 where
  pub nodes : (s : ℕ) → P s → Off (main_place s) (main_place s + node_width) i
  pub levels : (e : ℕ) → d ≤ e → Outside (record_place (level_place C e)) Q i

-- and none of those of the two runs, and of the `width` words from `at` on
pub record OffTwo (C d : ℕ) (P Q : ℕ → Type 0) (at width i : ℕ) : Type 0 where
  pub tree : OffTree C d P Q i
  pub runs : Off (run_place C 0) (second_run_place C C) i
  pub spot : Off at (at + width) i

-- all words but those are the same
abbrev pub TwoFrame : ℕ → ℕ → (ℕ → Type 0) → (ℕ → Type 0) → ℕ → ℕ → List ℕ → List ℕ → Type 0
TwoFrame C d P Q at width xs ys = Unchanged (OffTwo C d P Q at width) xs ys

-- a frame may be told less of
pub off_tree-weaken : {C d e : ℕ} {P Q P' Q' : ℕ → Type 0} → e ≤ d → ((s : ℕ) → P s → P' s) → ((s : ℕ) → Q s → Q' s)
    → (i : ℕ) → OffTree C e P' Q' i
    → OffTree C d P Q i
off_tree-weaken low w v i o = record { nodes = λ s p. o.nodes s (w s p); levels = λ b l s q. o.levels b (omega arith) s (v s q) }

module _ {C d : ℕ} {P Q : ℕ → Type 0} {at width : ℕ} {xs ys : List ℕ} where
  pub two_frame-weaken : {e : ℕ} {P' Q' : ℕ → Type 0} → e ≤ d → ((s : ℕ) → P s → P' s) → ((s : ℕ) → Q s → Q' s)
      → TwoFrame C d P Q at width xs ys → TwoFrame C e P' Q' at width xs ys
  two_frame-weaken low w v a = unchanged-weaken (λ i o. record { tree = off_tree-weaken low w v i o.tree; runs = o.runs; spot = o.spot }) a

  -- where no words were written outside, any may be
  pub two_frame-at : TwoFrame C d P Q 0 0 xs ys → TwoFrame C d P Q at width xs ys
  two_frame-at a = unchanged-weaken (λ i o. record { tree = o.tree; runs = o.runs; spot = omega arith }) a

-- WHERE FRAMES COME FROM

module _ {C d : ℕ} {P Q : ℕ → Type 0} {xs ys : List ℕ} where
  -- an arm within a main node's own words
  pub two_frame-inner : {at : ℕ} (name : ℕ) → main_place name ≤ at → at + arm_width ≤ main_place name + node_width
      → TwoFrame C d P Q at arm_width xs ys → TwoFrame C d (λ s. P s ⊎ (s ≡ name)) Q 0 0 xs ys
  two_frame-inner name low high a =
      unchanged-weaken (λ i o. record {
        tree = off_tree-weaken (omega arith) (λ s p. inl p) (λ s q. q) i o.tree;
        runs = o.runs;
        spot = λ k. omega (arith, o.tree.nodes name (inr refl) (omega arith));
      }) a

  -- main records
  pub main-frame_at : {at : ℕ} → FrameAt main_place P at (run_place C 0) (run_place C C) xs ys → TwoFrame C d P Q at arm_width xs ys
  main-frame_at a = unchanged-weaken (λ i o. (λ s p k. omega (arith, o.tree.nodes s p k), λ k. omega (arith, o.runs k), o.spot)) a

  -- the records of a level, and with them the arm of an auxiliary tree
  pub level-frame : {P' : ℕ → Type 0} → ((s : ℕ) → P s → Q s) → Frame (record_place (level_place C d)) P (run_place C 0) (run_place C C) xs ys
      → TwoFrame C d P' Q 0 0 xs ys
  level-frame w a = unchanged-weaken (λ i o. (λ s p. o.tree.levels d (omega arith) s (w s p), λ k. omega (arith, o.runs k))) a

  pub level-frame_at : {P' : ℕ → Type 0} (owner : ℕ) → P' owner → ((s : ℕ) → P s → Q s)
      → FrameAt (record_place (level_place C d)) P (auxiliary_place owner) (run_place C 0) (run_place C C) xs ys → TwoFrame C d P' Q 0 0 xs ys
  level-frame_at owner own w a =
      unchanged-weaken (λ i o. (
        λ s p. o.tree.levels d (omega arith) s (w s p),
        λ k. omega (arith, o.runs k),
        λ k. omega (arith, o.tree.nodes owner own (omega arith)),
      )) a

module _ {C d : ℕ} {P Q : ℕ → Type 0} (xs : List ℕ) where
  -- an arm written, the arm of an auxiliary tree, and a main record
  pub arm-two_frame : (at : ℕ) (a : Arm) → TwoFrame C d P Q at arm_width xs (put_arm xs at a)
  arm-two_frame at a = unchanged-weaken (λ i o. o.spot) (put_arm-unchanged xs at a)

  pub auxiliary-two_frame : (name : ℕ) (a : Arm) → P name → TwoFrame C d P Q 0 0 xs (put_arm xs (auxiliary_place name) a)
  auxiliary-two_frame name a own =
      unchanged-weaken (λ i o k. omega (arith, o.tree.nodes name own (omega arith))) (put_arm-unchanged xs (auxiliary_place name) a)

  pub record-two_frame : (name : ℕ) (l r : Arm) → P name → TwoFrame C d P Q 0 0 xs (put_record xs (main_place name) l r)
  record-two_frame name l r own = unchanged-weaken (λ i o k. omega (arith, o.tree.nodes name own k)) (put_record-unchanged xs (main_place name) l r)

-- stores within the two runs
pub runs-two_frame : {C d : ℕ} {P Q : ℕ → Type 0} (vs xs : List ℕ) (i : ℕ) → run_place C 0 ≤ i → i + length vs ≤ second_run_place C C
    → TwoFrame C d P Q 0 0 xs (sets xs i vs)
runs-two_frame vs xs i low high = unchanged-weaken (λ j o k. omega (arith, o.runs (omega arith))) (sets-unchanged vs xs i)

-- SPOTS

-- Where the arm of a main tree may stand: after the capacity, before the lists of slots, and apart from the marks and from the main nodes that P tells.
pub record TwoSpot (C : ℕ) (P : ℕ → Type 0) (at : ℕ) : Type 0 where
  pub after_capacity : capacity_place < at
  pub low : at + arm_width ≤ used_place C 0
  pub off_marks : (q : ℕ) → q < C → Apart at arm_width (slot_place q) mark_width
  pub off_nodes : (q : ℕ) → P q → Apart (main_place q) node_width at arm_width

pub two_spot-weaken : {C : ℕ} {P Q : ℕ → Type 0} {at : ℕ} → ((s : ℕ) → Q s → P s) → TwoSpot C P at → TwoSpot C Q at
two_spot-weaken w t = record { after_capacity = t.after_capacity; low = t.low; off_marks = t.off_marks; off_nodes = λ q p. t.off_nodes q (w q p) }

pub root-spot : {C : ℕ} {P : ℕ → Type 0} → TwoSpot C P root_place
root-spot = omega arith

-- an arm of the record of a node that P does not tell
pub child-spot : {C : ℕ} {P : ℕ → Type 0} (name at : ℕ) → name < C → ((s : ℕ) → P s → s < C) → (P name → ⊥)
    → main_place name ≤ at → at + arm_width ≤ main_place name + record_width
    → TwoSpot C P at
child-spot {P = P} name at h in_c out l u = record {
  after_capacity = omega arith;
  low = omega arith;
  off_marks = omega arith;
  off_nodes = λ q p. by_order q name (λ o. omega arith) (λ e. absurd (out (subst P e p))) (λ o. omega arith);
}
