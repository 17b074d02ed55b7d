-- What insertion and strike do with an auxiliary tree in the words of a table, against the model's auxiliary register over slots. The code's functions
-- equal the mirrors by their contracts; here the mirrors run with mending and with the fuel that the callers give. Assumes nothing.
use Prim.Native.Nat.{ℕ, ◌≤◌, ◌<◌}
use mathlib.Core.Path.{◌≡◌, refl}
use mathlib.Core.Bool.{true}
use mathlib.Core.List.{List}
use mathlib.Core.Option.{Option, some}
use native.Mathlib.Omega.{arith}
use lib.ListN.{length}
use borrow.Author.Tests.{le-ltb}
use Rattle.model.specs.Register.{Register, innermost}
use Rattle.model.specs.Tree.{Tree, node, marks, Balanced, insert_leaf}
use Rattle.model.specs.Fold.{insert_rebuilt, strike_rebuilt, fold}
use Rattle.model.specs.Sheet.{Mark, Box, sheet, along_y}
use Rattle.model.specs.Slots.{slot_space, slot_axis}
use Rattle.model.specs.Laws.{Sorted}
use Rattle.model.proofs.Orders.{sheet-sameness, along_y-laws}
use Rattle.table.specs.Layout.{auxiliary_place, run_place, record_place, level_end}
use Rattle.table.specs.Limits.{deepest, damaged}
use Rattle.table.specs.Marks.{slot_mark}
use Rattle.nodes.specs.Arms.{Arm, arm_at}
use Rattle.nodes.specs.Holds.{arm_of, times, Held}
use Rattle.nodes.proofs.Frames.{Region, level-there}
use Rattle.nodes.proofs.Held.{Leaves}
use Rattle.nodes.proofs.Spots.{auxiliary-spot, LeavesAt}
use Rattle.nodes.proofs.Levels.{held-shallow}
use Rattle.secondary_update.specs.Insert.{insert♯, auxiliary_insert♯}
use Rattle.secondary_update.specs.Strike.{strike_from, auxiliary_strike♯}
use Rattle.secondary_update.proofs.Inserting.{axis-coordinate, Ready, grows-sound, insert-holds}
use Rattle.secondary_update.proofs.Striking.{strike-leads, strike-holds}

-- the model's auxiliary register over slots, and over the bare lists that its nodes carry
module _ (f : ℕ → Mark) where
  abbrev pub carried : Register ℕ Box (List ℕ)
  carried = innermost (slot_space f sheet)

  abbrev pub auxiliary_of : Register ℕ Box (Option (Tree ℕ (List ℕ)))
  auxiliary_of = fold (slot_space f sheet) (slot_axis f along_y) carried

module _ (f : ℕ → Mark) (base C : ℕ) (xs : List ℕ) where
  -- of the words xs, a strike has left the arm a and the words ys: they hold the register o, and all else is as it was; n is the figure 'rebuilt'
  pub record Becomes (o : Option (Tree ℕ (List ℕ))) (n : ℕ) (a : Arm) (rebuilt : ℕ) (ys : List ℕ) : Type 0 where
    pub tree : Tree ℕ (List ℕ)
    pub is : o ≡ some tree
    pub leaves : Leaves along_y f (record_place base) C xs a ys tree
    pub figure : rebuilt ≡ n

  -- an insertion has put the arm at the word `at` itself, and found no damage
  pub record BecomesAt (at : ℕ) (o : Option (Tree ℕ (List ℕ))) (n rebuilt : ℕ) (ys : List ℕ) : Type 0 where
    pub tree : Tree ℕ (List ℕ)
    pub is : o ≡ some tree
    pub leaves : LeavesAt along_y f (record_place base) C at xs ys tree
    pub figure : rebuilt ≡ n
    pub sound : rebuilt ≡ damaged → ⊥

  module _ (g : Region (record_place base) C (length xs)) (s : ℕ) where
    pub auxiliary-insert : (owner : ℕ) (t : Tree ℕ (List ℕ)) → run_place C C ≤ base → owner < C
        → arm_at xs (auxiliary_place owner) ≡ arm_of along_y f t
        → Held along_y f (record_place base) C xs t → Balanced t → Sorted (slot_axis f along_y) (marks t) → s < C → slot_mark xs s ≡ f s
        → times s t ≡ 0
        → let p = auxiliary_insert♯ base C (f s) s owner xs in
        BecomesAt (auxiliary_place owner) ((auxiliary_of f).insert s (some t)) (insert_rebuilt (slot_axis f along_y) (carried f) s (some t)) p.out p.words
    unfolding auxiliary_insert♯
    auxiliary-insert owner t low k a h b o in_c marked z =
        let d = held-shallow h b g.small in
        let ready : Ready along_y f (carried f) (record_place base) C s (auxiliary_place owner) xs t = record {
          region = g;
          marked = marked;
          is = a;
          held = h;
          new = z;
          sorted = o;
          spot = auxiliary-spot base C (length xs) owner k low g.run_room;
        } in
        let e = insert-holds along_y f (carried f) (record_place base) C s in_c (axis-coordinate along_y-laws)
        deepest t true (auxiliary_place owner) xs ready (omega arith) (omega arith) b in
        let sound = grows-sound along_y f (carried f) (record_place base) C s (auxiliary_place owner) xs
        (insert♯ along_y deepest C (record_place base) (f s) s true (auxiliary_place owner) xs) true
        (insert_leaf (slot_axis f along_y) (carried f) s t) g.small e in
        rw (le-ltb (length xs) (level_end base C) (level-there base C (length xs) g (omega arith)))
        (record { tree = _; is = refl; leaves = e.0; figure = e.1; sound = sound })

    pub auxiliary-strike : (owner : ℕ) (i : List ℕ) (l r : Tree ℕ (List ℕ)) → owner < C
        → arm_at xs (auxiliary_place owner) ≡ arm_of along_y f (node i l r)
        → Held along_y f (record_place base) C xs (node i l r) → Balanced (node i l r) → Sorted (slot_axis f along_y) (marks (node i l r))
        → 0 < times s (node i l r)
        → let p = auxiliary_strike♯ base C (f s) s owner xs in
        Becomes ((auxiliary_of f).strike s (some (node i l r))) (strike_rebuilt (slot_axis f along_y) (carried f) s (some (node i l r)))
        p.out.arm p.out.rebuilt p.words
    unfolding auxiliary_strike♯ strike_from
    auxiliary-strike owner i l r k a h b o n =
        let d = held-shallow h b g.small in
        let w = strike-leads along_y f s sheet-sameness along_y-laws (node i l r) o n in
        let e = strike-holds along_y f (carried f) (record_place base) C s xs g deepest i l r w h b (omega arith) (omega arith) in
        rw (le-ltb (length xs) (level_end base C) (level-there base C (length xs) g (omega arith)), a)
        (record { tree = _; is = refl; leaves = e.leaves; figure = e.figure })
