-- What tests of several parts have passed, and a tree that a walk has passed: the words hold it, each slot once. Assumes nothing.
use Prim.Native.Nat.{ℕ, ◌≤◌, ◌<◌}
use mathlib.Core.Path.{◌≡◌, refl}
use mathlib.Core.Bool.{Bool, true}
use mathlib.Core.List.{List}
use native.Mathlib.Omega.{arith}
use lib.Dec.{eqb}
use borrow.Author.Tests.{eq-eqb, eqb-true}
use Rattle.model.specs.Axis.{Axis}
use Rattle.model.specs.Sheet.{Mark, Box, sheet, same}
use Rattle.model.specs.Tree.{Tree}
use Rattle.model.specs.Slots.{slot_axis}
use Rattle.model.specs.Laws.{AxisLaws, All, Sorted}
use Rattle.model.proofs.Sorted.{all-member, sorted-distinct}
use Rattle.model.proofs.Orders.{sheet-sameness}
use Rattle.model.proofs.Slots.{slot_axis-laws}
use Rattle.table.specs.Marks.{slot_mark}
use Rattle.nodes.specs.Holds.{times_in, Held}
use Rattle.twofold_layout.proofs.Rules.{slot_sameness, slot_x-laws, times-pass}
use Rattle.checking.specs.Span.{NodeTest}
use Rattle.checking.proofs.Walked.{Walked}

module _ (xs : List ℕ) where
  -- what is said of all of a list is so of each slot in it
  pub slot-member : {P : ℕ → Type 0} {l : List ℕ} → All P l → (s : ℕ) → 0 < times_in s l → P s
  slot-member = all-member (slot_sameness (slot_mark xs)) (slot_x-laws (slot_mark xs)) eqb (λ a. eq-eqb a a refl) eqb-true

  module _ (A : Axis Mark Box) (O : AxisLaws sheet A) where
    -- the order is strict, so no slot stands twice
    sorted-once : {l : List ℕ} → Sorted (slot_axis (slot_mark xs) A) l → (s : ℕ) → times_in s l ≤ 1
    sorted-once {l = l} k s =
        let f : ℕ → Mark = slot_mark xs in
        omega (arith, times-pass (λ q. same (f s) (f q)) s (sheet-sameness.self (f s)) l, sorted-distinct (slot_sameness f) (slot_axis-laws f sheet A O) k s)

    pub walked-held : {I : Type 0} {place : ℕ → ℕ} {slot : ℕ → Bool} {next : ℕ → ℕ} {test : ℕ → ℕ → ℕ → NodeTest}
        {base : ℕ} {t : Tree ℕ I} (C : ℕ)
        → ((s : ℕ) → slot s ≡ true → s < C) → Walked A place slot next test xs base t → Held A (slot_mark xs) place C xs t
    walked-held C in_c w = record {
      once = sorted-once w.sorted;
      within = λ s k. in_c s (slot-member w.slots s k);
      marked = λ s k. refl;
      records = w.records;
    }
