-- On words that hold an auxiliary tree whose slots are on the box's x side, the mirror of the count adds the model's count and visits. Assumes nothing.
use Prim.Native.Nat.{ℕ, ◌+◌, ◌≤◌, ◌<◌}
use mathlib.Core.Path.{◌≡◌, refl, sym, ◌∙◌}
use mathlib.Core.Bool.{true, false}
use mathlib.Core.List.{List, ◌++◌}
use native.Mathlib.Omega.{arith}
use Rattle.model.specs.Totals.{total}
use Rattle.model.specs.Axis.{on_side, cell_clear}
use Rattle.model.specs.Register.{Found, innermost}
use Rattle.model.specs.Tree.{Tree, leaf, node, weight, depth, marks}
use Rattle.model.specs.Search.{inside, clear, search}
use Rattle.model.specs.Sheet.{Mark, Box, box, from_y1, to_y2, sheet, holds, along_x, along_y}
use Rattle.model.specs.Slots.{slot_space, slot_axis, slot_operation}
use Rattle.model.specs.Laws.{AxisLaws, Straight, All, cons, Sorted}
use Rattle.model.proofs.Logic.{by_cases}
use Rattle.model.proofs.Lists.{all_left, all_right, same_bag-length}
use Rattle.model.proofs.Totals.{total-length, join-zero, same_bag-total}
use Rattle.model.proofs.Tree.{weight-marks}
use Rattle.model.proofs.Sorted.{sorted-left, sorted-right}
use Rattle.model.proofs.Orders.{along_y-laws}
use Rattle.model.proofs.Slots.{slot_operation-laws, slot_axis-laws}
use Rattle.table.specs.Layout.{record_place}
use Rattle.table.specs.Grades.{grading, word}
use Rattle.table.specs.Figures.{arrived}
use Rattle.table.proofs.Packing.{grading-laws, grading-small, word_small}
use Rattle.nodes.specs.Arms.{Arm}
use Rattle.nodes.specs.Holds.{grades_of, arm_of, Held, CarriesBag}
use Rattle.nodes.specs.Count.{Kind, added}
use Rattle.nodes.proofs.Held.{held-weight, held-least, held-left, held-right}
use Rattle.nodes.proofs.Searching.{clear-past, found-clear, Arrives, Laid, count-adds, added-both, added-swap, added-arrive}
use Rattle.secondary_search.specs.Search.{kind}
use Rattle.secondary_search.specs.Count.{auxiliary, count♯}

-- the count goes by the y side alone
pub count-by-y : (xs : List ℕ) (C : ℕ) (b : Box) (base : ℕ) (a : Arm) (tally : ℕ)
    → count♯ xs C (box 0 0 b.y1 b.y2) base a tally ≡ count♯ xs C b base a tally
unfolding from_y1 to_y2
count-by-y xs C b base a tally = refl

-- a cell of one coordinate that is not inside the box's side is clear of it
pub leaf-clear : (b : Box) (v : ℕ) → on_side along_y b v ≡ false → cell_clear along_y b v v ≡ true
leaf-clear b v e =
    by_cases (along_y.from_low b v)
    (λ t. let u : along_y.to_high b v ≡ false = (rw t at e) in rw (t, u))
    (λ t. rw t)

module _ (f : ℕ → Mark) (b : Box) where
  -- every slot is on the box's x side
  abbrev pub Settled : Tree ℕ (List ℕ) → Type 0
  Settled t = All (λ s. on_side along_x b (f s).x ≡ true) (marks t)

  -- and every grade at most 100
  abbrev pub Graded : Tree ℕ (List ℕ) → Type 0
  Graded t = All (λ s. (f s).grade ≤ 100) (marks t)

  grades-small : (t : Tree ℕ (List ℕ)) → Graded t → weight t ≤ 65536 → grades_of f t < 2147483648
  grades-small t k small = grading-small (λ s. (f s).grade) k (omega (arith, weight-marks t))

  -- the model's count
  abbrev pub searched : Tree ℕ (List ℕ) → Found ℕ
  searched = search (slot_space f sheet) (slot_axis f along_y) (innermost (slot_space f sheet)) b

  -- with x settled, the box holds a mark on its y side
  pub settled-holds : (m : Mark) → on_side along_x b m.x ≡ true → holds b m ≡ on_side along_y b m.y
  unfolding holds
  settled-holds m e = rw e

  abbrev ordered : AxisLaws (slot_space f sheet) (slot_axis f along_y)
  ordered = slot_axis-laws f sheet along_y along_y-laws

  module _ (base C : ℕ) (xs : List ℕ) where
    abbrev K : Kind ℕ
    K = kind auxiliary C xs b

    abbrev ArrivesHere : Tree ℕ (List ℕ) → Type 0
    ArrivesHere = Arrives K along_y b f (innermost (slot_space f sheet)) ordered C xs (added f) (added-both f) (added-swap f) (added-arrive f) base

    abbrev LaidHere : Tree ℕ (List ℕ) → Type 0
    LaidHere = Laid K along_y b f (innermost (slot_space f sheet)) ordered C xs (added f) (added-both f) (added-swap f) (added-arrive f) base

    -- inside the side all that a tree weighs is found, with its grades
    taken : (t : Tree ℕ (List ℕ)) → CarriesBag t → Settled t → Graded t → weight t ≤ 65536 → inside (slot_axis f along_y) b t ≡ true
        → (tally : ℕ)
        → arrived tally (weight t) (word (grades_of f t)) ≡ added f (searched t) tally
    unfolding arrived added
    taken (leaf s) c (cons e g) k small t tally = rw (
      settled-holds (f s) e,
      t,
      word_small (grades_of {I = List ℕ} f (leaf s)) (grades-small (leaf s) k small),
      join-zero grading grading-laws (grading.of (f s)),
    )
    taken (node i l r) c g k small t tally =
        let many : total ◌+◌ (λ s. 1) i ≡ weight l + weight r =
        total-length i ∙ same_bag-length i (marks l ++ marks r) c.0 ∙ sym (weight-marks (node i l r)) in
        rw (
          t,
          word_small (grades_of f (node i l r)) (grades-small (node i l r) k small),
          many,
          same_bag-total (slot_operation f grading) (slot_operation-laws f sheet grading grading-laws) (λ s. grading.of (f s)) i (marks l ++ marks r) c.0,
        )

    -- clear of it nothing is
    skipped : (t : Tree ℕ (List ℕ)) → Sorted (slot_axis f along_y) (marks t) → clear (slot_axis f along_y) b t ≡ true → (tally : ℕ)
        → arrived tally 0 0 ≡ added f (searched t) tally
    unfolding arrived added
    skipped t s e tally =
        rw (found-clear K along_y b f (innermost (slot_space f sheet)) ordered C xs (added f) (added-both f) (added-swap f) (added-arrive f) t s e)

    arrives : (t : Tree ℕ (List ℕ)) → CarriesBag t → Settled t → Graded t → weight t ≤ 65536 → Sorted (slot_axis f along_y) (marks t)
        → ArrivesHere t
    arrives t c g k small s = record {
      takes = taken t c g k small;
      skips = λ e. skipped t s (rw e);
      passes = λ e. skipped t s (clear-past (slot_axis f along_y) b t e);
    }

    module _ (small : C ≤ 65536) where
      few : {t : Tree ℕ (List ℕ)} → Held along_y f (record_place base) C xs t → weight t ≤ 65536
      few h = omega (arith, held-weight h)

      laid : (t : Tree ℕ (List ℕ)) → Held along_y f (record_place base) C xs t → CarriesBag t → Settled t → Graded t
          → Sorted (slot_axis f along_y) (marks t)
          → LaidHere t
      laid (leaf s) h c g k o = arrives (leaf s) c g k (few h) o
      laid (node i l r) h c g k o = (
        record { within = held-least (held-right h); children = h.records.0 },
        arrives (node i l r) c g k (few h) o,
        laid l (held-left h) c.1 (all_left (marks l) (marks r) g) (all_left (marks l) (marks r) k) (sorted-left (marks l) (marks r) o),
        laid r (held-right h) c.2 (all_right (marks l) (marks r) g) (all_right (marks l) (marks r) k) (sorted-right (marks l) (marks r) o),
      )

      pub count-holds : Straight along_y b → (t : Tree ℕ (List ℕ)) → Held along_y f (record_place base) C xs t → CarriesBag t → Settled t
          → Graded t
          → Sorted (slot_axis f along_y) (marks t) → depth t ≤ 38 → (tally : ℕ)
          → count♯ xs C b base (arm_of along_y f t) tally ≡ added f (searched t) tally
      count-holds fine t h c g k s d =
          count-adds K along_y b f (innermost (slot_space f sheet)) ordered C xs (added f) (added-both f) (added-swap f) (added-arrive f)
          fine base t
          (omega arith) (laid t h c g k s) s
