-- What it is for words to hold a tree over slots (docs/LAYOUT.md, "Names"): one equation for each inner node, and the marks in their slots. Assumes
-- nothing.
use Rattle.std.specs.Prelude.{ℕ, ◌+◌, ◌*◌, ◌≤◌, ◌<◌, ◌≡◌, List, ◌++◌, eqb}
use Rattle.model.specs.Lists.{count_if}
use Rattle.model.specs.Totals.{total}
use Rattle.model.specs.Axis.{Axis}
use Rattle.model.specs.Sheet.{Mark, Box}
use Rattle.model.specs.Tree.{Tree, leaf, node, weight, marks, least, greatest}
use Rattle.model.specs.Laws.{SameBag}
use Rattle.table.specs.Marks.{slot_mark}
use Rattle.table.specs.Grades.{grading, word}
use Rattle.nodes.specs.Arms.{Arm, arm, arms, record_at}

module _ {I : Type 0} where
  -- "each inner node is named by the slot of the least mark of its right child"
  abbrev pub number : Tree ℕ I → ℕ
  number (leaf s) = 2 * s
  number (node i l r) = 2 * least r + 1

  -- where slot s has the mark f s: the figure of the grades of a tree's marks
  abbrev pub grades_of : (ℕ → Mark) → Tree ℕ I → ℕ
  grades_of f t = total grading.join (λ s. grading.of (f s)) (marks t)

  -- and along the axis A the arm of the tree
  module _ (A : Axis Mark Box) (f : ℕ → Mark) where
    abbrev pub arm_of : Tree ℕ I → Arm
    arm_of t = arm (number t) (weight t) (A.at (f (least t))) (A.at (f (greatest t))) (word (grades_of f t))

    -- the words hold the tree, its records at the places that its names give: "at each inner node the record equals the arms of its children"
    abbrev pub Holds : (ℕ → ℕ) → List ℕ → Tree ℕ I → Type 0
    Holds place xs (leaf s) = Unit {0}
    Holds place xs (node i l r) = (record_at xs (place (least r)) ≡ arms (arm_of l) (arm_of r)) × Holds place xs l × Holds place xs r

-- how often a slot stands in a list, and in a tree
abbrev pub times_in : ℕ → List ℕ → ℕ
times_in s l = count_if (eqb s) l

abbrev pub times : {I : Type 0} → ℕ → Tree ℕ I → ℕ
times s t = times_in s (marks t)

-- In a table of capacity C the words hold the tree: its records are right, and each slot stands once, is below C, and has its mark.
pub record Held {I : Type 0} (A : Axis Mark Box) (f : ℕ → Mark) (place : ℕ → ℕ) (C : ℕ) (xs : List ℕ) (t : Tree ℕ I) : Type 0 where
  pub once : (s : ℕ) → times s t ≤ 1
  pub within : (s : ℕ) → 0 < times s t → s < C
  pub marked : (s : ℕ) → 0 < times s t → slot_mark xs s ≡ f s
  pub records : Holds A f place xs t

-- each node of an auxiliary tree carries the slots that stand beneath it
abbrev pub CarriesBag : Tree ℕ (List ℕ) → Type 0
CarriesBag (leaf s) = Unit {0}
CarriesBag (node i l r) = SameBag i (marks l ++ marks r) × CarriesBag l × CarriesBag r
