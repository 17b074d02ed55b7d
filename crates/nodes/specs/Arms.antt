-- Numbers of nodes, arms and records, of main and auxiliary trees alike (docs/LAYOUT.md, "Arms and records"). Assumes nothing.
use Rattle.std.specs.Prelude.{ℕ, ◌+◌, ◌*◌, ◌%◌, Bool, true, false, List, [], ◌∷◌, eqb, get_or, if◌then◌else◌}
use Rattle.std.proofs.lemmas.List.Edits.{sets}
use Rattle.table.specs.Layout.{arm_width}
use Rattle.nodes.specs.Weights.{sum}
use Rattle.table.specs.Runs.{as_slot}
use Rattle.table.specs.Words.{lesser, greater}
use Rattle.table.specs.Grades.{graded, word, joined_word}

-- "2 s for the leaf of slot s, 2 s + 1 for the inner node named s"; slots are far below 2^31
unfoldable pub leaf_number : ℕ → ℕ
leaf_number s = 2 * (s % 2147483648)

unfoldable pub inner_number : ℕ → ℕ
inner_number name = 2 * (name % 2147483648) + 1

-- what points to a tree: its root's number, its weight, its cell, and the figure of its grades
pub record Arm : Type 0 where
  pub node : ℕ
  pub weight : ℕ
  pub least : ℕ
  pub greatest : ℕ
  pub grades : ℕ

abbrev pub arm : ℕ → ℕ → ℕ → ℕ → ℕ → Arm
arm n w lo hi g = record { node = n; weight = w; least = lo; greatest = hi; grades = g }

abbrev pub no_arm : Arm
no_arm = arm 0 0 0 0 0

-- the leaf of slot s, at the coordinate v and of a grade, and the inner node of a name over two trees
unfoldable pub leaf_arm : ℕ → ℕ → ℕ → Arm
leaf_arm s v grade = arm (leaf_number s) 1 v v (word (graded grade))

unfoldable pub over_arm : ℕ → Arm → Arm → Arm
over_arm name l r = arm (inner_number name) (sum l.weight r.weight) l.least r.greatest (joined_word l.grades r.grades)

-- the same root with one mark more, at the coordinate v and of a grade
unfoldable pub grown_arm : Arm → ℕ → ℕ → Arm
grown_arm a v grade =
    arm a.node (sum a.weight 1) (lesser a.least v) (greater a.greatest v) (joined_word a.grades (word (graded grade)))

-- an inner node's record: the arms of its children
pub record Record : Type 0 where
  pub left : Arm
  pub right : Arm

abbrev pub arms : Arm → Arm → Record
arms l r = record { left = l; right = r }

-- the way of a mark at an inner node: whether it goes left, the child that it goes to, and the other one
pub record Way : Type 0 where
  pub left : Bool
  pub child : Arm
  pub sibling : Arm

abbrev pub way : Bool → Arm → Arm → Way
way left c q = record { left = left; child = c; sibling = q }

unfoldable pub way_of : Record → Bool → Way
way_of p left = if left then way true p.left p.right else way false p.right p.left

-- an arm in words: its root's number, its weight, its cell, the figure of its grades
abbrev pub arm_words : Arm → List ℕ
arm_words a = a.node ∷ a.weight ∷ a.least ∷ a.greatest ∷ a.grades ∷ []

unfoldable pub arm_at : List ℕ → ℕ → Arm
arm_at xs at = arm (get_or xs at 0) (get_or xs (at + 1) 0) (get_or xs (at + 2) 0) (get_or xs (at + 3) 0) (get_or xs (at + 4) 0)

unfoldable pub put_arm : List ℕ → ℕ → Arm → List ℕ
put_arm xs at a = sets xs at (arm_words a)

-- a record in words: the left arm, and the right one behind it
unfoldable pub record_at : List ℕ → ℕ → Record
record_at xs at = arms (arm_at xs at) (arm_at xs (at + arm_width))

unfoldable pub put_record : List ℕ → ℕ → Arm → Arm → List ℕ
put_record xs at l r = put_arm (put_arm xs at l) (at + arm_width) r

-- where the left, or the right, arm of the record at a word stands
unfoldable pub child_at : ℕ → Bool → ℕ
child_at at left = if left then at else at + arm_width

-- the name of a node once slot s is struck: the least slot left in its right child, if that was s
unfoldable pub renamed : ℕ → ℕ → ℕ → ℕ → ℕ
renamed capacity name s first = if eqb name s then as_slot capacity first else name

-- the least slot left of a node once a leaf that is its child is struck, where that was its left child and so the least
unfoldable pub first_left : Bool → ℕ → ℕ
first_left left name = if left then name else 0
