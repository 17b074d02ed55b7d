-- The mirrors of the walks through an auxiliary tree and through the main tree. Assumes nothing.
use Rattle.std.specs.Prelude.{ℕ, Bool, not, ◌&&◌, List, Option, ltb, eqb, length, is_some}
use Rattle.model.specs.Sheet.{below_x, mark_outside, grade_outside, along_x, along_y}
use Rattle.table.specs.Layout.{main_place, auxiliary_place, record_place, level_end}
use Rattle.table.specs.Limits.{deepest}
use Rattle.table.specs.Marks.{slot_mark}
use Rattle.nodes.specs.Arms.{Arm, arm_at}
use Rattle.twofold_layout.specs.Levels.{deeper}
use Rattle.checking.specs.Slots.{live_slot♯}
use Rattle.checking.specs.Span.{any_node, tree_span}
use Rattle.checking.specs.declared.ends.Ends.{Ends}

-- an auxiliary tree's slots: live, their marks from that of the slot `first` to that of `last` by x
abbrev pub auxiliary_slot♯ : ℕ → ℕ → ℕ → ℕ → List ℕ → ℕ → Bool
auxiliary_slot♯ capacity live first last xs s =
    live_slot♯ capacity live xs s && not (below_x (slot_mark xs s) (slot_mark xs first)) && not (below_x (slot_mark xs last) (slot_mark xs s))

-- the level stays the same in an auxiliary tree, and its nodes carry nothing that stands in the words
abbrev pub auxiliary_span♯ : ℕ → ℕ → ℕ → ℕ → ℕ → ℕ → Arm → List ℕ → Option Ends
auxiliary_span♯ fuel base capacity live first last a xs =
    tree_span along_y capacity (record_place base) (auxiliary_slot♯ capacity live first last xs) (λ b. b) (λ b name w. any_node) fuel xs base a

-- an inner main node's auxiliary tree; past the words there is none
abbrev pub auxiliary_stands♯ : ℕ → ℕ → List ℕ → ℕ → ℕ → ℕ → ℕ → ℕ → Bool
auxiliary_stands♯ capacity live xs base name w first last =
    let a : Arm = arm_at xs (auxiliary_place name) in
    not (ltb (length xs) (level_end base capacity)) && eqb a.weight w && is_some (auxiliary_span♯ deepest base capacity live first last a xs)

-- the main tree's slots: live, their marks on the sheet and graded
abbrev pub main_slot♯ : ℕ → ℕ → List ℕ → ℕ → Bool
main_slot♯ capacity live xs s = live_slot♯ capacity live xs s && not (mark_outside (slot_mark xs s)) && not (grade_outside (slot_mark xs s))

abbrev pub main_span♯ : ℕ → ℕ → ℕ → ℕ → Arm → List ℕ → Option Ends
main_span♯ fuel base capacity live a xs =
    tree_span along_x capacity main_place (main_slot♯ capacity live xs) (λ b. deeper b capacity) (auxiliary_stands♯ capacity live xs) fuel xs base a
