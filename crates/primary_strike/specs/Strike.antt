-- The mirror of the strike from the two-fold tree: its main tree. Assumes nothing.
use Rattle.std.specs.Prelude.{ℕ, ◌-◌, ◌%◌, List, Option, Some, None, eqb, if◌then◌else◌}
use Rattle.model.specs.Sheet.{Mark, along_x}
use Rattle.table.specs.Layout.{main_place, auxiliary_place, root_place}
use Rattle.table.specs.Limits.{deepest, damaged, sibling_deepest}
use Rattle.nodes.specs.Arms.{Arm, no_arm, over_arm, arm_at, put_arm, put_record}
use Rattle.table.specs.After.{After, after}
use Rattle.twofold_layout.specs.Levels.{top_level, deeper}
use Rattle.secondary_update.specs.Updates.{Strike, strike_of, no_strike}
use Rattle.secondary_update.specs.Strike.{Striking, Writing, How, strike_beneath♯, auxiliary_strike♯}
use Rattle.primary_build.specs.Build.{Freshly, main_rebuild♯}
use Rattle.primary_strike.specs.Lift.{lift♯}

-- the sibling of the struck leaf takes the parent's place
abbrev pub lifted♯ : ℕ → ℕ → Arm → ℕ → List ℕ → After Strike
lifted♯ capacity base a first xs = after (strike_of a 0 first) (lift♯ sibling_deepest capacity (deeper base capacity) base a.node xs)

-- a tree of w marks built afresh without the slot s, where the words hold one
abbrev pub struck_fresh : ℕ → After Freshly → After Strike
struck_fresh w p = if eqb p.out.arm.weight 0 then after no_strike p.words else after (strike_of p.out.arm (w - 1) p.out.first) p.words

abbrev pub struck_afresh♯ : ℕ → ℕ → Striking
struck_afresh♯ capacity s base w n xs = struck_fresh w (main_rebuild♯ capacity base s (w - 1) w n xs)

-- the arm left, where a tree is left
abbrev pub arm_only : After Strike → After (Option Arm)
arm_only p = after (if eqb p.out.arm.weight 0 then None else Some p.out.arm) p.words

abbrev pub struck_auxiliary♯ : ℕ → Mark → ℕ → ℕ → ℕ → List ℕ → After (Option Arm)
struck_auxiliary♯ capacity m s base name xs = arm_only (auxiliary_strike♯ base capacity m s name xs)

-- the node over two trees is written, with its auxiliary tree
abbrev pub main_node_over : Option Arm → Writing
main_node_over None name l r rebuilt first xs = after no_strike xs
main_node_over (Some x) name l r rebuilt first xs =
    after (strike_of (over_arm name l r) rebuilt first) (put_arm (put_record xs (main_place name) l r) (auxiliary_place name) x)

-- a node has its auxiliary tree beside its children
abbrev pub main_beside : ℕ → (ℕ → ℕ) → Mark → ℕ → ℕ → ℕ → List ℕ → After Writing
main_beside capacity place m s base name xs =
    let x : After (Option Arm) = struck_auxiliary♯ capacity m s base name xs in after (main_node_over x.out) x.words

-- the main tree
abbrev pub main : How
main = record {
  deeper = λ capacity base. deeper base capacity;
  beside = main_beside;
  lifted = lifted♯;
  afresh = λ capacity place. struck_afresh♯ capacity;
}

abbrev pub main_strike_beneath♯ : ℕ → ℕ → Mark → ℕ → Striking
main_strike_beneath♯ f capacity m s base w n xs = strike_beneath♯ along_x main capacity main_place m s f base w n xs

-- the arm left goes to the root
abbrev pub put_struck : After Strike → After ℕ
put_struck p = if eqb p.out.arm.weight 0 then after damaged p.words else after p.out.rebuilt (put_arm p.words root_place p.out.arm)

abbrev pub strike_root : Mark → ℕ → ℕ → Arm → List ℕ → After ℕ
strike_root m s capacity a xs =
    if eqb (a.node % 2) 0 then after 0 (put_arm xs root_place no_arm)
    else put_struck (main_strike_beneath♯ deepest capacity m s (top_level capacity) a.weight a.node xs)

unfoldable pub main_strike♯ : ℕ → Mark → ℕ → List ℕ → After ℕ
main_strike♯ capacity m s xs = strike_root m s capacity (arm_at xs root_place) xs
