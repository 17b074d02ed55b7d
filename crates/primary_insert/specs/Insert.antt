-- The mirror of the insertion into the two-fold tree. Assumes nothing.
use Rattle.std.specs.Prelude.{ℕ, zero, suc, ◌-◌, ◌/◌}
use Rattle.std.specs.Prelude.{◌≡◌, refl, true, false, List, eqb, if◌then◌else◌}
use Rattle.std.proofs.Common.{arith}
use Rattle.model.specs.Sheet.{Mark, along_x}
use Rattle.table.specs.Layout.{main_place, auxiliary_place, root_place}
use Rattle.table.specs.Limits.{deepest, damaged, no_slot}
use Rattle.table.specs.Marks.{slot_mark}
use Rattle.nodes.specs.Arms.{Arm, leaf_arm, grown_arm, arm_at, put_arm}
use Rattle.table.specs.After.{After, after}
use Rattle.twofold_layout.specs.Levels.{top_level, deeper}
use Rattle.secondary_update.specs.Insert.{Steps, turn♯}
use Rattle.secondary_update.specs.Insert.{split♯, split_name, insert♯, auxiliary_insert♯}
use Rattle.primary_build.specs.Build.{Freshly, main_rebuild♯}

-- the auxiliary tree of that node: the leaf's slot k alone, and then the mark's slot too
abbrev pub pair_auxiliary : ℕ → Mark → ℕ → ℕ → ℕ → ℕ → List ℕ → After ℕ
pair_auxiliary capacity m s base name k xs =
    auxiliary_insert♯ base capacity m s name (put_arm xs (auxiliary_place name) (leaf_arm k (slot_mark xs k).y (slot_mark xs k).grade))

abbrev pub main_leaf♯ : ℕ → Mark → ℕ → ℕ → ℕ → Arm → List ℕ → After ℕ
main_leaf♯ capacity m s base at q xs = pair_auxiliary capacity m s base (split_name along_x m s q xs) (q.node / 2) (split♯ along_x main_place m s at q xs)

abbrev pub put_rebuilt : ℕ → ℕ → After Freshly → After ℕ
put_rebuilt at w p = if eqb p.out.arm.weight 0 then after damaged p.words else after w (put_arm p.words at p.out.arm)

abbrev pub rebuilt_at : ℕ → ℕ → ℕ → Arm → List ℕ → After ℕ
rebuilt_at capacity base at a xs = put_rebuilt at a.weight (main_rebuild♯ capacity base no_slot a.weight a.weight a.node xs)

-- once the mark has been put into the main tree alone
abbrev pub afresh_once : ℕ → ℕ → ℕ → After ℕ → After ℕ
afresh_once capacity base at p = if eqb p.out damaged then after damaged p.words else rebuilt_at capacity base at (arm_at p.words at) p.words

abbrev pub main_afresh♯ : ℕ → Mark → ℕ → ℕ → ℕ → List ℕ → After ℕ
main_afresh♯ capacity m s base at xs = afresh_once capacity base at (insert♯ along_x deepest capacity main_place m s false at xs)

-- where the arm's level begins, where the arm stands, and the words
abbrev pub MainInsertion : Type 0
MainInsertion = ℕ → ℕ → List ℕ → After ℕ

-- the mark goes into the arm that leads to a node on its way, and into the node's auxiliary tree
abbrev pub grow♯ : ℕ → Mark → ℕ → ℕ → ℕ → ℕ → Arm → List ℕ → After ℕ
grow♯ capacity m s base name at a xs = auxiliary_insert♯ base capacity m s name (put_arm xs at (grown_arm a m.x m.grade))

-- what is done beside the arms and the records of the main tree
abbrev pub main_steps : MainInsertion → ℕ → Mark → ℕ → ℕ → Steps
main_steps rec capacity m s base = record {
  grow = λ name xs. auxiliary_insert♯ base capacity m s name xs;
  begin = λ made k xs. pair_auxiliary capacity m s base made k xs;
  mend = main_afresh♯ capacity m s base;
  onward = rec (deeper base capacity);
}

unfoldable pub insert_beneath♯ : ℕ → ℕ → Mark → ℕ → MainInsertion
insert_beneath♯ zero capacity m s base at xs = after damaged xs
insert_beneath♯ (suc f) capacity m s base at xs =
    turn♯ along_x capacity main_place true m s (main_steps (insert_beneath♯ f capacity m s) capacity m s base) at xs

pub insert_beneath♯-zero : (f : ℕ) → f ≡ 0 → (capacity : ℕ) (m : Mark) (s base at : ℕ) (xs : List ℕ)
    → insert_beneath♯ f capacity m s base at xs ≡ after damaged xs
unfolding insert_beneath♯
insert_beneath♯-zero f e capacity m s base at xs = rw e

pub insert_beneath♯-suc : (f : ℕ) → (f ≡ 0 → ⊥) → (capacity : ℕ) (m : Mark) (s base at : ℕ) (xs : List ℕ)
    → insert_beneath♯ f capacity m s base at xs
    ≡ turn♯ along_x capacity main_place true m s (main_steps (insert_beneath♯ (f - 1) capacity m s) capacity m s base) at xs
unfolding insert_beneath♯
insert_beneath♯-suc zero h capacity m s base at xs = absurd (h refl)
insert_beneath♯-suc (suc f) h capacity m s base at xs = let e : suc f - 1 ≡ f = omega arith in rw e

pub main-turns : (capacity base : ℕ) (m : Mark) (s turns at : ℕ) (xs : List ℕ)
    → insert_beneath♯ (suc turns) capacity m s base at xs
    ≡ turn♯ along_x capacity main_place true m s (main_steps (insert_beneath♯ turns capacity m s) capacity m s base) at xs
unfolding insert_beneath♯
main-turns capacity base m s turns at xs = refl

abbrev pub insert_root : Mark → ℕ → ℕ → Arm → List ℕ → After ℕ
insert_root m s capacity a xs =
    if eqb a.weight 0 then after 0 (put_arm xs root_place (leaf_arm s m.x m.grade))
    else insert_beneath♯ deepest capacity m s (top_level capacity) root_place xs

unfoldable pub main_insert♯ : ℕ → Mark → ℕ → List ℕ → After ℕ
main_insert♯ capacity m s xs = insert_root m s capacity (arm_at xs root_place) xs
