-- A tree that the words of a table hold is one by the marks that its slots have there. Assumes nothing.
use Prim.Native.Nat.{ℕ}
use mathlib.Core.Path.{◌≡◌, sym, subst, ◌∙◌}
use mathlib.Core.List.{List}
use mathlib.Core.Option.{some}
use Rattle.model.specs.Tree.{marks}
use Rattle.model.specs.Sheet.{Mark, along_x}
use Rattle.table.specs.Layout.{root_place}
use Rattle.table.specs.Marks.{slot_mark}
use Rattle.nodes.specs.Arms.{arm_at}
use Rattle.nodes.specs.Holds.{arm_of}
use Rattle.twofold_layout.specs.Rules.{SlotMain, ByRules, marks_main}
use Rattle.twofold_layout.specs.TwoFold.{TwoFold}
use Rattle.twofold_layout.proofs.Marks.{SameOn, arm_of-marks, two-marks, rules-marks, marks_main-marks}
use Rattle.twofold_layout.specs.Sound.{HoldsTree, TreeByRules}
use Rattle.table.specs.Header.{capacity_of}

-- A tree that words hold by marks g, which are those of its slots, they hold by their own marks.
module _ {g : ℕ → Mark} {C : ℕ}
    {ys : List ℕ} (t : SlotMain) (is : arm_at ys root_place ≡ arm_of along_x g t) (two : TwoFold g C 0 ys t) (rules : ByRules g t) where
  own-marks : SameOn g (slot_mark ys) (marks t)
  own-marks q k = sym (two.main.marked q k)

  pub settled-holds : capacity_of ys ≡ C → HoldsTree ys (some t)
  settled-holds capacity = (
    is ∙ arm_of-marks g (slot_mark ys) along_x t own-marks,
    subst (λ c. TwoFold (slot_mark ys) c 0 ys t) (sym capacity) (two-marks g (slot_mark ys) t own-marks rules.auxiliaries two),
  )

  pub settled-rules : TreeByRules ys (some t)
  settled-rules = rules-marks g (slot_mark ys) t own-marks rules

  pub settled-stands : marks_main (slot_mark ys) (some t) ≡ marks_main g (some t)
  settled-stands = sym (marks_main-marks g (slot_mark ys) t own-marks rules)
