-- A sound table: "The check call passes a table exactly when 3 does not apply and its words hold a tree by the rules above, word 2 is the number of its
-- marks, and every other record of docs/'s layout is free, each once" (document 01, "Where each call may stop"). Here the words are the table's own, W(C)
-- of them. "In a sound table every grade is 1 to 100, a mark's the same wherever it stands, and stored sums and worsts are right" (R-1): a mark stands in
-- its slot alone, and `HoldsTree` asks that every arm has the figure of the grades beneath it. Assumes nothing.
use Rattle.std.specs.Prelude.{ℕ, ◌<◌, ◌≡◌, false, List, ltb, length, get_or}
use Rattle.std.proofs.Math.Option.{Option, none, some}
use Rattle.model.specs.Lists.{indicator}
use Rattle.model.specs.Tree.{marks_of}
use Rattle.model.specs.Sizes.{W, capacity_outside}
use Rattle.model.specs.Sheet.{Main, mark_outside, grade_outside, along_x}
use Rattle.model.specs.Laws.{All}
use Rattle.table.specs.Layout.{open_place, root_place, used_place, place_place}
use Rattle.table.specs.Header.{capacity_of, live_of}
use Rattle.table.specs.Marks.{slot_mark}
use Rattle.nodes.specs.Arms.{arm_at}
use Rattle.nodes.specs.Holds.{arm_of, times_in}
use Rattle.twofold_layout.specs.Rules.{SlotMain, ByRules, marks_main}
use Rattle.twofold_layout.specs.TwoFold.{TwoFold}

module _ (xs : List ℕ) where
  -- the two lists of slots: used[i] and place[s]
  abbrev pub used_at : ℕ → ℕ
  used_at i = get_or xs (used_place (capacity_of xs) i) 0

  abbrev pub place_at : ℕ → ℕ
  place_at s = get_or xs (place_place (capacity_of xs) s) 0

  -- the words hold a tree over slots, each slot with the mark that its words say; where there is no tree, the root's arm has weight 0
  abbrev pub HoldsTree : Option SlotMain → Type 0
  HoldsTree none = (arm_at xs root_place).weight ≡ 0
  HoldsTree (some t) = (arm_at xs root_place ≡ arm_of along_x (slot_mark xs) t) × TwoFold (slot_mark xs) (capacity_of xs) 0 xs t

  abbrev pub TreeByRules : Option SlotMain → Type 0
  TreeByRules none = Unit {0}
  TreeByRules (some t) = ByRules (slot_mark xs) t

  -- every slot once in `used`, and those of the tree are the first live ones: "every other record .. is free, each once"
  pub record EachOnce (o : Option SlotMain) : Type 0 where
    pub used : (i : ℕ) → i < capacity_of xs → (used_at i < capacity_of xs) × (place_at (used_at i) ≡ i)
    pub place : (s : ℕ) → s < capacity_of xs → (place_at s < capacity_of xs) × (used_at (place_at s) ≡ s)
    pub live : (s : ℕ) → s < capacity_of xs → times_in s (marks_of o) ≡ indicator (ltb (place_at s) (live_of xs))

  -- the table is sound and holds the main tree T over marks
  pub record Holding (T : Main) : Type 0 where
    pub is_open : get_or xs open_place 0 ≡ 1
    pub capacity : capacity_outside (capacity_of xs) ≡ false
    pub long : length xs ≡ W (capacity_of xs)
    pub slots : Option SlotMain
    pub stands : marks_main (slot_mark xs) slots ≡ T
    pub holds : HoldsTree slots
    pub rules : TreeByRules slots
    pub coordinates : All (λ m. mark_outside m ≡ false) (marks_of T)
    pub grades : All (λ m. grade_outside m ≡ false) (marks_of T)
    pub live : live_of xs ≡ length (marks_of T)
    pub free : EachOnce slots

  pub record SoundTable : Type 0 where
    pub tree : Main
    pub holding : Holding tree
