-- The search for a mark by the words of a table, whether they hold a tree or not: "at an inner node go left if the mark is below the right child's least,
-- else right" (document 01, "The tree"). The number 2 s is the leaf of slot s, 2 s + 1 the inner node named s (docs/LAYOUT.md). Assumes nothing.
use Rattle.std.specs.Prelude.{ℕ, ◌+◌, ◌*◌, ◌<◌, ◌≡◌, ◌≢◌, true, false, List}
use Rattle.model.specs.Sheet.{Mark, same, below_x}
use Rattle.table.specs.Layout.{main_place, root_place}
use Rattle.table.specs.Marks.{slot_mark}
use Rattle.nodes.specs.Arms.{arm_at, record_at}
use Rattle.table.specs.Header.{capacity_of}

module _ (xs : List ℕ) (m : Mark) where
  -- the way from a node leads to the leaf of a slot; every slot on it is one of the table's
  pub data Leads : ℕ → ℕ → Type 0 where
    leaf : {s : ℕ} → s < capacity_of xs → Leads (2 * s) s
    left : {s slot : ℕ} → s < capacity_of xs → below_x m (slot_mark xs s) ≡ true → Leads (record_at xs (main_place s)).left.node slot
        → Leads (2 * s + 1) slot
    right : {s slot : ℕ} → s < capacity_of xs → below_x m (slot_mark xs s) ≡ false → Leads (record_at xs (main_place s)).right.node slot
        → Leads (2 * s + 1) slot

  -- from the root to the slot that has the mark
  pub record Finds (s : ℕ) : Type 0 where
    pub some : (arm_at xs root_place).weight ≢ 0
    pub leads : Leads (arm_at xs root_place).node s
    pub has : same m (slot_mark xs s) ≡ true

  -- there is no tree, or the way ends at a slot that has another mark
  pub data Lacks : Type 0 where
    none : (arm_at xs root_place).weight ≡ 0 → Lacks
    other : {s : ℕ} → (arm_at xs root_place).weight ≢ 0 → Leads (arm_at xs root_place).node s → same m (slot_mark xs s) ≡ false → Lacks
