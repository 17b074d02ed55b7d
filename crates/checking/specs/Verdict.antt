-- What the check of a table says of any words: "The check call passes a table exactly when .. its words hold a tree by the rules above, .. otherwise 3 or 4",
-- and gives the live marks (document 01, "Where each call may stop"). Assumes nothing.
use Rattle.std.specs.Prelude.{ℕ, List, Result, Ok, Err, length}
use Rattle.model.specs.Tree.{marks_of}
use Rattle.model.specs.Sheet.{Main}
use Rattle.table.specs.declared.damage.Damaged.{Damaged}
use Rattle.twofold_layout.specs.Sound.{Holding, SoundTable}

abbrev pub damage : Result ℕ Damaged
damage = Err (record {})

pub data Verdict (xs : List ℕ) : Result ℕ Damaged → Type 0 where
  sound : {T : Main} → Holding xs T → Verdict xs (Ok (length (marks_of T)))
  unsound : (SoundTable xs → ⊥) → Verdict xs damage
