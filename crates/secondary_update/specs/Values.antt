-- What the code's answers mean. Assumes nothing.
use Rattle.std.specs.Prelude.{ℕ, ◌≡◌, ◌<◌, List, Result, Ok, Err}
use Rattle.table.specs.After.{After, after}
use Rattle.table.specs.declared.damage.Damaged.{Damaged}
use Rattle.nodes.specs.Values.{arm_value}
use Rattle.secondary_update.specs.Updates.{Strike, strike, no_strike}
use Rattle.secondary_update.specs.Strike.{Writing}
use Rattle.secondary_update.specs.declared.walk.Struck.{Struck}

module _ {T : Type 0} where
  abbrev pub struck_value : Struck T → Strike
  struck_value u = strike (arm_value u.arm) u.rebuilt u.first

  -- a strike that met damage leaves no tree
  abbrev pub strike_outcome : Result (Struck T) Damaged → Strike
  strike_outcome (Ok u) = struck_value u
  strike_outcome (Err _) = no_strike

  -- an answer and the words that it leaves, by what the mirror gives: no tree left is damage
  abbrev pub StrikeLeaves : Result (Struck T) Damaged → List ℕ → After Strike → Type 0
  StrikeLeaves (Ok u) words p = (after (struck_value u) words ≡ p) × (0 < u.arm.weight)
  StrikeLeaves (Err _) words p = (words ≡ p.words) × (p.out.arm.weight ≡ 0)

-- a node is written where what it has beside its children is not damaged
abbrev pub written_if : {B : Type 0} → (B → Writing) → Result B Damaged → Writing
written_if writing (Ok b) = writing b
written_if writing (Err _) = λ name l r rebuilt first xs. after no_strike xs
