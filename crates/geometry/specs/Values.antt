-- What the crate's values mean: the model's axes, marks, boxes and keys, and document 01's number for each case of an answer. Assumes nothing.
use Rattle.std.specs.Prelude.{ℕ, ◌+◌, ◌*◌, Bool, ◌&&◌, ◌||◌, [], ◌∷◌, ltb, eqb, Result, Ok, Err}
use Rattle.model.specs.Axis.{Axis, lexicographic}
use Rattle.model.specs.Sheet
use Rattle.model.specs.Refusals.{Outcome, accepted, refused}
use Rattle.geometry.specs.declared.Mark.{Mark}
use Rattle.geometry.specs.declared.Box.{Box}
use Rattle.geometry.specs.declared.Key.{Key}
use Rattle.geometry.specs.declared.MarkError.{MarkError}
use Rattle.geometry.specs.declared.MarkError.TheVariants.{Outside, Ungraded}
use Rattle.geometry.specs.declared.Crossed.{Crossed}

-- the model's axis of the sheet's marks and boxes
abbrev pub SheetAxis : Type 0
SheetAxis = Axis Sheet.Mark Sheet.Box

abbrev pub mark_value : Mark → Sheet.Mark
mark_value m = record { x = m.x; y = m.y; tag = m.tag; grade = m.grade }

abbrev pub box_value : Box → Sheet.Box
box_value b = record { x1 = b.x1; x2 = b.x2; y1 = b.y1; y2 = b.y2 }

-- the key of each of the two orders, and the order of keys
abbrev pub key_x : Mark → Key
key_x m = record { major = m.x; minor = m.y; tag = m.tag }

abbrev pub key_y : Mark → Key
key_y m = record { major = m.y; minor = m.x; tag = m.tag }

unfoldable pub key_below : Key → Key → Bool
key_below = lexicographic ((λ k. k.major) ∷ (λ k. k.minor) ∷ (λ k. k.tag) ∷ [])

-- "Compare x × 4,294,967,296 + y, a 64-bit number, in its stead, then the tag, and likewise y × 4,294,967,296 + x" (R-5)
abbrev pub place : Key → ℕ
place k = k.major * 4294967296 + k.minor

abbrev pub place_below : Key → Key → Bool
place_below a b = ltb (place a) (place b) || (eqb (place a) (place b) && ltb a.tag b.tag)

-- "insert, strike: the mark: 5"; "12, grade outside 1 to 100" (R-1)
abbrev pub mark_outcome : Result Mark MarkError → Outcome Sheet.Mark
mark_outcome (Ok m) = accepted (mark_value m)
mark_outcome (Err Outside) = refused 5
mark_outcome (Err Ungraded) = refused 12

-- "count, list: the box: 6"
abbrev pub box_outcome : Result Box Crossed → Outcome Sheet.Box
box_outcome (Ok b) = accepted (box_value b)
box_outcome (Err _) = refused 6
