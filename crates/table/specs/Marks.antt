-- Marks in words: x, y, tag, grade. Where the four words are not all there, the mark reads as zeros and nothing is written. Assumes nothing.
use Rattle.std.specs.Prelude.{ℕ, zero, suc, ◌+◌, List, [], ◌∷◌, length, nat_le, slice_index, if◌then◌else◌}
use Rattle.std.proofs.lemmas.List.Edits.{sets}
use Rattle.model.specs.Sheet.{Mark, mark}
use Rattle.table.specs.Layout.{slot_place, list_place}

unfoldable pub mark_at : List ℕ → ℕ → Mark
mark_at xs at =
    if nat_le (at + 4) (length xs) then mark (slice_index xs at) (slice_index xs (at + 1)) (slice_index xs (at + 2)) (slice_index xs (at + 3))
    else mark 0 0 0 0

unfoldable pub slot_mark : List ℕ → ℕ → Mark
slot_mark xs s = mark_at xs (slot_place s)

unfoldable pub put_mark : List ℕ → ℕ → Mark → List ℕ
put_mark xs at m = if nat_le (at + 4) (length xs) then sets xs at (m.x ∷ m.y ∷ m.tag ∷ m.grade ∷ []) else xs

-- the mark k of a list, and n marks of it from the mark k on
unfoldable pub list_mark : List ℕ → ℕ → Mark
list_mark xs k = mark_at xs (list_place k)

abbrev pub list_marks : List ℕ → ℕ → ℕ → List Mark
list_marks xs k zero = []
list_marks xs k (suc n) = list_mark xs k ∷ list_marks xs (suc k) n

-- the words of marks in a list
abbrev pub mark_words : List Mark → List ℕ
mark_words [] = []
mark_words (m ∷ l) = m.x ∷ m.y ∷ m.tag ∷ m.grade ∷ mark_words l
