-- Marks in lists: their words. Assumes nothing.
use Rattle.std.proofs.Common.{◌≡◌, ◌*◌, List, [], ◌∷◌, ◌++◌, length, refl, arith}
use Rattle.model.specs.Sheet.{Mark}
use Rattle.table.specs.Marks.{mark_words}

pub mark_words-append : (l r : List Mark) → mark_words (l ++ r) ≡ mark_words l ++ mark_words r
mark_words-append [] r = refl
mark_words-append (m ∷ l) r = rw (mark_words-append l r)

pub mark_words-length : (l : List Mark) → length (mark_words l) ≡ 4 * length l
mark_words-length [] = refl
mark_words-length (m ∷ l) = omega (arith, mark_words-length l)
