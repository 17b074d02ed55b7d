-- The mirrors of a count in a tree of either kind, in words of the table: those of Rattle.nodes.specs.Count where a tally is one number. Assumes nothing.
use Rattle.std.specs.Prelude.{ℕ, List}
use Rattle.model.specs.Sheet.{Box}
use Rattle.geometry.specs.Values.{SheetAxis}
use Rattle.table.specs.Limits.{lost_count}
use Rattle.table.specs.Figures.{arrived}
use Rattle.nodes.specs.Arms.{Arm}
use Rattle.nodes.specs.Count.{Kind, side_along, open_from, count_tree}
use Rattle.secondary_search.specs.End.{End, to_end, meet_end}

-- What a kind of tree has of its own: where the record of a name stands in the level that begins at a word; where the next level begins in a table of a
-- capacity; and what the arrival at a tree of a level, inside the box's side, makes of a tally.
pub record How : Type 0 where
  pub place : ℕ → ℕ → ℕ
  pub deeper : ℕ → ℕ → ℕ
  pub take : ℕ → List ℕ → Box → ℕ → Arm → ℕ → ℕ

abbrev pub kind : How → ℕ → List ℕ → Box → Kind ℕ
kind W C xs b = record {
  place = W.place;
  deeper = W.deeper C;
  take = W.take C xs b;
  before = λ a tally. arrived tally 0 0;
  past = λ tally. arrived tally 0 0;
  visit = λ tally. arrived tally 0 0;
  lost = lost_count;
}

module _ (W : How) (A : SheetAxis) (C : ℕ) (xs : List ℕ) (b : Box) where
  -- toward an end of the side, with so many levels to go, from a node's number and a tally
  abbrev pub to_end♯ : End → ℕ → ℕ → ℕ → ℕ → ℕ
  to_end♯ e f base n tally = to_end e (kind W C xs b) (side_along A b) C xs f base n tally

  abbrev pub meet_end♯ : End → ℕ → Arm → ℕ → ℕ
  meet_end♯ e base a tally = meet_end e (kind W C xs b) (side_along A b) C xs base a tally

  abbrev pub opened♯ : ℕ → ℕ → ℕ → ℕ → ℕ
  opened♯ f base n tally = open_from (kind W C xs b) (side_along A b) C xs f base n tally

  abbrev pub count_tree♯ : ℕ → Arm → ℕ → ℕ
  count_tree♯ base a tally = count_tree (kind W C xs b) (side_along A b) C xs base a tally
