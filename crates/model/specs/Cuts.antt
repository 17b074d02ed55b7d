-- Panes that share a cut (request R-2): a box cut in two by a line, a box laid out with panes, and when what three counts give adds up. Assumes nothing.
use Rattle.std.specs.Prelude.{ℕ, ◌+◌, max, ◌≤◌, ◌≡◌, List}
use Rattle.model.specs.Lists.{indicator, count_if}
use Rattle.model.specs.Sheet.{Mark, Box, box, holds}
use Rattle.model.specs.History.{Answer}

-- "where a line between two sides of a box, or on one of them, cuts it in two": the box, the part before the line at c, and the part on its far side, to which
-- the marks on the line belong
pub data Cut (b : Box) : Box → Box → Type 0 where
  across_x : (c : ℕ) → b.x1 ≤ c → c ≤ b.x2 → Cut b (box b.x1 c b.y1 b.y2) (box c b.x2 b.y1 b.y2)
  across_y : (c : ℕ) → b.y1 ≤ c → c ≤ b.y2 → Cut b (box b.x1 b.x2 b.y1 c) (box b.x1 b.x2 c b.y2)

-- "Planners lay panes edge to edge": panes that share no place and leave none of a box out, however they are laid. A place in the box is in exactly one of
-- them, any other in none.
abbrev pub Tiles : Box → List Box → Type 0
Tiles b ps = (m : Mark) → count_if (λ p. holds p m) ps ≡ indicator (holds b m)

-- "count and sum of the whole are the totals of both parts", and the worst is the greater; the parts are accepted exactly where the whole is, and refused by
-- its number
pub record AddsUp (near far whole : Answer) : Type 0 where
  pub near_number : near.number ≡ whole.number
  pub far_number : far.number ≡ whole.number
  pub k : whole.k ≡ near.k + far.k
  pub sum : whole.sum ≡ near.sum + far.sum
  pub worst : whole.worst ≡ max near.worst far.worst
