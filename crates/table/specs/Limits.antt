-- What no walk in a sound table comes to, what ends one in any other, and what is given then (src/limits.rt). Assumes nothing.
use Rattle.std.specs.Prelude.{ℕ}

-- more levels than any tree of 65,536 marks has, D(65,536) = 38, with the one that an insertion may add
abbrev pub deepest : ℕ
deepest = 40

-- more levels than a tree of three marks has: in a balanced tree the sibling of a leaf has no more marks
abbrev pub sibling_deepest : ℕ
sibling_deepest = 3

-- (4 D + 1) (2 D + 1) at D(65,536) = 38 (document 01, "The search and its visits", for the largest capacity)
abbrev pub most_visits : ℕ
most_visits = 11781

-- what the mirrors give in place of an update's figure where the words hold no tree: past every word, so that no figure is taken for it
abbrev pub damaged : ℕ
damaged = 4294967296

-- no slot of any table: none is left out
abbrev pub no_slot : ℕ
no_slot = 4294967295

-- the tally of a listing that met damage: more visits than any budget, and so many that a few visits more leave it so
abbrev pub lost : ℕ
lost = 2147483648

-- the tally of a count that met damage: 2^15 visits, more than the most
abbrev pub lost_count : ℕ
lost_count = 70368744177664
