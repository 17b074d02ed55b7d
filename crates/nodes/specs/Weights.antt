-- Weights of nodes: their sums, and the balance of a node over two trees. Assumes nothing.
use Rattle.std.specs.Prelude.{ℕ, ◌+◌, ◌*◌, ◌%◌, Bool, false, ◌&&◌, leb, ltb, if◌then◌else◌}

-- the sum of two weights, which are far below 2^32
unfoldable pub sum : ℕ → ℕ → ℕ
sum l r = (l + r) % 4294967296

-- a child of weight w has a quarter of its node's weight or more
abbrev pub is_heavy : ℕ → ℕ → Bool
is_heavy w sibling = leb (w + sibling) (4 * w)

-- the weights of two children are balanced
abbrev pub balanced : ℕ → ℕ → Bool
balanced l r = leb (l + r) (4 * l) && leb (l + r) (4 * r)

-- where a balanced node is to be mended: it is not balanced with one mark more in the child of weight w, whose sibling can only become too light
unfoldable pub unbalances : Bool → ℕ → ℕ → Bool
unbalances mends w sibling = if mends then ltb (4 * sibling) (sibling + w + 1) else false
