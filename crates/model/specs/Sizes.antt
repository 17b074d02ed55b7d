-- D(n) and W(C) (document 01, "Marks, boxes, tables"), and the passes of the list's sorting ("The list"). Assumes nothing.
use Rattle.std.specs.Prelude.{ℕ, zero, suc, ◌+◌, ◌*◌, ◌^◌, Bool, ◌||◌, leb, ltb, eqb, if◌then◌else◌}

-- up from d as long as the next passes the test, at most `steps` times
unfoldable pub rise_d : ℕ → ℕ → ℕ → ℕ
rise_d zero d n = d
rise_d (suc steps) d n = let higher = rise_d steps (suc d) n in if leb (4 ^ suc d) (3 ^ suc d * n) then higher else d

-- "D(n) is the largest D with 4^D ≤ 3^D × n; D(0) = 0." No D above 3n passes (proofs/Sizes).
unfoldable pub D : ℕ → ℕ
D n = rise_d (3 * n) 0 n

-- "W(C) becomes 64 + C × (40 + 24 × D(C))" (R-1)
unfoldable pub W : ℕ → ℕ
W c = 64 + c * (40 + 24 * D c)

-- "a capacity C of 1 to 65,536 marks": the largest, and whether C is outside
abbrev pub largest_capacity : ℕ
largest_capacity = 65536

unfoldable pub capacity_outside : ℕ → Bool
capacity_outside c = eqb c 0 || ltb largest_capacity c

-- up from p until 2^p reaches k, at most `steps` times
unfoldable pub rise_passes : ℕ → ℕ → ℕ → ℕ
rise_passes zero p k = p
rise_passes (suc steps) p k = let higher = rise_passes steps (suc p) k in if leb k (2 ^ p) then p else higher

-- "There are p passes, p the least with 2^p ≥ k (0 for k = 0 or 1)". 2^k reaches k (proofs/Sizes).
unfoldable pub passes : ℕ → ℕ
passes k = rise_passes k 0 k
