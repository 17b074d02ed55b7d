-- The lesser and the greater of two words. Assumes nothing.
use Rattle.std.specs.Prelude.{ℕ, min, max}

abbrev pub lesser : ℕ → ℕ → ℕ
lesser a b = min a b

abbrev pub greater : ℕ → ℕ → ℕ
greater a b = max a b
