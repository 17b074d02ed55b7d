-- What marks come to under an operation: their number, the sum of their grades, the worst grade (request R-1; 000's closing remark allows any associative,
-- commutative operation). Assumes nothing.
use Rattle.std.specs.Prelude.{ℕ, ◌+◌, Bool, List, [], ◌∷◌, if◌then◌else◌}

-- the figure of one mark, and how two figures are joined; where there is no mark the figure is 0
pub record Operation (M : Type 0) : Type 0 where
  pub of : M → ℕ
  pub join : ℕ → ℕ → ℕ

-- figures of a list's marks, joined
abbrev pub total : {M : Type 0} → (ℕ → ℕ → ℕ) → (M → ℕ) → List M → ℕ
total join f [] = 0
total join f (m ∷ l) = join (f m) (total join f l)

module _ {M : Type 0} (P : Operation M) where
  -- what a mark comes to if it passes a test
  abbrev pub figure_if : (M → Bool) → M → ℕ
  figure_if p m = if p m then P.of m else 0

  -- what the marks that pass a test come to
  abbrev pub total_if : (M → Bool) → List M → ℕ
  total_if p l = total P.join (figure_if p) l

-- how many they are
abbrev pub counting : {M : Type 0} → Operation M
counting = record { of = λ m. 1; join = ◌+◌ }
