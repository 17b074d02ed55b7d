-- What a function that writes leaves: its answer, and the words. Assumes nothing.
use Rattle.std.specs.Prelude.{ℕ, List}

pub record After (A : Type 0) : Type 0 where
  pub out : A
  pub words : List ℕ

abbrev pub after : {A : Type 0} → A → List ℕ → After A
after a ws = record { out = a; words = ws }
