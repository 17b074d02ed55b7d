-- Text written behind other text in lent bytes; what finds no room is left out. Assumes nothing.
use Rattle.std.specs.Prelude.{ℕ, ◌+◌, ◌-◌, ◌^◌, ◌<◌, ◌≡◌, List, length, take, min}
use Rattle.std.proofs.lemmas.List.Edits.{sets}
use Rattle.lines.specs.declared.response.Responses.{Responses}

-- the text that stands in the bytes
abbrev pub text_in : Responses → List ℕ
text_in r = take r.len r.bytes.now

-- the text bs was written from the place `len` on: what the same bytes became, and the place behind it, past their end too, as far as a word of 64 bits counts
pub record Wrote (bs : List ℕ) (before after : Responses) : Type 0 where
  pub bytes : after.bytes.now ≡ sets before.bytes.now before.len bs
  pub len : after.len ≡ min (before.len + length bs) (2 ^ 64 - 1)
  pub size : length before.bytes.now < 2 ^ 64
  pub room : length after.bytes.now ≡ length before.bytes.now
  pub same : after.bytes.ghost_name ≡ before.bytes.ghost_name
