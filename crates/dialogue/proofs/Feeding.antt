-- Bytes fed one after the other, as loops over chunks feed them, and their responses gathered one behind the other. Assumes nothing.
use Prim.Native.Nat.{ℕ, ◌+◌, ◌-◌, ◌<◌}
use mathlib.Core.Path.{◌∙◌}
use mathlib.Core.List.{List, [], ◌++◌, append-nil, append_assoc}
use native.Mathlib.Omega.{arith}
use native.Mathlib.Numerals.{add-one}
use lib.ListN.{length, get_or, take, drop, length-drop}
use lib.Seq.{take_all, take-suc, take-add}
use Rattle.dialogue.specs.Dialogue as model
use Rattle.dialogue.specs.Dialogue.{Fed, FedAll, none, then, FedThrough, Batched}
use Rattle.dialogue.specs.Values.{Keeps}
use Rattle.dialogue.specs.declared.dialogue.Dialogue.{Dialogue}

-- chunks one after the other are one input
pub fed-both : {s t u : model.Dialogue} {bs cs text more : List ℕ} → FedAll s bs t text → FedAll t cs u more → FedAll s (bs ++ cs) u (text ++ more)
fed-both none h = h
fed-both {more = more} (then {text = first} {more = others} g r) h = rw (append_assoc first others more) (then g (fed-both r h))

-- the byte at a place, after those before it
pub fed-next : {s t u : model.Dialogue} {text more : List ℕ} (chunk : List ℕ) (i : ℕ) → i < length chunk → FedAll s (take i chunk) t text
    → Fed (get_or chunk i 0) t u more → FedAll s (take (i + 1) chunk) u (text ++ more)
fed-next {more = more} chunk i h g f = rw (add-one i, take-suc chunk i 0 h) (rw (append-nil more) at (fed-both g (then f none)))

-- the lent runs stay the same from turn to turn
pub keeps-on : {d e f : Dialogue} → Keeps d e → Keeps e f → Keeps d f
keeps-on k l = record {
  table = l.table ∙ k.table;
  first = l.first ∙ k.first;
  second = l.second ∙ k.second;
  line = l.line ∙ k.line;
  out = l.out ∙ k.out;
  table_length = l.table_length ∙ k.table_length;
  first_length = l.first_length ∙ k.first_length;
  second_length = l.second_length ∙ k.second_length;
  out_length = l.out_length ∙ k.out_length;
}

-- a chunk, batch after batch
pub fed-none : (s : model.Dialogue) → FedThrough s [] s
fed-none s = record { text = []; fed = none }

pub fed-on : {s t u : model.Dialogue} {out : List ℕ} {bytes : ℕ} (chunk : List ℕ) (at used : ℕ) → FedThrough s (take at chunk) t
    → Batched t (take (length chunk - at) (drop at chunk)) used u out bytes → FedThrough s (take (at + used) chunk) u
fed-on {out = out} {bytes = bytes} chunk at used g b =
    let rest = take_all (length chunk - at) (drop at chunk) (omega (arith, length-drop at chunk)) in
    record { text = g.text ++ take bytes out; fed = rw (take-add at used chunk) (fed-both g.fed (rw rest at b.fed)) }
