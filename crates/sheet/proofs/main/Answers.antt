-- `main` meets what it calls: the open of the whole array is accepted. Assumes nothing.
use Prim.Native.Nat.{ℕ}
use mathlib.Core.Path.{ap, ◌∙◌}
use native.Mathlib.Omega.{arith}
use lib.ListN.{length, replicate, length-replicate}
use Rattle.register.specs.Answers.{open_answer}
use Rattle.dialogue.specs.Program.{table_words}
use Rattle.dialogue.proofs.Printing.{open-ok, open-begins}
use Rattle.sheet.proofs.main.Goals as goal

pub unwrap-requires : goal.unwrap-requires
unwrap-requires c =
    open-ok (replicate {A = ℕ} table_words 0) c.«open».new.table c.«open».result (length-replicate {A = ℕ} table_words 0) c.«open».ensures

pub run-requires : goal.run-requires
run-requires c =
    let call = c.«open» in
    let table = open-begins (replicate {A = ℕ} table_words 0) call.new.table (open_answer call.result)
    (length-replicate {A = ℕ} table_words 0) call.ensures in
    let holds = c.new-dialogue.ensures.holds in
    let words = ap (λ d. d.lent.table) holds in
    record {
      capacity = rw words table.0;
      empty = rw words table.1;
      first_words = ap (λ d. length d.lent.first) holds;
      second_words = ap (λ d. length d.lent.second) holds;
      line_bytes = omega (arith, ap (λ d. length d.line) holds, ap length c.new.ensures.bytes.1, length-replicate {A = ℕ} 48 0);
      no_line = ap (λ d. d.len) holds ∙ c.new.ensures.none;
    }
