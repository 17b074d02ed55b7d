-- `put_number` meets its contract. Assumes nothing.
use Prim.Native.Nat.{◌-◌}
use mathlib.Core.Path.{◌≡◌}
use native.Mathlib.Omega.{arith}
use lib.ListN.{length}
use lib.Seq.{take_at}
use borrow.Author.Rules.{rules}
use Rattle.std.specs.Fmt.{decimal}
use Rattle.std.proofs.lemmas.Fmt.{length-decimal-le}
use Rattle.lines.proofs.Digits.{digits-decimal}
use Rattle.lines.proofs.response.Responses.put_number.Goals as goal

pub write_digits-start-requires : goal.write_digits-start-requires
write_digits-start-requires c = search (rules, length-decimal-le 10)

pub returns : goal.returns
returns c =
    let w = c.write_digits-start in
    let long : length (decimal c.args.n) ≡ 10 - w.result = omega (arith, rw c.from.ensures at w.ensures.start) in
    rw (digits-decimal c.args.n (omega arith))
    (rw (w.ensures.written, c.from.ensures, take_at (decimal c.args.n) _ (10 - w.result) long) at c.put.ensures)
