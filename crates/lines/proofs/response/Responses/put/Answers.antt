-- `put` meets its contract. Assumes nothing.
use Prim.Native.Nat.{◌+◌, ◌-◌}
use mathlib.Core.Path.{◌≡◌, refl, sym}
use native.Mathlib.Omega.{arith}
use borrow.Author.Rules.{rules}
use Rattle.lines.proofs.Writing.{sets-fitting, sets-full}
use Rattle.lines.proofs.response.Responses.put.Goals as goal

pub returns-then-fits-gt0 : goal.returns-then-fits-gt0
returns-then-fits-gt0 c =
    let self = c.args.self.now in
    let f = c.min-fits.result in
    let fits : self.len + f - self.len ≡ f = omega arith in
    let whole = sets-fitting self.bytes.now c.args.text.now self.len f (omega (arith, c.min-fits.ensures, c.room.ensures, c.if-fits-gt0.true))
    (omega (arith, c.min-fits.ensures, c.room.ensures)) in
    record {
      bytes = rw (fits, c.copy_from_slice.ensures.after) (sym whole);
      len = c.saturating_add-self.ensures;
      size = omega arith;
      room = search rules;
      same = refl;
    }

pub returns-else-fits-gt0 : goal.returns-else-fits-gt0
returns-else-fits-gt0 c =
    let self = c.args.self.now in
    record {
      bytes = sym (sets-full self.bytes.now c.args.text.now self.len (omega (arith, c.min-fits.ensures, c.room.ensures, c.if-fits-gt0.false)));
      len = c.saturating_add-self.ensures;
      size = omega arith;
      room = refl;
      same = refl;
    }
