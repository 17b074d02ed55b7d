-- The tests and the collection are the mirror's, one after the other.
use mathlib.Core.Path.{◌≡◌, refl, ◌∙◌}
use mathlib.Core.Bool.{Bool}
use lib.Dec.{eqb}
use Prim.Native.Nat.{ℕ}
use Rattle.std.specs.Prelude.{Result, Ok, Err}
use Rattle.std.specs.Result.{result_eq}
use Rattle.table.specs.declared.damage.Damaged.{Damaged}
use borrow.Author.Tests.{eq-eqb, le-ltb, lt-ltb, ne_eqb}
use Rattle.nodes.specs.Collect.{is_many, gathered, gather♯}
use Rattle.nodes.proofs.arm.Node.gather.Goals as goal
use Rattle.nodes.proofs.arm.Node.gather.Goals.{
  then-capacity-weight-via-then-capacity-weight,
  then-capacity-weight-via-else-capacity-weight+then-capacity-many,
  then-capacity-weight-via-else-capacity-weight+else-capacity-many+then-many-eq0,
}

equal-many : (e : Damaged → Damaged → Bool) (k : ℕ) (r : Result ℕ Damaged) → result_eq eqb e r (Ok k) ≡ is_many k r
equal-many e k (Ok n) = refl
equal-many e k (Err d) = refl

pub returns-then-capacity-weight-clause-is : goal.returns-then-capacity-weight-clause-is
unfolding gather♯
returns-then-capacity-weight-clause-is g c =
    rw (← c.capacity-capacity.ensures) (elim c.then-capacity-weight.branch [
      | then-capacity-weight-via-then-capacity-weight w ↦ rw (lt-ltb _ _ w.if-capacity-weight.true)
      | then-capacity-weight-via-else-capacity-weight+then-capacity-many w ↦
          rw (le-ltb _ _ w.if-capacity-weight.false, lt-ltb _ _ w.if-capacity-many.true)
      | then-capacity-weight-via-else-capacity-weight+else-capacity-many+then-many-eq0 w ↦
          rw (le-ltb _ _ w.if-capacity-weight.false, le-ltb _ _ w.if-capacity-many.false, eq-eqb _ _ w.if-many-eq0.true)
    ])

pub returns-clause-is : goal.returns-clause-is
unfolding gather♯ gathered
returns-clause-is g c =
    let many = c.eq.ensures ∙ equal-many _ c.args.many c.collect-got.result in
    rw (
      ← c.capacity-capacity.ensures,
      le-ltb _ _ c.if-capacity-weight.false,
      le-ltb _ _ c.if-capacity-many.false,
      ne_eqb _ _ c.if-many-eq0.false,
      c.capacity-capacity.ensures,
      ← c.collect-got.ensures,
      many,
    )
