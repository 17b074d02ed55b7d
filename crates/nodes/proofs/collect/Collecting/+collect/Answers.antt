use Prim.Native.Nat.{◌+◌, ◌-◌}
use Rattle.std.proofs.lemmas.Result.{err_from_is_err_and}
use mathlib.Core.Path.{◌≡◌, sym}
use native.Mathlib.Omega.{arith}
use borrow.Author.Tests.{eq-eqb, le-leb, lt-leb, ne_eqb}
use Rattle.nodes.specs.Collect.{collect_both, collect_inner, collect_at, collect♯-zero}
use Rattle.nodes.proofs.Turns.{collect-turn, collect-left, collect-left-leaf, collect-spent}
use Rattle.nodes.proofs.collect.Collecting.+collect.Goals as goal
use Rattle.nodes.proofs.collect.Collecting.+collect.Goals.{then-part-eq0-via-then-part-eq0, then-part-eq0-via-else-part-eq0+then-rest-part}
use Rattle.nodes.proofs.collect.Collecting.+collect.Goals.{then-is_leaf-2+else-left-eq0+in_ok-got, else-is_leaf-2+in_ok-got-2}

pub returns-then-capacity-got : goal.returns-then-capacity-got
unfolding collect_at
returns-then-capacity-got g t c = rw (
  ← c.loop-turn.invariant.1,
  collect-turn _ _ c.loop-turn-test.true,
  ← c.capacity-capacity.ensures,
  le-leb _ _ c.if-capacity-got.true,
)

pub returns-then-is_leaf : goal.returns-then-is_leaf
unfolding collect_at
returns-then-is_leaf g t c = rw (
  ← c.loop-turn.invariant.1,
  collect-turn _ _ c.loop-turn-test.true,
  ← c.capacity-capacity.ensures,
  lt-leb _ _ c.if-capacity-got.false,
  ← c.is_leaf.ensures,
  ← c.slot-name.ensures,
  c.if-is_leaf.true,
  c.capacity-capacity.ensures,
  ← c.take.ensures,
)

pub returns-then-capacity-name : goal.returns-then-capacity-name
unfolding collect_at collect_inner
returns-then-capacity-name g t c = rw (
  ← c.loop-turn.invariant.1,
  collect-turn _ _ c.loop-turn-test.true,
  ← c.capacity-capacity.ensures,
  lt-leb _ _ c.if-capacity-got.false,
  ← c.is_leaf.ensures,
  ← c.slot-name.ensures,
  c.if-is_leaf.false,
  le-leb _ _ c.if-capacity-name.true,
)

pub returns-then-part-eq0 : goal.returns-then-part-eq0
unfolding collect_at collect_inner collect_both
returns-then-part-eq0 g t c = elim c.then-part-eq0.branch [
  | then-part-eq0-via-then-part-eq0 w ↦ rw (
    ← c.loop-turn.invariant.1,
    collect-turn _ _ c.loop-turn-test.true,
    ← c.capacity-capacity.ensures,
    lt-leb _ _ c.if-capacity-got.false,
    ← c.is_leaf.ensures,
    ← c.slot-name.ensures,
    c.if-is_leaf.false,
    lt-leb _ _ c.if-capacity-name.false,
    ← c.load-p.ensures,
    eq-eqb _ _ w.if-part-eq0.true,
  )
  | then-part-eq0-via-else-part-eq0+then-rest-part w ↦ rw (
    ← c.loop-turn.invariant.1,
    collect-turn _ _ c.loop-turn-test.true,
    ← c.capacity-capacity.ensures,
    lt-leb _ _ c.if-capacity-got.false,
    ← c.is_leaf.ensures,
    ← c.slot-name.ensures,
    c.if-is_leaf.false,
    lt-leb _ _ c.if-capacity-name.false,
    ← c.load-p.ensures,
    ne_eqb _ _ w.if-part-eq0.false,
    le-leb _ _ w.if-rest-part.true,
  )
]

pub returns-then-left-eq0 : goal.returns-then-left-eq0
unfolding collect_at collect_inner collect_both
returns-then-left-eq0 g t c = rw (
  ← c.loop-turn.invariant.1,
  collect-turn _ _ c.loop-turn-test.true,
  ← c.capacity-capacity.ensures,
  lt-leb _ _ c.if-capacity-got.false,
  ← c.is_leaf.ensures,
  ← c.slot-name.ensures,
  c.if-is_leaf.false,
  lt-leb _ _ c.if-capacity-name.false,
  ← c.load-p.ensures,
  ne_eqb _ _ c.if-part-eq0.false,
  lt-leb _ _ c.if-rest-part.false,
  collect-spent _ _ _ _ _ _ _ _ c.if-left-eq0.true,
)

pub returns-in_err-got : goal.returns-in_err-got
unfolding collect_at collect_inner collect_both
returns-in_err-got g t c =
    let p = err_from_is_err_and c.from_residual.result c.from_residual.ensures.1 in
    rw (
      ← c.loop-turn.invariant.1,
      collect-turn _ _ c.loop-turn-test.true,
      ← c.capacity-capacity.ensures,
      lt-leb _ _ c.if-capacity-got.false,
      ← c.is_leaf.ensures,
      ← c.slot-name.ensures,
      c.if-is_leaf.false,
      lt-leb _ _ c.if-capacity-name.false,
      ← c.load-p.ensures,
      ne_eqb _ _ c.if-part-eq0.false,
      lt-leb _ _ c.if-rest-part.false,
      collect-left-leaf _ _ _ _ _ _ _ _ c.if-left-eq0.false c.if-capacity-got.false (sym c.if-is_leaf-2.ensures),
      ← c.slot.ensures,
      c.capacity-capacity.ensures,
      ← c.in_err-got.ensures,
      p.1,
    )

pub returns-in_err-got-2 : goal.returns-in_err-got-2
unfolding collect_at collect_inner collect_both
returns-in_err-got-2 g t c =
    let p = err_from_is_err_and c.from_residual-in_err-got-2.result c.from_residual-in_err-got-2.ensures.1 in
    rw (
      ← c.loop-turn.invariant.1,
      collect-turn _ _ c.loop-turn-test.true,
      ← c.capacity-capacity.ensures,
      lt-leb _ _ c.if-capacity-got.false,
      ← c.is_leaf.ensures,
      ← c.slot-name.ensures,
      c.if-is_leaf.false,
      lt-leb _ _ c.if-capacity-name.false,
      ← c.load-p.ensures,
      ne_eqb _ _ c.if-part-eq0.false,
      lt-leb _ _ c.if-rest-part.false,
      collect-left _ _ _ _ _ _ _ _,
      c.capacity-capacity.ensures,
      ← c.in_err-got-2.ensures,
      p.1,
    )

pub loop-turn-preserved : goal.loop-turn-preserved
unfolding collect_at collect_inner collect_both
loop-turn-preserved g t c =
    let next : c.args.fuel - (c.loop-turn.turn + 1) ≡ c.args.fuel - c.loop-turn.turn - 1 = omega arith in (
      omega arith,
      elim c.if-is_leaf-2.branch [
        | then-is_leaf-2+else-left-eq0+in_ok-got w ↦ rw (
          ← c.loop-turn.invariant.1,
          collect-turn _ _ c.loop-turn-test.true,
          ← c.capacity-capacity.ensures,
          lt-leb _ _ c.if-capacity-got.false,
          ← c.is_leaf.ensures,
          ← c.slot-name.ensures,
          c.if-is_leaf.false,
          lt-leb _ _ c.if-capacity-name.false,
          ← c.load-p.ensures,
          ne_eqb _ _ c.if-part-eq0.false,
          lt-leb _ _ c.if-rest-part.false,
          collect-left-leaf _ _ _ _ _ _ _ _ w.if-left-eq0.false c.if-capacity-got.false (sym w.if-is_leaf-2.ensures),
          ← w.slot.ensures,
          c.capacity-capacity.ensures,
          ← w.in_ok-got.ensures,
          w.t-is,
          w.got-is,
          next,
        )
        | else-is_leaf-2+in_ok-got-2 w ↦ rw (
          ← c.loop-turn.invariant.1,
          collect-turn _ _ c.loop-turn-test.true,
          ← c.capacity-capacity.ensures,
          lt-leb _ _ c.if-capacity-got.false,
          ← c.is_leaf.ensures,
          ← c.slot-name.ensures,
          c.if-is_leaf.false,
          lt-leb _ _ c.if-capacity-name.false,
          ← c.load-p.ensures,
          ne_eqb _ _ c.if-part-eq0.false,
          lt-leb _ _ c.if-rest-part.false,
          collect-left _ _ _ _ _ _ _ _,
          c.capacity-capacity.ensures,
          ← w.in_ok-got-2.ensures,
          w.t-is,
          w.got-is,
          next,
        )
      ],
    )

pub returns : goal.returns
unfolding collect_at
returns g t c =
    let spent : c.args.fuel - c.loop-turn.turn ≡ 0 = omega arith in
    rw (← c.loop-turn.invariant.1, collect♯-zero _ spent)
