-- On words that hold a tree, the mirror of the collection writes the tree's slots but one into run A, in order, and nothing else. Assumes nothing.
use Prim.Native.Nat.{ℕ, zero, suc, ◌+◌, ◌-◌, ◌*◌, ◌/◌, ◌%◌, ◌≤◌, ◌<◌}
use mathlib.Core.Path.{◌≡◌, refl}
use mathlib.Core.Bool.{true}
use mathlib.Core.List.{List, ◌++◌}
use Rattle.std.specs.Prelude.{Ok}
use native.Mathlib.Omega.{arith}
use lib.Dec.{eqb}
use lib.ListN.{length, length-append}
use lib.Seq.{sets}
use borrow.Author.Tests.{lt-leb, le-ltb, eq-eqb, ne_eqb}
use Rattle.model.specs.Axis.{Axis}
use Rattle.model.specs.Sheet.{Mark, Box}
use Rattle.model.specs.Tree.{Tree, leaf, node, weight, depth, marks, least}
use Rattle.model.proofs.Logic.{by_cases}
use Rattle.model.proofs.Tree.{weight-pos, weight-marks}
use Rattle.table.specs.Layout.{run_place}
use Rattle.table.specs.Limits.{no_slot}
use Rattle.table.specs.After.{after}
use Rattle.nodes.specs.Collect.{collect_parts, collect_both, collect_leaf, collect_inner, collect_at, collect♯, gathered, gather♯}
use Rattle.nodes.specs.Holds.{number, times, Held}
use Rattle.nodes.proofs.Unchanged.{unchanged-weaken, sets-unchanged}
use Rattle.nodes.proofs.Frames.{sets-append, Region, Frame}
use Rattle.nodes.proofs.Held.{held-left, held-right, held-least, held-weight, held-frame}
use Rattle.nodes.proofs.Without.{without, without-append, without-short, without-none}

-- slots written into run A leave all records alone
pub run-frame : (place : ℕ → ℕ) (C i : ℕ) (vs xs : List ℕ) → i + length vs ≤ C
    → Frame place (λ s. ⊥) (run_place C 0) (run_place C C) xs (sets xs (run_place C i) vs)
run-frame place C i vs xs h = unchanged-weaken (λ j o l. omega (arith, o.1 (omega arith))) (sets-unchanged vs xs (run_place C i))

module _ {I : Type 0} (A : Axis Mark Box) (f : ℕ → Mark) (place : ℕ → ℕ) (C : ℕ) where
  pub collect-holds : (but fuel : ℕ) (t : Tree ℕ I) (w taken : ℕ) (xs : List ℕ) → w ≡ weight t → Region place C (length xs)
      → Held A f place C xs t
      → depth t < fuel → taken + weight t ≤ C
      → collect♯ fuel place C but w (number t) taken xs
      ≡ after (Ok (taken + length (without but (marks t)))) (sets xs (run_place C taken) (without but (marks t)))
  unfolding collect♯ collect_at collect_leaf collect_inner collect_both collect_parts
  collect-holds but zero t w taken xs e g h d k = absurd (omega arith)
  collect-holds but (suc n) (leaf s) w taken xs e g h d k =
      let even : (2 * s) % 2 ≡ 0 = omega arith in
      let half : (2 * s) / 2 ≡ s = omega arith in
      let none : taken + 0 ≡ taken = omega arith in
      let in_c : s < C = held-least h in
      by_cases (eqb s but)
      (λ t. rw (lt-leb C taken (omega arith), eq-eqb ((2 * s) % 2) 0 even, half, lt-leb C s in_c, t, none))
      (λ u. rw (lt-leb C taken (omega arith), eq-eqb ((2 * s) % 2) 0 even, half, lt-leb C s in_c, u))
  collect-holds but (suc n) (node i l r) w taken xs is g h d k =
      let odd : ((2 * least r + 1) % 2 ≡ 0 → ⊥) = omega arith in
      let half : (2 * least r + 1) / 2 ≡ least r = omega arith in
      let pos_left = weight-pos l in
      let pos_right = weight-pos r in
      let m = weight-marks l in
      let short = without-short but (marks l) in
      let vs : List ℕ = without but (marks l) in
      let us : List ℕ = without but (marks r) in
      let ys : List ℕ = sets xs (run_place C taken) vs in
      let a = run-frame place C taken vs xs (omega arith) in
      let hr : Held A f place C ys r = held-frame A f g (omega arith) (omega arith) a (λ s p. absurd p) r (λ s p. absurd p) (held-right h) in
      let e : run_place C taken + length vs ≡ run_place C (taken + length vs) = omega arith in
      rw (
        lt-leb C taken (omega arith),
        ne_eqb ((2 * least r + 1) % 2) 0 odd,
        half,
        lt-leb C (least r) (held-least (held-right h)),
        h.records.0,
        ne_eqb (weight l) 0 (omega arith),
        lt-leb w (weight l) (omega arith),
        collect-holds but n l (weight l) taken xs refl g (held-left h) (omega arith) (omega arith),
        collect-holds but n r (w - weight l) (taken + length vs) ys (omega arith) (rw a.long g) hr (omega arith) (omega arith),
        without-append but (marks l) (marks r),
        sets-append vs us xs (run_place C taken),
        e,
      )
      (let q : taken + length vs + length us ≡ taken + length (vs ++ us) = omega (arith, length-append vs us) in rw q)

  -- the slots but one are gathered, where they are some
  pub gather-holds : (but : ℕ) (t : Tree ℕ I) (xs : List ℕ) → Region place C (length xs) → Held A f place C xs t → depth t < 40
      → 0 < length (without but (marks t))
      → gather♯ place C but (length (without but (marks t))) (weight t) (number t) xs ≡ after true (sets xs (run_place C 0) (without but (marks t)))
  unfolding gather♯ gathered
  gather-holds but t xs g h d some =
      let k = held-weight h in
      let many : ℕ = length (without but (marks t)) in
      let fits : many ≤ C = omega (arith, without-short but (marks t), weight-marks t) in
      rw (
        le-ltb C (weight t) k,
        le-ltb C many fits,
        ne_eqb many 0 (omega arith),
        collect-holds but 40 t (weight t) 0 xs refl g h d (omega arith),
        eq-eqb (0 + many) many (omega arith),
      )

-- none is left out where the one is no slot
pub every-slot : {I : Type 0} {A : Axis Mark Box} {f : ℕ → Mark} {place : ℕ → ℕ} {C : ℕ} {xs : List ℕ} (t : Tree ℕ I) → C ≤ 65536
    → Held A f place C xs t
    → without no_slot (marks t) ≡ marks t
every-slot {C = C} t small h = without-none no_slot (marks t) (unused (times no_slot t) (h.within no_slot))
  where
    unused : (n : ℕ) → (0 < n → no_slot < C) → n ≡ 0
    unused zero q = refl
    unused (suc n) q = absurd (omega (arith, q (omega arith), small))
