-- From words whose run A has distinct slots, the mirror of the building leaves words that hold the model's built tree, and writes its names' records
-- alone; on words that hold a tree, the mirror of the rebuilding leaves the tree built afresh of its slots. Assumes nothing.
use Prim.Native.Nat.{ℕ, ◌+◌, ◌-◌, ◌/◌, ◌≤◌, ◌<◌}
use mathlib.Core.Path.{◌≡◌, refl, sym, ap, subst, ◌∙◌}
use mathlib.Core.List.{List, [], ◌∷◌, ◌++◌}
use mathlib.Core.Logic.{inl}
use native.Mathlib.Omega.{arith}
use lib.Dec.{eqb}
use lib.ListN.{length, get_or, length-append, get_or-append}
use lib.Seq.{sets, get_or-append-add}
use Rattle.model.specs.Axis.{Axis}
use Rattle.model.specs.Register.{Register}
use Rattle.model.specs.Tree.{Tree, leaf, node, weight, depth, marks, least, build}
use Rattle.model.specs.Sheet.{Mark, Box}
use Rattle.model.specs.Slots.{slot_axis}
use Rattle.model.proofs.Lists.{count_if-append}
use Rattle.model.proofs.Tree.{weight-marks, marks-pos, marks-least, build-marks, build-induction}
use Rattle.table.specs.Layout.{record_width, run_place}
use Rattle.table.specs.Marks.{slot_mark}
use Rattle.table.specs.Runs.{run_slot}
use Rattle.table.proofs.RunSlots.{run_slot-is}
use Rattle.nodes.specs.Arms.{Arm}
use Rattle.nodes.specs.Holds.{number, arm_of, times_in, times, Held}
use Rattle.table.specs.After.{After}
use Rattle.nodes.proofs.Unchanged.{apart-sym, unchanged-refl, unchanged-trans}
use Rattle.nodes.proofs.Frames.{sets-at, Region, Frame, frame-weaken, frame-run, frame-mark, put_record-frame}
use Rattle.nodes.proofs.Held.{times-least, held-weight, held-least, held-frame, leaf_arm-of, over_arm-of, node-held, Leaves}
use Rattle.nodes.proofs.Held.{Names, names-left, names-right, names-own}
use Rattle.nodes.proofs.Without.{without, without-short, without-times}
use Rattle.nodes.proofs.Collecting.{run-frame, gather-holds}
use Rattle.secondary_build.specs.Build.{run_leaf, build_over, build_node, build♯, build♯-leaf, build♯-node, rebuild_run, rebuild♯}

-- in a table of capacity C, run A reads a list from place i on
abbrev pub Reads : ℕ → ℕ → List ℕ → List ℕ → Type 0
Reads C i l xs = (j : ℕ) → j < length l → get_or xs (run_place C (i + j)) 0 ≡ get_or l j 0

-- run A has the slots of a list from place i on: each once, below C, with its mark
pub record Run (f : ℕ → Mark) (C i : ℕ) (l xs : List ℕ) : Type 0 where
  pub reads : Reads C i l xs
  pub fits : i + length l ≤ C
  pub once : (s : ℕ) → times_in s l ≤ 1
  pub within : (s : ℕ) → 0 < times_in s l → s < C
  pub marked : (s : ℕ) → 0 < times_in s l → slot_mark xs s ≡ f s

-- what building leaves: the arm of a tree that the words hold, and all words as they were but for the records of the tree's names
pub record Built
    {I : Type 0} (A : Axis Mark Box) (f : ℕ → Mark) (place : ℕ → ℕ) (C : ℕ) (xs : List ℕ) (p : After Arm) (t : Tree ℕ I) : Type 0 where
  pub is : p.out ≡ arm_of A f t
  pub held : Held A f place C p.words t
  pub frame : Frame place (Names t) 0 0 xs p.words

module _ {f : ℕ → Mark} {C i : ℕ} (l r : List ℕ) {xs : List ℕ} (u : Run f C i (l ++ r) xs) where
  -- the parts of a run
  pub run-left : Run f C i l xs
  run-left = record {
    reads = λ j h. u.reads j (omega (arith, length-append l r)) ∙ get_or-append l r 0 j h;
    fits = omega (arith, u.fits, length-append l r);
    once = λ s. omega (arith, u.once s, count_if-append (eqb s) l r);
    within = λ s k. u.within s (omega (arith, count_if-append (eqb s) l r));
    marked = λ s k. u.marked s (omega (arith, count_if-append (eqb s) l r));
  }

  pub run-right : Run f C (i + length l) r xs
  run-right = record {
    reads = λ j h.
        let e : run_place C (i + length l + j) ≡ run_place C (i + (length l + j)) = omega arith in
        rw e (u.reads (length l + j) (omega (arith, length-append l r)) ∙ get_or-append-add l r j 0);
    fits = omega (arith, u.fits, length-append l r);
    once = λ s. omega (arith, u.once s, count_if-append (eqb s) l r);
    within = λ s k. u.within s (omega (arith, count_if-append (eqb s) l r));
    marked = λ s k. u.marked s (omega (arith, count_if-append (eqb s) l r));
  }

-- a change of records leaves a run
pub run-kept : {f : ℕ → Mark} {place : ℕ → ℕ} {C i n : ℕ} {l xs ys : List ℕ} {P : ℕ → Type 0} → Region place C n → Frame place P 0 0 xs ys
    → ((s : ℕ) → P s → s < C) → Run f C i l xs → Run f C i l ys
run-kept {place = place} {C = C} {i = i} g a in_c u = record {
  reads = λ j h.
      let k = run_place C (i + j) in
      a.same k (λ s p l. omega (arith, apart-sym (run_place C 0) C (place s) record_width (g.off_run s (in_c s p)) (omega (arith, u.fits))), omega arith)
      ∙ u.reads j h;
  fits = u.fits;
  once = u.once;
  within = u.within;
  marked = λ s k. frame-mark g (omega arith) (omega arith) (frame-run (run_place C 0) (run_place C C) a) in_c s (u.within s k) ∙ u.marked s k;
}

-- the slot at the beginning of a tree's run is its least
pub run-least : {I : Type 0} {f : ℕ → Mark} {C i : ℕ} {xs : List ℕ} (t : Tree ℕ I) → Run f C i (marks t) xs → run_slot C i xs ≡ least t
run-least {C = C} {i = i} {xs = xs} t u =
    let e : i + 0 ≡ i = omega arith in
    run_slot-is C i (least t) xs ((rw e at (u.reads 0 (marks-pos t))) ∙ ap (λ l. get_or l 0 0) (marks-least t).1) (u.within (least t) (times-least t))

-- the slots of a tree but one, gathered in run A
module _
    {I : Type 0} (A : Axis Mark Box) (f : ℕ → Mark) (place : ℕ → ℕ) (C but : ℕ) (t : Tree ℕ I) (xs : List ℕ) (g : Region place C (length xs))
    (h : Held A f place C xs t) where
  rest-fits : length (without but (marks t)) ≤ C
  rest-fits = omega (arith, without-short but (marks t), weight-marks t, held-weight h)

  pub gathered-frame : Frame place (λ s. ⊥) (run_place C 0) (run_place C C) xs (sets xs (run_place C 0) (without but (marks t)))
  gathered-frame = run-frame place C 0 (without but (marks t)) xs (omega (arith, rest-fits))

  pub gathered-run : Run f C 0 (without but (marks t)) (sets xs (run_place C 0) (without but (marks t)))
  gathered-run =
      let rest : List ℕ = without but (marks t) in
      let hy = held-frame A f g (omega arith) (omega arith) gathered-frame (λ s p. absurd p) t (λ s p. absurd p) h in
      let stands : ((s : ℕ) → 0 < times_in s rest → 0 < times s t) = λ s k. omega (arith, without-times but s (marks t)) in
      record {
        reads = λ j l.
            let e : run_place C (0 + j) ≡ run_place C 0 + j = omega arith in
            rw e (sets-at rest xs (run_place C 0) j l (omega (arith, g.run_room, rest-fits)));
        fits = omega (arith, rest-fits);
        once = λ s. omega (arith, without-times but s (marks t), h.once s);
        within = λ s k. h.within s (stands s k);
        marked = λ s k. hy.marked s (stands s k);
      }

module _ {I : Type 0} (A : Axis Mark Box) (f : ℕ → Mark) (place : ℕ → ℕ) (C : ℕ) where
  leaf-built : (s i : ℕ) (xs : List ℕ) → Region place C (length xs) → Run f C i (s ∷ []) xs
      → Built {I = I} A f place C xs (build♯ A 1 place C i 1 xs) (leaf s)
  unfolding run_leaf
  leaf-built s i xs g u =
      let here : 0 < times_in s (s ∷ []) = times-least {I = I} (leaf s) in
      rw (build♯-leaf 1 (omega arith) A place C i xs, run-least {I = I} (leaf s) u, u.marked s here)
      record {
        is = leaf_arm-of f s (A.at (f s)) (omega (arith, u.within s here, g.small));
        held = record { once = u.once; within = u.within; marked = u.marked; records = tt };
        frame = unchanged-refl xs;
      }

  -- two trees built, one after the other, and the record of the node over them written
  over-built : (j : I) (l r : Tree ℕ I) (i : ℕ) (xs : List ℕ) (p q : After Arm) → Region place C (length xs) → Run f C i (marks l ++ marks r) xs
      → Built A f place C xs p l → Built A f place C p.words q r
      → Built A f place C xs (build_over place (run_slot C (i + length (marks l)) q.words) p.out q.out q.words) (node j l r)
  unfolding build_over
  over-built j l r i xs p q g u bp bq =
      let ys : List ℕ = q.words in
      let in_c : ((s : ℕ) → Names r s → s < C) = λ s k. bq.held.within s k.0 in
      let long : length ys ≡ length xs = bq.frame.long ∙ bp.frame.long in
      let gy : Region place C (length ys) = rw long g in
      let v : Run f C (i + length (marks l)) (marks r) ys =
      run-kept g bq.frame in_c (run-kept g bp.frame (λ s k. bp.held.within s k.0) (run-right (marks l) (marks r) u)) in
      let apart : ((s : ℕ) → times s l + times s r ≤ 1) = λ s. omega (arith, u.once s, count_if-append (eqb s) (marks l) (marks r)) in
      let hl : Held A f place C ys l =
      held-frame A f g (omega arith) (omega arith) (frame-run (run_place C 0) (run_place C C) bq.frame) in_c l
      (λ s k. inl (omega (arith, k.0, apart s))) bp.held in
      let h = node-held A f gy j l r ys refl hl bq.held apart in
      let name : least r < C = held-least bq.held in
      rw (run-least r v, bp.is, bq.is)
      record {
        is = over_arm-of A f j l r (omega (arith, name, g.small)) (omega (arith, held-weight h, g.small));
        held = h;
        frame =
            unchanged-trans (frame-weaken (names-left j l r) bp.frame)
            (unchanged-trans (frame-weaken (λ s k. names-right j l r apart s k.0) bq.frame)
            (frame-weaken (names-own j l r apart)
            (put_record-frame place ys (least r) (arm_of A f l) (arm_of A f r))));
      }

  module _ (R : Register ℕ Box I) where
    pub build-holds : (d i : ℕ) (l xs : List ℕ) → Region place C (length xs) → Run f C i l xs → 0 < length l
        → Built A f place C xs (build♯ A (length l) place C i (length l) xs) (build (slot_axis f A) R d l)
    unfolding build_node
    build-holds d i l xs g u p =
        build-induction (slot_axis f A) R
        (λ run t. (i : ℕ) (xs : List ℕ) → Region place C (length xs) → Run f C i run xs
        → Built A f place C xs (build♯ A (length run) place C i (length run) xs) t)
        d
        leaf-built
        (λ run l r e long w bl br i xs g u.
        let u' : Run f C i (marks l ++ marks r) xs = subst (λ k. Run f C i k xs) (sym e) u in
        let n : length run ≡ length (marks l) + length (marks r) = ap length (sym e) ∙ length-append (marks l) (marks r) in
        let half : length run / 2 ≡ length (marks l) = sym w ∙ weight-marks l in
        let rest : length run - length (marks l) ≡ length (marks r) = omega arith in
        let first = bl i xs g (run-left (marks l) (marks r) u') in
        rw (build♯-node (length run) long A place C i xs, half, rest)
        (over-built (R.build run) l r i xs _ _ g u' first
        (br (i + length (marks l)) _ (rw first.frame.long g)
        (run-kept g first.frame (λ s k. first.held.within s k.0) (run-right (marks l) (marks r) u')))))
        l p i xs g u

    rest-rebuilt : (but d : ℕ) (t : Tree ℕ I) (xs : List ℕ) → Region place C (length xs) → Held A f place C xs t → depth t < 40
        → 0 < length (without but (marks t))
        → let p = rebuild♯ A place C but (length (without but (marks t))) (weight t) (number t) xs in
        Leaves A f place C xs p.out p.words (build (slot_axis f A) R d (without but (marks t)))
        × (run_slot C 0 p.words ≡ least (build (slot_axis f A) R d (without but (marks t))))
    unfolding rebuild♯ rebuild_run
    rest-rebuilt but d t xs g h deep some =
        let rest : List ℕ = without but (marks t) in
        let ys : List ℕ = sets xs (run_place C 0) rest in
        let v : Tree ℕ I = build (slot_axis f A) R d rest in
        let a = gathered-frame A f place C but t xs g h in
        let u : Run f C 0 rest ys = gathered-run A f place C but t xs g h in
        let b = build-holds d 0 rest ys (rw a.long g) u some in
        let e : marks v ≡ rest = build-marks (slot_axis f A) R d rest some in
        let kept : Run f C 0 (marks v) _ = run-kept g b.frame (λ s k. b.held.within s k.0) (subst (λ l. Run f C 0 l ys) (sym e) u) in
        rw (gather-holds A f place C but t xs g h deep some) (
          record {
            is = b.is;
            held = b.held;
            frame = unchanged-trans (frame-weaken (λ s p. absurd p) a) (frame-run (run_place C 0) (run_place C C) b.frame);
          },
          run-least v kept,
        )

    -- THE REBUILDING of a tree without one slot: the model's tree of its other slots, which stand in run A
    pub rebuild-holds : (but k d : ℕ) (t : Tree ℕ I) (l xs : List ℕ) → Region place C (length xs) → Held A f place C xs t → depth t < 40
        → l ≡ without but (marks t) → 0 < length l → k ≡ length l
        → let p = rebuild♯ A place C but k (weight t) (number t) xs in
        Leaves A f place C xs p.out p.words (build (slot_axis f A) R d l) × (run_slot C 0 p.words ≡ least (build (slot_axis f A) R d l))
    rebuild-holds but k d t l xs g h deep e some n = rw (n, e) (rest-rebuilt but d t xs g h deep (rw e at some))
