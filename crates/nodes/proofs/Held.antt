-- Trees that words hold, each slot once: kept by changes elsewhere, and made of two by the record of a node over them. For any axis and any places of
-- records that form a region. Assumes nothing.
use Prim.Native.Nat.{ℕ, ◌+◌, ◌*◌, ◌-◌, ◌%◌, ◌≤◌, ◌<◌}
use mathlib.Core.Path.{◌≡◌, refl, sym, ap, subst, ◌∙◌}
use mathlib.Core.List.{List, [], ◌∷◌, ◌++◌}
use mathlib.Core.Logic.{◌⊎◌, inl, inr}
use native.Mathlib.Omega.{arith}
use lib.Dec.{eqb}
use lib.ListN.{length, get_or, length-append}
use lib.Seq.{get_or-append-add}
use borrow.Author.Tests.{eq-eqb, eqb-true, eqb-false}
use Rattle.model.specs.Totals.{total}
use Rattle.model.specs.Axis.{Axis}
use Rattle.model.specs.Sheet.{Mark, Box, sheet}
use Rattle.model.specs.Slots.{slot_operation}
use Rattle.model.specs.Tree.{Tree, leaf, node, weight, marks, least, greatest}
use Rattle.model.specs.Laws.{All, nil, cons}
use Rattle.model.proofs.Logic.{by_cases}
use Rattle.model.proofs.Totals.{join-zero, total-append}
use Rattle.model.proofs.Slots.{slot_operation-laws}
use Rattle.model.proofs.Lists.{count_if-append}
use Rattle.model.proofs.Tree.{weight-marks, marks-pos, marks-least}
use Rattle.table.specs.Layout.{record_width, run_place}
use Rattle.table.specs.Marks.{slot_mark}
use Rattle.table.specs.Grades.{grading, word, joined_word}
use Rattle.table.proofs.Packing.{grading-laws, word-joined}
use Rattle.nodes.specs.Arms.{Arm, arm, leaf_number, inner_number, arms, leaf_arm, over_arm, record_at, put_record}
use Rattle.nodes.specs.Weights.{sum}
use Rattle.nodes.specs.Holds.{grades_of, arm_of, Holds, times_in, times, Held}
use Rattle.nodes.proofs.Frames.{Region, Frame, frame-run, frame-record, frame-mark, put_record-frame, put_record-same}
use Rattle.nodes.proofs.Counting.{once-length}

module _ {I : Type 0} where
  pub times-node : (s : ℕ) (i : I) (l r : Tree ℕ I) → times s (node i l r) ≡ times s l + times s r
  times-node s i l r = count_if-append (eqb s) (marks l) (marks r)

  -- a slot beneath a node is beneath one of its children
  pub in-child : {G : Type 0} (s : ℕ) (i : I) (l r : Tree ℕ I) → 0 < times s (node i l r) → (0 < times s l → G) → (0 < times s r → G) → G
  in-child s i l r h left right =
      by_cases (eqb (times s l) 0)
      (λ t. right (omega (arith, eqb-true (times s l) 0 t, times-node s i l r)))
      (λ u. left (omega (arith, eqb-false (times s l) 0 u)))

  pub times-least : (t : Tree ℕ I) → 0 < times (least t) t
  times-least (leaf s) = rw (eq-eqb s s refl) (omega arith)
  times-least (node i l r) = omega (arith, times-node (least l) i l r, times-least l)

module _ {I : Type 0} {A : Axis Mark Box} {f : ℕ → Mark} {place : ℕ → ℕ} {C : ℕ} where
  pub held-weight : {xs : List ℕ} {t : Tree ℕ I} → Held A f place C xs t → weight t ≤ C
  held-weight {t = t} h = rw (weight-marks t) (once-length C (marks t) h.once h.within)

  pub held-least : {xs : List ℕ} {t : Tree ℕ I} → Held A f place C xs t → least t < C
  held-least {t = t} h = h.within (least t) (times-least t)

  pub held-left : {xs : List ℕ} {i : I} {l r : Tree ℕ I} → Held A f place C xs (node i l r) → Held A f place C xs l
  held-left {i = i} {l = l} {r = r} h = record {
    once = λ s. omega (arith, h.once s, times-node s i l r);
    within = λ s k. h.within s (omega (arith, times-node s i l r));
    marked = λ s k. h.marked s (omega (arith, times-node s i l r));
    records = h.records.1;
  }

  pub held-right : {xs : List ℕ} {i : I} {l r : Tree ℕ I} → Held A f place C xs (node i l r) → Held A f place C xs r
  held-right {i = i} {l = l} {r = r} h = record {
    once = λ s. omega (arith, h.once s, times-node s i l r);
    within = λ s k. h.within s (omega (arith, times-node s i l r));
    marked = λ s k. h.marked s (omega (arith, times-node s i l r));
    records = h.records.2;
  }

  -- a node over two trees with no slot in common, where its record is right
  pub held-over : {xs : List ℕ} (i : I) (l r : Tree ℕ I) → record_at xs (place (least r)) ≡ arms (arm_of A f l) (arm_of A f r)
      → Held A f place C xs l → Held A f place C xs r → ((s : ℕ) → times s l + times s r ≤ 1) → Held A f place C xs (node i l r)
  held-over i l r e hl hr d = record {
    once = λ s. omega (arith, times-node s i l r, d s);
    within = λ s k. in-child s i l r k (λ p. hl.within s p) (λ p. hr.within s p);
    marked = λ s k. in-child s i l r k (λ p. hl.marked s p) (λ p. hr.marked s p);
    records = (e, hl.records, hr.records);
  }

-- what holds of each slot that stands in a list holds of all of it
pub all-times : {P : ℕ → Type 0} (l : List ℕ) → ((s : ℕ) → 0 < times_in s l → P s) → All P l
all-times [] h = nil
all-times (s ∷ l) h = cons (h s (rw (eq-eqb s s refl) (omega arith))) (all-times l (λ q k. h q (omega arith)))

-- the arms that the code makes are the trees'
pub leaf_arm-of : (f : ℕ → Mark) (s v : ℕ) → s ≤ 65536
    → leaf_arm s v (f s).grade ≡ arm (2 * s) 1 v v (word (total grading.join (λ q. grading.of (f q)) (s ∷ [])))
unfolding leaf_arm leaf_number
leaf_arm-of f s v h =
    let e : s % 2147483648 ≡ s = omega arith in
    rw (e, join-zero grading grading-laws (grading.of (f s)))

-- the grades of two trees together are those of the node over them
pub grades_of-over : {I : Type 0} (f : ℕ → Mark) (i : I) (l r : Tree ℕ I)
    → joined_word (word (grades_of f l)) (word (grades_of f r)) ≡ word (grades_of f (node i l r))
unfolding joined_word
grades_of-over f i l r =
    word-joined (grades_of f l) (grades_of f r)
    ∙ ap word (sym (total-append (slot_operation f grading) (slot_operation-laws f sheet grading grading-laws) (λ s. grading.of (f s)) (marks l) (marks r)))

-- the slots that name a tree's inner nodes: all but its least
abbrev pub Names : {I : Type 0} → Tree ℕ I → ℕ → Type 0
Names t s = (0 < times s t) × (s ≡ least t → ⊥)

module _ {I : Type 0} where
  -- trees of the same slots in the same order have the same least and greatest, and the same names
  pub least-marks : (t u : Tree ℕ I) → marks t ≡ marks u → least t ≡ least u
  least-marks t u e = least_first t ∙ ap (λ l. get_or l 0 0) e ∙ sym (least_first u)
    where
      least_first : (t : Tree ℕ I) → least t ≡ get_or (marks t) 0 0
      least_first t = rw (marks-least t).1

  pub greatest-marks : (t u : Tree ℕ I) → marks t ≡ marks u → greatest t ≡ greatest u
  greatest-marks t u e = greatest-last t ∙ ap (λ l. get_or l (length l - 1) 0) e ∙ sym (greatest-last u)
    where
      greatest-last : (t : Tree ℕ I) → greatest t ≡ get_or (marks t) (length (marks t) - 1) 0
      greatest-last (leaf s) = refl
      greatest-last (node i l r) =
          let e : length (marks l ++ marks r) - 1 ≡ length (marks l) + (length (marks r) - 1) =
          omega (arith, length-append (marks l) (marks r), marks-pos r) in
          rw (e, get_or-append-add (marks l) (marks r) (length (marks r) - 1) 0) (greatest-last r)

  pub names-marks : (t u : Tree ℕ I) → marks t ≡ marks u → (s : ℕ) → Names t s → Names u s
  names-marks t u e s k = (subst (λ l. 0 < times_in s l) e k.0, λ q. k.1 (q ∙ sym (least-marks t u e)))

  -- a name of the left child, and every slot of the right child, is a name of the node
  module _ (i : I) (l r : Tree ℕ I) where
    pub names-left : (s : ℕ) → Names l s → Names (node i l r) s
    names-left s k = (omega (arith, k.0, times-node s i l r), k.1)

    pub names-right : ((s : ℕ) → times s l + times s r ≤ 1) → (s : ℕ) → 0 < times s r → Names (node i l r) s
    names-right d s k = (omega (arith, times-node s i l r), λ e. let p = subst (λ q. 0 < times q l) (sym e) (times-least l) in omega (arith, d s))

    -- and so is the node's own
    pub names-own : ((s : ℕ) → times s l + times s r ≤ 1) → (s : ℕ) → s ≡ least r → Names (node i l r) s
    names-own d s e = names-right d s (subst (λ q. 0 < times q r) (sym e) (times-least r))

  -- a slot that does not stand in a tree, or is its least, names no node of it
  pub names-none : (t : Tree ℕ I) (s : ℕ) → (times s t ≡ 0) ⊎ (s ≡ least t) → Names t s → ⊥
  names-none t s (inl z) k = omega (arith, k.0)
  names-none t s (inr e) k = k.1 e

module _ {I : Type 0} (A : Axis Mark Box) (f : ℕ → Mark) where
  pub over_arm-of : (i : I) (l r : Tree ℕ I) → least r ≤ 65536 → weight l + weight r ≤ 65536
      → over_arm (least r) (arm_of A f l) (arm_of A f r) ≡ arm_of A f (node i l r)
  unfolding over_arm inner_number sum
  over_arm-of i l r h w =
      let e : least r % 2147483648 ≡ least r = omega arith in
      let k : (weight l + weight r) % 4294967296 ≡ weight l + weight r = omega arith in
      rw (e, k, grades_of-over f i l r)

  -- A TREE DEPENDS ON ITS OWN WORDS ALONE: lists of words, of one length or not, that have the same records of its names and the same marks of its slots
  -- hold it alike.
  holds_same : (place : ℕ → ℕ) (xs ys : List ℕ) (t : Tree ℕ I) → ((s : ℕ) → times s t ≤ 1)
      → ((s : ℕ) → Names t s → record_at ys (place s) ≡ record_at xs (place s)) → Holds A f place xs t → Holds A f place ys t
  holds_same place xs ys (leaf s) once same h = tt
  holds_same place xs ys (node i l r) once same h =
      let d : ((s : ℕ) → times s l + times s r ≤ 1) = λ s. omega (arith, once s, times-node s i l r) in (
        same (least r) (names-own i l r d (least r) refl) ∙ h.0,
        holds_same place xs ys l (λ s. omega (arith, d s)) (λ s k. same s (names-left i l r s k)) h.1,
        holds_same place xs ys r (λ s. omega (arith, d s)) (λ s k. same s (names-right i l r d s k.0)) h.2,
      )

  pub held_same : {place : ℕ → ℕ} {C : ℕ} {xs ys : List ℕ} (t : Tree ℕ I)
      → ((s : ℕ) → Names t s → record_at ys (place s) ≡ record_at xs (place s))
      → ((s : ℕ) → 0 < times s t → slot_mark ys s ≡ slot_mark xs s) → Held A f place C xs t → Held A f place C ys t
  held_same {place = place} {xs = xs} {ys = ys} t same mark h = record {
    once = h.once;
    within = h.within;
    marked = λ s k. mark s k ∙ h.marked s k;
    records = holds_same place xs ys t h.once same h.records;
  }

  module _ {place : ℕ → ℕ} {C n : ℕ} (g : Region place C n) where
    -- A change leaves a tree alone where the slots whose records it touches name none of its inner nodes: they do not stand in it, or are its least.
    pub held-frame : {P : ℕ → Type 0} {lo hi : ℕ} → run_place C 0 ≤ lo → hi ≤ run_place C C → {xs ys : List ℕ} → Frame place P lo hi xs ys
        → ((s : ℕ) → P s → s < C) → (t : Tree ℕ I) → ((s : ℕ) → P s → (times s t ≡ 0) ⊎ (s ≡ least t))
        → Held A f place C xs t → Held A f place C ys t
    held-frame low high a in_c t out h =
        held_same t (λ s k. frame-record g low high a in_c s (h.within s k.0) (λ p. names-none t s (out s p) k))
        (λ s k. frame-mark g low high a in_c s (h.within s k)) h

    -- THE NODE: two trees held, with no slot in common, and the record of the node over them written
    pub node-held : (i : I) (l r : Tree ℕ I) (xs : List ℕ) → length xs ≡ n → Held A f place C xs l → Held A f place C xs r
        → ((s : ℕ) → times s l + times s r ≤ 1) → Held A f place C (put_record xs (place (least r)) (arm_of A f l) (arm_of A f r)) (node i l r)
    node-held i l r xs ln hl hr d =
        let name = least r in
        let in_c : name < C = held-least hr in
        let room : place name + record_width ≤ length xs = omega (arith, g.room name in_c) in
        let a = put_record-frame place xs name (arm_of A f l) (arm_of A f r) in
        let fr = frame-run (run_place C 0) (run_place C C) a in
        let ys : List ℕ = put_record xs (place name) (arm_of A f l) (arm_of A f r) in
        let kl : Held A f place C ys l =
        held-frame (omega arith) (omega arith) fr (λ s e. rw e in_c) l
        (λ s e. inl (let p = subst (λ k. 0 < times k r) (sym e) (times-least r) in omega (arith, d s))) hl in
        let kr : Held A f place C ys r = held-frame (omega arith) (omega arith) fr (λ s e. rw e in_c) r (λ s e. inr e) hr in
        held-over i l r (put_record-same xs (place name) (arm_of A f l) (arm_of A f r) room) kl kr d

-- What an operation leaves: the arm of a tree that the words hold, and all words as they were but for the records of the tree's names and run A.
pub record Leaves
    {I : Type 0} (A : Axis Mark Box) (f : ℕ → Mark) (place : ℕ → ℕ) (C : ℕ) (xs : List ℕ)
    (a : Arm) (ys : List ℕ) (t : Tree ℕ I) : Type 0 where
  pub is : a ≡ arm_of A f t
  pub held : Held A f place C ys t
  pub frame : Frame place (Names t) (run_place C 0) (run_place C C) xs ys
