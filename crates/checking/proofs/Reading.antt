-- A walk through a tree that ends well has read a tree that it passes, and it passes every such tree. Assumes nothing.
use Prim.Native.Nat.{ℕ, zero, suc, ◌+◌, ◌*◌, ◌/◌, ◌%◌, ◌≤◌, ◌<◌}
use mathlib.Core.Path.{◌≡◌, refl, sym, ap, ◌∙◌}
use mathlib.Core.Bool.{Bool, true, false}
use mathlib.Core.List.{List}
use native.Mathlib.Omega.{arith}
use lib.Dec.{leb, eqb}
use borrow.Author.Tests.{lt-leb, eqb-true, eqb-false, eq-eqb, ne_eqb}
use Rattle.model.specs.Axis.{Axis}
use Rattle.model.specs.Sheet.{Mark, Box, sheet}
use Rattle.model.specs.Tree.{Tree, leaf, node, weight, depth, marks, least, greatest}
use Rattle.model.specs.Laws.{nil, cons, AxisLaws, sorted[], sorted∷}
use Rattle.model.specs.Slots.{slot_space, slot_axis}
use Rattle.std.specs.Prelude.{Option, Some, None, is_some}
use Rattle.std.specs.Bool.{then_some}
use Rattle.std.proofs.lemmas.Bool.{and_parts}
use Rattle.model.proofs.Logic.{by_cases, clash}
use Rattle.model.proofs.Lists.{all_append, all_left, all_right}
use Rattle.model.proofs.Sorted.{sorted-left, sorted-right, sorted-across}
use Rattle.model.proofs.Tree.{all-least, all-greatest, sorted-over}
use Rattle.model.proofs.Orders.{sheet-sameness}
use Rattle.model.proofs.Totals.{join-zero}
use Rattle.model.proofs.Slots.{slot_space-sameness, slot_axis-laws}
use Rattle.table.specs.Marks.{slot_mark}
use Rattle.table.specs.Grades.{grading, word, joined_word}
use Rattle.table.proofs.Packing.{grading-laws}
use Rattle.nodes.specs.Arms.{Arm, arms, leaf_arm, over_arm, Record, record_at}
use Rattle.nodes.specs.Holds.{grades_of, arm_of}
use Rattle.nodes.proofs.Held.{leaf_arm-of, over_arm-of, grades_of-over}
use Rattle.checking.specs.declared.ends.Ends.{Ends}
use Rattle.checking.specs.Span.{ends, same_arm, fits♯, NodeTest, slot_arm, has_leaf♯, span_over, span_node, tree_span}
use Rattle.checking.proofs.Walked.{Carried, Walked, read_tree}
use Rattle.checking.proofs.Comparing.{three_parts, same_arm-equal, arm_same, Fits, fits-sound, fits-complete}

-- what has a value passed its test
some-passed : (b : Bool) (x : Ends) → is_some (then_some b x) ≡ true → b ≡ true
some-passed true x e = refl
some-passed false x e = clash e refl

-- both children of a node that stands do so
some-both : (A : Axis Mark Box) (test : NodeTest) (name : ℕ) (p q : Option Ends) (xs : List ℕ) → is_some (span_over A test name p q xs) ≡ true
    → (is_some p ≡ true) × (is_some q ≡ true)
some-both A test name (Some x) (Some y) xs e = (refl, refl)
some-both A test name (Some x) None xs e = clash e refl
some-both A test name None q xs e = clash e refl

module _ (A : Axis Mark Box) (O : AxisLaws sheet A) (C : ℕ) (place : ℕ → ℕ) (slot : ℕ → Bool) (next : ℕ → ℕ)
    (test : ℕ → ℕ → ℕ → NodeTest) (xs : List ℕ) where
  -- a step of the walk at a leaf
  leaf-sound : (s : ℕ) (a : Arm) → has_leaf♯ A slot s a xs ≡ true → (slot s ≡ true) × (a ≡ slot_arm A s xs)
  leaf-sound s a e = let p = and_parts (slot s) (same_arm a (slot_arm A s xs)) e in (p.0, same_arm-equal a (slot_arm A s xs) p.1)

  leaf-complete : (s : ℕ) (a : Arm) → slot s ≡ true → a ≡ slot_arm A s xs → has_leaf♯ A slot s a xs ≡ true
  leaf-complete s a t e = rw (t, arm_same a (slot_arm A s xs) e)

  -- and at an inner node, given what the walks through its children came to
  record Passes (base name : ℕ) (a : Arm) (p : Record) (x y : Ends) : Type 0 where
    fits : Fits name a p.left p.right
    named : y.first ≡ name
    follows : A.below (slot_mark xs x.last) (slot_mark xs name) ≡ true
    tested : test base name a.weight x.first y.last ≡ true

  module _ (rec : ℕ → Arm → Option Ends) (base name : ℕ) (a : Arm) (p : Record) where
    node-children : is_some (span_node A C place slot next test rec base name a p xs) ≡ true
        → (is_some (rec (next base) p.left) ≡ true) × (is_some (rec (next base) p.right) ≡ true)
    node-children e =
        by_cases (fits♯ name a p.left p.right)
        (λ t. some-both A (test base name a.weight) name (rec (next base) p.left) (rec (next base) p.right) xs (rw t at e))
        (λ f. clash e (rw f))

    module _ (x y : Ends) (left : rec (next base) p.left ≡ Some x) (right : rec (next base) p.right ≡ Some y) where
      node-sound : is_some (span_node A C place slot next test rec base name a p xs) ≡ true → Passes base name a p x y
      node-sound e =
          by_cases (fits♯ name a p.left p.right)
          (λ t.
          let k = three_parts (eqb y.first name) (A.below (slot_mark xs x.last) (slot_mark xs name)) (test base name a.weight x.first y.last)
          (some-passed _ (ends x.first y.last) (rw (t, left, right) at e)) in
          record { fits = fits-sound name a p.left p.right t; named = eqb-true y.first name k.0; follows = k.1; tested = k.2 })
          (λ f. clash e (rw f))

      node-complete : Passes base name a p x y → span_node A C place slot next test rec base name a p xs ≡ Some (ends x.first y.last)
      node-complete h =
          rw (fits-complete name a p.left p.right h.fits, left, right, eq-eqb y.first name h.named, h.follows, h.tested)

  -- what a walk that ends well has read
  pub record Reads {I : Type 0} (carry : ℕ → ℕ → Tree ℕ I → Tree ℕ I → I) (n base : ℕ) (a : Arm) (t : Tree ℕ I) : Type 0 where
    pub walked : Walked A place slot next test xs base t
    pub arm : a ≡ arm_of A (slot_mark xs) t
    pub ends : tree_span A C place slot next test n xs base a ≡ Some (ends (least t) (greatest t))
    pub carried : Carried next carry base t

  -- reading a leaf, and an inner node whose children were read
  read-leaf : {I : Type 0} (carry : ℕ → ℕ → Tree ℕ I → Tree ℕ I → I) (n base : ℕ) (a : Arm) → leb C (a.node / 2) ≡ false
      → eqb (a.node % 2) 0 ≡ true → is_some (tree_span A C place slot next test (suc n) xs base a) ≡ true
      → Reads carry (suc n) base a (leaf (a.node / 2))
  unfolding tree_span leaf_arm
  read-leaf {I = I} carry n base a inside even e =
      let s : ℕ = a.node / 2 in
      let h = leaf-sound s a (some-passed _ (ends s s) (rw (inside, even) at e)) in
      let number : a.node ≡ 2 * s = omega (arith, eqb-true (a.node % 2) 0 even) in
      let grades : a.grades ≡ word (grades_of {I = I} (slot_mark xs) (leaf s)) =
      rw (join-zero grading grading-laws (grading.of (slot_mark xs s))) (ap (λ q. q.grades) h.1) in
      record {
        walked = record { sorted = sorted∷ nil sorted[]; balanced = tt; slots = cons h.0 nil; records = tt; tested = tt };
        arm = λ i. record { node = number i; weight = (h.1 i).weight; least = (h.1 i).least; greatest = (h.1 i).greatest; grades = grades i };
        ends = rw (inside, even, leaf-complete s a h.0 h.1);
        carried = tt;
      }

  module _ {I : Type 0} (carry : ℕ → ℕ → Tree ℕ I → Tree ℕ I → I) (n base : ℕ) (a : Arm) (inside : leb C (a.node / 2) ≡ false)
      (odd : eqb (a.node % 2) 0 ≡ false) where
    abbrev own : Record
    own = record_at xs (place (a.node / 2))

    read-over : (l r : Tree ℕ I) → Passes base (a.node / 2) a own (ends (least l) (greatest l)) (ends (least r) (greatest r))
        → Reads carry n (next base) own.left l → Reads carry n (next base) own.right r
        → Reads carry (suc n) base a (node (carry base (a.node / 2) l r) l r)
    unfolding tree_span over_arm
    read-over l r h hl hr =
        let name : ℕ = a.node / 2 in
        let f : ℕ → Mark = slot_mark xs in
        let is : name ≡ least r = sym h.named in
        let wl : own.left.weight ≡ weight l = ap (λ q. q.weight) hl.arm in
        let wr : own.right.weight ≡ weight r = ap (λ q. q.weight) hr.arm in
        let number : a.node ≡ 2 * least r + 1 = omega (arith, eqb-false (a.node % 2) 0 odd) in
        let w : a.weight ≡ weight l + weight r = omega (arith, h.fits.weights) in
        let lo : a.least ≡ A.at (f (least l)) = ap (λ q. q.least) h.fits.over ∙ ap (λ q. q.least) hl.arm in
        let hi : a.greatest ≡ A.at (f (greatest r)) = ap (λ q. q.greatest) h.fits.over ∙ ap (λ q. q.greatest) hr.arm in
        let kept : own ≡ arms (arm_of A f l) (arm_of A f r) = λ i. record { left = hl.arm i; right = hr.arm i } in
        let grades : a.grades ≡ word (grades_of f (node (carry base name l r) l r)) =
        ap (λ q. q.grades) h.fits.over ∙ ap (λ q. joined_word q.left.grades q.right.grades) kept
        ∙ grades_of-over f (carry base name l r) l r in
        record {
          walked = record {
            sorted =
                sorted-over (slot_space f sheet) (slot_space-sameness f sheet sheet-sameness) (slot_axis f A) (slot_axis-laws f sheet A O) l r
                hl.walked.sorted hr.walked.sorted
                (rw is at h.follows);
            balanced = (omega (arith, h.fits.even_left), omega (arith, h.fits.even_right), hl.walked.balanced, hr.walked.balanced);
            slots = all_append hl.walked.slots hr.walked.slots;
            records = (ap (λ s. record_at xs (place s)) (sym is) ∙ kept, hl.walked.records, hr.walked.records);
            tested = ((rw (is, w) at h.tested), hl.walked.tested, hr.walked.tested);
          };
          arm = λ i. record { node = number i; weight = w i; least = lo i; greatest = hi i; grades = grades i };
          ends = rw (inside, odd) (node-complete (tree_span A C place slot next test n xs) base name a own _ _ hl.ends hr.ends h);
          carried = (rw is, hl.carried, hr.carried);
        }

  pub walk-reads : {I : Type 0} (carry : ℕ → ℕ → Tree ℕ I → Tree ℕ I → I) (n base : ℕ) (a : Arm)
      → is_some (tree_span A C place slot next test n xs base a) ≡ true → Reads carry n base a (read_tree place next carry xs n base a)
  unfolding tree_span read_tree
  walk-reads carry zero base a e = clash e refl
  walk-reads carry (suc n) base a e =
      by_cases (leb C (a.node / 2))
      (λ t. clash e (rw t))
      (λ inside. by_cases (eqb (a.node % 2) 0)
      (λ even. rw even (read-leaf carry n base a inside even e))
      (λ odd.
      let p : Record = record_at xs (place (a.node / 2)) in
      let l = read_tree place next carry xs n (next base) p.left in
      let r = read_tree place next carry xs n (next base) p.right in
      let node = rw (inside, odd) at e in
      let both = node-children (tree_span A C place slot next test n xs) base (a.node / 2) a p node in
      let hl = walk-reads carry n (next base) p.left both.0 in
      let hr = walk-reads carry n (next base) p.right both.1 in
      let h = node-sound (tree_span A C place slot next test n xs) base (a.node / 2) a p _ _ hl.ends hr.ends node in
      rw odd (read-over carry n base a inside odd l r h hl hr)))

  -- the children of a tree that the walk passes
  module _ {I : Type 0} {base : ℕ} {i : I} {l r : Tree ℕ I} (w : Walked A place slot next test xs base (node i l r)) where
    walked-left : Walked A place slot next test xs (next base) l
    walked-left = record {
      sorted = sorted-left (marks l) (marks r) w.sorted;
      balanced = w.balanced.2;
      slots = all_left (marks l) (marks r) w.slots;
      records = w.records.1;
      tested = w.tested.1;
    }

    walked-right : Walked A place slot next test xs (next base) r
    walked-right = record {
      sorted = sorted-right (marks l) (marks r) w.sorted;
      balanced = w.balanced.3;
      slots = all_right (marks l) (marks r) w.slots;
      records = w.records.2;
      tested = w.tested.2;
    }

  -- passing a leaf, and an inner node whose children were passed: the arms are right where no slot's number and no weight goes round
  pass-leaf : (I : Type 0) (n base s : ℕ) → C ≤ 65536 → s < C → slot s ≡ true
      → tree_span A C place slot next test (suc n) xs base (arm_of {I = I} A (slot_mark xs) (leaf s)) ≡ Some (ends s s)
  unfolding tree_span
  pass-leaf I n base s small inside live =
      let f : ℕ → Mark = slot_mark xs in
      let even : eqb ((2 * s) % 2) 0 ≡ true = eq-eqb ((2 * s) % 2) 0 (omega arith) in
      let half : (2 * s) / 2 ≡ s = omega arith in
      rw (half, lt-leb C s inside, even, leaf-complete s (arm_of {I = I} A f (leaf s)) live (sym (leaf_arm-of f s (A.at (f s)) (omega arith))))

  module _ {I : Type 0} (small : C ≤ 65536) (below : (s : ℕ) → slot s ≡ true → s < C) where
    pass-over : (n base : ℕ) (i : I) (l r : Tree ℕ I) → weight l + weight r ≤ 65536 → Walked A place slot next test xs base (node i l r)
        → tree_span A C place slot next test n xs (next base) (arm_of A (slot_mark xs) l) ≡ Some (ends (least l) (greatest l))
        → tree_span A C place slot next test n xs (next base) (arm_of A (slot_mark xs) r) ≡ Some (ends (least r) (greatest r))
        → tree_span A C place slot next test (suc n) xs base (arm_of A (slot_mark xs) (node i l r)) ≡ Some (ends (least l) (greatest r))
    unfolding tree_span
    pass-over n base i l r light w left right =
        let f : ℕ → Mark = slot_mark xs in
        let name : ℕ = least r in
        let a : Arm = arm_of A f (node i l r) in
        let p : Record = arms (arm_of A f l) (arm_of A f r) in
        let rec : ℕ → Arm → Option Ends = tree_span A C place slot next test n xs in
        let odd : eqb ((2 * name + 1) % 2) 0 ≡ false = ne_eqb ((2 * name + 1) % 2) 0 (omega arith) in
        let half : (2 * name + 1) / 2 ≡ name = omega arith in
        let inside : name < C = below name (all-least r (all_right (marks l) (marks r) w.slots)) in
        let h : Passes base name a p (ends (least l) (greatest l)) (ends (least r) (greatest r)) = record {
          fits = record {
            weights = refl;
            even_left = w.balanced.0;
            even_right = w.balanced.1;
            over = sym (over_arm-of A f i l r (omega arith) light);
          };
          named = refl;
          follows = all-least r (all-greatest l (sorted-across (marks l) (marks r) w.sorted));
          tested = w.tested.0;
        } in
        rw (half, lt-leb C name inside, odd, w.records.0, node-complete rec base name a p _ _ left right h)

    pub walk-passes : (n base : ℕ) (t : Tree ℕ I) → depth t < n → weight t ≤ 65536 → Walked A place slot next test xs base t
        → tree_span A C place slot next test n xs base (arm_of A (slot_mark xs) t) ≡ Some (ends (least t) (greatest t))
    walk-passes zero base t deep light w = absurd (omega arith)
    walk-passes (suc n) base (leaf s) deep light w =
        let live : slot s ≡ true = all-least {I = I} (leaf s) w.slots in
        pass-leaf I n base s small (below s live) live
    walk-passes (suc n) base (node i l r) deep light w =
        pass-over n base i l r light w
        (walk-passes n (next base) l (omega arith) (omega arith) (walked-left w))
        (walk-passes n (next base) r (omega arith) (omega arith) (walked-right w))
