-- On words that hold a two-fold tree by the rules, the mirror of the count gives the model's count and visits. Assumes nothing.
use Prim.Native.Nat.{ℕ, suc, ◌+◌, ◌*◌, ◌/◌, ◌%◌, ◌^◌, ◌≤◌, ◌<◌}
use mathlib.Core.Path.{◌≡◌, sym, subst, ◌∙◌}
use mathlib.Core.Bool.{true, false}
use mathlib.Core.List.{List, ◌++◌}
use mathlib.Core.Option.{some}
use native.Mathlib.Omega.{arith}
use lib.ListN.{length, get_or}
use lib.Dec.{leb}
use borrow.Author.Tests.{le-leb, lt-leb, leb-true, le-ltb, eq-eqb, ne_eqb}
use Rattle.model.specs.Totals.{counting}
use Rattle.model.specs.Register.{Found}
use Rattle.model.specs.Tree.{leaf, node, weight, depth, marks, least}
use Rattle.model.specs.Search.{inside, clear, search}
use Rattle.model.specs.Sizes.{D, W}
use Rattle.model.specs.Sheet.{Mark, Box, box, box_crossed, sheet, holds, along_x}
use Rattle.model.specs.Slots.{slot_space, slot_axis, slot_operation}
use Rattle.model.specs.Laws.{AxisLaws, All, cons, Sorted}
use Rattle.model.proofs.Logic.{by_cases}
use Rattle.model.proofs.Lists.{all_left, all_right, all_map, all_alike, count_if-length}
use Rattle.model.proofs.Totals.{counting-laws, total-count}
use Rattle.model.proofs.Sorted.{sorted-left, sorted-right}
use Rattle.model.proofs.Orders.{along_x-laws, along_x-straight, along_y-straight}
use Rattle.model.proofs.Slots.{slot_operation-laws, slot_axis-laws}
use Rattle.model.proofs.Tree.{weight-pos, weight-marks}
use Rattle.table.specs.Layout.{capacity_place, auxiliary_place, root_place, level_place, level_end}
use Rattle.table.specs.Marks.{slot_mark}
use Rattle.nodes.specs.Arms.{arm_at}
use Rattle.nodes.specs.Holds.{arm_of}
use Rattle.table.specs.Grades.{graded, joined, grading}
use Rattle.table.specs.Figures.{packed, arrived}
use Rattle.table.proofs.Packing.{grading-laws, graded-small, word_small, passing-small, packed-below}
use Rattle.table.specs.Limits.{most_visits}
use Rattle.nodes.specs.Count.{figures, added}
use Rattle.nodes.proofs.Held.{held-weight}
use Rattle.nodes.proofs.Levels.{W-words, most-levels, held-depth}
use Rattle.twofold_layout.specs.Rules.{SlotAuxiliary, SlotMain, slot_auxiliary, slot_main, ByRules}
use Rattle.twofold_layout.specs.TwoFold.{TwoFold}
use Rattle.nodes.proofs.Searching.{clear-past, found-clear, Arrives, Laid, count-adds, added-both, added-swap, added-arrive}
use Rattle.secondary_search.proofs.Counting.{Graded, searched, count-by-y, count-holds}
use Rattle.secondary_search.specs.Search.{kind}
use Rattle.primary_search.specs.Count.{leaf♯, hand_over♯, handed♯, main, main_search♯, count_root, main_count♯}
use Rattle.twofold_layout.proofs.Over.{deeper-level, top-level}
use Rattle.twofold_layout.proofs.Stands.{rules-found}
use Rattle.primary_search.proofs.Ready.{ReadyNode, Ready, inside-settled, ready}

pub count_none : (xs : List ℕ) (b : Box) → (arm_at xs root_place).weight ≡ 0 → main_count♯ xs b ≡ 0
unfolding main_count♯ count_root
count_none xs b e = rw (eq-eqb (arm_at xs root_place).weight 0 e)

-- what is searched by the y side alone is what the box asks for
pub hand-over-by-y : (xs : List ℕ) (C : ℕ) (b : Box) (base name tally r : ℕ)
    → r ≡ hand_over♯ xs C (box 0 0 b.y1 b.y2) base name tally
    → r ≡ hand_over♯ xs C b base name tally
unfolding hand_over♯
hand-over-by-y xs C b base name tally r e = e ∙ rw (count-by-y xs C b base (arm_at xs (auxiliary_place name)) (arrived tally 0 0))

-- every grade in a main tree is at most 100
abbrev pub GradedMain : (ℕ → Mark) → SlotMain → Type 0
GradedMain f t = All (λ s. (f s).grade ≤ 100) (marks t)

module _ (f : ℕ → Mark) (b : Box) where
  -- the model's count
  abbrev pub searched_main : SlotMain → Found ℕ
  searched_main = search (slot_space f sheet) (slot_axis f along_x) (slot_auxiliary f) b

  module _ (C : ℕ) (xs : List ℕ) where
    abbrev ordered : AxisLaws (slot_space f sheet) (slot_axis f along_x)
    ordered = slot_axis-laws f sheet along_x along_x-laws

    abbrev ArrivesHere : ℕ → SlotMain → Type 0
    ArrivesHere = Arrives (kind main C xs b) along_x b f (slot_auxiliary f) ordered C xs (added f) (added-both f) (added-swap f) (added-arrive f)

    abbrev LaidHere : ℕ → SlotMain → Type 0
    LaidHere = Laid (kind main C xs b) along_x b f (slot_auxiliary f) ordered C xs (added f) (added-both f) (added-swap f) (added-arrive f)

    -- the arrival at a leaf, at a node whose cell is inside, and at a tree that is clear
    leaf-adds : (s : ℕ) → slot_mark xs s ≡ f s → (f s).grade ≤ 100 → (tally : ℕ)
        → leaf♯ xs b s tally ≡ added f (searched_main (leaf s)) tally
    unfolding leaf♯ added arrived
    leaf-adds s e g tally =
        rw (e, word_small (graded (f s).grade) (graded-small (f s).grade g)) (by_cases (holds b (f s)) (λ u. rw u) (λ u. rw u))

    taken-leaf : (base s : ℕ) → s < C → slot_mark xs s ≡ f s → (f s).grade ≤ 100 → (tally : ℕ)
        → handed♯ xs C b base (2 * s) tally ≡ added f (searched_main (leaf s)) tally
    unfolding handed♯
    taken-leaf base s below e g tally =
        let even : (2 * s) % 2 ≡ 0 = omega arith in
        let half : (2 * s) / 2 ≡ s = omega arith in
        rw (half, lt-leb C s below, eq-eqb ((2 * s) % 2) 0 even) (leaf-adds s e g tally)

    skipped : (t : SlotMain) → Sorted (slot_axis f along_x) (marks t) → clear (slot_axis f along_x) b t ≡ true → (tally : ℕ)
        → arrived tally 0 0 ≡ added f (searched_main t) tally
    unfolding arrived added
    skipped t s e tally =
        rw (found-clear (kind main C xs b) along_x b f (slot_auxiliary f) ordered C xs (added f) (added-both f) (added-swap f) (added-arrive f) t s e)

    -- an auxiliary tree has the grades of the marks beneath its node
    graded-auxiliary : (d : ℕ) (i : SlotAuxiliary) (l r : SlotMain) (h : ReadyNode f C xs d i l r) → GradedMain f (node i l r)
        → Graded f b h.auxiliary.tree
    graded-auxiliary d i l r h g =
        all_map (λ s e. leb-true (f s).grade 100 e)
        (all_alike (λ s. leb (f s).grade 100) (marks l ++ marks r) (marks h.auxiliary.tree) (λ p. sym (h.auxiliary.bag p))
        (all_map (λ s e. le-leb (f s).grade 100 e) g))

    module _ (fine : box_crossed b ≡ false) (small : C ≤ 65536) where
      taken-node : (d : ℕ) (i : SlotAuxiliary) (l r : SlotMain) → ReadyNode f C xs d i l r → GradedMain f (node i l r)
          → inside (slot_axis f along_x) b (node i l r) ≡ true → (tally : ℕ)
          → handed♯ xs C b (level_place C d) (2 * least r + 1) tally ≡ added f (searched_main (node i l r)) tally
      unfolding handed♯ hand_over♯
      taken-node d i l r h g e tally =
          let odd : ((2 * least r + 1) % 2 ≡ 0 → ⊥) = omega arith in
          let half : (2 * least r + 1) / 2 ≡ least r = omega arith in
          let a = h.auxiliary in
          let u = a.tree in
          rw (
            half,
            lt-leb C (least r) h.within,
            ne_eqb ((2 * least r + 1) % 2) 0 odd,
            le-ltb (length xs) (level_end (level_place C d) C) h.room,
            a.arm,
            e,
            a.is,
            count-holds f b (level_place C d) C xs small (along_y-straight b fine) u a.held a.carries (inside-settled f C xs b d i l r h e)
                (graded-auxiliary d i l r h g) a.sorted a.shallow (arrived tally 0 0),
          ) (sym (added-arrive f (searched f b u) tally))

      arrives : (d : ℕ) (t : SlotMain) → Ready f C xs d t → GradedMain f t → Sorted (slot_axis f along_x) (marks t) → ArrivesHere (level_place C d) t
      arrives d (leaf s) h (cons g k) o = record {
        takes = λ e. taken-leaf (level_place C d) s h.0 h.1 g;
        skips = λ e. skipped (leaf s) o (rw e);
        passes = λ e. skipped (leaf s) o (clear-past {I = SlotAuxiliary} (slot_axis f along_x) b (leaf s) e);
      }
      arrives d (node i l r) h g o = record {
        takes = taken-node d i l r h.0 g;
        skips = λ e. skipped (node i l r) o (rw e);
        passes = λ e. skipped (node i l r) o (clear-past (slot_axis f along_x) b (node i l r) e);
      }

      laid : (d : ℕ) (t : SlotMain) → d + depth t ≤ 38 → Ready f C xs d t → GradedMain f t → Sorted (slot_axis f along_x) (marks t)
          → LaidHere (level_place C d) t
      laid d (leaf s) e h g o = arrives d (leaf s) h g o
      laid d (node i l r) e h g o = (
        record { within = h.0.within; children = h.0.children },
        arrives d (node i l r) h g o,
        subst (λ base. LaidHere base l) (sym (deeper-level C d small (omega arith)))
            (laid (suc d) l (omega arith) h.1 (all_left (marks l) (marks r) g) (sorted-left (marks l) (marks r) o)),
        subst (λ base. LaidHere base r) (sym (deeper-level C d small (omega arith)))
            (laid (suc d) r (omega arith) h.2 (all_right (marks l) (marks r) g) (sorted-right (marks l) (marks r) o)),
      )

      -- the tree whose root is at depth d
      pub count-tree : (d : ℕ) (t : SlotMain) → d + depth t ≤ 38 → Ready f C xs d t → GradedMain f t → Sorted (slot_axis f along_x) (marks t)
          → main_search♯ xs C b (level_place C d) (arm_of along_x f t) ≡ added f (searched_main t) 0
      unfolding main_search♯
      count-tree d (leaf s) e h (cons g k) o =
          let even : (2 * s) % 2 ≡ 0 = omega arith in
          let half : (2 * s) / 2 ≡ s = omega arith in
          rw (half, lt-leb C s h.0, eq-eqb ((2 * s) % 2) 0 even) (leaf-adds s h.1 g 0)
      count-tree d (node i l r) e h g o =
          let odd : ((2 * least r + 1) % 2 ≡ 0 → ⊥) = omega arith in
          let half : (2 * least r + 1) / 2 ≡ least r = omega arith in
          rw (half, lt-leb C (least r) h.0.within, ne_eqb ((2 * least r + 1) % 2) 0 odd)
          (count-adds (kind main C xs b) along_x b f (slot_auxiliary f) ordered C xs (added f) (added-both f) (added-swap f) (added-arrive f)
          (along_x-straight b fine) (level_place C d) (node i l r) (omega arith) (laid d (node i l r) e h g o) o 0)

-- figures of a sound table fill their places in the tally
packed-fits : (k v g : ℕ) → k ≤ 65536 → v ≤ most_visits → g < 2147483648 → joined 0 (packed k v g) % 2 ^ 64 ≡ packed k v g
packed-fits k v g hk hv hg = rw (grading-laws.neutral (packed k v g)) (whole k v g hk hv hg)
  where
    whole : (k v g : ℕ) → k ≤ 65536 → v ≤ most_visits → g < 2147483648 → packed k v g % 2 ^ 64 ≡ packed k v g
    whole k v g hk hv hg = omega (arith, packed-below k v g hk (omega arith) hg)

module _ (f : ℕ → Mark) (C : ℕ) (xs : List ℕ) where
  -- ANY TREE THAT THE WORDS HOLD, its root at depth d, from its arm: its levels are among the n that the words have room for
  pub search-holds : (d n : ℕ) (t : SlotMain) → TwoFold f C d xs t → ByRules f t → GradedMain f t → C ≤ 65536 → d + depth t ≤ n → n ≤ 38
      → level_place C n ≤ length xs → (b : Box) → box_crossed b ≡ false → ((slot_main f).count b (some t)).visits ≤ most_visits
      → main_search♯ xs C b (level_place C d) (arm_of along_x f t) ≡ figures f ((slot_main f).count b (some t))
  unfolding added
  search-holds d n t h k g small deep few room b fine hv =
      let found = searched_main f b t in
      let many = rules-found f b t k counting counting-laws ∙ total-count (λ s. holds b (f s)) (marks t) in
      let weighs : found.found counting ≤ 65536 =
      omega (arith, many, count_if-length (λ s. holds b (f s)) (marks t), weight-marks t, held-weight h.main) in
      let graded = rules-found f b t k (slot_operation f grading) (slot_operation-laws f sheet grading grading-laws) in
      let light = passing-small (λ s. (f s).grade) (λ s. holds b (f s)) g (omega (arith, weight-marks t, held-weight h.main)) in
      count-tree f b C xs fine small d t (omega arith) (ready f C xs small n room d t deep h k) g k.sorted
      ∙ packed-fits (found.found counting) found.visits (found.found (slot_operation f grading)) weighs hv (rw graded light)

  -- the table's tree
  pub count-main-holds : (t : SlotMain) → arm_at xs root_place ≡ arm_of along_x f t → TwoFold f C 0 xs t → ByRules f t → GradedMain f t
      → C ≤ 65536
      → W C ≤ length xs → get_or xs capacity_place 0 ≡ C → (b : Box) → box_crossed b ≡ false
      → ((slot_main f).count b (some t)).visits ≤ most_visits
      → main_count♯ xs b ≡ figures f ((slot_main f).count b (some t))
  unfolding main_count♯ count_root
  count-main-holds t root h k g small long c b fine hv =
      rw (c, root, ne_eqb (weight t) 0 (omega (arith, weight-pos t)), top-level C small)
      (search-holds 0 (D C) t h k g small (omega (arith, held-depth h.main k.balanced)) (most-levels C small) (omega (arith, W-words C)) b fine hv)
