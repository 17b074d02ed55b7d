-- What the searches give on a sound table: the slot of a mark, the count and the list of a box with their visits, as the model has them, and the bounds of
-- the visits and of the depth. Assumes nothing.
use Prim.Native.Nat.{ℕ, ◌+◌, ◌*◌, ◌≤◌, ◌<◌}
use mathlib.Core.Path.{◌≡◌, refl, sym, ap, subst, ◌∙◌}
use mathlib.Core.Bool.{true, false}
use mathlib.Core.List.{List, [], ◌∷◌, map}
use mathlib.Core.Option.{Option, none, some}
use native.Mathlib.Omega.{arith}
use native.Mathlib.Nat.{mul-le-mul}
use lib.ListN.{length, length-map}
use lib.Seq.{sets}
use lib.Dec.{ltb}
use borrow.Author.Tests.{eq-eqb, ltb-false}
use Rattle.model.specs.Lists.{count_if, filter_by, sort}
use Rattle.model.specs.Totals.{total_if, counting}
use Rattle.model.specs.Register.{Found}
use Rattle.model.specs.Sizes.{D, W}
use Rattle.model.specs.Tree.{weight, depth, marks_of}
use Rattle.model.specs.Sheet.{Mark, Box, grade_outside, summing, worst, box_crossed, same, holds, below_x, sheet, Main, main}
use Rattle.model.specs.Slots.{map_found}
use Rattle.model.specs.Laws.{SameBag, Distinct, All}
use Rattle.model.proofs.Logic.{by_cases, or-neither}
use Rattle.model.proofs.Totals.{greatest-most}
use Rattle.model.proofs.Lists.{all_map, all-unmapped, count_if-length, same_bag-length, sort-count_if, filter_by-length}
use Rattle.model.proofs.Sizes.{D-rises, capacity-some, capacity-small}
use Rattle.model.proofs.Depth.{balanced-depth}
use Rattle.model.proofs.Orders.{sheet-sameness, equal, equal-self, equal-sound, along_x-laws}
use Rattle.model.proofs.Sorted.{filter_by-sorted, sort_sorted, sorted-distinct, sorted-unique}
use Rattle.model.proofs.Tree.{weight-marks}
use Rattle.model.proofs.TwoFold.{Agrees, open-agrees, total-agrees, count-agrees, count-visits, list-agrees, list-visits}
use Rattle.table.specs.Marks.{slot_mark, mark_words}
use Rattle.nodes.specs.Holds.{times_in}
use Rattle.sizes.specs.Sizes.{visits_within}
use Rattle.table.specs.Layout.{list_place}
use Rattle.table.specs.Tally.{pack}
use Rattle.table.specs.Grades.{grading, sum_of, worst_of}
use Rattle.table.specs.Figures.{packed, found_in, visits_in, grades_in}
use Rattle.table.proofs.Packing.{grading-laws, passing-parts, passing-small, parts-sum, parts-worst, packed-found, packed-visits, packed-grades}
use Rattle.nodes.specs.Count.{figures}
use Rattle.table.specs.Limits.{most_visits}
use Rattle.std.specs.Prelude.{None, Some, Ok}
use Rattle.table.specs.After.{after}
use Rattle.nodes.proofs.Levels.{most-levels, held-shallow}
use Rattle.twofold_layout.specs.Rules.{SlotMain, slot_main, marks_main}
use Rattle.twofold_layout.proofs.Stands.{stands-marks, stands-count, stands-list}
use Rattle.twofold_layout.proofs.Agrees.{count_if-map, same_bag-map, rules-agrees}
use Rattle.primary_search.specs.Find.{find♯}
use Rattle.primary_search.specs.Count.{main_count♯}
use Rattle.primary_search.specs.List.{main_list♯}
use Rattle.primary_search.proofs.Finding.{find-alike, find_none, find-holds, find_absent}
use Rattle.primary_search.proofs.Counting.{count_none, count-main-holds}
use Rattle.primary_search.proofs.Listing.{main_met, main_met-listed, list-none, list-main-holds}
use Rattle.twofold_layout.specs.Sound.{HoldsTree, TreeByRules, Holding}
use Rattle.table.specs.Header.{capacity_of}
use Rattle.twofold_layout.proofs.Sound.{live-slots, live-within}

-- a slot of a list that has a mark which the list's slots have
slot_of : (f : ℕ → Mark) (m : Mark) (l : List ℕ) → 0 < count_if (same m) (map f l) → (s : ℕ) × (0 < times_in s l) × (same m (f s) ≡ true)
slot_of f m [] h = absurd (omega arith)
slot_of f m (q ∷ l) h =
    by_cases (same m (f q))
    (λ t. (q, rw (eq-eqb q q refl) (omega arith), t))
    (λ t.
    let z = (rw t at h) in
    let a = slot_of f m l (omega arith) in
    (a.0, omega (arith, a.1), a.2))

-- (4 D + 1) (2 D + 1) rises with D
budget-rises : (d e : ℕ) → d ≤ e → (4 * d + 1) * (2 * d + 1) ≤ (4 * e + 1) * (2 * e + 1)
budget-rises d e h = mul-le-mul {n₁ = 4 * d + 1} {m₁ = 2 * d + 1} {n₂ = 4 * e + 1} {m₂ = 2 * e + 1} (omega arith) (omega arith)

module _ (xs : List ℕ) where
  agrees-of : (o : Option SlotMain) → TreeByRules xs o → Agrees (marks_main (slot_mark xs) o) (marks_of (marks_main (slot_mark xs) o))
  agrees-of none r = open-agrees
  agrees-of (some t) r =
      subst (Agrees (marks_main (slot_mark xs) (some t))) (sym (stands-marks (slot_mark xs) (some t))) (rules-agrees (slot_mark xs) t r)

  find-of : (o : Option SlotMain) → HoldsTree xs o → TreeByRules xs o → capacity_of xs ≤ 65536 → (s : ℕ)
      → 0 < times_in s (marks_of o)
      → (find♯ xs (slot_mark xs s) ≡ Ok (Some s)) × (s < capacity_of xs) × (times_in s (marks_of o) ≡ 1)
  find-of none k r small s n = absurd (omega arith)
  find-of (some t) k r small s n =
      let g = k.1.main in (
        find-holds (slot_mark xs) (capacity_of xs) xs t k.0 refl g r.sorted (omega (arith, held-shallow g r.balanced small)) s n,
        g.within s n,
        omega (arith, g.once s),
      )

  missing-of : (o : Option SlotMain) → HoldsTree xs o → TreeByRules xs o → capacity_of xs ≤ 65536 → (m : Mark)
      → count_if (λ s. same m (slot_mark xs s)) (marks_of o) ≡ 0 → find♯ xs m ≡ Ok None
  missing-of none k r small m n = find_none xs m k
  missing-of (some t) k r small m n =
      let g = k.1.main in
      find_absent (slot_mark xs) (capacity_of xs) xs t k.0 refl g (omega (arith, held-shallow g r.balanced small)) m n

  -- every grade of the tree's marks is at most 100
  GradedOf : Option SlotMain → Type 0
  GradedOf o = All (λ s. (slot_mark xs s).grade ≤ 100) (marks_of o)

  count_of : (o : Option SlotMain) → HoldsTree xs o → TreeByRules xs o → GradedOf o → capacity_of xs ≤ 65536 → W (capacity_of xs) ≤ length xs
      → (b : Box) → box_crossed b ≡ false
      → ((slot_main (slot_mark xs)).count b o).visits ≤ most_visits
      → main_count♯ xs b ≡ figures (slot_mark xs) ((slot_main (slot_mark xs)).count b o)
  unfolding GradedOf packed
  count_of none k r g small long b fine n = count_none xs b k
  count_of (some t) k r g small long b fine n = count-main-holds (slot_mark xs) (capacity_of xs) xs t k.0 k.1 r g small long refl b fine n

  -- the slots that a listing meets
  met_of : Box → Option SlotMain → List ℕ
  met_of b none = []
  met_of b (some t) = main_met (slot_mark xs) b t

  met-bag : (b : Box) (o : Option SlotMain) → TreeByRules xs o → SameBag (met_of b o) ((slot_main (slot_mark xs)).list b o).marks
  unfolding met_of
  met-bag b none r p = refl
  met-bag b (some t) r p = main_met-listed (slot_mark xs) b t r p

  list_of : (o : Option SlotMain) → HoldsTree xs o → TreeByRules xs o → capacity_of xs ≤ 65536 → W (capacity_of xs) ≤ length xs
      → (b : Box) (most : ℕ) → most < 2147483648
      → ((slot_main (slot_mark xs)).list b o).visits ≤ most → (ys : List ℕ) → list_place (length (met_of b o)) ≤ length ys
      → length (met_of b o) ≤ 65536
      → main_list♯ xs b most ys
      ≡ after (pack (length (met_of b o)) ((slot_main (slot_mark xs)).list b o).visits) (sets ys 0 (mark_words (map (slot_mark xs) (met_of b o))))
  unfolding met_of
  list_of none k r small long b most few n ys room fit = list-none xs b most ys k
  list_of (some t) k r small long b most few n ys room fit =
      list-main-holds (slot_mark xs) (capacity_of xs) xs t k.0 k.1 r small long refl b most few n ys room fit

-- what a listing leaves: the marks l written, as the model has them but perhaps in another order
pub record Lists (xs : List ℕ) (T : Main) (b : Box) (most : ℕ) (ys : List ℕ) : Type 0 where
  pub met : List Mark
  pub is : main_list♯ xs b most ys ≡ after (pack (length met) (main.list b T).visits) (sets ys 0 (mark_words met))
  pub bag : SameBag met (main.list b T).marks
  pub many : length met ≡ count_if (holds b) (marks_of T)
  pub once : Distinct sheet met
  pub sorts : sort below_x met ≡ filter_by (holds b) (marks_of T)

module _ (xs : List ℕ) (T : Main) (h : Holding xs T) where
  pub holding-agrees : Agrees T (marks_of T)
  holding-agrees = subst (λ T. Agrees T (marks_of T)) h.stands (agrees-of xs h.slots h.rules)

  pub holding-some : 1 ≤ capacity_of xs
  holding-some = capacity-some (capacity_of xs) h.capacity

  pub holding-small : capacity_of xs ≤ 65536
  holding-small = capacity-small (capacity_of xs) h.capacity

  holding-room : W (capacity_of xs) ≤ length xs
  holding-room = omega (arith, h.long)

  -- the marks are those of the slots
  pub holding-marks : marks_of T ≡ map (slot_mark xs) (marks_of h.slots)
  holding-marks = ap marks_of (sym h.stands) ∙ stands-marks (slot_mark xs) h.slots

  pub holding-length : length (marks_of T) ≡ length (marks_of h.slots)
  holding-length = sym h.live ∙ live-slots h

  pub holding-within : length (marks_of T) ≤ capacity_of xs
  holding-within = omega (arith, h.live, live-within h)

  -- every grade is at most 100
  holding-graded : All (λ m. m.grade ≤ 100) (marks_of T)
  unfolding grade_outside
  holding-graded = all_map (λ m e. ltb-false 100 m.grade (or-neither (ltb m.grade 1) (ltb 100 m.grade) e).1) h.grades

  graded-slots : GradedOf xs h.slots
  unfolding GradedOf
  graded-slots = all-unmapped (slot_mark xs) (marks_of h.slots) (subst (All (λ m. m.grade ≤ 100)) holding-marks holding-graded)

  -- the depth
  pub holding-levels : D (length (marks_of T)) ≤ D (capacity_of xs)
  holding-levels = D-rises (length (marks_of T)) (capacity_of xs) holding-within

  pub holding-depth : (t : SlotMain) → h.slots ≡ some t → depth t ≤ D (length (marks_of T))
  holding-depth t e =
      let r = subst (TreeByRules xs) e h.rules in
      let n : weight t ≡ length (marks_of T) = weight-marks t ∙ ap (λ o. length (marks_of o)) (sym e) ∙ sym holding-length in
      subst (λ n. depth t ≤ D n) n (balanced-depth t r.balanced)

  -- the finding
  pub find-sound : (m : Mark) → 0 < count_if (same m) (marks_of T)
      → (s : ℕ) × (find♯ xs m ≡ Ok (Some s)) × (s < capacity_of xs) × (same m (slot_mark xs s) ≡ true) × (times_in s (marks_of h.slots) ≡ 1)
  find-sound m n =
      let a = slot_of (slot_mark xs) m (marks_of h.slots) (subst (λ l. 0 < count_if (same m) l) holding-marks n) in
      let k = find-of xs h.slots h.holds h.rules holding-small a.0 a.1 in
      (a.0, find-alike m (slot_mark xs a.0) a.2 xs ∙ k.0, k.1, a.2, k.2)

  pub find-missing : (m : Mark) → count_if (same m) (marks_of T) ≡ 0 → find♯ xs m ≡ Ok None
  find-missing m n =
      missing-of xs h.slots h.holds h.rules holding-small m
      (sym (count_if-map (slot_mark xs) (same m) (marks_of h.slots)) ∙ ap (count_if (same m)) (sym holding-marks) ∙ n)

  module _ (b : Box) where
    -- the count
    pub count-plain : (main.count b T).found counting ≡ count_if (holds b) (marks_of T)
    count-plain = count-agrees b T (marks_of T) holding-agrees

    pub count-budget : (main.count b T).visits ≤ (4 * D (length (marks_of T)) + 1) * (2 * D (length (marks_of T)) + 1)
    count-budget = count-visits b T (marks_of T) holding-agrees

    -- the bound of the table's own capacity, and of the largest
    pub count-within : (main.count b T).visits ≤ visits_within (capacity_of xs)
    unfolding visits_within
    count-within = omega (arith, count-budget, budget-rises (D (length (marks_of T))) (D (capacity_of xs)) holding-levels)

    pub count_most : (main.count b T).visits ≤ most_visits
    count_most =
        let few : D (length (marks_of T)) ≤ 38 = omega (arith, holding-levels, most-levels (capacity_of xs) holding-small) in
        omega (arith, count-budget, budget-rises (D (length (marks_of T))) 38 few)

    stands-found : map_found (slot_mark xs) ((slot_main (slot_mark xs)).count b h.slots) ≡ main.count b T
    stands-found = stands-count (slot_mark xs) b h.slots ∙ ap (main.count b) h.stands

    abbrev figures_of : Found Mark → ℕ
    figures_of a = packed (a.found counting) a.visits (a.found grading)

    count-tally : box_crossed b ≡ false → main_count♯ xs b ≡ figures_of (main.count b T)
    count-tally fine =
        count_of xs h.slots h.holds h.rules graded-slots holding-small holding-room b fine
        (subst (λ a. a.visits ≤ most_visits) (sym stands-found) count_most)
        ∙ ap figures_of stands-found

    -- THE TALLY OF A COUNT: the number, the visits, and the grades' figure taken apart into sum and worst
    grades-few : (main.count b T).found grading < 2147483648
    grades-few =
        rw (total-agrees b T (marks_of T) holding-agrees grading grading-laws)
        (passing-small (λ m. m.grade) (holds b) holding-graded (omega (arith, holding-within, holding-small)))

    grades-parts : (main.count b T).found grading ≡ 256 * total_if summing (holds b) (marks_of T) + total_if worst (holds b) (marks_of T)
    grades-parts = total-agrees b T (marks_of T) holding-agrees grading grading-laws ∙ passing-parts (λ m. m.grade) (holds b) holding-graded

    worst-few : total_if worst (holds b) (marks_of T) ≤ 100
    worst-few = greatest-most 100 (λ m. m.grade) (holds b) holding-graded

    module _ (fine : box_crossed b ≡ false) where
      abbrev found : Found Mark
      found = main.count b T

      pub count-found : found_in (main_count♯ xs b) ≡ count_if (holds b) (marks_of T)
      count-found =
          ap found_in (count-tally fine)
          ∙ packed-found (found.found counting) found.visits (found.found grading) (omega (arith, count_most)) grades-few ∙ count-plain

      pub count-visited : visits_in (main_count♯ xs b) ≡ (main.count b T).visits
      count-visited =
          ap visits_in (count-tally fine)
          ∙ packed-visits (found.found counting) found.visits (found.found grading) (omega (arith, count_most)) grades-few

      graded : grades_in (main_count♯ xs b) ≡ 256 * total_if summing (holds b) (marks_of T) + total_if worst (holds b) (marks_of T)
      graded =
          ap grades_in (count-tally fine)
          ∙ packed-grades (found.found counting) found.visits (found.found grading) (omega (arith, count_most)) grades-few ∙ grades-parts

      pub count-sum : sum_of (grades_in (main_count♯ xs b)) ≡ total_if summing (holds b) (marks_of T)
      count-sum = ap sum_of graded ∙ parts-sum (total_if summing (holds b) (marks_of T)) (total_if worst (holds b) (marks_of T)) worst-few

      pub count-worst : worst_of (grades_in (main_count♯ xs b)) ≡ total_if worst (holds b) (marks_of T)
      count-worst = ap worst_of graded ∙ parts-worst (total_if summing (holds b) (marks_of T)) (total_if worst (holds b) (marks_of T)) worst-few

    -- the list
    pub list-within : (main.list b T).visits ≤ visits_within (capacity_of xs) + 2 * count_if (holds b) (marks_of T)
    list-within = omega (arith, list-visits b T (marks_of T) holding-agrees, count-within)

    pub list-most : (main.list b T).visits ≤ most_visits + 2 * count_if (holds b) (marks_of T)
    list-most = omega (arith, list-visits b T (marks_of T) holding-agrees, count_most)

    abbrev met-slots : List ℕ
    met-slots = met_of xs b h.slots

    met-listed : SameBag (map (slot_mark xs) met-slots) (main.list b T).marks
    met-listed p =
        same_bag-map (slot_mark xs) met-slots ((slot_main (slot_mark xs)).list b h.slots).marks (met-bag xs b h.slots h.rules) p
        ∙ ap (λ a. count_if p a.marks) (stands-list (slot_mark xs) b h.slots ∙ ap (main.list b) h.stands)

    -- in some order, the marks that the box holds
    met-held : SameBag (map (slot_mark xs) met-slots) (filter_by (holds b) (marks_of T))
    met-held p =
        met-listed p ∙ sym (sort-count_if below_x p (main.list b T).marks) ∙ ap (count_if p) (list-agrees b T (marks_of T) holding-agrees)

    met-once : Distinct sheet (map (slot_mark xs) met-slots)
    met-once q =
        omega (arith, met-held (same q), sorted-distinct sheet-sameness along_x-laws (filter_by-sorted (holds b) holding-agrees.sorted) q)

    met-sorts : sort below_x (map (slot_mark xs) met-slots) ≡ filter_by (holds b) (marks_of T)
    met-sorts =
        let met = map (slot_mark xs) met-slots in
        sorted-unique sheet-sameness along_x-laws equal equal-self equal-sound (sort_sorted sheet-sameness along_x-laws met met-once)
        (filter_by-sorted (holds b) holding-agrees.sorted)
        (λ p. sort-count_if below_x p met ∙ met-held p)

    met-many : length (map (slot_mark xs) met-slots) ≡ count_if (holds b) (marks_of T)
    met-many =
        same_bag-length (map (slot_mark xs) met-slots) (filter_by (holds b) (marks_of T)) met-held ∙ filter_by-length (holds b) (marks_of T)

    pub list-sound : (most : ℕ) (ys : List ℕ) → (main.list b T).visits ≤ most → most < 2147483648
        → list_place (count_if (holds b) (marks_of T)) ≤ length ys → Lists xs T b most ys
    list-sound most ys v few room =
        let n : length met-slots ≡ count_if (holds b) (marks_of T) = sym (length-map met-slots (slot_mark xs)) ∙ met-many in
        let e : ((slot_main (slot_mark xs)).list b h.slots).visits ≡ (main.list b T).visits =
        ap (λ a. a.visits) (stands-list (slot_mark xs) b h.slots ∙ ap (main.list b) h.stands) in
        let fit : length met-slots ≤ 65536 = omega (arith, count_if-length (holds b) (marks_of T), holding-within, holding-small) in
        record {
          met = map (slot_mark xs) met-slots;
          is =
              list_of xs h.slots h.holds h.rules holding-small holding-room b most few (omega arith) ys (omega arith) fit
              ∙ ap (λ v. after (pack (length met-slots) v) (sets ys 0 (mark_words (map (slot_mark xs) met-slots)))) e
              ∙ ap (λ k. after (pack k (main.list b T).visits) (sets ys 0 (mark_words (map (slot_mark xs) met-slots))))
              (sym (length-map met-slots (slot_mark xs)));
          bag = met-listed;
          many = met-many;
          once = met-once;
          sorts = met-sorts;
        }
