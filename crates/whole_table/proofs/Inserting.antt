-- An insertion into a sound table that has room and not the mark leaves a sound table that holds the model's tree, and gives the model's figure. Assumes
-- nothing.
use Prim.Native.Nat.{ℕ, ◌+◌, ◌%◌, ◌≤◌, ◌<◌}
use mathlib.Core.Path.{◌≡◌, refl, sym, ap, ap₂, subst, ◌∙◌}
use mathlib.Core.Bool.{false}
use mathlib.Core.List.{List, [], ◌∷◌}
use mathlib.Core.Option.{Option, none, some}
use native.Mathlib.Omega.{arith}
use lib.Dec.{eqb}
use lib.ListN.{length, get_or, set}
use lib.Seq.{sets, length-sets, get_or-set_same, get_or-set_other}
use borrow.Author.Tests.{le-leb, lt-leb}
use Rattle.model.specs.Lists.{indicator, count_if, insert_sorted}
use Rattle.model.specs.Sizes.{W}
use Rattle.model.specs.Tree.{leaf, marks, marks_of, insert_leaf, rebalance}
use Rattle.model.specs.Fold.{insert_rebuilt}
use Rattle.model.specs.Sheet.{Mark, mark_outside, grade_outside, same, below_x, sheet, along_x, auxiliary, Main, main}
use Rattle.model.specs.Slots.{slot_space, slot_axis}
use Rattle.model.specs.Laws.{nil, sorted[], sorted∷}
use Rattle.model.proofs.Lists.{all-insert_sorted, insert_sorted-count_if, insert_sorted-length}
use Rattle.model.proofs.Tree.{weight-marks, rebalance-marks, insert-marks}
use Rattle.model.proofs.TwoFold.{main-insert-marks}
use Rattle.table.specs.Layout.{mark_width, arm_width, open_place, capacity_place, live_place, slot_place, root_place}
use Rattle.table.specs.Limits.{damaged}
use Rattle.table.specs.Marks.{mark_at, slot_mark, put_mark}
use Rattle.nodes.specs.Arms.{arm_at}
use Rattle.nodes.specs.Weights.{sum}
use Rattle.nodes.specs.Holds.{times_in, times}
use Rattle.table.specs.After.{After}
use Rattle.nodes.proofs.Unchanged.{Off, Unchanged, unchanged-trans, unchanged-weaken, unchanged-arm, unchanged-mark, set-unchanged, sets-unchanged}
use Rattle.nodes.proofs.Frames.{sets-at}
use Rattle.nodes.proofs.Held.{Names}
use Rattle.nodes.proofs.Levels.{table-main}
use Rattle.twofold_layout.specs.Rules.{SlotMain, slot_auxiliary, slot_main, AuxiliariesOf, ByRules, marks_main}
use Rattle.twofold_layout.specs.TwoFold.{TwoFold}
use Rattle.twofold_layout.proofs.Frames.{root-spot}
use Rattle.twofold_layout.proofs.Kept.{Clear, clear-spot, kept-header, kept-lists}
use Rattle.twofold_layout.proofs.Over.{TwoLeavesAt, TableFrame, table-frame}
use Rattle.twofold_layout.proofs.Rules.{slot_sameness, slot_x-laws, insert-rules}
use Rattle.twofold_layout.proofs.Stands.{stands-marks, stands-insert, stands-insert_rebuilt}
use Rattle.twofold_layout.proofs.Agrees.{count_if-map}
use Rattle.twofold_layout.proofs.Same.{unchanged-two}
use Rattle.twofold_layout.proofs.Marks.{SameOn, arm_of-marks, two-marks, rules-marks, marks_main-marks}
use Rattle.primary_insert.specs.Insert.{main_insert♯}
use Rattle.primary_insert.proofs.Inserting.{main_insert-holds, main_insert-first}
use Rattle.twofold_layout.specs.Sound.{used_at, HoldsTree, TreeByRules, Holding}
use Rattle.table.specs.Header.{capacity_of, live_of}
use Rattle.whole_table.specs.Insert.{entered, insert_slot, insert_live, table_insert♯}
use Rattle.whole_table.proofs.Settled.{settled-holds, settled-rules, settled-stands}
use Rattle.whole_table.proofs.Searching.{holding-agrees, holding-small, holding-length}
use Rattle.whole_table.proofs.Slots.{SameLists, free-slot, each-once-insert}

-- THE MARK ENTERED

module _ (m : Mark) (s live : ℕ) (xs : List ℕ) (room : slot_place s + mark_width ≤ length xs) where
  abbrev written : List ℕ
  written = m.x ∷ m.y ∷ m.tag ∷ m.grade ∷ []

  entered-sets : entered m s live xs ≡ set (sets xs (slot_place s) written) live_place (sum live 1)
  unfolding entered put_mark
  entered-sets = rw (le-leb (slot_place s + mark_width) (length xs) room)

  entered-unchanged : Unchanged (λ i. (i ≡ live_place → ⊥) × Off (slot_place s) (slot_place s + mark_width) i) xs (entered m s live xs)
  entered-unchanged =
      rw entered-sets
      (unchanged-trans (unchanged-weaken (λ i o. o.1) (sets-unchanged written xs (slot_place s)))
      (unchanged-weaken (λ i o. o.0) (set-unchanged (sets xs (slot_place s) written) live_place (sum live 1))))

  entered-live : live ≤ 65536 → get_or (entered m s live xs) live_place 0 ≡ live + 1
  unfolding sum
  entered-live few =
      rw entered-sets
      (get_or-set_same (sets xs (slot_place s) written) live_place ((live + 1) % 4294967296) 0 (omega (arith, length-sets xs (slot_place s) written))
      ∙ omega arith)

  entered-word : (j : ℕ) → j < mark_width → get_or (entered m s live xs) (slot_place s + j) 0 ≡ get_or written j 0
  entered-word j h =
      rw entered-sets
      (get_or-set_other (sets xs (slot_place s) written) live_place (slot_place s + j) (sum live 1) 0 (omega arith)
      ∙ sets-at written xs (slot_place s) j h room)

  entered-own : slot_mark (entered m s live xs) s ≡ m
  unfolding slot_mark mark_at
  entered-own =
      let e : slot_place s + 0 ≡ slot_place s = omega arith in
      let w : get_or (entered m s live xs) (slot_place s) 0 ≡ m.x =
      ap (λ i. get_or (entered m s live xs) i 0) (sym e) ∙ entered-word 0 (omega arith) in
      rw (
        entered-unchanged.long,
        le-leb (slot_place s + mark_width) (length xs) room,
        w,
        entered-word 1 (omega arith),
        entered-word 2 (omega arith),
        entered-word 3 (omega arith),
      )

  entered-mark : (q : ℕ) → (q ≡ s → ⊥) → slot_mark (entered m s live xs) q ≡ slot_mark xs q
  entered-mark q n = unchanged-mark entered-unchanged q (omega arith)

  entered-arm : arm_at (entered m s live xs) root_place ≡ arm_at xs root_place
  entered-arm = unchanged-arm entered-unchanged root_place (omega arith)

  entered-two : {f : ℕ → Mark} {C : ℕ} (t : SlotMain) → s < C → times s t ≡ 0 → AuxiliariesOf f t → TwoFold f C 0 xs t
      → TwoFold f C 0 (entered m s live xs) t
  entered-two t low z of h =
      unchanged-two entered-unchanged 0 t (omega arith)
      (λ q c. let n : (q ≡ s → ⊥) = λ e. omega (arith, c.1 of, ap (λ q. times q t) e) in omega arith) (omega arith) h

  -- the tree by the marks of the words with the new one
  entered-same : (l : List ℕ) → times_in s l ≡ 0 → SameOn (slot_mark xs) (slot_mark (entered m s live xs)) l
  entered-same l z q k = sym (entered-mark q (λ e. omega (arith, k, ap (λ q. times_in q l) e)))

-- the words of the root's arm are not of a mark, nor before the capacity's end
pub root-clear : (C : ℕ) → Clear C root_place arm_width
root-clear C = clear-spot {P = λ q. ⊥} root-spot

-- THE TREE

-- the slots of the tree after an insertion
insert-slots : (g : ℕ → Mark) (s : ℕ) (t : SlotMain) → ByRules g t → (q : ℕ)
    → times q (rebalance (slot_axis g along_x) (slot_auxiliary g) (insert_leaf (slot_axis g along_x) (slot_auxiliary g) s t))
    ≡ times q t + indicator (eqb q s)
insert-slots g s t r q =
    let u = insert_leaf (slot_axis g along_x) (slot_auxiliary g) s t in
    let e = rebalance-marks (slot_axis g along_x) (slot_auxiliary g) u in
    let k = insert-marks (slot_space g sheet) (slot_sameness g) (slot_axis g along_x) (slot_x-laws g) (slot_auxiliary g) s t r.sorted in
    omega (arith, ap (times_in q) (e ∙ k), insert_sorted-count_if (slot_axis g along_x).below (eqb q) s (marks t))

lone-rules : (g : ℕ → Mark) (s : ℕ) → ByRules g (leaf s)
lone-rules g s = record { sorted = sorted∷ nil sorted[]; balanced = tt; auxiliaries = tt }

-- what an insertion of the slot s into the tree o leaves, where slot q has the mark g q
record Put (g : ℕ → Mark) (C s : ℕ) (ws : List ℕ) (p : After ℕ) (o : Option SlotMain) : Type 0 where
  tree : SlotMain
  is : (slot_main g).insert s o ≡ some tree
  leaves : TwoLeavesAt g C 0 root_place ws p.words tree
  rules : ByRules g tree
  out : p.out ≡ insert_rebuilt (slot_axis g along_x) (slot_auxiliary g) s o
  fine : p.out ≡ damaged → ⊥
  slots : (q : ℕ) → times q tree ≡ times_in q (marks_of o) + indicator (eqb q s)

module _ (m : Mark) (s live : ℕ) (xs : List ℕ) (C : ℕ) (capacity : capacity_of xs ≡ C) (small : C ≤ 65536) (long : length xs ≡ W C)
    (low : s < C) where
  abbrev ws : List ℕ
  ws = entered m s live xs

  abbrev g : ℕ → Mark
  g = slot_mark (entered m s live xs)

  room-mark : slot_place s + mark_width ≤ length xs
  room-mark = omega (arith, (table-main C small).run_room)

  put_of : (o : Option SlotMain) → HoldsTree xs o → TreeByRules xs o → times_in s (marks_of o) ≡ 0
      → count_if (λ q. same (g s) (g q)) (marks_of o) ≡ 0 → length (marks_of o) < C → Put g C s ws (main_insert♯ C (g s) s ws) o
  put_of none h r z new room =
      let a = entered-arm m s live xs room-mark in
      let k = main_insert-first g C s small low ws ((entered-unchanged m s live xs room-mark).long ∙ long) refl (ap (λ a. a.weight) a ∙ h) in
      record {
        tree = leaf s;
        is = refl;
        leaves = k.0;
        rules = lone-rules g s;
        out = k.1;
        fine = λ e. omega (arith, k.1);
        slots = λ q. omega arith;
      }
  put_of (some t) h r z new room =
      let on = entered-same m s live xs room-mark (marks t) z in
      let by = rules-marks (slot_mark xs) g t on r in
      let two : TwoFold g C 0 xs t =
      subst (λ c. TwoFold g c 0 xs t) capacity (two-marks (slot_mark xs) g t on r.auxiliaries h.1) in
      let k = main_insert-holds g C s small low ws ((entered-unchanged m s live xs room-mark).long ∙ long) refl t
      (entered-arm m s live xs room-mark ∙ h.0 ∙ arm_of-marks (slot_mark xs) g along_x t on)
      (entered-two m s live xs room-mark t low z by.auxiliaries two) by new (omega (arith, weight-marks t)) in
      record {
        tree = rebalance (slot_axis g along_x) (slot_auxiliary g) (insert_leaf (slot_axis g along_x) (slot_auxiliary g) s t);
        is = refl;
        leaves = k.0;
        rules = insert-rules g s t new by;
        out = k.1;
        fine = k.2;
        slots = insert-slots g s t by;
      }

marks-by : (xs : List ℕ) (g : ℕ → Mark) (o : Option SlotMain) → SameOn (slot_mark xs) g (marks_of o) → TreeByRules xs o
    → marks_main g o ≡ marks_main (slot_mark xs) o
marks-by xs g none on r = refl
marks-by xs g (some t) on r = sym (marks_main-marks (slot_mark xs) g t on r)

-- THE TABLE

module _ (xs : List ℕ) (T : Main) (h : Holding xs T) (m : Mark) (within : mark_outside m ≡ false) (graded : grade_outside m ≡ false)
    (new : count_if (same m) (marks_of T) ≡ 0) (room : length (marks_of T) < capacity_of xs) where
  abbrev C : ℕ
  C = capacity_of xs

  -- the first free slot, the words with the mark there, and the marks that they say
  abbrev slot : ℕ
  slot = used_at xs (live_of xs)

  abbrev vs : List ℕ
  vs = entered m slot (live_of xs) xs

  abbrev f : ℕ → Mark
  f = slot_mark vs

  free : (slot < C) × (times_in slot (marks_of h.slots) ≡ 0)
  free = free-slot h.free (omega (arith, h.live))

  enough : slot_place slot + mark_width ≤ length xs
  enough = room-mark m slot (live_of xs) xs C refl (holding-small xs T h) h.long free.0

  own : f slot ≡ m
  own = entered-own m slot (live_of xs) xs enough

  on : SameOn (slot_mark xs) f (marks_of h.slots)
  on = entered-same m slot (live_of xs) xs enough (marks_of h.slots) free.1

  stood : marks_main f h.slots ≡ T
  stood = marks-by xs f h.slots on h.rules ∙ h.stands

  unmet : count_if (λ q. same (f slot) (f q)) (marks_of h.slots) ≡ 0
  unmet =
      let l = marks_of h.slots in
      subst (λ a. count_if (λ q. same a (f q)) l ≡ 0) (sym own)
      (sym (count_if-map f (same m) l) ∙ ap (count_if (same m)) (sym (stands-marks f h.slots) ∙ ap marks_of stood) ∙ new)

  -- the words and the figure that the insertion leaves
  p : After ℕ
  p = main_insert♯ C (f slot) slot vs

  goes : table_insert♯ m xs ≡ p
  unfolding table_insert♯ insert_live insert_slot p
  goes = rw (lt-leb C slot free.0) (ap (λ a. main_insert♯ C a slot vs) (sym own))

  put : Put f C slot vs p h.slots
  unfolding p
  put =
      put_of m slot (live_of xs) xs C refl (holding-small xs T h) h.long free.0 h.slots h.holds h.rules free.1 unmet
      (omega (arith, holding-length xs T h))

  stands-put : marks_main f (some put.tree) ≡ main.insert m T
  stands-put =
      ap (marks_main f) (sym put.is) ∙ stands-insert f slot h.slots ∙ ap₂ (λ a o. main.insert a o) own stood

  names-low : (q : ℕ) → Names put.tree q → q < C
  names-low q k = put.leaves.held.main.within q k.0

  header : (i : ℕ) → i < 64 → Off root_place (root_place + arm_width) i → (i ≡ live_place → ⊥) → get_or p.words i 0 ≡ get_or xs i 0
  header i low out ne =
      kept-header names-low (root-clear C) put.leaves.frame i low out ∙ (entered-unchanged m slot (live_of xs) xs enough).same i (ne, omega arith)

  put-live : live_of p.words ≡ live_of xs + 1
  put-live =
      kept-header names-low (root-clear C) put.leaves.frame live_place (omega arith) (omega arith)
      ∙ entered-live m slot (live_of xs) xs enough (omega (arith, h.live, holding-small xs T h))

  put-lists : SameLists xs p.words
  put-lists = record {
    capacity = header capacity_place (omega arith) (omega arith) (omega arith);
    same = λ i low high. kept-lists names-low (root-clear C) put.leaves.frame i low high
        ∙ (entered-unchanged m slot (live_of xs) xs enough).same i (omega (arith, free.0));
  }

  put-marks : marks_of (main.insert m T) ≡ insert_sorted below_x m (marks_of T)
  put-marks = main-insert-marks m T (holding-agrees xs T h).sorted

  put-holding : Holding p.words (main.insert m T)
  put-holding =
      let a = put.leaves in
      let e = put-lists.capacity in
      record {
        is_open = header open_place (omega arith) (omega arith) (omega arith) ∙ h.is_open;
        capacity = rw e h.capacity;
        long = a.frame.long ∙ (entered-unchanged m slot (live_of xs) xs enough).long ∙ h.long ∙ ap W (sym e);
        slots = some put.tree;
        stands = settled-stands put.tree a.is a.held put.rules ∙ stands-put;
        holds = settled-holds put.tree a.is a.held put.rules e;
        rules = settled-rules put.tree a.is a.held put.rules;
        coordinates = rw put-marks (all-insert_sorted below_x m within h.coordinates);
        grades = rw put-marks (all-insert_sorted below_x m graded h.grades);
        live = put-live ∙ ap (λ k. k + 1) h.live ∙ sym (ap length put-marks ∙ insert_sorted-length below_x m (marks_of T));
        free = each-once-insert put-lists put-live h.free (omega (arith, h.live)) put.slots;
      }

  pub insert-sound : Holding (table_insert♯ m xs).words (main.insert m T) × ((table_insert♯ m xs).out ≡ insert_rebuilt along_x auxiliary m T)
      × ((table_insert♯ m xs).out ≡ damaged → ⊥)
  insert-sound =
      rw goes (
        put-holding,
        put.out ∙ stands-insert_rebuilt f slot h.slots ∙ ap₂ (λ a o. insert_rebuilt along_x auxiliary a o) own stood,
        put.fine,
      )

  pub insert-capacity : capacity_of (table_insert♯ m xs).words ≡ capacity_of xs
  insert-capacity = rw goes put-lists.capacity

  -- WHAT IT LEAVES ALONE: of the words with the mark entered all but the tree's, and of those before all but the mark's and the live marks'
  pub insert-frame : TableFrame C vs (table_insert♯ m xs).words
  insert-frame = rw goes (table-frame put.leaves)

  pub insert-entered : Unchanged (λ i. (i ≡ live_place → ⊥) × ((q : ℕ) → q < C → Off (slot_place q) (slot_place q + mark_width) i)) xs vs
  insert-entered = unchanged-weaken (λ i o. (o.0, o.1 slot free.0)) (entered-unchanged m slot (live_of xs) xs enough)
