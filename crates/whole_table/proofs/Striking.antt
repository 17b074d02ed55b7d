-- A strike of a mark from a sound table that has it leaves a sound table that holds the model's tree, and gives the model's figure. Assumes nothing.
use Prim.Native.Nat.{ℕ, ◌+◌, ◌-◌, ◌≤◌, ◌<◌}
use mathlib.Core.Path.{◌≡◌, refl, sym, ap, subst, ◌∙◌}
use mathlib.Core.Bool.{true}
use mathlib.Core.List.{List}
use mathlib.Core.Option.{Option, none, some}
use native.Mathlib.Omega.{arith}
use lib.Dec.{eqb}
use lib.ListN.{length, get_or}
use borrow.Author.Tests.{eqb-true}
use Rattle.model.specs.Lists.{indicator, count_if, remove_first}
use Rattle.model.specs.Sizes.{W}
use Rattle.model.specs.Tree.{leaf, node, marks_of, rebalance}
use Rattle.model.specs.Fold.{strike_rebuilt}
use Rattle.model.specs.Sheet.{Mark, same, along_x, auxiliary, Main, main}
use Rattle.model.specs.Slots.{slot_axis}
use Rattle.model.proofs.Logic.{by_cases}
use Rattle.model.proofs.Lists.{all-remove_first, remove_first-length}
use Rattle.model.proofs.Orders.{sheet-sameness, along_x-laws}
use Rattle.model.proofs.Tree.{rebalance-marks}
use Rattle.model.proofs.TwoFold.{main-strike-marks, main-strike-alike, main-strike_rebuilt-alike}
use Rattle.table.specs.Layout.{open_place, live_place, root_place}
use Rattle.table.specs.Limits.{damaged}
use Rattle.table.specs.Marks.{slot_mark}
use Rattle.nodes.specs.Holds.{times_in, times}
use Rattle.table.specs.After.{After, after}
use Rattle.nodes.proofs.Unchanged.{Unchanged}
use Rattle.nodes.proofs.Levels.{table-main}
use Rattle.twofold_layout.specs.Rules.{SlotAuxiliary, SlotMain, slot_auxiliary, slot_main, ByRules, marks_main}
use Rattle.twofold_layout.proofs.Frames.{two_frame-weaken}
use Rattle.twofold_layout.proofs.Over.{TableFrame, table-frame}
use Rattle.twofold_layout.proofs.Kept.{kept-header, kept-capacity, kept-lists}
use Rattle.twofold_layout.proofs.Rules.{slot-count, strike-rules}
use Rattle.twofold_layout.proofs.Stands.{stands-strike, stands-strike_rebuilt}
use Rattle.secondary_update.proofs.Striking.{strike-leads, struck_node, leads-strikes, strikes-times}
use Rattle.std.specs.Prelude.{Some, Ok}
use Rattle.primary_search.specs.Find.{find♯}
use Rattle.primary_strike.specs.Strike.{main_strike♯}
use Rattle.primary_strike.proofs.Striking.{main_strike-holds, main_strike-lone}
use Rattle.twofold_layout.specs.Sound.{HoldsTree, TreeByRules, EachOnce, Holding}
use Rattle.table.specs.Header.{capacity_of, live_of}
use Rattle.twofold_layout.proofs.Sound.{live-within}
use Rattle.whole_table.specs.Strike.{free_slot♯, struck, table_strike♯}
use Rattle.whole_table.proofs.Slots.{SameLists, Freeing, freeing, each-once-same, each-once-strike}
use Rattle.whole_table.proofs.Slots.{OffLists, free_slot-unchanged, free_slot-capacity, free_slot-holds, free_slot-rules, free_slot-stands}
use Rattle.whole_table.proofs.Searching.{holding-agrees, holding-small, find-sound}
use Rattle.whole_table.proofs.Settled.{settled-holds, settled-rules, settled-stands}
use Rattle.whole_table.proofs.Inserting.{root-clear}

-- what a strike of the slot s from the tree o leaves
record Taken (f : ℕ → Mark) (s : ℕ) (xs : List ℕ) (p : After ℕ) (o : Option SlotMain) : Type 0 where
  holds : HoldsTree p.words ((slot_main f).strike s o)
  rules : TreeByRules p.words ((slot_main f).strike s o)
  stands : marks_main (slot_mark p.words) ((slot_main f).strike s o) ≡ marks_main f ((slot_main f).strike s o)
  out : p.out ≡ strike_rebuilt (slot_axis f along_x) (slot_auxiliary f) s o
  fine : p.out ≡ damaged → ⊥
  slots : (q : ℕ) → times_in q (marks_of ((slot_main f).strike s o)) + indicator (eqb q s) ≡ times_in q (marks_of o)
  frame : TableFrame (capacity_of xs) xs p.words

-- what such a frame leaves
module _ {xs ys : List ℕ} (a : TableFrame (capacity_of xs) xs ys) where
  frame-header : (i : ℕ) → i < root_place → get_or ys i 0 ≡ get_or xs i 0
  frame-header i h = kept-header (λ q k. k) (root-clear (capacity_of xs)) a i (omega arith) (omega arith)

  frame-lists : SameLists xs ys
  frame-lists = record {
    capacity = kept-capacity (λ q k. k) (root-clear (capacity_of xs)) a;
    same = kept-lists (λ q k. k) (root-clear (capacity_of xs)) a;
  }

-- the slots of the tree after a strike
strike-slots : (f : ℕ → Mark) (s : ℕ) (i : SlotAuxiliary) (l r : SlotMain) → ByRules f (node i l r) → 0 < times s (node i l r) → (q : ℕ)
    → times q (rebalance (slot_axis f along_x) (slot_auxiliary f) (struck_node along_x f s (slot_auxiliary f) i l r)) + indicator (eqb q s)
    ≡ times q (node i l r)
strike-slots f s i l r b n q =
    let u = struck_node along_x f s (slot_auxiliary f) i l r in
    let w = strike-leads along_x f s sheet-sameness along_x-laws (node i l r) b.sorted n in
    omega (
      arith,
      ap (times_in q) (rebalance-marks (slot_axis f along_x) (slot_auxiliary f) u),
      strikes-times along_x f s (slot_auxiliary f) (leads-strikes along_x f s (slot_auxiliary f) i l r w) q,
    )

lone-slots : (s q k : ℕ) → 0 < indicator (eqb s q) + 0 → 0 + indicator (eqb k s) ≡ indicator (eqb k q) + 0
lone-slots s q k n =
    by_cases (eqb s q)
    (λ t. rw (eqb-true s q t) (omega arith))
    (λ t. absurd (let z = (rw t at n) in omega arith))

module _ (xs : List ℕ) (s : ℕ) (small : capacity_of xs ≤ 65536) (long : length xs ≡ W (capacity_of xs)) where
  abbrev f : ℕ → Mark
  f = slot_mark xs

  taken_of : (o : Option SlotMain) → HoldsTree xs o → TreeByRules xs o → 0 < times_in s (marks_of o)
      → Taken f s xs (main_strike♯ (capacity_of xs) (f s) s xs) o
  taken_of none h r n = absurd (omega arith)
  taken_of (some (leaf q)) h r n =
      let k = main_strike-lone f (capacity_of xs) small s q xs long h.0 in
      record {
        holds = ap (λ a. a.weight) k.0;
        rules = tt;
        stands = refl;
        out = k.1;
        fine = λ e. omega (arith, k.1);
        slots = λ z. lone-slots s q z n;
        frame = two_frame-weaken (omega arith) (λ q z. absurd z) (λ q z. absurd z) k.2;
      }
  taken_of (some (node i l r)) h b n =
      let k = main_strike-holds f (capacity_of xs) small s i l r xs long h.0 h.1 b n in
      let u = struck_node along_x f s (slot_auxiliary f) i l r in
      let t = rebalance (slot_axis f along_x) (slot_auxiliary f) u in
      let a = k.leaves in
      let by = strike-rules f s (node i l r) (slot-count f s (node i l r) n) b u refl in
      record {
        holds = settled-holds t a.is a.held by (frame-lists (table-frame a)).capacity;
        rules = settled-rules t a.is a.held by;
        stands = settled-stands t a.is a.held by;
        out = k.figure;
        fine = k.sound;
        slots = strike-slots f s i l r b n;
        frame = table-frame a;
      }

-- THE TABLE

module _ (xs : List ℕ) (T : Main) (h : Holding xs T) (m : Mark) (has : 0 < count_if (same m) (marks_of T))
    (slot : ℕ) (is_found : find♯ xs m ≡ Ok (Some slot)) where
  found : (slot < capacity_of xs) × (same m (slot_mark xs slot) ≡ true) × (times_in slot (marks_of h.slots) ≡ 1)
  found =
      let k = find-sound xs T h m has in
      let same_slot : k.0 ≡ slot = cc k.1 in
      rw (← same_slot) (k.2, k.3, k.4)

  -- the words and the figure after the strike from the tree, before the slot is freed
  p : After ℕ
  p = main_strike♯ (capacity_of xs) (slot_mark xs slot) slot xs

  goes : table_strike♯ slot xs ≡ after p.out (free_slot♯ slot p.words)
  unfolding table_strike♯ struck p
  goes = refl

  abbrev o : Option SlotMain
  o = (slot_main (slot_mark xs)).strike slot h.slots

  taken : Taken (slot_mark xs) slot xs p h.slots
  unfolding p
  taken = taken_of xs slot (holding-small xs T h) h.long h.slots h.holds h.rules (omega (arith, found.2))

  abbrev zs : List ℕ
  zs = p.words

  lists : SameLists xs zs
  lists = frame-lists taken.frame

  live-kept : live_of zs ≡ live_of xs
  live-kept = frame-header taken.frame live_place (omega arith)

  frees : Freeing slot zs
  frees =
      let e = lists.capacity in
      freeing (each-once-same lists live-kept h.free) slot (subst (λ c. slot < c) (sym e) found.0) (rw (e, live-kept) (live-within h)) found.2

  freed : EachOnce (free_slot♯ slot zs) o × (live_of (free_slot♯ slot zs) ≡ live_of xs - 1)
  freed =
      each-once-strike lists live-kept h.free slot found.0 (live-within h) found.2
      (omega (arith, taken.frame.long, h.long, (table-main (capacity_of xs) (holding-small xs T h)).run_room)) taken.slots

  struck-marks : marks_of (main.strike m T) ≡ remove_first (same m) (marks_of T)
  struck-marks = main-strike-marks m T (holding-agrees xs T h).sorted has

  stands-taken : marks_main (slot_mark (free_slot♯ slot zs)) o ≡ main.strike m T
  stands-taken =
      free_slot-stands frees o taken.holds taken.rules ∙ taken.stands ∙ stands-strike (slot_mark xs) slot h.slots
      ∙ ap (main.strike (slot_mark xs slot)) h.stands ∙ sym (main-strike-alike m (slot_mark xs slot) found.1 T)

  taken-holding : Holding (free_slot♯ slot zs) (main.strike m T)
  taken-holding =
      let e : capacity_of (free_slot♯ slot zs) ≡ capacity_of xs = free_slot-capacity frees ∙ lists.capacity in
      record {
        is_open = (free_slot-unchanged slot zs frees).same open_place (omega arith) ∙ frame-header taken.frame open_place (omega arith) ∙ h.is_open;
        capacity = rw e h.capacity;
        long = (free_slot-unchanged slot zs frees).long ∙ taken.frame.long ∙ h.long ∙ ap W (sym e);
        slots = o;
        stands = stands-taken;
        holds = free_slot-holds frees o taken.holds taken.rules;
        rules = free_slot-rules frees o taken.holds taken.rules;
        coordinates = rw struck-marks (all-remove_first (same m) h.coordinates);
        grades = rw struck-marks (all-remove_first (same m) h.grades);
        live = freed.1 ∙ omega (arith, h.live, ap length struck-marks, remove_first-length (same m) (marks_of T) has);
        free = freed.0;
      }

  pub strike-sound : Holding (table_strike♯ slot xs).words (main.strike m T)
      × ((table_strike♯ slot xs).out ≡ strike_rebuilt along_x auxiliary m T) × ((table_strike♯ slot xs).out ≡ damaged → ⊥)
  strike-sound =
      rw goes (
        taken-holding,
        taken.out ∙ stands-strike_rebuilt (slot_mark xs) slot h.slots ∙ ap (strike_rebuilt along_x auxiliary (slot_mark xs slot)) h.stands
            ∙ sym (main-strike_rebuilt-alike m (slot_mark xs slot) found.1 T),
        taken.fine,
      )

  pub strike-capacity : capacity_of (table_strike♯ slot xs).words ≡ capacity_of xs
  strike-capacity = rw goes (free_slot-capacity frees ∙ lists.capacity)

  -- WHAT IT LEAVES ALONE: all but the tree's words, and then all but the live marks' and the lists of slots
  pub strike-frame : (zs : List ℕ) × TableFrame (capacity_of xs) xs zs
      × Unchanged (OffLists (capacity_of xs)) zs (table_strike♯ slot xs).words
  strike-frame = rw goes (zs, taken.frame, subst (λ c. Unchanged (OffLists c) zs (free_slot♯ slot zs)) lists.capacity (free_slot-unchanged slot zs frees))
