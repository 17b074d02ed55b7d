-- On words that hold a two-fold tree by the rules, the mirror of the listing writes the marks of the slots that it meets, in the order in which it meets
-- them, and gives the model's visits. Those slots are the model's, perhaps in another order. Assumes nothing.
use Rattle.std.specs.Prelude.{if◌then◌else◌}
use Prim.Native.Nat.{ℕ, zero, suc, ◌+◌, ◌*◌, ◌/◌, ◌%◌, ◌≤◌, ◌<◌}
use mathlib.Core.Path.{◌≡◌, refl}
use mathlib.Core.Bool.{true, false}
use mathlib.Core.List.{List, [], ◌∷◌, ◌++◌, map}
use mathlib.Core.Option.{none, some}
use native.Mathlib.Omega.{arith}
use native.Mathlib.Nat.{zero-add}
use borrow.Author.Tests.{lt-leb, le-leb, le-ltb, eq-eqb, ne_eqb}
use lib.ListN.{length, get_or, length-append}
use lib.Seq.{sets, length-sets}
use Rattle.model.specs.Lists.{filter_by}
use Rattle.model.specs.Register.{Listed}
use Rattle.model.specs.Tree.{leaf, node, weight, depth, marks, least}
use Rattle.model.specs.Search.{inside, clear, search_list}
use Rattle.model.specs.Sizes.{D, W}
use Rattle.model.specs.Sheet.{Mark, Box, sheet, holds, along_x}
use Rattle.model.specs.Slots.{slot_space, slot_axis}
use Rattle.model.specs.Laws.{SameBag}
use Rattle.model.proofs.Logic.{by_cases}
use Rattle.model.proofs.Lists.{count_if-append}
use Rattle.model.proofs.Tree.{weight-pos}
use Rattle.table.specs.Layout.{mark_width, capacity_place, root_place, level_place, list_place, level_end}
use Rattle.table.specs.Marks.{slot_mark, put_mark, mark_words}
use Rattle.nodes.specs.Arms.{arm_at}
use Rattle.nodes.specs.Holds.{arm_of}
use Rattle.table.specs.Tally.{pack}
use Rattle.table.specs.After.{After, after}
use Rattle.nodes.proofs.Levels.{W-words, most-levels, held-depth}
use Rattle.table.proofs.Tallies.{visited-pack, pack-visits, pack-found}
use Rattle.twofold_layout.specs.Rules.{SlotAuxiliary, SlotMain, slot_auxiliary, slot_main, AuxiliaryOf, AuxiliariesOf, ByRules}
use Rattle.twofold_layout.specs.TwoFold.{TwoFold}
use Rattle.secondary_search.proofs.Listing.{written, written-append, met, met-listed, carries_bag-carries, list-holds}
use Rattle.primary_search.specs.List.{list_mark, list_leaf♯, list_over♯, list_children, list_inner, stops, list_arm, list_beneath♯, list_root}
use Rattle.primary_search.specs.List.{main_list♯}
use Rattle.twofold_layout.proofs.Over.{deeper-level, top-level}
use Rattle.primary_search.proofs.Ready.{ReadyNode, Ready, inside-settled, ready}

pub list-none : (xs : List ℕ) (b : Box) (most : ℕ) (ys : List ℕ) → (arm_at xs root_place).weight ≡ 0 → main_list♯ xs b most ys ≡ after 0 ys
unfolding main_list♯ list_root
list-none xs b most ys e = rw (eq-eqb (arm_at xs root_place).weight 0 e)

module _ (f : ℕ → Mark) (b : Box) where
  -- the model's listing
  abbrev listed_main : SlotMain → Listed ℕ
  listed_main = search_list (slot_space f sheet) (slot_axis f along_x) (slot_auxiliary f) b

  -- the slots whose marks the listing writes, in its order
  abbrev pub met_carried : SlotAuxiliary → List ℕ
  met_carried none = []
  met_carried (some u) = met f b u

  abbrev pub main_met : SlotMain → List ℕ
  main_met (leaf s) = filter_by (λ q. holds b (f q)) (s ∷ [])
  main_met (node i l r) =
      if inside (slot_axis f along_x) b (node i l r) then met_carried i
      else (if clear (slot_axis f along_x) b (node i l r) then [] else main_met l ++ main_met r)

  -- they are the model's
  carried-listed : (l : List ℕ) (i : SlotAuxiliary) → AuxiliaryOf f l i → SameBag (met_carried i) ((slot_auxiliary f).list b i).marks
  carried-listed l i k p = rw k.is (met-listed f b k.tree k.carries p)

  listed_by : (t : SlotMain) → AuxiliariesOf f t → SameBag (main_met t) (listed_main t).marks
  listed_by (leaf s) k p = refl
  listed_by (node i l r) k p =
      by_cases (inside (slot_axis f along_x) b (node i l r))
      (λ t. rw t (carried-listed (marks l ++ marks r) i k.0 p))
      (λ t. by_cases (clear (slot_axis f along_x) b (node i l r))
      (λ u. rw (t, u))
      (λ u. rw (t, u)
      (omega (
        arith,
        count_if-append p (main_met l) (main_met r),
        count_if-append p (listed_main l).marks (listed_main r).marks,
        listed_by l k.1 p,
        listed_by r k.2 p,
      ))))

  pub main_met-listed : (t : SlotMain) → ByRules f t → SameBag (main_met t) ((slot_main f).list b (some t)).marks
  main_met-listed t k = listed_by t k.auxiliaries

  module _ (most : ℕ) (few : most < 4294967296) (C : ℕ) (xs : List ℕ) where
    -- what a step is to make of a tally and a list with room: it writes the marks of slots, in w visits
    abbrev Writes : (ℕ → List ℕ → After ℕ) → List ℕ → ℕ → Type 0
    Writes step l w = (k v : ℕ) (ys : List ℕ) → v + w ≤ most → k + length l ≤ 65536 → list_place (k + length l) ≤ length ys
        → step (pack k v) ys ≡ after (pack (k + length l) (v + w)) (written f k l ys)

    -- the listing at a leaf
    leaf-writes : (s : ℕ) → slot_mark xs s ≡ f s → Writes (list_leaf♯ xs b s) (main_met (leaf s)) 1
    unfolding list_leaf♯ list_mark put_mark
    leaf-writes s e k v ys hv hk hy =
        by_cases (holds b (f s))
        (λ t.
        let room = (rw t at hy) in
        let more = (rw t at hk) in
        rw (e, t, visited-pack k v 1 (omega arith) (omega arith), pack-found k v (omega arith), le-leb (list_place k + mark_width) (length ys) (omega arith)))
        (λ t. rw (e, t, visited-pack k v 0 (omega arith) (omega arith)))

    list-leaf : (n base s : ℕ) → s < C → slot_mark xs s ≡ f s
        → Writes (list_beneath♯ (suc n) xs C b most base (arm_of {I = SlotAuxiliary} along_x f (leaf s))) (main_met (leaf s)) 1
    unfolding list_beneath♯ list_arm stops
    list-leaf n base s below e k v ys hv hk hy =
        let even : (2 * s) % 2 ≡ 0 = omega arith in
        let half : (2 * s) / 2 ≡ s = omega arith in
        rw (pack-visits k v (omega arith), lt-leb most v (omega arith), half, lt-leb C s below, eq-eqb ((2 * s) % 2) 0 even)
        (leaf-writes s e k v ys hv hk hy)

    -- and at a node, by the three ways on
    module _ (n d : ℕ) (i : SlotAuxiliary) (l r : SlotMain) (h : ReadyNode f C xs d i l r) where
      list-node : (w : ℕ) (m : List ℕ)
          → ((k v : ℕ) (ys : List ℕ) → v + (w + 1) ≤ most → k + length m ≤ 65536 → list_place (k + length m) ≤ length ys
          → list_inner (list_beneath♯ n xs C b most) xs C b most (level_place C d) (arm_of along_x f (node i l r)) (least r) (pack k (v + 1)) ys
          ≡ after (pack (k + length m) (v + (w + 1))) (written f k m ys))
          → Writes (list_beneath♯ (suc n) xs C b most (level_place C d) (arm_of along_x f (node i l r))) m (w + 1)
      unfolding list_beneath♯ list_arm stops
      list-node w m inner k v ys hv hk hy =
          let odd : ((2 * least r + 1) % 2 ≡ 0 → ⊥) = omega arith in
          let half : (2 * least r + 1) / 2 ≡ least r = omega arith in
          let z : k + 0 ≡ k = omega arith in
          rw (
            pack-visits k v (omega arith),
            lt-leb most v (omega arith),
            half,
            lt-leb C (least r) h.within,
            ne_eqb ((2 * least r + 1) % 2) 0 odd,
            visited-pack k v 0 (omega arith) (omega arith),
            z,
          ) (inner k v ys hv hk hy)

      list_inside : inside (slot_axis f along_x) b (node i l r) ≡ true
          → Writes (list_beneath♯ (suc n) xs C b most (level_place C d) (arm_of along_x f (node i l r))) (met_carried i)
          (((slot_auxiliary f).list b i).visits + 1)
      unfolding list_inner list_over♯
      list_inside t =
          let a = h.auxiliary in
          let u = a.tree in
          rw a.is
          (list-node ((slot_auxiliary f).list b (some u)).visits (met f b u)
          (λ k v ys hv hk hy.
          let q : v + 1 + ((slot_auxiliary f).list b (some u)).visits ≡ v + (((slot_auxiliary f).list b (some u)).visits + 1) = omega arith in
          rw (
            t,
            le-ltb (length xs) (level_end (level_place C d) C) h.room,
            a.arm,
            list-holds f most few (level_place C d) C xs b 40 u a.held (carries_bag-carries u a.carries) (inside-settled f C xs b d i l r h t)
                (omega (arith, a.shallow)) k (v + 1) ys (omega arith) hk hy,
            q,
          )))

      list-clear : inside (slot_axis f along_x) b (node i l r) ≡ false → clear (slot_axis f along_x) b (node i l r) ≡ true
          → Writes (list_beneath♯ (suc n) xs C b most (level_place C d) (arm_of along_x f (node i l r))) [] 1
      unfolding list_inner
      list-clear t u = list-node 0 [] (λ k v ys hv hk hy. let z : k + 0 ≡ k = omega arith in rw (t, u, z))

      list_open : (ml mr : List ℕ) (wl wr : ℕ) → inside (slot_axis f along_x) b (node i l r) ≡ false
          → clear (slot_axis f along_x) b (node i l r) ≡ false
          → C ≤ 65536 → d < 40
          → Writes (list_beneath♯ n xs C b most (level_place C (suc d)) (arm_of along_x f l)) ml wl
          → Writes (list_beneath♯ n xs C b most (level_place C (suc d)) (arm_of along_x f r)) mr wr
          → Writes (list_beneath♯ (suc n) xs C b most (level_place C d) (arm_of along_x f (node i l r))) (ml ++ mr) (wl + wr + 1)
      unfolding list_inner list_children
      list_open ml mr wl wr t u small low hl hr =
          list-node (wl + wr) (ml ++ mr)
          (λ k v ys hv hk hy.
          let e = length-append ml mr in
          let g = length-sets ys (list_place k) (mark_words (map f ml)) in
          let q : pack (k + length ml + length mr) (v + 1 + wl + wr) ≡ pack (k + (length ml + length mr)) (v + (wl + wr + 1)) = omega arith in
          rw (
            t,
            u,
            h.children,
            deeper-level C d small low,
            hl k (v + 1) ys (omega arith) (omega arith) (omega arith),
            hr (k + length ml) (v + 1 + wl) (written f k ml ys) (omega arith) (omega arith) (omega arith),
            written-append f k ml mr ys,
            e,
            q,
          ))

    list-beneath : C ≤ 65536 → (n d : ℕ) (t : SlotMain) → depth t < n → d + depth t ≤ 38 → Ready f C xs d t
        → Writes (list_beneath♯ n xs C b most (level_place C d) (arm_of along_x f t)) (main_met t) (listed_main t).visits
    list-beneath small zero d t g e h = absurd (omega arith)
    list-beneath small (suc n) d (leaf s) g e h = list-leaf n (level_place C d) s h.0 h.1
    list-beneath small (suc n) d (node i l r) g e h =
        by_cases (inside (slot_axis f along_x) b (node i l r))
        (λ t. rw t (list_inside n d i l r h.0 t))
        (λ t. by_cases (clear (slot_axis f along_x) b (node i l r))
        (λ u. rw (t, u) (list-clear n d i l r h.0 t u))
        (λ u.
        rw (t, u)
        (list_open n d i l r h.0 (main_met l) (main_met r) (listed_main l).visits (listed_main r).visits t u small (omega arith)
        (list-beneath small n (suc d) l (omega arith) (omega arith) h.1) (list-beneath small n (suc d) r (omega arith) (omega arith) h.2))))

module _ (f : ℕ → Mark) (C : ℕ) (xs : List ℕ) where
  pub list-main-holds : (t : SlotMain) → arm_at xs root_place ≡ arm_of along_x f t → TwoFold f C 0 xs t → ByRules f t → C ≤ 65536
      → W C ≤ length xs
      → get_or xs capacity_place 0 ≡ C → (b : Box) (most : ℕ) → most < 2147483648 → ((slot_main f).list b (some t)).visits ≤ most
      → (ys : List ℕ) → list_place (length (main_met f b t)) ≤ length ys → length (main_met f b t) ≤ 65536
      → main_list♯ xs b most ys
      ≡ after (pack (length (main_met f b t)) ((slot_main f).list b (some t)).visits) (sets ys 0 (mark_words (map f (main_met f b t))))
  unfolding main_list♯ list_root
  list-main-holds t root h k small long c b most few hv ys hy hk =
      let m = length (main_met f b t) in
      let w = ((slot_main f).list b (some t)).visits in
      let low : 0 + depth t ≤ D C = omega (arith, held-depth h.main k.balanced) in
      let g = list-beneath f b most (omega arith) C xs small 40 0 t (omega (arith, most-levels C small)) (omega (arith, most-levels C small))
      (ready f C xs small (D C) (omega (arith, W-words C)) 0 t low h k) 0 0 ys (omega arith) (omega arith) (omega arith) in
      rw (c, root, ne_eqb (weight t) 0 (omega (arith, weight-pos t)), top-level C small) (rw (zero-add m, zero-add w) at g)
