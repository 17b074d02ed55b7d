-- What the searches ask of the words of a two-fold tree, node by node: the words hold it, have room for its levels, and it is by the rules. Assumes nothing.
use Prim.Native.Nat.{ℕ, suc, ◌+◌, ◌≤◌, ◌<◌}
use mathlib.Core.Path.{◌≡◌, sym, subst, ◌∙◌}
use mathlib.Core.Bool.{true}
use mathlib.Core.List.{List, ◌++◌}
use mathlib.Core.Option.{some, some-injective}
use native.Mathlib.Omega.{arith}
use native.Mathlib.Nat.{suc-mul, mul-le-mul_right}
use lib.ListN.{length}
use Rattle.model.specs.Axis.{on_side}
use Rattle.model.specs.Tree.{Tree, leaf, node, depth, marks, least, Balanced}
use Rattle.model.specs.Search.{inside}
use Rattle.model.specs.Sheet.{Mark, Box, sheet, along_x, along_y}
use Rattle.model.specs.Slots.{slot_space, slot_axis}
use Rattle.model.specs.Laws.{SameBag, Sorted}
use Rattle.model.proofs.Lists.{all_alike}
use Rattle.model.proofs.Sorted.{sorted-left, sorted-right}
use Rattle.model.proofs.Search.{inside-on_side}
use Rattle.model.proofs.Orders.{along_x-laws}
use Rattle.model.proofs.Slots.{slot_axis-laws}
use Rattle.table.specs.Layout.{main_place, auxiliary_place, level_place, record_place, level_end}
use Rattle.table.specs.Marks.{slot_mark}
use Rattle.nodes.specs.Arms.{arms, arm_at, record_at}
use Rattle.nodes.specs.Holds.{arm_of, Held, CarriesBag}
use Rattle.nodes.proofs.Held.{times-least, held-least, held-left, held-right}
use Rattle.nodes.proofs.Levels.{held-shallow}
use Rattle.twofold_layout.specs.Rules.{SlotAuxiliary, SlotMain, AuxiliaryOf, ByRules}
use Rattle.twofold_layout.specs.TwoFold.{HoldsAuxiliary, TwoFold}
use Rattle.secondary_search.proofs.Counting.{Settled}

module _ (f : ℕ → Mark) (C : ℕ) (xs : List ℕ) where
  -- the auxiliary tree of the main node of that name at depth d, over the slots of l
  pub record ReadyAuxiliary (d name : ℕ) (l : List ℕ) (o : SlotAuxiliary) : Type 0 where
    pub tree : Tree ℕ (List ℕ)
    pub is : o ≡ some tree
    pub arm : arm_at xs (auxiliary_place name) ≡ arm_of along_y f tree
    pub held : Held along_y f (record_place (level_place C d)) C xs tree
    pub bag : SameBag (marks tree) l
    pub sorted : Sorted (slot_axis f along_y) (marks tree)
    pub carries : CarriesBag tree
    pub shallow : depth tree ≤ 38

  pub record ReadyNode (d : ℕ) (i : SlotAuxiliary) (l r : SlotMain) : Type 0 where
    pub within : least r < C
    pub room : level_end (level_place C d) C ≤ length xs
    pub children : record_at xs (main_place (least r)) ≡ arms (arm_of along_x f l) (arm_of along_x f r)
    pub auxiliary : ReadyAuxiliary d (least r) (marks l ++ marks r) i
    pub sorted : Sorted (slot_axis f along_x) (marks l ++ marks r)

  abbrev pub Ready : ℕ → SlotMain → Type 0
  Ready d (leaf s) = (s < C) × (slot_mark xs s ≡ f s)
  Ready d (node i l r) = ReadyNode d i l r × Ready (suc d) l × Ready (suc d) r

  -- all beneath a node whose cell is inside the box's side are settled, and so is its auxiliary tree
  pub inside-settled : (b : Box) (d : ℕ) (i : SlotAuxiliary) (l r : SlotMain) (h : ReadyNode d i l r) → inside (slot_axis f along_x) b (node i l r) ≡ true
      → Settled f b h.auxiliary.tree
  inside-settled b d i l r h e =
      all_alike (λ s. on_side along_x b (f s).x) (marks l ++ marks r) (marks h.auxiliary.tree) (λ p. sym (h.auxiliary.bag p))
      (inside-on_side (slot_space f sheet) (slot_axis f along_x) (slot_axis-laws f sheet along_x along_x-laws) b (node i l r) h.sorted e)

  module _ (small : C ≤ 65536) where
    ready-auxiliary : (d name : ℕ) (l : List ℕ) (o : SlotAuxiliary) → HoldsAuxiliary f C d name xs o → AuxiliaryOf f l o → ReadyAuxiliary d name l o
    ready-auxiliary d name l o h k =
        let e : k.tree ≡ h.tree = some-injective k.tree h.tree (sym k.is ∙ h.is) in
        record {
          tree = h.tree;
          is = h.is;
          arm = h.arm;
          held = h.held;
          bag = subst (λ t. SameBag (marks t) l) e k.bag;
          sorted = subst (λ t. Sorted (slot_axis f along_y) (marks t)) e k.sorted;
          carries = subst CarriesBag e k.carries;
          shallow = held-shallow h.held (subst Balanced e k.balanced) small;
        }

    -- a level of the n that the words have room for is all there
    module _ (n : ℕ) (room : level_place C n ≤ length xs) where
      level-there : (d : ℕ) → d < n → level_end (level_place C d) C ≤ length xs
      level-there d h = omega (arith, suc-mul d C, mul-le-mul_right {m = suc d} {n = n} C h)

      pub ready : (d : ℕ) (t : SlotMain) → d + depth t ≤ n → TwoFold f C d xs t → ByRules f t → Ready d t
      ready d (leaf s) e h k = (held-least h.main, h.main.marked s (times-least {I = SlotAuxiliary} (leaf s)))
      ready d (node i l r) e h k = (
        record {
          within = held-least (held-right h.main);
          room = level-there d (omega arith);
          children = h.main.records.0;
          auxiliary = ready-auxiliary d (least r) (marks l ++ marks r) i h.auxiliaries.0 k.auxiliaries.0;
          sorted = k.sorted;
        },
        ready (suc d) l (omega arith) (record { main = held-left h.main; auxiliaries = h.auxiliaries.1 })
            (record { sorted = sorted-left (marks l) (marks r) k.sorted; balanced = k.balanced.2; auxiliaries = k.auxiliaries.1 }),
        ready (suc d) r (omega arith) (record { main = held-right h.main; auxiliaries = h.auxiliaries.2 })
            (record { sorted = sorted-right (marks l) (marks r) k.sorted; balanced = k.balanced.3; auxiliaries = k.auxiliaries.2 }),
      )
