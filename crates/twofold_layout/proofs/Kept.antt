-- What a change within a two-fold tree leaves: the header, the lists of slots, the marks, and the records, arms and trees that its frame does not tell.
-- Assumes nothing.
use Prim.Native.Nat.{ℕ, ◌+◌, ◌≤◌, ◌<◌}
use mathlib.Core.Path.{◌≡◌, subst, ◌∙◌}
use mathlib.Core.List.{List}
use mathlib.Core.Logic.{◌⊎◌}
use native.Mathlib.Omega.{arith}
use lib.ListN.{get_or}
use Rattle.model.specs.Tree.{Tree, least}
use Rattle.model.specs.Sheet.{Mark, along_y}
use Rattle.model.proofs.Logic.{by_order}
use Rattle.table.specs.Layout.{mark_width, arm_width, record_width, node_width, capacity_place, slot_place, main_place, auxiliary_place, used_place, run_place}
use Rattle.table.specs.Layout.{level_place, record_place}
use Rattle.table.specs.Marks.{slot_mark}
use Rattle.nodes.specs.Arms.{arm_at, record_at}
use Rattle.nodes.specs.Holds.{times, Held}
use Rattle.nodes.proofs.Unchanged.{Off, Keeps, Apart, unchanged-arm, unchanged-record, unchanged-mark}
use Rattle.nodes.proofs.Held.{Names, names-none, held_same}
use Rattle.nodes.proofs.Levels.{levels-apart}
use Rattle.twofold_layout.specs.Rules.{SlotAuxiliary, SlotMain, AuxiliariesOf}
use Rattle.twofold_layout.specs.TwoFold.{HoldsAuxiliary, TwoFold}
use Rattle.twofold_layout.proofs.Frames.{OffTwo, TwoFrame, TwoSpot}
use Rattle.twofold_layout.proofs.Same.{unchanged-two}

-- the w words from `at` on are before the lists of slots, and none of them is of a mark, or the capacity's
pub record Clear (C at w : ℕ) : Type 0 where
  pub low : at + w ≤ used_place C 0
  pub after_capacity : Off at (at + w) capacity_place
  pub off_marks : (q : ℕ) → q < C → Apart at w (slot_place q) mark_width

pub clear_none : {C : ℕ} → Clear C 0 0
clear_none = omega arith

pub clear-spot : {C at : ℕ} {P : ℕ → Type 0} → TwoSpot C P at → Clear C at arm_width
clear-spot t = record { low = t.low; after_capacity = omega (arith, t.after_capacity); off_marks = t.off_marks }

module _ {C d at w : ℕ} {P Q : ℕ → Type 0}
    {xs ys : List ℕ} (in_p : (s : ℕ) → P s → s < C) (c : Clear C at w) (a : TwoFrame C d P Q at w xs ys) where
  -- WORDS THAT ARE KEPT

  marks-kept : (s : ℕ) → s < C → Keeps (OffTwo C d P Q at w) (slot_place s) (slot_place s + mark_width)
  marks-kept s h i l u = record { tree = omega arith; runs = omega arith; spot = λ k. omega (arith, c.off_marks s h (omega arith)) }

  -- of a main node that P does not tell, those apart from the w at `at`
  node_kept : (q k u : ℕ) → q < C → (P q → ⊥) → main_place q ≤ k → k + u ≤ main_place q + node_width → Apart at w k u
      → Keeps (OffTwo C d P Q at w) k (k + u)
  node_kept q k u h out low high off i l m = record {
    tree = record {
      nodes = λ s p. by_order s q (λ o. omega arith) (λ e. absurd (out (subst P e p))) (λ o. omega arith);
      levels = omega arith;
    };
    runs = omega arith;
    spot = λ z. omega (arith, off (omega arith));
  }

  -- of the record s in the level e, where Q does not tell it in the levels from d on
  level-kept : (e s : ℕ) → s < C → ((q : ℕ) → Q q → q < C) → (d ≤ e → Q s → ⊥)
      → Keeps (OffTwo C d P Q at w) (record_place (level_place C e) s) (record_place (level_place C e) s + record_width)
  level-kept e s h in_q out i l u = record {
    tree = record {
      nodes = λ q p. omega (arith, in_p q p);
      levels = λ b low q k.
          by_order b e (λ o. omega (arith, levels-apart C b e q s o (in_q q k) h))
          (λ z. by_order q s (λ o. rw z (omega arith)) (λ y. absurd (out (subst (λ n. d ≤ n) z low) (subst Q y k))) (λ o. rw z (omega arith)))
          (λ o. omega (arith, levels-apart C e b s q o h (in_q q k)));
    };
    runs = omega arith;
    spot = omega (arith, c.low);
  }

  -- WHAT THEY ARE WORDS OF

  pub kept-header : (i : ℕ) → i < 64 → Off at (at + w) i → get_or ys i 0 ≡ get_or xs i 0
  kept-header i h out = a.same i record { tree = omega arith; runs = omega arith; spot = out }

  pub kept-capacity : get_or ys capacity_place 0 ≡ get_or xs capacity_place 0
  kept-capacity = kept-header capacity_place (omega arith) c.after_capacity

  pub kept-lists : (i : ℕ) → used_place C 0 ≤ i → i < run_place C 0 → get_or ys i 0 ≡ get_or xs i 0
  kept-lists i low high =
      a.same i record {
        tree = record { nodes = λ s p. omega (arith, in_p s p); levels = omega arith };
        runs = omega arith;
        spot = omega (arith, c.low);
      }

  pub kept-mark : (s : ℕ) → s < C → slot_mark ys s ≡ slot_mark xs s
  kept-mark s h = unchanged-mark a s (marks-kept s h)

  pub kept_record : (q : ℕ) → q < C → (P q → ⊥) → Apart at w (main_place q) record_width
      → record_at ys (main_place q) ≡ record_at xs (main_place q)
  kept_record q h out off = unchanged-record a (main_place q) (node_kept q (main_place q) record_width h out (omega arith) (omega arith) off)

  pub kept-auxiliary : (q : ℕ) → q < C → (P q → ⊥) → Apart at w (auxiliary_place q) arm_width
      → arm_at ys (auxiliary_place q) ≡ arm_at xs (auxiliary_place q)
  kept-auxiliary q h out off = unchanged-arm a (auxiliary_place q) (node_kept q (auxiliary_place q) arm_width h out (omega arith) (omega arith) off)

  pub kept_arm : (at' : ℕ) → TwoSpot C P at' → Apart at w at' arm_width → arm_at ys at' ≡ arm_at xs at'
  kept_arm at' t off =
      unchanged-arm a at' (λ i l u. record {
        tree = record { nodes = λ q p k. omega (arith, t.off_nodes q p (omega arith)); levels = omega (arith, t.low) };
        runs = omega (arith, t.low);
        spot = λ k. omega (arith, off (omega arith));
      })

  -- TREES

  module _ {f : ℕ → Mark} where
    -- an auxiliary tree of the level of depth e, where the frame tells none of its slots there
    pub kept-tree : (e : ℕ) (x : Tree ℕ (List ℕ)) → ((q : ℕ) → Q q → q < C) → (d ≤ e → (s : ℕ) → Q s → times s x ≡ 0)
        → Held along_y f (record_place (level_place C e)) C xs x → Held along_y f (record_place (level_place C e)) C ys x
    kept-tree e x in_q none h =
        held_same along_y f x
        (λ s k. unchanged-record a (record_place (level_place C e) s)
        (level-kept e s (h.within s k.0) in_q (λ l q. omega (arith, k.0, none l s q))))
        (λ s k. kept-mark s (h.within s k)) h

    -- the auxiliary tree of a main node that P does not tell, in a level above
    pub kept-own : (e name : ℕ) (o : SlotAuxiliary) → e < d → ((q : ℕ) → Q q → q < C) → name < C → (P name → ⊥)
        → Apart at w (auxiliary_place name) arm_width
        → HoldsAuxiliary f C e name xs o → HoldsAuxiliary f C e name ys o
    kept-own e name o high in_q n out off h = record {
      tree = h.tree;
      is = h.is;
      arm = kept-auxiliary name n out off ∙ h.arm;
      held = kept-tree e h.tree in_q (λ l s q. absurd (omega arith)) h.held;
    }

    -- THE TREE: a two-fold tree that has none of Q's slots, and no inner node that P tells
    pub kept-two : (e : ℕ) (u : SlotMain) → ((q : ℕ) → Q q → q < C) → ((s : ℕ) → P s → (times s u ≡ 0) ⊎ (s ≡ least u))
        → ((s : ℕ) → Q s → times s u ≡ 0) → AuxiliariesOf f u → ((s : ℕ) → Names u s → Apart at w (main_place s) node_width)
        → TwoFold f C e xs u → TwoFold f C e ys u
    kept-two e u in_q tells none of off h =
        unchanged-two a e u
        (λ s n k. node_kept s (main_place s) node_width n (λ p. names-none u s (tells s p) k) (omega arith) (omega arith) (off s k))
        (λ s t. marks-kept s t.0)
        (λ b s l t. level-kept b s t.0 in_q (λ low q. omega (arith, none s q, t.1 of))) h
