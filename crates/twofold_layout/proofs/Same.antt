-- A two-fold tree depends on its own words alone: lists of words that have the same main records, arms, marks and records of auxiliary trees for it hold it
-- alike, and so do words of which a change keeps those. Assumes nothing.
use Prim.Native.Nat.{ℕ, suc, ◌+◌, ◌≤◌, ◌<◌}
use mathlib.Core.Path.{◌≡◌, refl, subst, ◌∙◌}
use mathlib.Core.List.{List}
use native.Mathlib.Omega.{arith}
use Rattle.model.specs.Tree.{leaf, node, least}
use Rattle.model.specs.Sheet.{Mark, along_x, along_y}
use Rattle.table.specs.Layout.{mark_width, record_width, node_width, slot_place, main_place, auxiliary_place, level_place, record_place}
use Rattle.table.specs.Marks.{slot_mark}
use Rattle.nodes.specs.Arms.{arm_at, record_at}
use Rattle.nodes.specs.Holds.{times}
use Rattle.nodes.proofs.Unchanged.{Keeps, Unchanged, unchanged-arm, unchanged-record, unchanged-mark}
use Rattle.nodes.proofs.Held.{times-node, Names, names-left, names-right, names-own, held_same}
use Rattle.twofold_layout.specs.Rules.{SlotMain, AuxiliariesOf}
use Rattle.twofold_layout.specs.TwoFold.{HoldsAuxiliaries, TwoFold}
use Rattle.twofold_layout.proofs.Rules.{rules-auxiliary-times}

-- what is known of a slot of a tree's auxiliary trees: it is below C, and by the rules it is one of the tree's
abbrev pub Carried : (ℕ → Mark) → ℕ → SlotMain → ℕ → Type 0
Carried f C t s = (s < C) × (AuxiliariesOf f t → 0 < times s t)

-- for two lists of words, of one length or not
module _ (f : ℕ → Mark) (C : ℕ) (xs ys : List ℕ) where
  same-auxiliaries : (d : ℕ) (t : SlotMain) → ((s : ℕ) → times s t ≤ 1)
      → ((s : ℕ) → Names t s → arm_at ys (auxiliary_place s) ≡ arm_at xs (auxiliary_place s))
      → ((s : ℕ) → Carried f C t s → slot_mark ys s ≡ slot_mark xs s)
      → ((e s : ℕ) → d ≤ e → Carried f C t s → record_at ys (record_place (level_place C e) s) ≡ record_at xs (record_place (level_place C e) s))
      → HoldsAuxiliaries f C d xs t → HoldsAuxiliaries f C d ys t
  same-auxiliaries d (leaf s) once arms marks levels h = tt
  same-auxiliaries d (node i l r) once arms marks levels h =
      let apart : ((s : ℕ) → times s l + times s r ≤ 1) = λ s. omega (arith, once s, times-node s i l r) in
      let own : ((s : ℕ) → 0 < times s h.0.tree → Carried f C (node i l r) s) = λ s k.
      (h.0.held.within s k, λ of. subst (λ n. 0 < n) (rules-auxiliary-times f of.0 h.0.is s) k) in
      let left : ((s : ℕ) → Carried f C l s → Carried f C (node i l r) s) = λ s c. (c.0, λ of. omega (arith, c.1 of.1, times-node s i l r)) in
      let right : ((s : ℕ) → Carried f C r s → Carried f C (node i l r) s) = λ s c. (c.0, λ of. omega (arith, c.1 of.2, times-node s i l r)) in (
        record {
          tree = h.0.tree;
          is = h.0.is;
          arm = arms (least r) (names-own i l r apart (least r) refl) ∙ h.0.arm;
          held = held_same along_y f h.0.tree (λ s k. levels d s (omega arith) (own s k.0)) (λ s k. marks s (own s k)) h.0.held;
        },
        same-auxiliaries (suc d) l (λ s. omega (arith, apart s)) (λ s k. arms s (names-left i l r s k)) (λ s c. marks s (left s c))
            (λ e s k c. levels e s (omega arith) (left s c)) h.1,
        same-auxiliaries (suc d) r (λ s. omega (arith, apart s)) (λ s k. arms s (names-right i l r apart s k.0)) (λ s c. marks s (right s c))
            (λ e s k c. levels e s (omega arith) (right s c)) h.2,
      )

  pub two-same : (d : ℕ) (t : SlotMain)
      → ((s : ℕ) → Names t s → record_at ys (main_place s) ≡ record_at xs (main_place s))
      → ((s : ℕ) → Names t s → arm_at ys (auxiliary_place s) ≡ arm_at xs (auxiliary_place s))
      → ((s : ℕ) → Carried f C t s → slot_mark ys s ≡ slot_mark xs s)
      → ((e s : ℕ) → d ≤ e → Carried f C t s → record_at ys (record_place (level_place C e) s) ≡ record_at xs (record_place (level_place C e) s))
      → TwoFold f C d xs t → TwoFold f C d ys t
  two-same d t records arms marks levels h = record {
    main = held_same along_x f t records (λ s k. marks s (h.main.within s k, λ of. k)) h.main;
    auxiliaries = same-auxiliaries d t h.main.once arms marks levels h.auxiliaries;
  }

-- and for a change that keeps the tree's words
pub unchanged-two : {f : ℕ → Mark} {C : ℕ} {kept : ℕ → Type 0} {xs ys : List ℕ} → Unchanged kept xs ys → (d : ℕ) (t : SlotMain)
    → ((s : ℕ) → s < C → Names t s → Keeps kept (main_place s) (main_place s + node_width))
    → ((s : ℕ) → Carried f C t s → Keeps kept (slot_place s) (slot_place s + mark_width))
    → ((e s : ℕ) → d ≤ e → Carried f C t s → Keeps kept (record_place (level_place C e) s) (record_place (level_place C e) s + record_width))
    → TwoFold f C d xs t → TwoFold f C d ys t
unchanged-two {f = f} {C = C} {xs = xs} {ys = ys} a d t nodes marks levels h =
    two-same f C xs ys d t
    (λ s k. unchanged-record a (main_place s) (λ i l u. nodes s (h.main.within s k.0) k i l (omega arith)))
    (λ s k. unchanged-arm a (auxiliary_place s) (λ i l u. nodes s (h.main.within s k.0) k i (omega arith) (omega arith)))
    (λ s c. unchanged-mark a s (marks s c))
    (λ e s l c. unchanged-record a (record_place (level_place C e) s) (levels e s l c)) h
