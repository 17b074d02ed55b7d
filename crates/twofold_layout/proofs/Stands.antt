-- The tree over marks that a tree over slots stands for: updates, counts and lists over slots are those over marks. And what the model's laws say of the
-- searches of a tree over slots by the rules. Assumes nothing.
use Prim.Native.Nat.{ℕ, ◌+◌, ◌*◌, ◌≤◌}
use mathlib.Core.Path.{◌≡◌, refl}
use mathlib.Core.Bool.{true}
use mathlib.Core.List.{List, [], ◌∷◌, map}
use mathlib.Core.Option
use mathlib.Core.Option.{Option, none, some}
use native.Mathlib.Omega.{arith}
use lib.ListN.{length}
use Rattle.model.specs.Lists.{filter_by}
use Rattle.model.specs.Totals.{Operation, total_if}
use Rattle.model.specs.Tree.{weight, marks, marks_of}
use Rattle.model.specs.Fold.{insert_rebuilt, strike_rebuilt}
use Rattle.model.specs.Sizes.{D}
use Rattle.model.specs.Sheet.{Mark, Box, holds, sheet, along_x, auxiliary, main}
use Rattle.model.specs.Slots.{slot_space, slot_axis, map_tree, map_found, map_listed}
use Rattle.model.specs.Laws.{SameBag, OperationLaws, All, nil, cons, RegisterLaws}
use Rattle.model.proofs.Tree.{weight-marks}
use Rattle.model.proofs.Slots.{map-marks, auxiliary-stands, main-stands, insert_rebuilt-stands, strike_rebuilt-stands}
use Rattle.model.proofs.Fold.{fold_bound, fold-laws, fold-represents}
use Rattle.twofold_layout.specs.Rules.{SlotMain, slot_auxiliary, slot_main, ByRules, marks_main}
use Rattle.twofold_layout.proofs.Rules.{slot_sameness, slot_x-laws, slot_unsettled, slot_auxiliary-laws, auxiliaries-carried}

module _ (f : ℕ → Mark) where
  pub stands-marks : (o : Option SlotMain) → marks_of (marks_main f o) ≡ map f (marks_of o)
  stands-marks none = refl
  stands-marks (some t) = map-marks f (Option.map (map_tree f (map f))) t

  -- updates
  module _ (s : ℕ) (o : Option SlotMain) where
    pub stands-insert : marks_main f ((slot_main f).insert s o) ≡ main.insert (f s) (marks_main f o)
    stands-insert = (main-stands f).insert s o

    pub stands-strike : marks_main f ((slot_main f).strike s o) ≡ main.strike (f s) (marks_main f o)
    stands-strike = (main-stands f).strike s o

    pub stands-insert_rebuilt : insert_rebuilt (slot_axis f along_x) (slot_auxiliary f) s o ≡ insert_rebuilt along_x auxiliary (f s) (marks_main f o)
    stands-insert_rebuilt =
        insert_rebuilt-stands f (Option.map (map_tree f (map f))) sheet along_x (slot_auxiliary f) auxiliary (auxiliary-stands f) s o

    pub stands-strike_rebuilt : strike_rebuilt (slot_axis f along_x) (slot_auxiliary f) s o ≡ strike_rebuilt along_x auxiliary (f s) (marks_main f o)
    stands-strike_rebuilt =
        strike_rebuilt-stands f (Option.map (map_tree f (map f))) sheet along_x (slot_auxiliary f) auxiliary (auxiliary-stands f) s o

  -- searches
  module _ (b : Box) (o : Option SlotMain) where
    pub stands-count : map_found f ((slot_main f).count b o) ≡ main.count b (marks_main f o)
    stands-count = (main-stands f).count b o

    pub stands-list : map_listed f ((slot_main f).list b o) ≡ main.list b (marks_main f o)
    stands-list = (main-stands f).list b o

  -- the model's laws over slots
  slot_main-laws : RegisterLaws (slot_space f sheet) (slot_main f) (slot_unsettled f) (fold_bound (fold_bound (λ n. 0)))
  slot_main-laws =
      fold-laws (slot_space f sheet) (slot_sameness f) (slot_axis f along_x) (slot_x-laws f) (slot_auxiliary f) (slot_unsettled f) (fold_bound (λ n. 0))
      (slot_auxiliary-laws f)

  rules-represents : (t : SlotMain) → ByRules f t → slot_main-laws.Represents (some t) (marks t)
  unfolding slot_main-laws
  rules-represents t r =
      fold-represents (slot_space f sheet) (slot_sameness f) (slot_axis f along_x) (slot_x-laws f) (slot_auxiliary f) (slot_unsettled f) (fold_bound (λ n. 0))
      (slot_auxiliary-laws f) (some t) (marks t)
      (record { bag = λ p. refl; sorted = r.sorted; balanced = r.balanced; carried = auxiliaries-carried f t r.auxiliaries })

  all-unsettled : (b : Box) (l : List ℕ) → All (λ s. slot_unsettled f b s ≡ true) l
  all-unsettled b [] = nil
  all-unsettled b (s ∷ l) = cons refl (all-unsettled b l)

  module _ (b : Box) (t : SlotMain) (r : ByRules f t) where
    pub rules-found : (P : Operation ℕ) → OperationLaws P → ((slot_main f).count b (some t)).found P ≡ total_if P (λ s. holds b (f s)) (marks t)
    rules-found P L = slot_main-laws.count P L b (some t) (marks t) (rules-represents t r) (all-unsettled b (marks t))

    pub rules-visits : ((slot_main f).count b (some t)).visits ≤ (4 * D (weight t) + 1) * (2 * D (weight t) + 1)
    rules-visits = rw (weight-marks t) (omega (arith, slot_main-laws.visits b (some t) (marks t) (rules-represents t r)))

    pub rules-list : SameBag ((slot_main f).list b (some t)).marks (filter_by (λ s. holds b (f s)) (marks t))
    rules-list = slot_main-laws.list b (some t) (marks t) (rules-represents t r) (all-unsettled b (marks t))

    pub rules-list_visits :
        ((slot_main f).list b (some t)).visits ≤ ((slot_main f).count b (some t)).visits + 2 * length ((slot_main f).list b (some t)).marks
    rules-list_visits = slot_main-laws.list_visits b (some t) (marks t) (rules-represents t r)
