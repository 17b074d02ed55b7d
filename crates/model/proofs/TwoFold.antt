-- The two-fold register keeps a register's laws, and beside the plain list it has the same marks in the same order after every accepted update, the
-- count and the list of every box, and few visits. Assumes nothing.
use Prim.Native.Nat.{◌+◌, ◌*◌, ◌≤◌, ◌<◌}
use mathlib.Core.Path.{◌≡◌, refl, sym, ap, ◌∙◌}
use mathlib.Core.Bool.{Bool, true}
use mathlib.Core.List.{List, [], ◌∷◌}
use mathlib.Core.Option.{none, some}
use native.Mathlib.Omega.{arith}
use lib.ListN.{length}
use Rattle.model.specs.Lists.{count_if, filter_by, remove_first, insert_sorted, sort}
use Rattle.model.specs.Totals.{Operation, total_if, counting}
use Rattle.model.specs.Register.{innermost}
use Rattle.model.specs.Tree.{marks_of, insert_leaf, strike_leaf}
use Rattle.model.specs.Fold.{rebalance_fold, strike_rebuilt}
use Rattle.model.specs.Sizes.{D}
use Rattle.model.specs.Sheet.{Mark, Box, summing, worst, below_x, same, holds, sheet, along_x, along_y, Auxiliary, auxiliary, Main, main}
use Rattle.model.specs.Laws.{SameBag, OperationLaws, All, nil, cons, Sorted, sorted[], RegisterLaws}
use Rattle.model.proofs.Lists.{same_bag-length, none_pass, insert_sorted-count_if, sort-count_if, filter_by-length}
use Rattle.model.proofs.Totals.{counting-laws, total-count}
use Rattle.model.proofs.Sorted.{distinct_cons, sorted-distinct, insert_sorted-sorted, remove_first-sorted, sort_sorted, sorted-unique, filter_by-sorted}
use Rattle.model.proofs.Orders.{sheet-sameness, equal, equal-self, equal-sound, along_x-laws, along_y-laws}
use Rattle.model.proofs.Tree.{rebalance-marks, insert-marks, strike-marks}
use Rattle.model.proofs.Fold.{settled_with, fold_bound, innermost-laws, innermost-strike-alike, fold-strike-alike, strike_rebuilt-alike}
use Rattle.model.proofs.Fold.{fold-laws, fold-sound, fold-represents, Sound}

-- sum and worst are operations with laws
pub summing-laws : OperationLaws summing
summing-laws = record { assoc = λ a b c. omega arith; comm = λ a b. omega arith; neutral = λ a. omega arith }

pub worst-laws : OperationLaws worst
worst-laws = record { assoc = λ a b c. omega arith; comm = λ a b. omega arith; neutral = λ a. omega arith }

-- the main tree's search begins with no side settled
abbrev pub unsettled : Box → Mark → Bool
unsettled b m = true

pub both-settled : (b : Box) (m : Mark) → settled_with along_y (settled_with along_x unsettled) b m ≡ true → holds b m ≡ true
unfolding holds
both-settled b m h = h

pub auxiliary-laws : RegisterLaws sheet auxiliary (settled_with along_x unsettled) (fold_bound (λ n. 0))
auxiliary-laws =
    fold-laws sheet sheet-sameness along_y along_y-laws (innermost sheet) (settled_with along_x unsettled) (λ n. 0)
    (innermost-laws sheet (settled_with along_y (settled_with along_x unsettled)) both-settled)

pub main-laws : RegisterLaws sheet main unsettled (fold_bound (fold_bound (λ n. 0)))
main-laws = fold-laws sheet sheet-sameness along_x along_x-laws auxiliary unsettled (fold_bound (λ n. 0)) auxiliary-laws

-- a strike goes by sameness: what it leaves and its figure are those of any mark that is the same
module _ (a b : Mark) (e : same a b ≡ true) where
  auxiliary-strike-alike : (o : Auxiliary) → auxiliary.strike a o ≡ auxiliary.strike b o
  auxiliary-strike-alike = fold-strike-alike sheet sheet-sameness a b e along_y along_y-laws (innermost sheet)
      (innermost-strike-alike sheet sheet-sameness a b e)

  pub main-strike-alike : (o : Main) → main.strike a o ≡ main.strike b o
  main-strike-alike = fold-strike-alike sheet sheet-sameness a b e along_x along_x-laws auxiliary auxiliary-strike-alike

  pub main-strike_rebuilt-alike : (o : Main) → strike_rebuilt along_x auxiliary a o ≡ strike_rebuilt along_x auxiliary b o
  main-strike_rebuilt-alike = strike_rebuilt-alike sheet sheet-sameness a b e along_x along_x-laws auxiliary auxiliary-strike-alike

-- what the laws' `Represents` says of each tree: in order, balanced, and what its nodes carry
abbrev pub AuxiliarySound : Auxiliary → List Mark → Type 0
AuxiliarySound =
    Sound sheet sheet-sameness along_y along_y-laws (innermost sheet) (settled_with along_x unsettled) (λ n. 0)
    (innermost-laws sheet (settled_with along_y (settled_with along_x unsettled)) both-settled)

abbrev pub MainSound : Main → List Mark → Type 0
MainSound = Sound sheet sheet-sameness along_x along_x-laws auxiliary unsettled (fold_bound (λ n. 0)) auxiliary-laws

pub auxiliary-sound : (o : Auxiliary) (l : List Mark) → auxiliary-laws.Represents o l → AuxiliarySound o l
unfolding auxiliary-laws
auxiliary-sound =
    fold-sound sheet sheet-sameness along_y along_y-laws (innermost sheet) (settled_with along_x unsettled) (λ n. 0)
    (innermost-laws sheet (settled_with along_y (settled_with along_x unsettled)) both-settled)

pub auxiliary-represents : (o : Auxiliary) (l : List Mark) → AuxiliarySound o l → auxiliary-laws.Represents o l
unfolding auxiliary-laws
auxiliary-represents =
    fold-represents sheet sheet-sameness along_y along_y-laws (innermost sheet) (settled_with along_x unsettled) (λ n. 0)
    (innermost-laws sheet (settled_with along_y (settled_with along_x unsettled)) both-settled)

pub main-sound : (o : Main) (l : List Mark) → main-laws.Represents o l → MainSound o l
unfolding main-laws
main-sound = fold-sound sheet sheet-sameness along_x along_x-laws auxiliary unsettled (fold_bound (λ n. 0)) auxiliary-laws

pub main-represents : (o : Main) (l : List Mark) → MainSound o l → main-laws.Represents o l
unfolding main-laws
main-represents = fold-represents sheet sheet-sameness along_x along_x-laws auxiliary unsettled (fold_bound (λ n. 0)) auxiliary-laws

-- the tree o beside the plain list l: exactly its marks, in order, and sound
pub record Agrees (o : Main) (l : List Mark) : Type 0 where
  pub list : marks_of o ≡ l
  pub sorted : Sorted along_x l
  pub sound : MainSound o l

pub open-agrees : Agrees none []
open-agrees = record { list = refl; sorted = sorted[]; sound = main-sound none [] (main-laws.build [] (λ m. omega arith)) }

rebalanced-marks : (o : Main) → marks_of (rebalance_fold along_x auxiliary o) ≡ marks_of o
rebalanced-marks none = refl
rebalanced-marks (some t) = rebalance-marks along_x auxiliary t

pub main-insert-marks : (m : Mark) (o : Main) → Sorted along_x (marks_of o) → marks_of (main.insert m o) ≡ insert_sorted below_x m (marks_of o)
main-insert-marks m none s = refl
main-insert-marks m (some t) s =
    rebalance-marks along_x auxiliary (insert_leaf along_x auxiliary m t) ∙ insert-marks sheet sheet-sameness along_x along_x-laws auxiliary m t s

pub main-strike-marks : (m : Mark) (o : Main) → Sorted along_x (marks_of o) → 0 < count_if (same m) (marks_of o)
    → marks_of (main.strike m o) ≡ remove_first (same m) (marks_of o)
main-strike-marks m none s h = absurd (omega arith)
main-strike-marks m (some t) s h =
    rebalanced-marks (strike_leaf along_x auxiliary m t) ∙ strike-marks sheet sheet-sameness along_x along_x-laws auxiliary m t s h

pub insert-agrees : (m : Mark) (o : Main) (l : List Mark) → count_if (same m) l ≡ 0 → Agrees o l → Agrees (main.insert m o) (insert_sorted below_x m l)
insert-agrees m o l z a = record {
  list = main-insert-marks m o (rw a.list a.sorted) ∙ ap (insert_sorted below_x m) a.list;
  sorted = insert_sorted-sorted sheet-sameness along_x-laws m (none_pass (same m) l z) a.sorted;
  sound =
      main-sound (main.insert m o) (insert_sorted below_x m l)
      (main-laws.alike (main.insert m o) (m ∷ l) (insert_sorted below_x m l) (λ p. sym (insert_sorted-count_if below_x p m l))
      (main-laws.insert m o l (distinct_cons sheet-sameness m l z (sorted-distinct sheet-sameness along_x-laws a.sorted)) (main-represents o l a.sound)));
}

pub strike-agrees : (m : Mark) (o : Main) (l : List Mark) → 0 < count_if (same m) l → Agrees o l → Agrees (main.strike m o) (remove_first (same m) l)
strike-agrees m o l h a = record {
  list = main-strike-marks m o (rw a.list a.sorted) (rw a.list h) ∙ ap (remove_first (same m)) a.list;
  sorted = remove_first-sorted (same m) a.sorted;
  sound =
      main-sound (main.strike m o) (remove_first (same m) l)
      (main-laws.strike m o l (sorted-distinct sheet-sameness along_x-laws a.sorted) h (main-represents o l a.sound));
}

all-unsettled : (b : Box) (l : List Mark) → All (λ m. unsettled b m ≡ true) l
all-unsettled b [] = nil
all-unsettled b (m ∷ l) = cons refl (all-unsettled b l)

module _ (b : Box) (o : Main) (l : List Mark) (a : Agrees o l) where
  -- one law for any operation: the sum and the worst of the grades, and the number
  pub total-agrees : (P : Operation Mark) → OperationLaws P → (main.count b o).found P ≡ total_if P (holds b) l
  total-agrees P L = main-laws.count P L b o l (main-represents o l a.sound) (all-unsettled b l)

  pub count-agrees : (main.count b o).found counting ≡ count_if (holds b) l
  count-agrees = total-agrees counting counting-laws ∙ total-count (holds b) l

  pub sum_agrees : (main.count b o).found summing ≡ total_if summing (holds b) l
  sum_agrees = total-agrees summing summing-laws

  pub worst-agrees : (main.count b o).found worst ≡ total_if worst (holds b) l
  worst-agrees = total-agrees worst worst-laws

  pub count-visits : (main.count b o).visits ≤ (4 * D (length l) + 1) * (2 * D (length l) + 1)
  count-visits = omega (arith, main-laws.visits b o l (main-represents o l a.sound))

  list-bag : SameBag (main.list b o).marks (filter_by (holds b) l)
  list-bag = main-laws.list b o l (main-represents o l a.sound) (all-unsettled b l)

  pub list-agrees : sort below_x (main.list b o).marks ≡ filter_by (holds b) l
  list-agrees =
      let met = (main.list b o).marks in
      let s = filter_by-sorted (holds b) a.sorted in
      sorted-unique sheet-sameness along_x-laws equal equal-self equal-sound
      (sort_sorted sheet-sameness along_x-laws met (λ q. omega (arith, list-bag (same q), sorted-distinct sheet-sameness along_x-laws s q)))
      s
      (λ p. sort-count_if below_x p met ∙ list-bag p)

  pub list-visits : (main.list b o).visits ≤ (main.count b o).visits + 2 * count_if (holds b) l
  list-visits =
      omega (
        arith,
        main-laws.list_visits b o l (main-represents o l a.sound),
        same_bag-length (main.list b o).marks (filter_by (holds b) l) list-bag,
        filter_by-length (holds b) l,
      )
