-- After an update of a balanced tree, rebalancing builds afresh the unbalanced node nearest the root, if there is one, and nothing else. Assumes nothing.
use Rattle.std.specs.Prelude.{if◌then◌else◌}
use Prim.Native.Nat.{ℕ, ◌+◌, ◌*◌}
use mathlib.Core.Path.{◌≡◌, refl}
use mathlib.Core.Bool.{true, false}
use mathlib.Core.List.{[], ◌∷◌, ◌++◌}
use mathlib.Core.Option.{Option, none, some}
use native.Mathlib.Omega.{arith}
use native.Mathlib.Nat.{add-zero, zero-add}
use borrow.Author.Tests.{le-leb}
use Rattle.model.specs.Axis.{Axis}
use Rattle.model.specs.Register.{Register}
use Rattle.model.specs.Tree.{Tree, leaf, node, weight, marks, least, evenly, Balanced, with_left, with_right, build, insert_leaf, strike_leaf}
use Rattle.model.specs.Tree.{rebalance, rebuilt}
use Rattle.model.proofs.Logic.{by_cases}

-- `BuiltNearest t u w`: u is t with the unbalanced node nearest the root built afresh, and w is that node's weight. Every node above it is balanced, and
-- so is all that stands beside the way to it, so each other unbalanced node is beneath it. Where t has none, u is t and w is 0.
pub data BuiltNearest {M B I : Type 0} (A : Axis M B) (R : Register M B I) : Tree M I → Tree M I → ℕ → Type 0 where
  nowhere : {t : Tree M I} → Balanced t → BuiltNearest A R t t 0
  here : {i : I} {l r : Tree M I} → evenly l r ≡ false
      → BuiltNearest A R (node i l r) (build A R (least l) (marks l ++ marks r)) (weight l + weight r)
  in_left : {i : I} {l l' r : Tree M I} {w : ℕ} → evenly l r ≡ true → Balanced r → BuiltNearest A R l l' w
      → BuiltNearest A R (node i l r) (node i l' r) w
  in_right : {i : I} {l r r' : Tree M I} {w : ℕ} → evenly l r ≡ true → Balanced l → BuiltNearest A R r r' w
      → BuiltNearest A R (node i l r) (node i l r') w

module _ {M I : Type 0} where
  -- of a balanced tree nothing is built
  pub balanced-evenly : (i : I) (l r : Tree M I) → Balanced (node i l r) → evenly l r ≡ true
  balanced-evenly i l r b = rw (le-leb (weight l + weight r) (4 * weight l) b.0, le-leb (weight l + weight r) (4 * weight r) b.1)

  pub balanced-rebuilt : (t : Tree M I) → Balanced t → rebuilt t ≡ 0
  balanced-rebuilt (leaf m) b = refl
  balanced-rebuilt (node i l r) b = rw (balanced-evenly i l r b, balanced-rebuilt l b.2, balanced-rebuilt r b.3)

  -- a node of which one child is balanced: the figure
  pub rebuilt-left : (i : I) (l r : Tree M I) → Balanced r → rebuilt (node i l r) ≡ (if evenly l r then rebuilt l else weight l + weight r)
  rebuilt-left i l r b = rw (balanced-rebuilt r b, add-zero)

  pub rebuilt-right : (i : I) (l r : Tree M I) → Balanced l → rebuilt (node i l r) ≡ (if evenly l r then rebuilt r else weight l + weight r)
  rebuilt-right i l r b = rw (balanced-rebuilt l b, zero-add)

  module _ {B : Type 0} (A : Axis M B) (R : Register M B I) where
    pub balanced-rebalance : (t : Tree M I) → Balanced t → rebalance A R t ≡ t
    balanced-rebalance (leaf m) b = refl
    balanced-rebalance (node i l r) b = rw (balanced-evenly i l r b, balanced-rebalance l b.2, balanced-rebalance r b.3)

    -- and the tree: only one side has to be looked at
    pub rebalance-left : (i : I) (l r : Tree M I) → Balanced r
        → rebalance A R (node i l r) ≡ (if evenly l r then node i (rebalance A R l) r else build A R (least l) (marks l ++ marks r))
    rebalance-left i l r b = rw (balanced-rebalance r b)

    pub rebalance-right : (i : I) (l r : Tree M I) → Balanced l
        → rebalance A R (node i l r) ≡ (if evenly l r then node i l (rebalance A R r) else build A R (least l) (marks l ++ marks r))
    rebalance-right i l r b = rw (balanced-rebalance l b)

    -- what `rebalance` and `rebuilt` do to a tree
    abbrev pub Nearest : Tree M I → Type 0
    Nearest t = BuiltNearest A R t (rebalance A R t) (rebuilt t)

    abbrev pub NearestOf : Option (Tree M I) → Type 0
    NearestOf none = Unit {0}
    NearestOf (some t) = Nearest t

    balanced-nearest : (t : Tree M I) → Balanced t → Nearest t
    balanced-nearest t b = rw (balanced-rebalance t b, balanced-rebuilt t b) (nowhere b)

    pair-nearest : (i : I) (a b : M) → Nearest (node i (leaf a) (leaf b))
    pair-nearest i a b = balanced-nearest (node i (leaf a) (leaf b)) (omega arith, omega arith, tt, tt)

    left-nearest : (i : I) (l r : Tree M I) → Balanced r → Nearest l → Nearest (node i l r)
    left-nearest i l r b n =
        rw (rebalance-left i l r b, rebuilt-left i l r b) (by_cases (evenly l r) (λ t. rw t (in_left t b n)) (λ f. rw f (here f)))

    right-nearest : (i : I) (l r : Tree M I) → Balanced l → Nearest r → Nearest (node i l r)
    right-nearest i l r b n =
        rw (rebalance-right i l r b, rebuilt-right i l r b) (by_cases (evenly l r) (λ t. rw t (in_right t b n)) (λ f. rw f (here f)))

    with_left-nearest : (i : I) (o : Option (Tree M I)) (r : Tree M I) → Balanced r → NearestOf o → Nearest (with_left i o r)
    with_left-nearest i none r b n = balanced-nearest r b
    with_left-nearest i (some l) r b n = left-nearest i l r b n

    with_right-nearest : (i : I) (l : Tree M I) (o : Option (Tree M I)) → Balanced l → NearestOf o → Nearest (with_right i l o)
    with_right-nearest i l none b n = balanced-nearest l b
    with_right-nearest i l (some r) b n = right-nearest i l r b n

    pub insert-nearest : (m : M) (t : Tree M I) → Balanced t → Nearest (insert_leaf A R m t)
    insert-nearest m (leaf q) b =
        let i = R.insert m (R.build (q ∷ [])) in
        by_cases (A.below m q) (λ t. rw t (pair-nearest i m q)) (λ f. rw f (pair-nearest i q m))
    insert-nearest m (node i l r) b =
        by_cases (A.below m (least r))
        (λ t. rw t (left-nearest (R.insert m i) (insert_leaf A R m l) r b.3 (insert-nearest m l b.2)))
        (λ f. rw f (right-nearest (R.insert m i) l (insert_leaf A R m r) b.2 (insert-nearest m r b.3)))

    pub strike-nearest : (m : M) (t : Tree M I) → Balanced t → NearestOf (strike_leaf A R m t)
    strike-nearest m (leaf q) b = tt
    strike-nearest m (node i l r) b =
        by_cases (A.below m (least r))
        (λ t. rw t (with_left-nearest (R.strike m i) (strike_leaf A R m l) r b.3 (strike-nearest m l b.2)))
        (λ f. rw f (with_right-nearest (R.strike m i) l (strike_leaf A R m r) b.2 (strike-nearest m r b.3)))
