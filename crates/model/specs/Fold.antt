-- A fold makes of a register over I the register of trees along an axis whose inner nodes carry an I: the auxiliary tree is a fold of the innermost
-- register, the main tree a fold of the auxiliary. Where there is no mark there is no tree. Assumes nothing.
use Rattle.std.specs.Prelude.{ℕ, List, [], ◌∷◌}
use Rattle.std.proofs.Math.Option.{Option, none, some}
use Rattle.model.specs.Lists.{sort}
use Rattle.model.specs.Axis.{Space, Axis}
use Rattle.model.specs.Register.{Found, Listed, Register}
use Rattle.model.specs.Tree.{Tree, leaf, build, insert_leaf, strike_leaf, rebalance, rebuilt}
use Rattle.model.specs.Search.{search, search_list}

module _ {M B I : Type 0} (A : Axis M B) (R : Register M B I) where
  -- the marks may come in another order than this axis'
  abbrev pub build_fold : List M → Option (Tree M I)
  build_fold [] = none
  build_fold (m ∷ l) = some (build A R m (sort A.below (m ∷ l)))

  -- "The first mark is a lone leaf."
  abbrev pub insert_fold : M → Option (Tree M I) → Tree M I
  insert_fold m none = leaf m
  insert_fold m (some t) = insert_leaf A R m t

  abbrev pub strike_fold : M → Option (Tree M I) → Option (Tree M I)
  strike_fold m none = none
  strike_fold m (some t) = strike_leaf A R m t

  abbrev pub rebalance_fold : Option (Tree M I) → Option (Tree M I)
  rebalance_fold none = none
  rebalance_fold (some t) = some (rebalance A R t)

  abbrev pub rebuilt_of : Option (Tree M I) → ℕ
  rebuilt_of none = 0
  rebuilt_of (some t) = rebuilt t

  -- the figure 'rebuilt' of an insertion and of a strike
  abbrev pub insert_rebuilt : M → Option (Tree M I) → ℕ
  insert_rebuilt m o = rebuilt (insert_fold m o)

  abbrev pub strike_rebuilt : M → Option (Tree M I) → ℕ
  strike_rebuilt m o = rebuilt_of (strike_fold m o)

module _ {M B I : Type 0} (S : Space M B) (A : Axis M B) (R : Register M B I) where
  -- "An empty register has 0 visits."
  abbrev pub count_fold : B → Option (Tree M I) → Found M
  count_fold b none = record { found = λ P. 0; visits = 0 }
  count_fold b (some t) = search S A R b t

  abbrev pub list_fold : B → Option (Tree M I) → Listed M
  list_fold b none = record { marks = []; visits = 0 }
  list_fold b (some t) = search_list S A R b t

  abbrev pub fold : Register M B (Option (Tree M I))
  fold = record {
    build = build_fold A R;
    insert = λ m o. some (rebalance A R (insert_fold A R m o));
    strike = λ m o. rebalance_fold A R (strike_fold A R m o);
    count = count_fold;
    list = list_fold;
  }
