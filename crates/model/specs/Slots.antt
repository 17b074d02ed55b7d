-- Trees over slot numbers: a slot of a table stands for the mark in it, and a register over slots for the register over their marks. Not of document
-- 01: the layers above say by it what the words of a table hold. Assumes nothing.
use Rattle.std.specs.Prelude.{◌≡◌, List, map}
use Rattle.model.specs.Totals.{Operation}
use Rattle.model.specs.Axis.{Space, Axis}
use Rattle.model.specs.Register.{Found, Listed, Register}
use Rattle.model.specs.Tree.{Tree, leaf, node}

module _ {N M B : Type 0} (f : N → M) where
  abbrev pub slot_space : Space M B → Space N B
  slot_space S = record { same = λ a b. S.same (f a) (f b); holds = λ b a. S.holds b (f a) }

  abbrev pub slot_axis : Axis M B → Axis N B
  slot_axis A = record { below = λ a b. A.below (f a) (f b); at = λ a. A.at (f a); from_low = A.from_low; to_high = A.to_high }

abbrev pub map_tree : {N M I J : Type 0} → (N → M) → (I → J) → Tree N I → Tree M J
map_tree f g (leaf m) = leaf (f m)
map_tree f g (node i l r) = node (g i) (map_tree f g l) (map_tree f g r)

-- a slot comes to what its mark does
abbrev pub slot_operation : {N M : Type 0} → (N → M) → Operation M → Operation N
slot_operation f P = record { of = λ a. P.of (f a); join = P.join }

abbrev pub map_found : {N M : Type 0} → (N → M) → Found N → Found M
map_found f a = record { found = λ P. a.found (slot_operation f P); visits = a.visits }

abbrev pub map_listed : {N M : Type 0} → (N → M) → Listed N → Listed M
map_listed f a = record { marks = map f a.marks; visits = a.visits }

-- the register R does over slots what Q does over marks
pub record StandsFor {N M B I J : Type 0} (f : N → M) (g : I → J) (R : Register N B I) (Q : Register M B J) : Type 0 where
  pub build : (l : List N) → g (R.build l) ≡ Q.build (map f l)
  pub insert : (m : N) (i : I) → g (R.insert m i) ≡ Q.insert (f m) (g i)
  pub strike : (m : N) (i : I) → g (R.strike m i) ≡ Q.strike (f m) (g i)
  pub count : (b : B) (i : I) → map_found f (R.count b i) ≡ Q.count b (g i)
  pub list : (b : B) (i : I) → map_listed f (R.list b i) ≡ Q.list b (g i)
