-- Mending keeps a tree's slots in their order, and with them its weight, its least and its names; what may be mended at a node may be mended beneath it.
-- Assumes nothing.
use Prim.Native.Nat.{ℕ}
use mathlib.Core.Path.{◌≡◌, refl, sym, ap, ◌∙◌}
use mathlib.Core.Bool.{Bool, true, false, ◌&&◌}
use lib.ListN.{length}
use Rattle.model.specs.Axis.{Axis}
use Rattle.model.specs.Register.{Register}
use Rattle.model.specs.Tree.{Tree, node, weight, marks, least}
use Rattle.model.proofs.Tree.{weight-marks, rebalance-marks}
use Rattle.nodes.specs.Holds.{times_in, times}
use Rattle.nodes.proofs.Held.{Names, least-marks, names-marks}
use Rattle.secondary_update.proofs.Mending.{mended, MayMend}

-- mending keeps the slots in their order
module _ {B I : Type 0} (X : Axis ℕ B) (R : Register ℕ B I) where
  pub mended-marks : (b : Bool) (t : Tree ℕ I) → marks (mended X R b t) ≡ marks t
  mended-marks true t = rebalance-marks X R t
  mended-marks false t = refl

  pub mended-times : (b : Bool) (t : Tree ℕ I) (s : ℕ) → times s (mended X R b t) ≡ times s t
  mended-times b t s = ap (times_in s) (mended-marks b t)

  pub mended-weight : (b : Bool) (t : Tree ℕ I) → weight (mended X R b t) ≡ weight t
  mended-weight b t = weight-marks (mended X R b t) ∙ ap length (mended-marks b t) ∙ sym (weight-marks t)

  pub mended-least : (b : Bool) (t : Tree ℕ I) → least (mended X R b t) ≡ least t
  mended-least b t = least-marks (mended X R b t) t (mended-marks b t)

  -- and so its names
  pub names-unmended : (b : Bool) (t : Tree ℕ I) (s : ℕ) → Names (mended X R b t) s → Names t s
  names-unmended b t = names-marks (mended X R b t) t (mended-marks b t)

  pub names-mended : (b : Bool) (t : Tree ℕ I) (s : ℕ) → Names t s → Names (mended X R b t) s
  names-mended b t = names-marks t (mended X R b t) (sym (mended-marks b t))

-- what may be mended at a node may be mended beneath it, and need not be
module _ {M I : Type 0} where
  pub may_mend-left : (mends : Bool) (i : I) (l r : Tree M I) → MayMend mends (node i l r) → MayMend mends l
  may_mend-left true i l r b = b.2
  may_mend-left false i l r b = tt

  pub may_mend-right : (mends : Bool) (i : I) (l r : Tree M I) → MayMend mends (node i l r) → MayMend mends r
  may_mend-right true i l r b = b.3
  may_mend-right false i l r b = tt

  pub may_mend-and : (mends c : Bool) (t : Tree M I) → MayMend mends t → MayMend (mends && c) t
  may_mend-and true true t b = b
  may_mend-and true false t b = tt
  may_mend-and false c t b = tt
