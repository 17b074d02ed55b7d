-- The mirrors of a count to one end are, at each end, those of Rattle.nodes.specs.Count. Assumes nothing.
use Rattle.std.specs.Prelude.{ℕ, zero, suc, ◌/◌, ◌≡◌, refl, List}
use Rattle.table.specs.Limits.{deepest}
use Rattle.nodes.specs.Arms.{Arm, record_at}
use Rattle.nodes.specs.Count.{Kind, Side, low_record, low_node, low_from, low_end, high_record, high_node, high_from, high_end, open_from-zero, open_from-suc}
use Rattle.table.specs.Figures.{arrived}
use Rattle.nodes.specs.declared.arm.Arm as declared
use Rattle.nodes.specs.Values.{arm_value}
use Rattle.secondary_search.specs.End.{End, low, high, inner, outer, skip, end_record, end_node, to_end, meet_end, to_end-zero, to_end-suc}
use Rattle.model.specs.Sheet.{Box}
use Rattle.secondary_search.specs.Search.{How, kind}
use Rattle.secondary_search.proofs.Turns.{some-left, none-left}

module _ {T : Type 0} (K : Kind T) (S : Side) (capacity : ℕ) (xs : List ℕ) where
  to-low : (f base n : ℕ) (tally : T) → to_end low K S capacity xs f base n tally ≡ low_from K S capacity xs f base n tally
  unfolding to_end end_node end_record low_from low_node low_record
  to-low zero base n tally = refl
  to-low (suc f) base n tally =
      let p = record_at xs (K.place base (n / 2)) in
      rw (
        to-low f (K.deeper base) p.right.node (K.visit (K.before p.left tally)),
        to-low f (K.deeper base) p.left.node (K.visit (K.take (K.deeper base) p.right tally)),
      )

  to-high : (f base n : ℕ) (tally : T) → to_end high K S capacity xs f base n tally ≡ high_from K S capacity xs f base n tally
  unfolding to_end end_node end_record high_from high_node high_record
  to-high zero base n tally = refl
  to-high (suc f) base n tally =
      let p = record_at xs (K.place base (n / 2)) in
      rw (
        to-high f (K.deeper base) p.left.node (K.visit (K.past tally)),
        to-high f (K.deeper base) p.right.node (K.visit (K.take (K.deeper base) p.left tally)),
      )

  pub meet-low : (base : ℕ) (a : Arm) (tally : T) → meet_end low K S capacity xs base a tally ≡ low_end K S capacity xs base a tally
  unfolding meet_end low_end
  meet-low base a tally = rw (to-low deepest base a.node (K.visit tally))

  pub meet-high : (base : ℕ) (a : Arm) (tally : T) → meet_end high K S capacity xs base a tally ≡ high_end K S capacity xs base a tally
  unfolding meet_end high_end
  meet-high base a tally = rw (to-high deepest base a.node (K.visit tally))

-- the inner and the outer child, by value
module _ {T : Type 0} where
  pub inner-arm : (e : End) (l r a : declared.Arm T) → a ≡ inner e l r → inner e (arm_value l) (arm_value r) ≡ arm_value a
  inner-arm low l r a h = rw h
  inner-arm high l r a h = rw h

  pub outer-arm : (e : End) (l r a : declared.Arm T) → a ≡ outer e l r → outer e (arm_value l) (arm_value r) ≡ arm_value a
  outer-arm low l r a h = rw h
  outer-arm high l r a h = rw h

-- a tally tells no more of a tree beyond the one end than of one beyond the other
pub skip-is : (e : End) (W : How) (C : ℕ) (xs : List ℕ) (b : Box) (a : Arm) (tally : ℕ) → skip e (kind W C xs b) a tally ≡ arrived tally 0 0
skip-is low W C xs b a tally = refl
skip-is high W C xs b a tally = refl

pub ruleset skips = (skip-is)

-- how a loop toward an end, and one toward the node where the ends part, comes to its end
pub ruleset end_turns = (to_end-zero, to_end-suc, some-left, none-left)

pub ruleset open_turns = (open_from-zero, open_from-suc, some-left, none-left)
