-- The live marks of a sound table. Assumes nothing.
use Prim.Native.Nat.{ℕ, ◌≤◌}
use mathlib.Core.Path.{◌≡◌, sym, ap, ◌∙◌}
use mathlib.Core.List.{List}
use mathlib.Core.Option.{Option, none, some}
use native.Mathlib.Omega.{arith}
use lib.ListN.{length, length-map}
use Rattle.model.specs.Tree.{marks_of}
use Rattle.model.specs.Sheet.{Main}
use Rattle.model.proofs.Tree.{weight-marks}
use Rattle.table.specs.Marks.{slot_mark}
use Rattle.nodes.proofs.Held.{held-weight}
use Rattle.twofold_layout.specs.Rules.{SlotMain}
use Rattle.twofold_layout.specs.Sound.{HoldsTree, Holding}
use Rattle.table.specs.Header.{capacity_of, live_of}
use Rattle.twofold_layout.proofs.Stands.{stands-marks}

-- the live marks are the slots of the tree, and so no more than the capacity
pub live-slots : {xs : List ℕ} {T : Main} (h : Holding xs T) → live_of xs ≡ length (marks_of h.slots)
live-slots {xs = xs} h =
    h.live ∙ ap (λ T. length (marks_of T)) (sym h.stands)
    ∙ ap length (stands-marks (slot_mark xs) h.slots) ∙ length-map (marks_of h.slots) (slot_mark xs)

pub live-within : {xs : List ℕ} {T : Main} → Holding xs T → live_of xs ≤ capacity_of xs
live-within {xs = xs} h = rw (live-slots h) (go h.slots h.holds)
  where
    go : (o : Option SlotMain) → HoldsTree xs o → length (marks_of o) ≤ capacity_of xs
    go none k = omega arith
    go (some t) k = omega (arith, weight-marks t, held-weight k.1.main)
