-- Panes that share a cut (R-2), by what the call returns: on a sound table the counts of a box's two parts add up to the count of the box, and so do those
-- of panes laid out over it; and an empty box is accepted and gives 0 with the written search's visits. Of the counts nothing is known but that each
-- does what its contract says. Assumes nothing.
use Prim.Native.Nat.{◌+◌, max}
use mathlib.Core.Path.{◌≡◌, fun_ext, ◌∙◌}
use mathlib.Core.Logic.{◌⊎◌}
use mathlib.Core.Bool.{false}
use mathlib.Core.List.{List}
use Rattle.model.specs.Totals.{total}
use Rattle.model.specs.Sheet.{Box, box_crossed, main}
use Rattle.model.specs.History.{count, Answer, counted}
use Rattle.model.specs.Cuts.{Cut, Tiles, AddsUp}
use Rattle.model.proofs.Cuts.{tiles-answers, cut-answers, empty-count}
use Rattle.twofold_layout.specs.Sound.{SoundTable}
use Rattle.register.specs.Performs.{Lent, own, state_of, Performs}

module _ {before : Lent} (table : SoundTable (own before.table)) where
  -- THE CUT: three counts of one table
  pub cut-counts : {b near far : Box} → Cut b near far → {after_near after_far after : Lent} {of_near of_far of : Answer}
      → Performs (count near) before after_near of_near
      → Performs (count far) before after_far of_far
      → Performs (count b) before after of
      → AddsUp of_near of_far of
  cut-counts {b} {near} {far} c p q r =
      let T = table.tree in
      let h = table.holding in
      rw ((p.follows T h).answers, (q.follows T h).answers, (r.follows T h).answers) (cut-answers c (state_of before.table T))

  -- THE PANES laid out over a box: a count of each, joined, gives the count of the box
  pub tiles-counts : (b : Box) (ps : List Box) → Tiles b ps → (of : Box → Answer) (after : Box → Lent)
      → ((p : Box) → Performs (count p) before (after p) (of p))
      → ((of b).k ≡ total ◌+◌ (λ p. (of p).k) ps) × ((of b).sum ≡ total ◌+◌ (λ p. (of p).sum) ps)
      × ((of b).worst ≡ total max (λ p. (of p).worst) ps)
  tiles-counts b ps t of after counts =
      let T = table.tree in
      rw (fun_ext (λ p. ((counts p).follows T table.holding).answers)) (tiles-answers b ps t (state_of before.table T))

  pub empty-counts : (b : Box) → (b.x1 ≡ b.x2) ⊎ (b.y1 ≡ b.y2) → box_crossed b ≡ false → {after : Lent} {a : Answer}
      → Performs (count b) before after a
      → a ≡ counted 0 (main.count b table.tree).visits 0 0
  empty-counts b e straight p =
      let T = table.tree in (p.follows T table.holding).answers ∙ empty-count b e straight (state_of before.table T)
