-- Open: whatever the words were, an accepted open leaves an empty table of the capacity. Assumes nothing.
use Prim.Native.Nat.{ℕ, ◌+◌, ◌≤◌, ◌<◌}
use mathlib.Core.Path.{◌≡◌, refl, sym, subst, ◌∙◌}
use mathlib.Core.Logic.{◌⊎◌}
use mathlib.Core.Bool.{false}
use mathlib.Core.List.{List, [], ◌++◌}
use mathlib.Core.Option.{none}
use native.Mathlib.Omega.{arith}
use lib.Dec.{ltb}
use lib.ListN.{length, get_or, take, drop, length-append, length-drop, get_or-append}
use lib.Seq.{drop_at, get_or-take, length-take-le}
use borrow.Author.Tests.{ltb-false, le-ltb}
use Rattle.model.specs.Sizes.{W, capacity_outside}
use Rattle.model.specs.Refusals.{refused, open_table}
use Rattle.model.specs.History.{open_for, Answer, refusal, updated}
use Rattle.model.proofs.Logic.{by_cases, clash}
use Rattle.table.specs.Layout.{arm_width, root_place, used_place, run_place}
use Rattle.table.specs.After.{After}
use Rattle.twofold_layout.specs.Sound.{Holding}
use Rattle.table.specs.Header.{capacity_of}
use Rattle.whole_table.specs.Empty.{empty♯}
use Rattle.whole_table.proofs.Emptying.{empty-length, empty-capacity, empty-other, empty-holding}
use Rattle.register.specs.Performs.{alone, early, own, opens, written, Performs}
use Rattle.register.specs.Mirrors.{within, on_accepted, open♯}
use Rattle.register.proofs.Own.{W-header, held-capacity, held-own}
use Rattle.register.proofs.Performing.{no-lists, refused-early}

module _ (c : ℕ) (xs : List ℕ) where
  -- what the own words and the others are afterwards
  abbrev ws : List ℕ
  ws = empty♯ c (take (W c) xs)

  abbrev ys : List ℕ
  ys = ws ++ drop (W c) xs

  module _ (inside : capacity_outside c ≡ false) (room : W c ≤ length xs) where
    own-long : length ws ≡ W c
    own-long = empty-length c (take (W c) xs) ∙ length-take-le (W c) xs room

    opened-length : length ys ≡ length xs
    opened-length = omega (arith, length-append ws (drop (W c) xs), own-long, length-drop (W c) xs)

    opened-holding : Holding ws none
    opened-holding = empty-holding c (take (W c) xs) inside (length-take-le (W c) xs room)

    opened-capacity : capacity_of ys ≡ c
    opened-capacity =
        held-capacity opened-holding (drop (W c) xs) ∙ empty-capacity c (take (W c) xs) (omega (arith, length-take-le (W c) xs room, W-header c))

    opened-own : Holding (own ys) none
    opened-own = rw (held-own opened-holding (drop (W c) xs)) opened-holding

    opened-other : (i : ℕ) → root_place + arm_width ≤ i → i < W c → (i < used_place c 0) ⊎ (run_place c 0 ≤ i) → get_or ys i 0 ≡ get_or xs i 0
    opened-other i l h off =
        get_or-append ws (drop (W c) xs) 0 i (omega (arith, own-long))
        ∙ empty-other c (take (W c) xs) (omega (arith, length-take-le (W c) xs room, W-header c)) i l off
        ∙ get_or-take (W c) xs i 0 h

    opened-performs : Performs (open_for c (length xs)) (alone xs) (alone ys) (updated 0 0)
    unfolding early open_table
    opened-performs =
        let short = le-ltb (length xs) (W c) room in
        record {
          lengths = refl;
          refuses = λ z. absurd (z (rw (inside, short)));
          later = λ z. opens;
          leaves = written opened-length (drop_at ws (drop (W c) xs) (W c) own-long);
          leaves_lists = no-lists (updated 0 0) xs ys [] [] refl;
          starts = λ z. (opened-capacity, opened-own, opened-other);
          follows = λ T h. record {
            answers = rw (inside, short);
            capacity = rw (inside, short) opened-capacity;
            holds = rw (inside, short) opened-own;
          };
          spares = λ u. clash u refl;
        }

  refused-performs : (n : ℕ) → open_table c (length xs) ≡ refused n → (n ≡ 0 → ⊥)
      → Performs (open_for c (length xs)) (alone xs) (alone xs) (refusal n 0)
  unfolding early
  refused-performs n e some = refused-early (open_for c (length xs)) (alone xs) n 0 some (λ z. refl) refl (λ T h. rw e) (rw e) refl

  pub open-performs : (p : After Answer) → p ≡ open♯ c xs → Performs (open_for c (length xs)) (alone xs) (alone p.words) p.out
  unfolding open♯ on_accepted within open_table
  open-performs p is =
      subst (λ p. Performs (open_for c (length xs)) (alone xs) (alone p.words) p.out) (sym is)
      (by_cases (capacity_outside c)
      (λ t. rw t (refused-performs 1 (rw t) (omega arith)))
      (λ f. by_cases (ltb (length xs) (W c))
      (λ t. rw (f, t) (refused-performs 2 (rw (f, t)) (omega arith)))
      (λ g. rw (f, g) (opened-performs f (ltb-false (length xs) (W c) g)))))
