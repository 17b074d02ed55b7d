-- The check gives the live marks of a sound table, and "damaged" for any other words. Assumes nothing.
use Prim.Native.Nat.{ℕ}
use mathlib.Core.Path.{◌≡◌, refl, ap}
use mathlib.Core.Bool.{false}
use mathlib.Core.List.{List}
use native.Mathlib.Omega.{arith}
use lib.Dec.{ltb, eqb}
use lib.ListN.{length}
use borrow.Author.Tests.{le-ltb, ltb-false, ne_eqb, eqb-false}
use Rattle.model.specs.Sizes.{W}
use Rattle.model.specs.Tree.{marks_of}
use Rattle.model.specs.Sheet.{Main}
use Rattle.std.specs.Prelude.{Result, Ok, Err, is_ok}
use Rattle.model.proofs.Logic.{by_cases, clash}
use Rattle.table.specs.declared.damage.Damaged.{Damaged}
use Rattle.twofold_layout.specs.Sound.{Holding}
use Rattle.table.specs.Header.{capacity_of, live_of, own_words}
use Rattle.twofold_layout.proofs.Sound.{live-within}
use Rattle.checking.specs.Verdict.{damage, Verdict, sound, unsound}
use Rattle.checking.specs.Check.{sound_tree♯, live♯}
use Rattle.table.proofs.Own.{own-table, table-own}
use Rattle.checking.proofs.Sound.{tree-holding}
use Rattle.checking.proofs.Complete.{holding-tree}

-- words that pass are a sound table, and the check gives its marks
pub check_sound : (xs : List ℕ) → (live♯ xs ≡ damage → ⊥) → (T : Main) × Holding xs T × (live♯ xs ≡ Ok (length (marks_of T)))
check_sound xs ok =
    by_cases (eqb (own_words xs) 0)
    (λ t. absurd (ok (rw t)))
    (λ some. by_cases (ltb (own_words xs) (length xs))
    (λ t. absurd (ok (rw (some, t))))
    (λ own. by_cases (sound_tree♯ (capacity_of xs) (live_of xs) xs)
    (λ t.
    let k = own-table xs (eqb-false (own_words xs) 0 some) in
    let long : length xs ≡ W (capacity_of xs) = omega (arith, ltb-false (own_words xs) (length xs) own) in
    let h = tree-holding xs k.0 k.1 long k.2 t in
    (h.0, h.1, rw (some, own, t) (ap Ok h.1.live)))
    (λ f. absurd (ok (rw (some, own, f))))))

-- a sound table passes
pub check-complete : (xs : List ℕ) (T : Main) → Holding xs T → live♯ xs ≡ Ok (length (marks_of T))
check-complete xs T h =
    let k = table-own xs h.is_open h.capacity (live-within h) (omega (arith, h.long)) in
    rw (ne_eqb (own_words xs) 0 (omega arith), le-ltb (own_words xs) (length xs) (omega (arith, h.long)), holding-tree xs T h) (ap Ok h.live)

-- so the check says of any words whether they are a sound table
pub check-exact : (xs : List ℕ) → Verdict xs (live♯ xs)
check-exact xs =
    by_cases (is_ok (live♯ xs))
    (λ t. let k = check_sound xs (λ e. clash t (rw e)) in rw k.2 (sound k.1))
    (λ f. rw (damage-alone (live♯ xs) f) (unsound (λ s. clash (rw (check-complete xs s.tree s.holding)) f)))
  where
    -- what is no number of marks is damage
    damage-alone : (r : Result ℕ Damaged) → is_ok r ≡ false → r ≡ damage
    damage-alone (Ok n) e = clash refl e
    damage-alone (Err d) e = refl
