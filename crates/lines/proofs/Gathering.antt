-- Lines gathered byte by byte are the lines of the input. Assumes nothing.
use Prim.Native.Nat.{ℕ, ◌+◌, ◌≤◌, ◌<◌}
use mathlib.Core.Path.{◌≡◌, refl, sym, ap}
use mathlib.Core.Logic.{◌↔◌}
use mathlib.Core.List.{List, [], ◌∷◌, ◌++◌}
use mathlib.Core.Option.{Option, none}
use native.Mathlib.Omega.{arith}
use native.Mathlib.Numerals.{add-one}
use lib.Dec.{leb}
use lib.ListN.{length, take, set, length-append, length-set, length-take}
use lib.Seq.{take-suc-set}
use borrow.Author.Tests.{leb-true, leb-false, le-leb}
use Rattle.model.proofs.Logic.{by_cases}
use Rattle.table.specs.After.{after}
use Rattle.lines.specs.Commands.{Command, Reads, command, not_one}
use Rattle.lines.specs.Input.{TakenAs, short, long, Gathered, within, beyond, gather}
use Rattle.lines.proofs.Reading.{reads-once}
use Rattle.lines.proofs.Responses.{written-short}

-- the limit of 48 bytes turns no form away: what is taken as a command is what reads as one
long-reads : (l : List ℕ) → 48 < length l → Reads l none
long-reads l h = not_one (λ c w e. omega (arith, written-short c w, ap length e))

pub taken-reads : (l : List ℕ) (o : Option Command) → TakenAs l o ↔ Reads l o
taken-reads l o = (to, from)
  where
    to : {o : Option Command} → TakenAs l o → Reads l o
    to (short h r) = r
    to (long h) = long-reads l h

    from : {o : Option Command} → Reads l o → TakenAs l o
    from (command {c} w e) = short (rw e (written-short c w)) (command w e)
    from (not_one n) = by_cases (leb (length l) 48) (λ t. short (leb-true (length l) 48 t) (not_one n)) (λ u. long (leb-false (length l) 48 u))

-- nothing begun
pub gathered_none : (lent : List ℕ) → 48 ≤ length lent → Gathered lent 0 []
gathered_none lent h = within h (omega arith) refl

-- a byte more
pub gathered-more : (lent begun : List ℕ) (len b len' : ℕ) (lent' : List ℕ) → after len' lent' ≡ gather len b lent → Gathered lent len begun
    → Gathered lent' len' (begun ++ b ∷ [])
unfolding gather
gathered-more lent begun len b len' lent' e (within room h t) =
    by_cases (leb 48 len)
    (λ full.
    let all = leb-true 48 len full in
    let kept = rw full at e in
    let size : length begun ≡ len = omega (arith, ap length (sym t), length-take len lent) in
    rw (ap (λ w. w.out) kept, ap (λ w. w.words) kept) (beyond room refl (omega (arith, length-append begun (b ∷ [])))))
    (λ more.
    let below = leb-false 48 len more in
    let kept = rw more at e in
    let text : take (len + 1) (set lent len b) ≡ begun ++ b ∷ [] = rw (add-one len, take-suc-set lent len b (omega arith), t) in
    rw (ap (λ w. w.out) kept, ap (λ w. w.words) kept) (within (omega (arith, length-set lent len b)) (omega arith) text))
gathered-more lent begun len b len' lent' e (beyond room h t) =
    let kept = rw (le-leb 48 len (omega arith)) at e in
    rw (ap (λ w. w.out) kept, ap (λ w. w.words) kept) (beyond room refl (omega (arith, length-append begun (b ∷ []))))

-- the command of a line that has been gathered
module _ (lent : List ℕ) (len : ℕ) (l : List ℕ) (g : Gathered lent len l) where
  pub gathered-long : 48 < len → TakenAs l none
  gathered-long h = go g
    where
      go : Gathered lent len l → TakenAs l none
      go (within room k t) = absurd (omega arith)
      go (beyond room k t) = long t

  pub gathered-room : 48 ≤ length lent
  gathered-room = go g
    where
      go : Gathered lent len l → 48 ≤ length lent
      go (within room k t) = room
      go (beyond room k t) = room

  pub gathered-short : len ≤ 48 → (o : Option Command) → Reads (take len lent) o → TakenAs l o
  gathered-short h o r = go g
    where
      go : Gathered lent len l → TakenAs l o
      go (within room k t) = short (omega (arith, ap length (sym t), length-take len lent)) (rw t at r)
      go (beyond room k t) = absurd (omega arith)

pub taken-once : {l : List ℕ} {o p : Option Command} → TakenAs l o → TakenAs l p → o ≡ p
taken-once {l} {o} {p} t s = reads-once ((taken-reads l o).0 t) ((taken-reads l p).0 s)
