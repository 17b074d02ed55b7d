-- What a `?` hands on. Assumes nothing.
use Rattle.std.proofs.Common.{Option, None, Some, Result, Ok, Err, ok_or}
use Rattle.std.specs.Option.{MatchOption, is_some}
use Rattle.std.specs.Result.{IsErrAnd}
use Prim.Native.Nat.{ℕ}
use mathlib.Core.Path.{◌≡◌, ap, subst}
use mathlib.Core.List.{List}
use Rattle.table.specs.Header.{own_words, own_visits, HeaderOf}
use Rattle.table.specs.declared.header.Header.{Header}
use mathlib.Core.Path.{refl}
use mathlib.Core.Bool.{true, false}

-- a `?` that stops, and one that stops where there is nothing
pub stopped : {A E : Type 0} (r : Result A E) (e : E) → IsErrAnd r (λ d. d ≡ e) → r ≡ Err e
stopped (Ok a) e p = absurd p
stopped (Err d) e p = ap Err p

pub lacking : {A B E : Type 0} (o : Option B) (d e : E) (r : Result A E) → Err e ≡ ok_or o d → IsErrAnd r (λ x. x ≡ e) → (o ≡ None) × (r ≡ Err d)
lacking None d e r is p = (refl, stopped r d (subst (λ e. IsErrAnd r (λ x. x ≡ e)) (cc) p))
lacking (Some b) d e r is p = cc

-- the header that every call but open enters by
module _ (xs : List ℕ) (o : Option Header) (says : MatchOption o ((own_words xs ≡ 0) × (own_visits xs ≡ 0)) (HeaderOf xs)) where
  pub no_header : o ≡ None → own_words xs ≡ 0
  no_header e = (rw e at says).0

  pub a_header : (h : Header) → o ≡ Some h → HeaderOf xs h
  a_header h e = rw e at says

-- whether a mark was found
pub found_some : (o : Option ℕ) → true ≡ is_some o → (s : ℕ) × (o ≡ Some s)
found_some None e = cc
found_some (Some s) e = (s, refl)

pub found_none : (o : Option ℕ) → false ≡ is_some o → o ≡ None
found_none None e = refl
found_none (Some s) e = cc
