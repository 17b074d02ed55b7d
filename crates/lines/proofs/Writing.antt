-- Text written piece by piece is written as a whole, and stands behind the text before it. Assumes nothing.
use Prim.Native.Nat.{ℕ, suc, ◌+◌, ◌-◌, ◌^◌, ◌≤◌, ◌<◌, min}
use mathlib.Core.Path.{◌≡◌, refl, sym, ap, ◌∙◌}
use mathlib.Core.List.{List, [], ◌∷◌, ◌++◌, append_assoc}
use native.Mathlib.Omega.{arith}
use lib.Dec.{ltb, leb}
use lib.ListN.{length, take, drop, length-append, take-append-drop, drop_of_length-le, length-take}
use lib.Seq.{sets, sets-eq, length-sets, length-take-le, take_at, drop-drop}
use borrow.Author.Tests.{ltb-true, ltb-false, leb-true, leb-false}
use Rattle.std.proofs.lemmas.List.{set_past}
use Rattle.model.proofs.Logic.{by_cases}
use Rattle.lines.specs.declared.response.Responses.{Responses}
use Rattle.lines.specs.Writing.{text_in, Wrote}

sets-append : (xs : List ℕ) (at : ℕ) (bs cs : List ℕ) → sets (sets xs at bs) (at + length bs) cs ≡ sets xs at (bs ++ cs)
sets-append xs at [] cs = let e : at + 0 ≡ at = omega arith in ap (λ (i : ℕ). sets xs i cs) e
sets-append xs at (b ∷ bs) cs =
    let e : at + suc (length bs) ≡ suc at + length bs = omega arith in
    ap (λ (i : ℕ). sets (sets xs at (b ∷ bs)) i cs) e ∙ sets-append _ (suc at) bs cs

-- behind the last byte nothing finds room
sets-past : (xs : List ℕ) (at : ℕ) (bs : List ℕ) → length xs ≤ at → sets xs at bs ≡ xs
sets-past xs at [] h = refl
sets-past xs at (b ∷ bs) h = rw (set_past xs at b h) (sets-past xs (suc at) bs (omega arith))

text-length : (r : Responses) → r.len ≤ length r.bytes.now → length (text_in r) ≡ r.len
text-length r h = length-take-le r.len r.bytes.now h

-- as many bytes as find room, written over those from `at` on
pub sets-fitting : (xs bs : List ℕ) (at f : ℕ) → at ≤ length xs → f ≡ min (length bs) (length xs - at)
    → sets xs at bs ≡ take at xs ++ (take f bs ++ drop f (drop at xs))
sets-fitting xs bs at f h e =
    let front : List ℕ = take f bs in
    let short : length front ≡ f = length-take-le f bs (omega arith) in
    ap (λ (l : List ℕ). sets xs at l) (sym (take-append-drop f bs))
    ∙ sym (sets-append xs at front (drop f bs))
    ∙ by_cases (ltb f (length bs))
    (λ t. let less = ltb-true f (length bs) t in sets-past (sets xs at front) (at + length front) (drop f bs) (omega (arith, length-sets xs at front)))
    (λ u. let all = ltb-false f (length bs) u in rw (drop_of_length-le bs all))
    ∙ sets-eq front xs at (omega arith)
    ∙ rw (short, drop-drop f at xs) (append_assoc (take at xs) front (drop (at + f) xs))

-- and where none do, nothing is
pub sets-full : (xs bs : List ℕ) (at : ℕ) → min (length bs) (length xs - at) ≡ 0 → sets xs at bs ≡ xs
sets-full xs [] at e = refl
sets-full xs (b ∷ bs) at e = sets-past xs at (b ∷ bs) (omega (arith, e))

-- more behind it, whether or not the first found room
pub wrote_then : {bs cs : List ℕ} {r s t : Responses} → Wrote bs r s → Wrote cs s t → Wrote (bs ++ cs) r t
wrote_then {bs} {cs} {r} {s} {t} w v =
    let xs : List ℕ = r.bytes.now in
    let whole = sets-append xs r.len bs cs in
    record {
      bytes = v.bytes ∙ by_cases (leb (r.len + length bs) (length xs))
          (λ u.
          let within = leb-true (r.len + length bs) (length xs) u in
          let end : s.len ≡ r.len + length bs = omega (arith, w.len, w.size) in
          rw (w.bytes, end) whole)
          (λ u.
          let over = leb-false (r.len + length bs) (length xs) u in
          sets-past s.bytes.now s.len cs (omega (arith, w.len, w.room, w.size))
          ∙ sym (sets-past s.bytes.now (r.len + length bs) cs (omega (arith, w.room)))
          ∙ rw w.bytes whole);
      len = omega (arith, w.len, v.len, length-append bs cs);
      size = w.size;
      room = v.room ∙ w.room;
      same = v.same ∙ w.same;
    }

pub wrote_nothing : (r : Responses) → r.len < 2 ^ 64 → length r.bytes.now < 2 ^ 64 → Wrote [] r r
wrote_nothing r h size = record { bytes = refl; len = omega (arith, h); size = size; room = refl; same = refl }

-- where there is room for it, the whole text
pub wrote-all : {bs : List ℕ} {r s : Responses} → Wrote bs r s → r.len + length bs ≤ length r.bytes.now → text_in s ≡ text_in r ++ bs
wrote-all {bs} {r} {s} w room =
    let end : s.len ≡ r.len + length bs = omega (arith, w.len, w.size) in
    rw (w.bytes, end, sets-eq bs r.bytes.now r.len room)
    (take_at (take r.len r.bytes.now ++ bs) (drop (r.len + length bs) r.bytes.now) (r.len + length bs)
    (omega (arith, length-append (take r.len r.bytes.now) bs, text-length r (omega arith))))

-- and where it stands there whole, the place behind it is within the bytes
pub wrote-fits : {bs : List ℕ} {r s : Responses} → Wrote bs r s → r.len ≤ length r.bytes.now → text_in s ≡ text_in r ++ bs → s.len ≤ length s.bytes.now
wrote-fits {bs} {r} {s} w within whole = omega (
  arith,
  w.len,
  w.room,
  w.size,
  length-take s.len s.bytes.now,
  ap length whole,
  length-append (text_in r) bs,
  text-length r within,
)
