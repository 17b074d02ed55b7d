-- The mirror of the reading: what the functions of src/command.rt give, on the rest of a line. Assumes nothing.
use Rattle.std.specs.Prelude.{ℕ, zero, suc, ◌+◌, ◌-◌, ◌*◌, List, [], ◌∷◌, leb, eqb, get_or, drop, if◌then◌else◌}
use Rattle.std.specs.Char.{is_ascii_digit}
use Rattle.std.proofs.Math.Option.{Option, none, some}
use Rattle.model.specs.Sheet.{Box, mark, box}
use Rattle.lines.specs.Text.{comma, zero_digit}
use Rattle.lines.specs.Commands.{Command, insert, strike, count, list}

-- a number that was read, and what follows it
pub record Number : Type 0 where
  pub value : ℕ
  pub rest : List ℕ

abbrev pub number : ℕ → List ℕ → Number
number v l = record { value = v; rest = l }

-- the digits after those of v
unfoldable pub read_on♯ : ℕ → List ℕ → Option Number
read_on♯ v [] = some (number v [])
read_on♯ v (b ∷ l) =
    let more : ℕ = 10 * v + (b - zero_digit) in
    let further = read_on♯ more l in
    if is_ascii_digit b then (if leb more 4294967295 then further else none) else some (number v (b ∷ l))

-- nothing is taken after a leading 0, so that what follows is no end of the number if it is a digit
unfoldable pub read_number♯ : List ℕ → Option Number
read_number♯ l =
    let b : ℕ = get_or l 0 0 in
    let l' : List ℕ = drop 1 l in
    if is_ascii_digit b then (if eqb b zero_digit then some (number 0 l') else read_on♯ (b - zero_digit) l') else none

-- a comma and a number
unfoldable pub read_field♯ : List ℕ → Option Number
read_field♯ l = if eqb (get_or l 0 0) comma then read_number♯ (drop 1 l) else none

abbrev pub and_then : {A B : Type 0} → Option A → (A → Option B) → Option B
and_then none f = none
and_then (some a) f = f a

-- what was read is the whole line
abbrev pub at_end : {A : Type 0} → List ℕ → A → Option A
at_end [] a = some a
at_end (b ∷ l) a = none

abbrev pub some_of : {A B : Type 0} → (A → B) → Option A → Option B
some_of f none = none
some_of f (some a) = some (f a)

-- so many numbers, a comma before each, and nothing after them
unfoldable pub read_numbers♯ : ℕ → List ℕ → Option (List ℕ)
read_numbers♯ zero l = at_end l []
read_numbers♯ (suc n) l = and_then (read_field♯ l) (λ a. some_of (λ ns. a.value ∷ ns) (read_numbers♯ n a.rest))

-- the commands that numbers make, in the order in which they are written
abbrev pub insert_of : List ℕ → Command
insert_of ns = insert (mark (get_or ns 0 0) (get_or ns 1 0) (get_or ns 2 0) (get_or ns 3 0))

abbrev pub strike_of : List ℕ → Command
strike_of ns = strike (get_or ns 0 0) (get_or ns 1 0) (get_or ns 2 0)

abbrev pub box_of : List ℕ → Box
box_of ns = box (get_or ns 0 0) (get_or ns 1 0) (get_or ns 2 0) (get_or ns 3 0)

abbrev pub count_of : List ℕ → Command
count_of ns = count (box_of ns)

abbrev pub list_of : List ℕ → Command
list_of ns = list (box_of ns)

unfoldable pub read♯ : List ℕ → Option Command
read♯ l =
    let c : ℕ = get_or l 0 0 in
    let l' : List ℕ = drop 1 l in
    if eqb c 73 then some_of insert_of (read_numbers♯ 4 l')
    else (if eqb c 68 then some_of strike_of (read_numbers♯ 3 l')
    else (if eqb c 67 then some_of count_of (read_numbers♯ 4 l')
    else (if eqb c 76 then some_of list_of (read_numbers♯ 4 l')
    else none)))
