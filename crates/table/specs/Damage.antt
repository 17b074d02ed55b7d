-- A number that a walk gives, or damage, as the one number that the mirrors compute with. Assumes nothing.
use Rattle.std.specs.Prelude.{ℕ, Result, Ok, Err}
use Rattle.table.specs.Limits.{damaged}
use Rattle.table.specs.declared.damage.Damaged.{Damaged}

abbrev pub figure_of : Result ℕ Damaged → ℕ
figure_of (Ok n) = n
figure_of (Err _) = damaged

-- where nothing is given but that it was done
abbrev pub done_of : Result Unit Damaged → ℕ
done_of (Ok _) = 0
done_of (Err _) = damaged
