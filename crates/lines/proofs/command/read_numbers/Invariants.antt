-- `read_numbers` meets its contract. The loop keeps: what is read from the line is the numbers before the place, and behind them what is read from the bytes
-- left. Assumes nothing.
use Prim.Native.Nat.{◌-◌}
use mathlib.Core.Path.{◌≡◌}
use lib.ListN.{length, take}
use Rattle.lines.specs.Reading.{read_numbers♯}
use Rattle.lines.proofs.Places.{behind}
use Rattle.lines.proofs.command.read_numbers.Given as goal

abbrev pub invariant-loop-number : goal.invariant-loop-number
invariant-loop-number g l = (length l.number-items ≡ g.row.N)
    × (behind (take l.number-index l.number-items) (read_numbers♯ (g.row.N - l.number-index) l.left) ≡ read_numbers♯ g.row.N l.line)
