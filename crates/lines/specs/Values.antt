-- What the crate's values mean. Assumes nothing.
use Rattle.std.specs.Prelude.{ℕ, List, Option as Opt, Some, None}
use Rattle.std.specs.Borrow.{Bor}
use Rattle.std.proofs.Math.Option.{Option, none, some}
use Rattle.geometry.specs.Values.{mark_value, box_value}
use Rattle.lines.specs.declared.command.Command as declared
use Rattle.lines.specs.declared.command.Command.TheVariants.{Insert, Strike, Count, List as Listing}
use Rattle.lines.specs.Commands.{Command, insert, strike, count, list}
use Rattle.lines.specs.Reading.{Number, number}

-- a number that was read, and what follows it
abbrev pub number_value : Opt (ℕ × Bor (List ℕ)) → Option Number
number_value None = none
number_value (Some p) = some (number p.0 p.1.now)

abbrev pub numbers_value : Opt (List ℕ) → Option (List ℕ)
numbers_value None = none
numbers_value (Some ns) = some ns

-- a command
abbrev pub command_value : declared.Command → Command
command_value (Insert m) = insert (mark_value m)
command_value (Strike x y tag) = strike x y tag
command_value (Count b) = count (box_value b)
command_value (Listing b) = list (box_value b)

-- the command that a line was read as, or none
abbrev pub line_of : Opt declared.Command → Option Command
line_of None = none
line_of (Some c) = some (command_value c)
