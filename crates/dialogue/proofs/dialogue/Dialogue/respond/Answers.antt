-- `respond` meets its contract. Assumes nothing.
use Rattle.lines.specs.Values.{line_of}
use Rattle.dialogue.proofs.dialogue.Dialogue.respond.Goals as goal

pub returns-clause-responds : goal.returns-clause-responds
returns-clause-responds c =
    let done = c.perform.ensures.does in
    record {
      text = done.text;
      wrote = done.wrote;
      gathered = done.gathered;
      holds = λ l g. record { command = line_of c.command-command.result; taken = c.command-command.ensures l g; does = done.holds };
    }
