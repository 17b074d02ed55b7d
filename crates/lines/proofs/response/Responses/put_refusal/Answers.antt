-- `put_refusal` meets its contract. Assumes nothing.
use Rattle.lines.specs.Responses.{refusal_line}
use Rattle.lines.proofs.response.Responses.put_refusal.Goals as goal

pub returns-clause-wrote : goal.returns-clause-wrote
unfolding refusal_line
returns-clause-wrote c = c.put_figures.ensures.wrote

pub returns-clause-short : goal.returns-clause-short
unfolding refusal_line
returns-clause-short c = c.put_figures.ensures.short
