use mathlib.Core.Path.{sym, subst}
use Rattle.checking.specs.Verdict.{Verdict}
use Rattle.checking.proofs.Exact.{check-exact}
use Rattle.checking.proofs.check.check.Goals as goal

pub returns : goal.returns
returns c = subst (Verdict c.args.t.now) (sym c.live_marks.ensures) (check-exact c.args.t.now)
