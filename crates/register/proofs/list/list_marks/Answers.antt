use Rattle.register.proofs.Branches.{list_read, list-marks}
use Rattle.register.proofs.list.list_marks.Goals as goal

pub returns : goal.returns
returns c =
    list-marks _ _ _ _ _ _ _ _ _ _ _ _ (list_read _ _ c.requires.0.capacity.0 _ _ _ _ c.list-tally.ensures)
    c.list-tally.auto.out c.visits.ensures
    c.sort_lists-which.ensures.0 c.sort_lists-which.ensures.1
