-- The equations by which the mirrors of finding and listing go on. Assumes nothing.
use Rattle.secondary_search.proofs.Turns.{some-left, none-left}
use Rattle.primary_search.specs.Find.{find_beneath♯-zero, find_beneath♯-suc}
use Rattle.primary_search.specs.List.{list_beneath♯-zero, list_beneath♯-suc}

pub ruleset finds = (find_beneath♯-zero, find_beneath♯-suc, some-left, none-left)

pub ruleset lists = (list_beneath♯-zero, list_beneath♯-suc)
