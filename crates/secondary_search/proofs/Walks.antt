-- The equations by which a listing's mirrors go on. Assumes nothing.
use Rattle.secondary_search.specs.List.{walk♯-zero, walk♯-suc, list♯-zero, list♯-suc}

pub ruleset walks = (walk♯-zero, walk♯-suc)

pub ruleset lists = (list♯-zero, list♯-suc)
