-- The mirror of the check. Assumes nothing.
use Rattle.std.specs.Prelude.{ℕ, Bool, ◌&&◌, ◌||◌, List, Result, Ok, ltb, eqb, length, get_or, is_some, if◌then◌else◌}
use Rattle.table.specs.Layout.{capacity_place, live_place, root_place}
use Rattle.table.specs.Limits.{deepest}
use Rattle.table.specs.declared.damage.Damaged.{Damaged}
use Rattle.nodes.specs.Arms.{Arm, arm_at}
use Rattle.twofold_layout.specs.Levels.{top_level}
use Rattle.table.specs.Header.{own_words}
use Rattle.checking.specs.Verdict.{damage}
use Rattle.checking.specs.Slots.{inverse♯}
use Rattle.checking.specs.Trees.{main_span♯}

abbrev pub root_stands : ℕ → ℕ → Arm → List ℕ → Bool
root_stands capacity live root xs = eqb root.weight live && (eqb live 0 || is_some (main_span♯ deepest (top_level capacity) capacity live root xs))

abbrev pub sound_tree♯ : ℕ → ℕ → List ℕ → Bool
sound_tree♯ capacity live xs = inverse♯ capacity xs && root_stands capacity live (arm_at xs root_place) xs

abbrev pub live♯ : List ℕ → Result ℕ Damaged
live♯ xs =
    if eqb (own_words xs) 0 || ltb (own_words xs) (length xs) then damage
    else (if sound_tree♯ (get_or xs capacity_place 0) (get_or xs live_place 0) xs then Ok (get_or xs live_place 0) else damage)
