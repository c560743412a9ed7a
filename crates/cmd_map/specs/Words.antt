-- The words of the mapper, and what they ask for.
use Rattle.std.specs.Prelude.{ℕ, List, [], ◌∷◌}
use Rattle.std.specs.List.{list_any}
use Rattle.cmd_steps.specs.Words.{Asked, no_job, a_job, asked_if, is_dashed}
use Rattle.cmd_map.specs.Maps.{map_job, fit_job}

-- one word is a design; three are a machine, a list of its defects and a design
abbrev pub asked_in : List (List ℕ) → Asked
asked_in [] = no_job
asked_in (design ∷ []) = a_job (map_job design)
asked_in (machine ∷ defects ∷ []) = no_job
asked_in (machine ∷ defects ∷ design ∷ []) = a_job (fit_job machine defects design)
asked_in (machine ∷ defects ∷ design ∷ more ∷ words) = no_job

-- words of which one begins with `-` are wrong
abbrev pub asked_by : List (List ℕ) → Asked
asked_by words = asked_if (list_any is_dashed words) no_job (asked_in words)
