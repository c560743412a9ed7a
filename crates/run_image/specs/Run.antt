-- Rows of a run.
use Rattle.std.specs.Prelude.{◌≡◌, ◌⊎◌, Bool, List, None, map}
use Rattle.machine_meaning.specs.Circuit.{Pins}
use Rattle.machine_image.specs.Images.{drive_on, row_at}
use Rattle.rig.specs.Rig.{RigState, GoesOn, GoesOnBy}
use Rattle.run_image.specs.Pins.{Rows}

-- the session goes on by a cycle that drives the vector, and the row is its reading at the output pins
abbrev pub RunsRow : Rows → RigState → RigState → List Bool → List Bool → Type 0
RunsRow r old new vector row = (reading : Pins) × GoesOn (drive_on r.pins r.inputs vector) reading old new
    × (row ≡ row_at r.outputs reading)

-- the same for several vectors, one after the other
abbrev pub RunsRows : Rows → RigState → RigState → (vectors rows : List (List Bool)) → Type 0
RunsRows r old new vectors rows = (readings : List Pins) × GoesOnBy (map (drive_on r.pins r.inputs) vectors) readings old new
    × (rows ≡ map (row_at r.outputs) readings)

-- where a run doesn't begin there is no session, or nothing changed
abbrev pub EndsOrKeeps : RigState → RigState → Type 0
EndsOrKeeps old new = (new.session ≡ None) ⊎ (new ≡ old)
