-- The pins of a run.
use Rattle.std.specs.Prelude.{◌≢◌, ℕ, ◌<◌, List, ◌++◌, All, AllPairs, refl}
use Rattle.std.specs.Coded.{Coded, code_by, coded×, coded_ℕ, coded_list}
use Rattle.machine_shape.specs.Shape.{pins_of}
use Rattle.machine_image.specs.Images.{ImageValue}

-- a run: how many pins the machine has, and the image's two lists of pins
pub record Rows : Type 0 where
  pub pins : ℕ
  pub inputs : List ℕ
  pub outputs : List ℕ

-- codes, by which a proof tells these values apart
abbrev pub coded_rows : Coded Rows
coded_rows = code_by (ℕ × (List ℕ × List ℕ)) (coded× coded_ℕ (coded× (coded_list coded_ℕ) (coded_list coded_ℕ)))
    (λ r. (r.pins, (r.inputs, r.outputs))) (λ p. record { pins = p.0; inputs = p.1.0; outputs = p.1.1 }) (λ _. refl)

-- its pins are those of the machine, and all different
pub record ArePinsOfRows (r : Rows) : Type 0 where
  pub within : All (λ k. k < r.pins) (r.inputs ++ r.outputs)
  pub apart : AllPairs (λ j k. j ≢ k) (r.inputs ++ r.outputs)

-- the run of an image
abbrev pub pins_in : ImageValue → Rows
pins_in i = record { pins = pins_of i.config.shape; inputs = i.inputs; outputs = i.outputs }
