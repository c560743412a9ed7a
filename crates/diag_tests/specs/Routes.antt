-- Routes: walks over crosspoints from a pin of the machine.
use Rattle.std.specs.Prelude.{◌≡◌, ◌⊎◌, ℕ, ◌<◌, true, ◌==◌, if◌then◌else◌, List, [], ◌∷◌, ◌++◌, map, refl}
use Rattle.std.specs.Coded.{Coded, code_by, coded×, coded_ℕ, coded_list}
use Rattle.machine_shape.specs.declared.{Shape.Shape, Cross.Cross}
use Rattle.machine_shape.specs.Shape.{Ends, ends_of, pin_wire, pins_of, crosses_of, wires_of}
use Rattle.machine_config.specs.Vocabulary.{among, LeadsTo}

-- a route: its pin, its crosspoints in order, the wires that they lead over from the pin on, and the last wire
pub record Walk : Type 0 where
  pub pin : ℕ
  pub crosses : List ℕ
  pub wires : List ℕ
  pub end : ℕ

-- codes, by which a proof tells these values apart
abbrev pub coded_walk : Coded Walk
coded_walk = code_by ((ℕ × ℕ) × (List ℕ × List ℕ)) (coded× (coded× coded_ℕ coded_ℕ) (coded× (coded_list coded_ℕ) (coded_list coded_ℕ)))
    (λ r. ((r.pin, r.end), (r.crosses, r.wires))) (λ p. record { pin = p.0.0; crosses = p.1.0; wires = p.1.1; end = p.0.1 }) (λ _. refl)

-- it is one of the machine: a walk from its pin to its end
pub record IsRoute (m : Shape) (r : Walk) : Type 0 where
  pub pin : r.pin < pins_of m
  pub leads : LeadsTo m (pin_wire m r.pin) r.crosses r.wires r.end
  pub crosses : (x : ℕ) → among r.crosses x ≡ true → x < crosses_of m
  pub wires : (w : ℕ) → among r.wires w ≡ true → w < wires_of m

-- the route that is a pin alone
abbrev pub at_pin : Shape → ℕ → Walk
at_pin m k = record { pin = k; crosses = []; wires = pin_wire m k ∷ []; end = pin_wire m k }

-- a wire is an end of the crosspoint
abbrev pub HasEnd : Shape → ℕ → ℕ → Type 0
HasEnd m x w = ((ends_of m x).0 ≡ w) ⊎ ((ends_of m x).1 ≡ w)

-- the other end
abbrev pub other_end : Shape → ℕ → ℕ → ℕ
other_end m x w = if (ends_of m x).0 == w then (ends_of m x).1 else (ends_of m x).0

-- the second route goes on from the first over the crosspoint
pub record Extends (m : Shape) (x : ℕ) (r s : Walk) : Type 0 where
  pub pin : s.pin ≡ r.pin
  pub crosses : s.crosses ≡ r.crosses ++ x ∷ []
  pub wires : s.wires ≡ r.wires ++ s.end ∷ []
  pub end : s.end ≡ other_end m x r.end
  pub at : Ends (ends_of m x) r.end s.end

-- the numbers of crosspoints
abbrev pub cross_numbers : List Cross → List ℕ
cross_numbers xs = map (λ c. c.0) xs
