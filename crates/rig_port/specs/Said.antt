-- What was said over a port.
use Rattle.std.specs.Prelude.{ℕ, List, [], ◌∷◌, flat_map, Option, None, Some, refl}
use Rattle.std.specs.Coded.{Coded, code_by, coded×, coded_ℕ, coded_list, coded_option}

-- a request that was answered, and the line that answered it
pub record Said : Type 0 where
  pub request : List ℕ
  pub line : List ℕ

-- a request that a port was asked, and the line that answered it, if one did
pub record Sent : Type 0 where
  pub request : List ℕ
  pub line : Option (List ℕ)

abbrev pub said_if : List ℕ → Option (List ℕ) → List Said
said_if request None = []
said_if request (Some line) = record { request = request; line = line } ∷ []

-- what of these was answered
abbrev pub answered : List Sent → List Said
answered sent = flat_map (λ s. said_if s.request s.line) sent

abbrev pub coded_said : Coded Said
coded_said = code_by (List ℕ × List ℕ) (coded× (coded_list coded_ℕ) (coded_list coded_ℕ)) (λ s. (s.request, s.line))
    (λ p. record { request = p.0; line = p.1 }) (λ _. refl)

abbrev pub coded_talk : Coded (List Said)
coded_talk = coded_list coded_said

abbrev pub coded_sent : Coded Sent
coded_sent = code_by (List ℕ × Option (List ℕ)) (coded× (coded_list coded_ℕ) (coded_option (coded_list coded_ℕ))) (λ s. (s.request, s.line))
    (λ p. record { request = p.0; line = p.1 }) (λ _. refl)

abbrev pub coded_port_talk : Coded (List Sent)
coded_port_talk = coded_list coded_sent
