-- Codes, by which a proof tells what a board over a port means apart.
use Rattle.std.specs.Prelude.{ℕ, Bool, List, Option, refl}
use Rattle.std.specs.Coded.{Coded, code_by, coded×, coded_ℕ, coded_bool, coded_list, coded_option}
use Rattle.machine_shape.specs.contracts.Shape as shape
use Rattle.machine_shape.specs.declared.Shape.{Shape}
use Rattle.machine_meaning.specs.Faults.{Faults}
use Rattle.machine_config.specs.Configuration.{Configuration, coded_configuration}
use Rattle.machine_faults.specs.Adding.{coded_faults}
use Rattle.rig.specs.Rig.{Exchange, Session}
use Rattle.rig_board.specs.{Codes.coded_exchange, Device.Device}
use Rattle.rig_port.specs.{Linked.PortBoardState, Said.Said, Said.Sent, Said.coded_port_talk, Said.coded_talk}

abbrev pub coded_session : Coded Session
coded_session = code_by (Configuration × (List Exchange × ℕ)) (coded× coded_configuration (coded× (coded_list coded_exchange) coded_ℕ))
    (λ s. (s.config, (s.cycles, s.spare))) (λ p. record { config = p.0; cycles = p.1.0; spare = p.1.1 }) (λ _. refl)

abbrev pub coded_device : Coded Device
coded_device = code_by ((Shape × Faults) × (Configuration × Option Session))
    (coded× (coded× shape.the_row.coded coded_faults) (coded× coded_configuration (coded_option coded_session)))
    (λ d. ((d.shape, d.faults), (d.set, d.session)))
    (λ p. record { shape = p.0.0; faults = p.0.1; set = p.1.0; session = p.1.1 }) (λ _. refl)

abbrev pub coded_told : Coded ((Option Device × Option Configuration) × (ℕ × (ℕ × ℕ)))
coded_told = coded× (coded× (coded_option coded_device) (coded_option coded_configuration)) (coded× coded_ℕ (coded× coded_ℕ coded_ℕ))

abbrev pub coded_board : Coded PortBoardState
coded_board = code_by (((Option Shape × (Bool × (Bool × Bool))) × (List Said × List Sent)) × ((Option Device × Option Configuration) × (ℕ × (ℕ × ℕ))))
    (coded× (coded× (coded× (coded_option shape.the_row.coded) (coded× coded_bool (coded× coded_bool coded_bool))) (coded× coded_talk coded_port_talk)) coded_told)
    (λ s. (((s.found, (s.is_up, (s.in_session, s.is_due))), (s.talk, s.port_talk)), ((s.device, s.waits), (s.number, (s.port_failures, s.failures)))))
    (λ p. record {
      found = p.0.0.0;
      is_up = p.0.0.1.0;
      in_session = p.0.0.1.1.0;
      is_due = p.0.0.1.1.1;
      device = p.1.0.0;
      waits = p.1.0.1;
      talk = p.0.1.0;
      port_talk = p.0.1.1;
      number = p.1.1.0;
      port_failures = p.1.1.1.0;
      failures = p.1.1.1.1;
    })
    (λ _. refl)
