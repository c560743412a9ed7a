-- Codes, by which a proof tells what is told of a session apart.
use Rattle.std.specs.Prelude.{Bool, List, Option, refl}
use Rattle.std.specs.Coded.{Coded, code_by, coded×, coded_bool, coded_list, coded_option}
use Rattle.machine_config.specs.Configuration.{Configuration, coded_configuration}
use Rattle.rig.specs.Rig.{Exchange}

abbrev pub coded_exchange : Coded Exchange
coded_exchange = code_by (List Bool × List Bool) (coded× (coded_list coded_bool) (coded_list coded_bool)) (λ e. (e.drive, e.reading))
    (λ p. record { drive = p.0; reading = p.1 }) (λ _. refl)

abbrev pub coded_config_told : Coded (Option Configuration)
coded_config_told = coded_option coded_configuration

abbrev pub coded_cycles_told : Coded (Option (List Exchange))
coded_cycles_told = coded_option (coded_list coded_exchange)
