use Rattle.machine_config.proofs.Vocabulary.{None, ap, ◌∙◌, set-set, set-get_or, setting_of}
use Rattle.machine_config.proofs.laws.settings_are_exact.Goals as goal

pub returns-clause-over : goal.returns-clause-over
returns-clause-over c = λ g t s later. ap (λ ts. record g { tables = ts }) (set-set g.tables t s later)

pub returns-clause-back : goal.returns-clause-back
returns-clause-back c = λ g t s. ap (λ ts. record g { tables = ts }) (set-set g.tables t s (setting_of g t) ∙ set-get_or g.tables t None)
