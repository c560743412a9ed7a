use Rattle.diag_evidence.proofs.Vocabulary.{◌∙◌, ap, subst, sym, pins_of, IsRun, look_drives}
use Rattle.diag_evidence.proofs.Sessions.{on_ok}
use Rattle.diag_evidence.proofs.facts.Facts.look_along.Goals as goal

pub returns-clause-looked_each : goal.returns-clause-looked_each
returns-clause-looked_each g c = on_ok c.take-looked.result c.take-looked.ensures.run_each (λ p f e. let j = c.in_ok-close_along.ensures in record {
  config = c.close_along.new.config.config;
  shape = j.shape;
  closed = j.closed;
  off = j.off;
  ticks = j.ticks;
  run = λ h told. subst (λ n. IsRun h c.close_along.new.config.config (look_drives n) c.take-looked.new.self.rows) (c.requires.reads ∙ ap pins_of (sym c.requires.forest)) ((p f e).run h told);
})

pub returns-clause-session : goal.returns-clause-session
returns-clause-session g c = on_ok c.take-looked.result c.take-looked.ensures.session (λ s. record { config = c.close_along.new.config.config; cycled = record { config = s.config; cycles = s.cycles ∙ ap look_drives c.requires.reads } })

pub returns-clause-logged : goal.returns-clause-logged
returns-clause-logged g c = on_ok c.take-looked.result c.take-looked.ensures.logged (λ log. let j = c.in_ok-close_along.ensures in record {
  session = record { config = c.close_along.new.config.config; cycles = log.cycles };
  look = record {
    shape = j.shape;
    closed = j.closed;
    off = j.off;
    ticks = j.ticks;
    driven = log.driven ∙ ap look_drives (c.requires.reads ∙ ap pins_of (sym c.requires.forest));
    read = log.read;
  };
  logged = log.logged;
})
