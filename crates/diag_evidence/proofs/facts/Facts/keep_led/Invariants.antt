use Rattle.diag_evidence.proofs.Vocabulary.{take, Gains, these_crosses, led_over}
use Rattle.diag_evidence.proofs.facts.Facts.keep_led.Given as goal

abbrev pub invariant-leads : goal.invariant-leads
invariant-leads l = record { gains : Gains (these_crosses (led_over l.reads.rows (take l.k l.leads))) l.fn.self l.self }
