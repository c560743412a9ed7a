use Rattle.diag_evidence.proofs.Vocabulary.{take, Gains, right_parts}
use Rattle.diag_evidence.proofs.facts.Facts.keep_right.Given as goal

abbrev pub invariant-tables : goal.invariant-tables
invariant-tables l = record {
  gains : Gains (right_parts l.forest (take l.k l.tables) l.sheet.setting l.sheet.reads.items l.sheet.opposite.items) l.fn.self l.self;
}
