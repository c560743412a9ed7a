use Rattle.diag_evidence.proofs.Vocabulary.{◌≡◌, length, take, tables_of, SwitchesOn}
use Rattle.diag_evidence.proofs.sheets.switch_all.Given as goal

abbrev pub invariant-tables : goal.invariant-tables
invariant-tables l = record {
  switched : SwitchesOn (take l.k l.tables) l.setting l.fn.config.config l.config.config;
  room : length l.config.config.tables ≡ tables_of l.fn.config.config.shape;
}
