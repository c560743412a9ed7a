use Rattle.design_netlist.proofs.Vocabulary.{length-map, LatchDef, first_state}
use Rattle.design_netlist.proofs.RightLemmas.{one_rows}
use Rattle.design_netlist.proofs.laws.designs_have_one_list_of_rows.Goals as goal

pub returns : goal.returns
returns c = λ d vectors is all. one_rows d is (first_state d) vectors (length-map d.latches (λ (l : LatchDef). l.init)) all
