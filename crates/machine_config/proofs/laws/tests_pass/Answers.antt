use Rattle.machine_config.proofs.{Passing.apart_passes, Passing.swing_passes, Loops.loop_toggles, FirstReadings.register_reads}
use Rattle.machine_config.proofs.Cells.{cell_reads}
use Rattle.machine_config.proofs.laws.tests_pass.Goals as goal

pub returns : goal.returns
returns c = record {
  apart = apart_passes;
  swing = swing_passes;
  toggle = loop_toggles;
  cell = λ f g t a k l s left right bits drive r p driven h run. cell_reads f g t a k l s left right bits drive p driven r h run;
  register = λ f g t l s left right drive r p h run. register_reads f g t l s left right drive p r h run;
}
