use Rattle.machine_config.proofs.Registers.{register_holds, run_alike}
use Rattle.machine_config.proofs.laws.stuck_registers_hold.Goals as goal

pub returns : goal.returns
returns c = record {
  latched = λ f g t s v on latched stuck drives reads outputs cycles. register_holds f g t s v on latched stuck cycles;
  combinational = λ f h g wires crosses cells bridges alike drives reads run. run_alike f h g alike wires crosses cells bridges run;
}
