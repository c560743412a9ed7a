-- The cycles of a loaded machine.
use Rattle.std.specs.Prelude.{List}
use Rattle.machine_meaning.specs.Vocabulary.{Outputs, Pins, Faults}
use Rattle.machine_config.specs.Vocabulary.{Configuration, circuit_of, Cycle, Cycles, at_load}
use Rattle.rig_simulated.specs.{declared.gates.Gate.Gate, Gates.AreOutputs}

-- one cycle led to what the tables give
pub record GivesCycle (f : Faults) (g : Configuration) (before : Outputs) (drive read : Pins) (gates : List Gate) : Type 0 where
  pub outputs : Outputs
  pub cycle : Cycle (circuit_of f g) before drive read outputs
  pub gives : AreOutputs g gates outputs

-- the cycles since the load led to what the tables give
pub record HasRun (f : Faults) (g : Configuration) (drives reads : List Pins) (gates : List Gate) : Type 0 where
  pub outputs : Outputs
  pub cycles : Cycles (circuit_of f g) (at_load (circuit_of f g)) drives reads outputs
  pub gives : AreOutputs g gates outputs
