-- A simulated machine and its session.
use Rattle.std.specs.Prelude.{◌≡◌, true, if◌then◌else◌, Option, Some, None, List, length, map}
use Rattle.machine_meaning.specs.Faults.{Faults, AreFaultsOf}
use Rattle.machine_config.specs.Configuration.{Configuration}
use Rattle.rig.specs.Rig.{Exchange, Session, drives_of, readings_of}
use Rattle.rig_simulated.specs.{declared.board.Board.Board, Building.cross_of, States.SimState, Tracks.HasRun}
use Rattle.rig_simulated.specs.{declared.sim.Sim.TheInside.Inside, Boards.IsPrepared, Boards.IsLoaded, Stored.config_in, Stored.cycles_in}

-- the configuration and the cycles that are kept
abbrev pub config_of_sim : Inside → Configuration
config_of_sim a = config_in a.faults.shape a.closed.items a.board.gates.items a.ticks

abbrev pub cycles_of_sim : Inside → List Exchange
cycles_of_sim a = cycles_in a.drives.items a.readings.items

abbrev pub session_of_sim : Inside → Option Session
session_of_sim a = if a.running then Some (record { config = config_of_sim a; cycles = cycles_of_sim a; spare = a.room }) else None

abbrev pub state_of_sim : Inside → SimState
state_of_sim a = record { machine = a.faults; session = session_of_sim a }

-- the configuration is loaded, and the cycles led to what its tables give
pub record IsRunning (f : Faults) (g : Configuration) (cycles : List Exchange) (b : Board) : Type 0 where
  pub loaded : IsLoaded f g b
  pub run : HasRun f g (drives_of cycles) (readings_of cycles) b.gates.items

-- what a simulated machine always keeps
pub record IsSim (a : Inside) : Type 0 where
  pub sound : AreFaultsOf a.faults.shape a.faults.faults
  pub prepared : IsPrepared a.faults.shape a.faults.faults a.board
  pub as_many : length a.drives.items ≡ length a.readings.items
  pub listed : map cross_of a.board.classes.closed.items ≡ a.closed.items
  pub running : a.running ≡ true → IsRunning a.faults.faults (config_of_sim a) (cycles_of_sim a) a.board
