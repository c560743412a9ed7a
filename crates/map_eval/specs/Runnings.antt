-- A network that is run by changes, or table by table.
use Rattle.std.specs.Prelude.{◌≡◌, false, length}
use Rattle.map_network.specs.declared.network.Network.{Network}
use Rattle.map_eval.specs.{declared.running.Running.Running, States.IsPlan, States.IsKept, Wires.IsBusy, Wires.IsShaped}
use Rattle.map_eval.specs.Starting.{first_values}

-- addresses, masks and marks are right, unless they are those of an earlier cycle
pub record IsRunning (run : Running) : Type 0 where
  pub plan : IsPlan run.plan
  pub shaped : IsShaped run.plan run.state
  pub kept : run.stale ≡ false → IsKept run.plan run.state
  pub due : length run.due.items ≡ length run.plan.gates.items
  pub busy : IsBusy run.plan run.busy

-- at the first cycle
pub record IsFirstRunning (n : Network) (run : Running) : Type 0 where
  pub running : IsRunning run
  pub network : run.plan.network ≡ n
  pub values : run.state.values.items ≡ first_values run.plan.network.tables
