-- A port: a request is sent, and a line comes back.
use Rattle.std.specs.Prelude.{◌≡◌, ℕ, ◌≤◌, Bool, true, List, Option, IfSome, option_map}
use Rattle.machine_shape.specs.declared.Shape.{Shape}
use Rattle.machine_meaning.specs.Faults.{Faults, AreFaultsOf}
use Rattle.base_io.specs.Counts.{Rose}
use Rattle.rig_board.specs.Device.{Device}
use Rattle.rig_port.specs.{Lines.AreCounts, Said.Sent, declared.check.Check.Check, declared.port.PortFail.PortFail}
use Rattle.rig_port.specs.declared.port.PortFail.TheVariants as port

-- what a port means
pub record PortState : Type 0 where
  pub is_open : Bool
  -- the machine at the other end, where told
  pub device : Option Device
  -- and its running check
  pub check : Check
  -- all that it was asked since it was made, and what answered
  pub talk : List Sent
  -- a count that never falls
  pub failures : ℕ

-- what never changes of a told machine
abbrev pub machine_told : PortState → Option (Shape × Faults)
machine_told p = option_map (λ d. (d.shape, d.faults)) p.device

-- a later state: a told machine is the same one, and failures don't fall
pub record IsLater (old new : PortState) : Type 0 where
  pub machine : machine_told new ≡ machine_told old
  pub failures : old.failures ≤ new.failures

-- it is open; the counts of a told machine are counts of a machine, and its faults are those of its shape
pub record Opens (p : PortState) : Type 0 where
  pub is_open : p.is_open ≡ true
  pub told : IfSome p.device (λ d. AreCounts d.shape.counts × AreFaultsOf d.shape d.faults)

-- what a refusal of `ask` says
abbrev pub AskFails : PortFail → PortState → PortState → Type 0
AskFails port.Failed old new = Rose old.failures new.failures
AskFails port.Memory old new = ⊥
