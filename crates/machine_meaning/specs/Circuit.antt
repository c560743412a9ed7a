-- A machine under a configuration, as its faults leave it.
use Rattle.std.specs.Prelude.{ℕ, Bool, Option, List}
use Rattle.machine_meaning.specs.Joined.{Net}

-- a table that is switched on, as its faults leave it
pub record Table : Type 0 where
  -- what it gives at each address
  pub cell : ℕ → Bool
  pub latched : Bool
  -- what it gives after a load
  pub first : Bool
  -- what its register always holds, if it is stuck
  pub held : Option Bool

pub record Circuit : Type 0 where
  pub net : Net
  -- the value at which a wire is stuck
  pub stuck : ℕ → Option Bool
  -- the tables that are switched on
  pub table : ℕ → Option Table
  pub ticks : ℕ

-- what each table gives. One that isn't switched on gives 1, which is to drive nothing
abbrev pub Outputs : Type 0
Outputs = ℕ → Bool

-- how each pin of the machine is driven, or what it reads
abbrev pub Pins : Type 0
Pins = List Bool
