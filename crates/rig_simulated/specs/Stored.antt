-- What is kept of a session.
use Rattle.std.specs.Prelude.{ℕ, ◌==◌, Option, List, [], ◌∷◌, map, find, option_map}
use Rattle.std.specs.List.{range_with_len}
use Rattle.machine_shape.specs.{declared.Shape.Shape, declared.Cross.Cross, Shape.tables_of}
use Rattle.machine_meaning.specs.Vocabulary.{Pins}
use Rattle.machine_config.specs.{declared.Setting.Setting, Vocabulary.Configuration, Vocabulary.set_of}
use Rattle.rig.specs.Rig.{Exchange}
use Rattle.rig_simulated.specs.declared.gates.Gate.{Gate}

-- what a table does, by the list of those that are on
abbrev pub setting_in : List Gate → ℕ → Option Setting
setting_in gates t = option_map (λ (x : Gate). x.setting) (find (λ (x : Gate). x.table.0 == t) gates)

-- the configuration of these closed crosspoints and these tables
abbrev pub config_in : Shape → List Cross → List Gate → ℕ → Configuration
config_in m closed gates ticks = record {
  shape = m;
  closed = set_of closed;
  tables = map (setting_in gates)
      (range_with_len 0 (tables_of m));
  ticks = ticks;
}

-- the cycles of these drives and readings
abbrev pub cycles_in : List Pins → List Pins → List Exchange
cycles_in (d ∷ ds) (r ∷ rs) = record { drive = d; reading = r } ∷ cycles_in ds rs
cycles_in (d ∷ ds) [] = []
cycles_in [] rs = []
