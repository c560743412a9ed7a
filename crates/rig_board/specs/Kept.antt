-- What a board's rig keeps of a session.
use Rattle.std.specs.Prelude.{◌≡◌, ◌-◌, min, List, ◌++◌, map, length, vec_len}
use Rattle.std.specs.Vec.{vec_capacity}
use Rattle.machine_config.specs.Kept.{set_of}
use Rattle.machine_meaning.specs.Circuit.{Pins}
use Rattle.rig.specs.Rig.{Exchange, Past, Session, drives_of, readings_of}
use Rattle.rig_board.specs.declared.kept.{Row.Row, Kept.Kept}

abbrev pub exchange_of : Row → Exchange
exchange_of r = record { drive = r.drive; reading = r.reading }

-- there is room for as many further cycles as there are blank rows, and places for them
abbrev pub session_of : Kept → Session
session_of k = record {
  config = record { shape = k.shape; closed = set_of k.closed.items; tables = k.tables.items; ticks = k.ticks };
  cycles = map exchange_of k.rows.items;
  spare = min (length k.blank.items) (vec_capacity k.rows - vec_len k.rows);
}

-- the session as it was
abbrev pub past_of : Kept → Past
past_of k = record { config = (session_of k).config; cycles = (session_of k).cycles }

-- these drives and readings stand behind the cycles, in pairs
pub record HasAdded (drives readings : List Pins) (old new : Session) : Type 0 where
  pub pairs : List Exchange
  pub driven : drives_of pairs ≡ drives
  pub read : readings_of pairs ≡ readings
  pub so_far : new.cycles ≡ old.cycles ++ pairs
