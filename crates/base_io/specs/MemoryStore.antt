-- Files in memory.
use Rattle.std.specs.Prelude.{ℕ, List, Option, None, Some, find, min, option_map, string_bytes, bytes_eq}
use Rattle.base_io.specs.{Told.Told, Told.absent, Told.holds, Store.StorePlace, Store.StoreState, declared.memory_store.File.File}

-- what a store in memory means
pub record MemoryFiles : Type 0 where
  pub files : List File
  -- the numbers of the calls that fail
  pub fails : List ℕ
  -- how many bytes a read gives at most, where there is a limit beside the room
  pub most : Option ℕ
  -- how many calls there were
  pub calls : ℕ
  pub asked : List (List ℕ)
  pub current : Option StorePlace
  pub read_at : Option ℕ
  pub failures : ℕ

-- the bytes of the first file of this name
abbrev pub bytes_named : List File → List ℕ → Option (List ℕ)
bytes_named files name = option_map (λ f. f.bytes.items) (find (λ f. bytes_eq (string_bytes f.name) name) files)

-- a name is told: its bytes, or that no file has it
abbrev pub told_as : Option (List ℕ) → Told
told_as None = absent
told_as (Some bytes) = holds bytes

-- what it means as a store: its contents are told
abbrev pub memory_store_state : MemoryFiles → StoreState
memory_store_state s = record {
  contents = λ name. told_as (bytes_named s.files name);
  asked = s.asked;
  current = s.current;
  read_at = s.read_at;
  failures = s.failures;
}

-- how many bytes one read has room for
abbrev pub room_of : Option ℕ → ℕ → ℕ
room_of None room = room
room_of (Some most) room = min most room
