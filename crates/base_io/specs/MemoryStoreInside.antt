-- How a store in memory is kept.
use Rattle.std.specs.Prelude.{◌<◌, IsSome, IfSome, map, option_map, string_bytes}
use Rattle.base_io.specs.{MemoryStore.MemoryFiles, MemoryStore.bytes_named, declared.memory_store.MemoryStore.TheInside.Inside}

abbrev pub memory_files : Inside → MemoryFiles
memory_files a = record {
  files = a.files.items;
  fails = a.fails.items;
  most = a.most;
  calls = a.calls;
  asked = map string_bytes a.asked.items;
  current = option_map (λ o. record { name = string_bytes o.name; at = o.at }) a.current;
  read_at = a.read_at;
  failures = a.failures;
}

pub record IsKept (a : Inside) : Type 0 where
  -- the current file is there
  pub found : IfSome a.current (λ o. IsSome (bytes_named a.files.items (string_bytes o.name)))
  -- a read that isn't at the end gives something
  pub some : IfSome a.most (λ most. 0 < most)
