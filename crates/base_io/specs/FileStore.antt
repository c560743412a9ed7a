-- Files of the system.
use Rattle.std.specs.Prelude.{ℕ, List, Option}
use Rattle.base_io.specs.{Told.untold, Store.StorePlace, Store.StoreState}

-- what is known of them
pub record SystemFiles : Type 0 where
  pub asked : List (List ℕ)
  pub current : Option StorePlace
  pub read_at : Option ℕ
  pub failures : ℕ

-- what they mean as a store: no contents are told
abbrev pub file_store_state : SystemFiles → StoreState
file_store_state s = record {
  contents = λ _. untold;
  asked = s.asked;
  current = s.current;
  read_at = s.read_at;
  failures = s.failures;
}
