-- What a store tells of a name.
use Rattle.std.specs.Prelude.{ℕ, List, Option, None, Some}

pub data Told : Type 0 where
  -- nothing
  untold : Told
  -- that there is no such file
  absent : Told
  -- the bytes of its file
  holds : List ℕ → Told

-- the bytes, where they are told
abbrev pub bytes_of : Told → Option (List ℕ)
bytes_of untold = None
bytes_of absent = None
bytes_of (holds bytes) = Some bytes

-- the file isn't told to be absent, and where its bytes are told, this is so of them
abbrev pub IfTold : Told → (List ℕ → Type 0) → Type 0
IfTold untold P = Unit {0}
IfTold absent P = ⊥
IfTold (holds bytes) P = P bytes

-- the file isn't told to be absent
abbrev pub IsPresent : Told → Type 0
IsPresent told = IfTold told (λ bytes. Unit {0})
