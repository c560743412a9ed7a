-- A physical line that is being read byte by byte.
use Rattle.std.specs.Prelude.{◌≡◌, ℕ, ◌+◌, ◌<◌, ◌≤◌, List, [], ◌∷◌, ◌++◌, length, drop, Bool, true, false, if◌then◌else◌}
use Rattle.std.specs.List.{list_all}
use Rattle.design_vectors.specs.declared.line.Step.{Step, TheVariants.Onward, TheVariants.Vector, TheVariants.Fault}
use Rattle.design_vectors.specs.Vectors.{numbered_lines, lines_say, put_before, SaidVectors, nothing_said, fault_said, with_vector, bits_of}
use Rattle.design_vectors.specs.Vectors.{is_vector_byte, vector_size}
use Rattle.design_vectors.specs.declared.vectors.VectorKind.TheVariants.{Width}

-- a line of which some bytes were read
pub record PartLine : Type 0 where
  -- the number of inputs
  pub width : ℕ
  -- how many bytes are read at most
  pub limit : ℕ
  -- the number of the line
  pub number : ℕ
  -- how many bytes of the file were read
  pub at : ℕ
  -- whether a comment began
  pub in_comment : Bool
  -- the bytes that are left of it so far, all of them right
  pub shown : List ℕ

-- what is left of it is right so far
pub record IsSound (p : PartLine) : Type 0 where
  pub right : list_all (is_vector_byte p.width) p.shown ≡ true
  pub room : length p.shown ≤ vector_size p.width

-- bytes that leave the same of a line as those that were read
abbrev pub front_of : PartLine → List ℕ
front_of line = line.shown ++ (if line.in_comment then 35 ∷ [] else [])

-- the same at the beginning of a line
abbrev pub begun : PartLine → PartLine
begun line = record line { in_comment = false; shown = [] }

-- what the line and the lines after it say, with these bytes next
abbrev pub says_on : PartLine → List ℕ → SaidVectors
says_on line bytes = lines_say line.width (put_before (front_of line) (numbered_lines line.limit line.number line.at bytes))

-- what a step says of the bytes before it and after it
abbrev pub SaysStep : Step → PartLine → List ℕ → PartLine → List ℕ → Type 0
SaysStep Onward old bytes new rest = says_on old bytes ≡ says_on new rest
SaysStep Vector old bytes new rest = says_on old bytes ≡ with_vector (bits_of new.width new.shown) new.at (says_on (begun new) rest)
SaysStep (Fault kind) old bytes new rest = (end : ℕ) × (old.at ≤ end) × (says_on old bytes ≡ fault_said new.number kind end)

-- what the end of a line comes to: a line with nothing left, a whole vector, or too few bytes
abbrev pub EndsAs : Step → PartLine → Type 0
EndsAs Onward line = line.shown ≡ []
EndsAs Vector line = length line.shown ≡ vector_size line.width
EndsAs (Fault kind) line = (kind ≡ Width) × (0 < length line.shown) × (length line.shown < vector_size line.width)

-- what the line says where the file ends on it
abbrev pub EndSays : Step → PartLine → Type 0
EndSays Onward line = says_on line [] ≡ nothing_said
EndSays Vector line = says_on line [] ≡ with_vector (bits_of line.width line.shown) line.at (says_on (begun line) [])
EndSays (Fault kind) line = says_on line [] ≡ fault_said line.number kind line.at

-- a vector has all its bytes
abbrev pub IsFull : Step → PartLine → Type 0
IsFull Onward line = Unit {0}
IsFull Vector line = length line.shown ≡ vector_size line.width
IsFull (Fault kind) line = Unit {0}

-- how far a step went: a fault may stop before its byte
abbrev pub IsStepTo : Step → ℕ → ℕ → Type 0
IsStepTo Onward from to = from ≡ to
IsStepTo Vector from to = from ≡ to
IsStepTo (Fault kind) from to = Unit {0}

-- some bytes were read, and maybe the last of them ended a vector or was a fault
pub record HasRead (step : Step) (bytes : List ℕ) (count : ℕ) (old new : PartLine) : Type 0 where
  pub width : new.width ≡ old.width
  pub limit : new.limit ≡ old.limit
  pub within : count ≤ length bytes
  pub at : IsStepTo step (old.at + count) new.at
  pub room : step ≡ Onward → 0 < count → new.at ≤ new.limit
  pub whole : step ≡ Vector → (0 < count) × (new.at ≤ new.limit)
  pub full : IsFull step new
  pub says : (rest : List ℕ) → SaysStep step old (bytes ++ rest) new (drop count bytes ++ rest)
