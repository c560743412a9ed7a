-- What the files of vectors say, and how far they are read.
use Rattle.std.specs.Prelude.{◌≡◌, ℕ, ◌+◌, ◌-◌, ◌<◌, ◌≤◌, Bool, List, map, length, take, drop, get_or, slice_get, Option, None}
use Rattle.std.specs.Prelude.{Some, IfSome}
use Rattle.std.specs.Prelude.{option_map, unwrap_or}
use Rattle.std.specs.List.{AllByRecursion}
use Rattle.base_io.specs.Vocabulary.{Told, untold, holds, IfTold, IsPresent, StorePlace, StoreState}
use Rattle.design_vectors.specs.{Vectors.SaidVectors, Vectors.VectorLine, Vectors.file_says, declared.vectors.VectorKind.VectorKind}

-- the most bytes of a file of vectors
abbrev pub most_vector_bytes : ℕ
most_vector_bytes = 1099511627776

-- the most bytes that a reader of vectors takes beyond the line of a vector
abbrev pub most_ahead : ℕ
most_ahead = 65536

-- what a file says as vectors of this width
abbrev pub says_at : ℕ → List ℕ → SaidVectors
says_at width bytes = file_says width most_vector_bytes bytes

-- its vectors, up to the first fault
abbrev pub vectors_at : ℕ → List ℕ → List (List Bool)
vectors_at width bytes = map (λ (v : VectorLine). v.bits) (says_at width bytes).vectors

-- The file of vectors is told, and has no fault at this width
pub record AreRightVectors (told : Told) (width : ℕ) : Type 0 where
  pub bytes : List ℕ
  pub is_told : told ≡ holds bytes
  pub no_fault : (says_at width bytes).fault ≡ None

-- where the line of the vector at a place ends: the end of the file where there is none
abbrev pub end_at : ℕ → List ℕ → ℕ → ℕ
end_at width bytes k = unwrap_or (option_map (λ (v : VectorLine). v.next_at) (slice_get (says_at width bytes).vectors k)) (length bytes)

-- the place is not far beyond this end
abbrev pub IsNear : Option StorePlace → ℕ → Type 0
IsNear place end = IfSome place (λ p. p.at ≤ end + most_ahead)

-- ---- of a file of vectors of this width, where it is told

-- these are some of its vectors, from the first on
abbrev pub AreFirst : ℕ → Told → List (List Bool) → Type 0
AreFirst width told vectors = IfTold told (λ bytes. take (length vectors) (vectors_at width bytes) ≡ vectors)

-- these are all its vectors, and it has no fault
abbrev pub AreAll : ℕ → Told → List (List Bool) → Type 0
AreAll width told vectors = IfTold told (λ bytes. (vectors_at width bytes ≡ vectors) × ((says_at width bytes).fault ≡ None))

-- this is the first fault of a file, and the place is not far beyond its line
pub record IsFirstFault (said : SaidVectors) (place : Option StorePlace) (line : ℕ) (kind : VectorKind) : Type 0 where
  pub end : ℕ
  pub is : said.fault ≡ Some (record { line = line; kind = kind; next_at = end })
  pub near : IsNear place end

-- this is its first fault, which the place is not far beyond, and these are all vectors before it
abbrev pub AreBeforeFault : ℕ → Told → Option StorePlace → ℕ → VectorKind → List (List Bool) → Type 0
AreBeforeFault width told place line kind vectors =
    IfTold told (λ bytes. (vectors_at width bytes ≡ vectors) × IsFirstFault (says_at width bytes) place line kind)

-- a vector follows after so many, and the place is not far beyond its line
abbrev pub IsNearNext : ℕ → Told → Option StorePlace → ℕ → Type 0
IsNearNext width told place count =
    IfTold told (λ bytes. (count < length (vectors_at width bytes)) × IsNear place (end_at width bytes count))

-- a row is lacking after so many, or none is: the place is not far beyond the next vector's line, or the end of the file
abbrev pub IsNearEnd : ℕ → Told → Option StorePlace → ℕ → Type 0
IsNearEnd width told place count = IfTold told (λ bytes. IsNear place (end_at width bytes count))

-- the line of a vector has ended in the first n bytes of the file: a line feed there ends it
pub record HasEnded (n : ℕ) (bytes : List ℕ) (v : VectorLine) : Type 0 where
  pub within : v.next_at ≤ n
  pub feed : get_or bytes (v.next_at - 1) 0 ≡ 10

-- When the store was asked for bytes last, no row waited: each vector whose line had ended in the bytes before is one of the first so
-- many
abbrev pub NoRowWaits : ℕ → Told → (read_at : Option ℕ) → (count : ℕ) → Type 0
NoRowWaits width told read_at count =
    IfTold told (λ bytes. IfSome read_at (λ n. AllByRecursion (λ v. HasEnded n bytes v → ⊥) (drop count (says_at width bytes).vectors)))

-- ---- a file that is read on

-- what is told of the current file
abbrev pub file_in : (List ℕ → Told) → Option StorePlace → Told
file_in contents None = untold
file_in contents (Some p) = contents p.name

abbrev pub file_of : StoreState → Told
file_of store = file_in store.contents store.current

-- the current file is at its first byte, and wasn't asked for bytes
abbrev pub IsBegun : StoreState → Type 0
IsBegun store =
    (name : List ℕ) × (store.current ≡ Some (record { name = name; at = 0 })) × IsPresent (store.contents name) × (store.read_at ≡ None)
