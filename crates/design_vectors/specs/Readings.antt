-- A vector file that is being read from a store.
use Rattle.std.specs.Prelude.{◌≡◌, ◌⊎◌, ℕ, ◌+◌, ◌-◌, ◌<◌, ◌≤◌, List, [], ◌++◌, length, take, drop, Bool, true, false, Option, None}
use Rattle.std.specs.Prelude.{IfSome, option_map}
use Rattle.base_io.specs.Store.{StoreState, IsFailure, moved, place_of, rest_of}
use Rattle.design_vectors.specs.declared.vectors.VectorsFail.{VectorsFail, TheVariants.Text, TheVariants.Failed}
use Rattle.design_vectors.specs.declared.vectors.VectorKind.{VectorKind}
use Rattle.design_vectors.specs.Vectors.{numbered_lines, put_before, shown, byte_fault, lines_say, SaidVectors, nothing_said, fault_said}
use Rattle.design_vectors.specs.Vectors.{with_vector}

-- a reader between two lines
pub record VectorReading : Type 0 where
  -- the number of inputs
  pub width : ℕ
  -- how many bytes it reads at most
  pub limit : ℕ
  -- the number of the next line
  pub line : ℕ
  -- how many bytes of the file stand before that line
  pub at : ℕ
  -- the bytes that the store gave beyond that
  pub unread : List ℕ

-- a reader that has read nothing
abbrev pub new_reading : ℕ → ℕ → VectorReading
new_reading width limit = record { width = width; limit = limit; line = 1; at = 0; unread = [] }

-- what the reader still has before it, where the store tells it: the unread bytes, and the rest of the file
abbrev pub bytes_ahead : List ℕ → StoreState → Option (List ℕ)
bytes_ahead unread store = option_map (λ rest. unread ++ rest) (rest_of store)

-- what these bytes say, as the reader's next lines
abbrev pub says_next : VectorReading → List ℕ → SaidVectors
says_next reading bytes = lines_say reading.width (numbered_lines reading.limit reading.line reading.at bytes)

-- what is left of the file says, where the store tells it
abbrev pub said_ahead : VectorReading → StoreState → Option SaidVectors
said_ahead reading store = option_map (says_next reading) (bytes_ahead reading.unread store)

-- what an answer says: the next vector, or that there is none
abbrev pub NextGives : Bool → List Bool → VectorReading → VectorReading → StoreState → StoreState → Type 0
NextGives true row old new before after = said_ahead old before ≡ option_map (with_vector row new.at) (said_ahead new after)
NextGives false row old new before after = IfSome (said_ahead old before) (λ said. said ≡ nothing_said)

-- this fault comes next, and the place is at most 65,536 bytes beyond its line
pub record IsFaultOf (line : ℕ) (kind : VectorKind) (place : ℕ) (said : SaidVectors) : Type 0 where
  pub end : ℕ
  pub is : said ≡ fault_said line kind end
  pub near : place ≤ end + 65536

-- what a refusal says: the file's first fault, where the store has gone on by so many bytes and isn't far beyond that line; or the
-- store's
abbrev pub NextFails : VectorsFail → VectorReading → StoreState → StoreState → Type 0
NextFails (Text line kind) old before after =
    (count : ℕ) × (after.current ≡ moved before.current count)
    × IfSome (said_ahead old before) (IsFaultOf line kind (old.at + length old.unread + count))
NextFails Failed old before after = IsFailure before after

-- the store went on by as many bytes as the reader took or has unread, and what is before the reader is what is left of what was
pub record HasMoved (old new : VectorReading) (before after : StoreState) : Type 0 where
  pub count : ℕ
  pub place : after.current ≡ moved before.current count
  pub bytes : old.at + length old.unread + count ≡ new.at + length new.unread
  pub ahead : bytes_ahead new.unread after ≡ option_map (λ bytes. drop (new.at - old.at) bytes) (bytes_ahead old.unread before)
  pub within : IfSome (rest_of before) (λ rest. count ≤ length rest)

-- these bytes end no vector's line and have no fault: whatever follows them, they say what the beginning of one
-- line says, which is right so far
pub record AreOpen (reading : VectorReading) (bytes : List ℕ) : Type 0 where
  pub number : ℕ
  pub at : ℕ
  pub front : List ℕ
  pub right : byte_fault reading.width (shown front) ≡ None
  pub behind : at ≡ reading.at + length bytes
  pub says : (rest : List ℕ) → says_next reading (bytes ++ rest) ≡
      lines_say reading.width (put_before front (numbered_lines reading.limit number at rest))

-- the store was asked for bytes only while no vector's line and no fault was decided in those before: neither in the
-- bytes that were unread, nor in those before it was asked last
pub record AskedOpen (old : VectorReading) (before after : StoreState) : Type 0 where
  pub unread : AreOpen old old.unread
  -- how many bytes the store gave before it was asked last
  pub count : ℕ
  pub within : IfSome (rest_of before) (λ rest. count ≤ length rest)
  pub read_at : after.read_at ≡ option_map (λ n. n + count) (place_of before)
  pub last : IfSome (rest_of before) (λ rest. AreOpen old (old.unread ++ take count rest))
  pub piece : IfSome after.current (λ p. IfSome before.current (λ q. p.at ≤ q.at + count + 65536))

-- the store wasn't asked, or only so
abbrev pub HasAsked : VectorReading → StoreState → StoreState → Type 0
HasAsked old before after = (after ≡ before) ⊎ AskedOpen old before after

-- a vector takes at least a byte, and no more than are allowed
abbrev pub GoesFurther : Bool → VectorReading → VectorReading → Type 0
GoesFurther true old new = (old.at < new.at) × (new.at ≤ new.limit)
GoesFurther false old new = Unit {0}

-- the unread bytes end the next vector's line: that was read of them alone, whatever a store has
pub record GivesUnread (row : List Bool) (old new : VectorReading) : Type 0 where
  pub gives : (store : StoreState) → NextGives true row old new store store
  pub moves : (store : StoreState) → HasMoved old new store store
  pub unread : length new.unread ≤ 65536
  pub further : GoesFurther true old new

-- the store went on, at most to the end of the file
pub record StaysWithin (before after : StoreState) : Type 0 where
  pub count : ℕ
  pub place : after.current ≡ moved before.current count
  pub within : IfSome (rest_of before) (λ rest. count ≤ length rest)

-- where the store stands after a fault of the file. After its own no file is current
abbrev pub StopsWithin : VectorsFail → StoreState → StoreState → Type 0
StopsWithin (Text line kind) before after = StaysWithin before after
StopsWithin Failed before after = Unit {0}
