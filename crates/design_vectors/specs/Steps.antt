-- What the parts of reading a vector's line from a store come to.
use Rattle.std.specs.Prelude.{◌≡◌, ◌⊎◌, ℕ, ◌+◌, ◌<◌, ◌≤◌, List, [], ◌++◌, length, take, drop, Bool, true, false, Result, Ok, Err, IfSome}
use Rattle.std.specs.Prelude.{IsSome, IfOk, IfErr, OnOk, option_map}
use Rattle.base_io.specs.Store.{StoreState, IsFailure, moved, place_of, rest_of}
use Rattle.design_vectors.specs.declared.vectors.VectorsFail.{VectorsFail, TheVariants.Text, TheVariants.Failed}
use Rattle.design_vectors.specs.declared.line.Step.{Step, TheVariants.Onward, TheVariants.Vector, TheVariants.Fault}
use Rattle.design_vectors.specs.Vectors.{nothing_said, with_vector, bits_of, vector_size}
use Rattle.design_vectors.specs.Readings.{VectorReading, bytes_ahead, IsFaultOf, HasMoved, AskedOpen, HasAsked, GoesFurther, StopsWithin}
use Rattle.design_vectors.specs.Lines.{PartLine, front_of, begun, says_on, SaysStep, IsStepTo, IsFull}

-- where a line and the unread bytes stand
abbrev pub reading_of : PartLine → List ℕ → VectorReading
reading_of line unread = record { width = line.width; limit = line.limit; line = line.number; at = line.at; unread = unread }

-- bytes are unread now, or the file has ended
abbrev pub IsFed : Bool → List ℕ → StoreState → Type 0
IsFed true new before = 0 < length new
IsFed false new before = IfSome (rest_of before) (λ rest. rest ≡ [])

-- more bytes were read, but only where none was unread
pub record IsRefilled (more : Bool) (old new : List ℕ) (before after : StoreState) : Type 0 where
  pub ahead : bytes_ahead old before ≡ bytes_ahead new after
  pub fed : IsFed more new before
  pub late : ((after ≡ before) × (new ≡ old)) ⊎ ((old ≡ []) × (after.read_at ≡ place_of before))
  pub ended : more ≡ false → (old ≡ []) × (new ≡ [])
  pub count : ℕ
  pub place : after.current ≡ moved before.current count
  pub bytes : length old + count ≡ length new
  pub within : IfSome (rest_of before) (λ rest. count ≤ length rest)

-- the store's refusal
abbrev pub IsStoreFail : VectorsFail → StoreState → StoreState → Type 0
IsStoreFail (Text line kind) before after = ⊥
IsStoreFail Failed before after = IsFailure before after × (after.read_at ≡ place_of before)

-- unread bytes were read, all of them where the line or the text goes on
pub record HasReadOn (step : Step) (old : PartLine) (unread : List ℕ) (new : PartLine) (left : List ℕ) : Type 0 where
  pub width : new.width ≡ old.width
  pub limit : new.limit ≡ old.limit
  pub count : ℕ
  pub within : count ≤ length unread
  pub rest : left ≡ drop count unread
  pub all : step ≡ Onward → left ≡ []
  pub at : IsStepTo step (old.at + count) new.at
  pub grows : step ≡ Onward → 0 < length unread → (old.at < new.at) × (new.at ≤ new.limit)
  pub whole : step ≡ Vector → (old.at < new.at) × (new.at ≤ new.limit)
  pub full : IsFull step new
  pub says : (rest : List ℕ) → SaysStep step old (unread ++ rest) new (left ++ rest)

abbrev pub answer_of : Step → ℕ → Result Bool VectorsFail
answer_of Onward line = Ok false
answer_of Vector line = Ok true
answer_of (Fault kind) line = Err (Text line kind)

-- what an answer says of the text: the next vector, or that there is none
abbrev pub LineGives : Bool → PartLine → List ℕ → PartLine → List ℕ → StoreState → StoreState → Type 0
LineGives true old unread new left before after =
    (length new.shown ≡ vector_size new.width) ×
    (option_map (says_on old) (bytes_ahead unread before) ≡
    option_map (λ bytes. with_vector (bits_of new.width new.shown) new.at (says_on (begun new) bytes)) (bytes_ahead left after))
LineGives false old unread new left before after = IfSome (bytes_ahead unread before) (λ bytes. says_on old bytes ≡ nothing_said)

-- what a refusal says of it
abbrev pub LineFails : VectorsFail → PartLine → List ℕ → StoreState → StoreState → Type 0
LineFails (Text line kind) old unread before after =
    (count : ℕ) × (after.current ≡ moved before.current count)
    × IfSome (bytes_ahead unread before) (λ bytes. IsFaultOf line kind (old.at + length unread + count) (says_on old bytes))
LineFails Failed old unread before after = IsFailure before after

-- what reading a vector's line comes to: an answer or a refusal, and where line, unread bytes and store stand then
pub record HasAnswered (result : Result Bool VectorsFail) (old : PartLine) (unread : List ℕ) (new : PartLine) (left : List ℕ)
    (before after : StoreState) : Type 0 where
  pub gives : IfOk result (λ more. LineGives more old unread new left before after)
  pub refused : IfErr result (λ e. LineFails e old unread before after)
  pub width : new.width ≡ old.width
  pub limit : new.limit ≡ old.limit
  pub moves : OnOk result (HasMoved (reading_of old unread) (reading_of new left) before after)
  pub current : OnOk result (IsSome after.current)
  pub open_ : front_of old ≡ [] → HasAsked (reading_of old unread) before after
  pub onward : old.shown ≡ [] → IfOk result (λ more. GoesFurther more (reading_of old unread) (reading_of new left))
  pub stopped : IfErr result (λ e. StopsWithin e before after)
  pub contents : after.contents ≡ before.contents
  pub asked : after.asked ≡ before.asked
  pub later : before.failures ≤ after.failures

-- the store wasn't asked, and what the line says with what follows is what it said at first
abbrev pub IsWaiting : PartLine → List ℕ → PartLine → List ℕ → StoreState → StoreState → Type 0
IsWaiting old unread new left before after =
    (after ≡ before) × ((rest : List ℕ) → says_on old (unread ++ rest) ≡ says_on new (left ++ rest))

-- the line goes on: what it says with the bytes ahead is what it said at first
pub record GoesOn (old : PartLine) (unread : List ℕ) (new : PartLine) (left : List ℕ) (before after : StoreState) : Type 0 where
  pub says : option_map (says_on old) (bytes_ahead unread before) ≡ option_map (says_on new) (bytes_ahead left after)
  pub width : new.width ≡ old.width
  pub limit : new.limit ≡ old.limit
  pub moves : HasMoved (reading_of old unread) (reading_of new left) before after
  pub open_ : front_of old ≡ [] → IsWaiting old unread new left before after ⊎ AskedOpen (reading_of old unread) before after
  pub reads : IfSome (rest_of before) (λ told. (rest : List ℕ) →
      says_on old ((unread ++ take moves.count told) ++ rest) ≡ says_on new (left ++ rest))
  pub from : old.at ≤ new.at
  pub onward : (new.shown ≡ old.shown) ⊎ ((old.at < new.at) × (new.at ≤ new.limit))
  pub contents : after.contents ≡ before.contents
  pub asked : after.asked ≡ before.asked
  pub later : before.failures ≤ after.failures
  pub current : IsSome after.current
