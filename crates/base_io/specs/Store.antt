-- A store of files, as callers see it.
use Rattle.std.specs.Prelude.{◌≡◌, ℕ, ◌+◌, ◌≤◌, List, [], ◌∷◌, ◌++◌, length, take, drop, Option, None, option_map, option_and_then}
use Rattle.base_io.specs.{Counts.Rose, Told.Told, Told.bytes_of}
use Rattle.base_io.specs.declared.store.StoreFail.{StoreFail, TheVariants.Failed, TheVariants.Memory}

-- a file that was started, and how many of its bytes were read
pub record StorePlace : Type 0 where
  pub name : List ℕ
  pub at : ℕ

-- what a store means: all of it is told but the contents
pub record StoreState : Type 0 where
  -- what is told of the file of a name
  pub contents : List ℕ → Told
  -- the names that `start` was given, in order, also where the file failed
  pub asked : List (List ℕ)
  -- the file that `read` goes on with
  pub current : Option StorePlace
  -- the place in the file that was started last at which `read` was asked last, if it was
  pub read_at : Option ℕ
  -- a count that never falls
  pub failures : ℕ

-- the place, n bytes on
abbrev pub moved : Option StorePlace → ℕ → Option StorePlace
moved place n = option_map (λ p. record { name = p.name; at = p.at + n }) place

-- the bytes of the current file from its place on, where they are told
abbrev pub rest_of : StoreState → Option (List ℕ)
rest_of s = option_and_then (λ p. option_map (λ bytes. drop p.at bytes) (bytes_of (s.contents p.name))) s.current

-- n bytes were read: they are the next ones, and none are read at the end and only there
pub record AreNext (n : ℕ) (into rest : List ℕ) : Type 0 where
  pub bytes : take n into ≡ take n rest
  pub within : n ≤ length rest
  pub at_end : n ≡ 0 → rest ≡ []
  pub only_at_end : rest ≡ [] → n ≡ 0

-- where the current file is
abbrev pub place_of : StoreState → Option ℕ
place_of s = option_map (λ p. p.at) s.current

-- a failure leaves no current file, and the count rose
pub record IsFailure (old new : StoreState) : Type 0 where
  pub closed : new.current ≡ None
  pub rose : Rose old.failures new.failures

-- what a refusal of `start` says
abbrev pub StartFails : StoreFail → List ℕ → StoreState → StoreState → Type 0
StartFails Failed name old new = IsFailure old new × (new.asked ≡ old.asked ++ name ∷ []) × (new.read_at ≡ None)
StartFails Memory name old new = new ≡ old

-- what a refusal of `read` says: it is never a lack of memory
abbrev pub ReadFails : StoreFail → StoreState → StoreState → Type 0
ReadFails Failed old new = IsFailure old new
ReadFails Memory old new = ⊥
