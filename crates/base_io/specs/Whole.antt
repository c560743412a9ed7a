-- A file read whole.
use Rattle.std.specs.Prelude.{◌≡◌, ◌⊎◌, ℕ, ◌+◌, ◌<◌, ◌≤◌, List, [], ◌∷◌, ◌++◌, length, take, Option, None, Some, IfSome, Vec}
use Rattle.std.specs.declared.alloc.Global.{Global}
use Rattle.base_io.specs.{Counts.Rose, Store.StoreState, declared.store.StoreFail.StoreFail}
use Rattle.base_io.specs.{Told.Told, Told.IfTold, declared.store.StoreFail.TheVariants.Failed, declared.store.StoreFail.TheVariants.Memory}

-- what a refusal says: a failure is counted and leaves no file current, and lack of memory may come
-- before the name is asked or after it
abbrev pub WholeFails : StoreFail → List ℕ → StoreState → StoreState → Type 0
WholeFails Failed name old new = Rose old.failures new.failures × (new.asked ≡ old.asked ++ name ∷ []) × (new.current ≡ None)
WholeFails Memory name old new = (new.asked ≡ old.asked) ⊎ (new.asked ≡ old.asked ++ name ∷ [])

-- the text so far is the front of the file, and the place is behind it
pub record IsFront (name : List ℕ) (most : ℕ) (old new : StoreState) (text : List ℕ) : Type 0 where
  pub contents : new.contents ≡ old.contents
  pub later : old.failures ≤ new.failures
  pub asked : new.asked ≡ old.asked ++ name ∷ []
  pub current : new.current ≡ Some (record { name = name; at = length text })
  pub short : length text ≤ most + 1
  pub front : IfTold (old.contents name) (λ bytes. text ≡ take (length text) bytes)

-- the bytes of a file, where they are told, or that there are more of them
abbrev pub IsWithin : ℕ → Told → Option (Vec ℕ Global) → Type 0
IsWithin most told (Some text) = IfTold told (λ bytes. (text.items ≡ bytes) × (length bytes ≤ most))
IsWithin most told None = IfTold told (λ bytes. most < length bytes)

-- how many bytes of the file were read: all of them, or one more than the limit
abbrev pub read_of : ℕ → Option (Vec ℕ Global) → ℕ
read_of most (Some text) = length text.items
read_of most None = most + 1

-- nothing was read, or this file no further than one byte beyond this, or no file is current
abbrev pub ReadsWithin : (most : ℕ) → (name : List ℕ) → StoreState → StoreState → Type 0
ReadsWithin most name old new = (new.current ≡ old.current) ⊎ IfSome new.current (λ p. (p.name ≡ name) × (p.at ≤ most + 1))
