-- What a command has around it: the store, the rig and the sink.
use Rattle.std.specs.Prelude.{◌≡◌, ◌⊎◌, ℕ, ◌+◌, ◌<◌, ◌≤◌, List, [], ◌∷◌, length, map, IfSome, IsSome}
use Rattle.base_io.specs.Vocabulary.{Rose, StoreState, SinkState}
use Rattle.machine_shape.specs.{declared.Shape.Shape, Vocabulary.most_text}
use Rattle.rig.specs.Rig.{RigState, Narrows, ToldExplain}
use Rattle.base_text.specs.Size.{most_bytes}

-- the store and the rig
pub record Around : Type 0 where
  pub store : StoreState
  pub rig : RigState

-- and the sink
pub record Outside : Type 0 where
  pub store : StoreState
  pub rig : RigState
  pub sink : SinkState

abbrev pub outside : StoreState → RigState → SinkState → Outside
outside store rig sink = record { store = store; rig = rig; sink = sink }

abbrev pub around : Outside → Around
around o = record { store = o.store; rig = o.rig }

-- a count of failed calls rose, or the rig refused a text of faults
abbrev pub SomethingRose : Outside → Outside → Type 0
SomethingRose old new =
    (Rose old.store.failures new.store.failures ⊎ Rose old.sink.failures new.sink.failures)
    ⊎ (Rose old.rig.failures new.rig.failures ⊎ Rose old.rig.machine.refused.times new.rig.machine.refused.times)

-- told faults of the machine that is attached explain all that was read of it
abbrev pub TellsTruly : RigState → Type 0
TellsTruly rig = IsSome rig.machine.attached → ToldExplain rig

-- No machine that was asked for is forgotten. Where none was asked for since, what explains all that is read now explained it before.
-- Told faults explain it if they did before, and where a machine was asked for since, they do
pub record LogGoesOn (old new : RigState) : Type 0 where
  pub asked : length old.machine.asked ≤ length new.machine.asked
  pub narrows : length new.machine.asked ≡ length old.machine.asked → Narrows old new
  pub tells : TellsTruly old → TellsTruly new
  pub told : length old.machine.asked < length new.machine.asked → TellsTruly new

-- what no step changes, and counts that never fall
pub record IsLater (old new : Outside) : Type 0 where
  pub contents : new.store.contents ≡ old.store.contents
  pub texts : new.rig.machine.texts ≡ old.rig.machine.texts
  pub kind : new.sink.can_lack ≡ old.sink.can_lack
  pub store : old.store.failures ≤ new.store.failures
  pub rig : old.rig.failures ≤ new.rig.failures
  pub sink : old.sink.failures ≤ new.sink.failures
  pub log : LogGoesOn old.rig new.rig

-- a file that is read, and how many bytes it may have
pub record ReadFile : Type 0 where
  pub name : List ℕ
  pub most : ℕ

-- one whose limit goes by no machine, and a list of a machine's defects
abbrev pub plain_file : List ℕ → ReadFile
plain_file name = record { name = name; most = most_bytes }

abbrev pub list_file : Shape → List ℕ → ReadFile
list_file m name = record { name = name; most = most_text m }

-- the store stands in this file, no further than one byte beyond its limit, or in none
abbrev pub IsNearIn : (file : ReadFile) → StoreState → Type 0
IsNearIn file store = IfSome store.current (λ p. (p.name ≡ file.name) × (p.at ≤ file.most + 1))

-- the store stands so in one of these files, of which the last asked is the first here; or where it stood
abbrev pub StandsAmong : (files : List ReadFile) → StoreState → StoreState → Type 0
StandsAmong [] old new = new.current ≡ old.current
StandsAmong (file ∷ files) old new = StandsAmong files old new ⊎ IsNearIn file new

-- files whose limits go by no machine
abbrev pub StandsIn : (files : List (List ℕ)) → StoreState → StoreState → Type 0
StandsIn files old new = StandsAmong (map plain_file files) old new
