-- Groups of wires: each wire has a parent that isn't above it, and a group has a root, its lowest wire.
use Rattle.std.specs.Prelude.{◌≡◌, ℕ, ◌<◌, ◌≤◌, true, List, length, slice_index_or}
use Rattle.machine_shape.specs.Shape.{wires_of, ends_of}
use Rattle.machine_meaning.specs.Joined.{Net, Joined, plain_net}
use Rattle.machine_config.specs.Configuration.{Configuration, is_closed}
use Rattle.place_repair.specs.Nets.{HangTogether}

abbrev pub parent_at : List ℕ → ℕ → ℕ
parent_at parents w = slice_index_or parents w 0

-- no parent is above its wire
abbrev pub AreLow : List ℕ → Type 0
AreLow parents = (w : ℕ) → w < length parents → parent_at parents w ≤ w

-- each wire has the root of its parent, and a wire that is its own parent is a root
pub record HasRoots (root : ℕ → ℕ) (parents : List ℕ) : Type 0 where
  pub up : (w : ℕ) → w < length parents → root (parent_at parents w) ≡ root w
  pub top : (w : ℕ) → w < length parents → parent_at parents w ≡ w → root w ≡ w

-- each wire is joined to its parent
abbrev pub AreJoined : Net → List ℕ → Type 0
AreJoined net parents = (w : ℕ) → w < length parents → Joined net w (parent_at parents w)

-- on the way up from a wire this one was reached, and nothing is lost
pub record IsFound (old new : List ℕ) (wire at : ℕ) : Type 0 where
  pub sized : length new ≡ length old
  pub within : at < length new
  pub low : AreLow new
  pub tops : (w : ℕ) → w < length old → parent_at old w ≡ w → parent_at new w ≡ w
  pub roots : (root : ℕ → ℕ) → HasRoots root old → HasRoots root new × (root at ≡ root wire)
  pub joined : (net : Net) → AreJoined net old → AreJoined net new × Joined net wire at

-- two wires have one root now, and those that had one have one still
pub record IsMerged (old new : ℕ → ℕ) (a b : ℕ) : Type 0 where
  pub now : new a ≡ new b
  pub still : (u v : ℕ) → old u ≡ old v → new u ≡ new v

pub record IsUnited (old new : List ℕ) (a b : ℕ) : Type 0 where
  pub sized : length new ≡ length old
  pub low : AreLow new
  pub roots : (root : ℕ → ℕ) → HasRoots root old → (next : ℕ → ℕ) × HasRoots next new × IsMerged root next a b
  pub joined : (net : Net) → AreJoined net old → Joined net a b → AreJoined net new

-- the ends of these closed crosspoints have one root
pub record HasJoined (g : Configuration) (joins : ℕ → Type 0) (parents : List ℕ) : Type 0 where
  pub sized : length parents ≡ wires_of g.shape
  pub low : AreLow parents
  pub root : ℕ → ℕ
  pub roots : HasRoots root parents
  pub same : (x : ℕ) → joins x → root (ends_of g.shape x).0 ≡ root (ends_of g.shape x).1
  pub joined : AreJoined (plain_net g.shape (is_closed g)) parents

abbrev pub IsForest : Configuration → List ℕ → Type 0
IsForest g parents = HasJoined g (λ x. is_closed g x ≡ true) parents

-- the roots of the first wires
pub record AreRootsTo (n : ℕ) (parents roots : List ℕ) : Type 0 where
  pub sized : length roots ≡ n
  pub low : (w : ℕ) → w < n → parent_at roots w ≤ w
  pub are : (root : ℕ → ℕ) → HasRoots root parents → (w : ℕ) → w < n → parent_at roots w ≡ root w
  pub joined : (net : Net) → AreJoined net parents → (w : ℕ) → w < n → Joined net w (parent_at roots w)

abbrev pub AreRootsOf : List ℕ → List ℕ → Type 0
AreRootsOf parents roots = AreRootsTo (length parents) parents roots

-- for each wire the lowest of its group
pub record AreLowest (g : Configuration) (lows : List ℕ) : Type 0 where
  pub sized : length lows ≡ wires_of g.shape
  pub low : (w : ℕ) → w < wires_of g.shape → parent_at lows w ≤ w
  pub joined : (w : ℕ) → w < wires_of g.shape → HangTogether g w (parent_at lows w)
  pub same : (x : ℕ) → is_closed g x ≡ true → parent_at lows (ends_of g.shape x).0 ≡ parent_at lows (ends_of g.shape x).1
