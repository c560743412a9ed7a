-- What it is to read a name from its front.
use Rattle.std.specs.Prelude.{◌≡◌, ◌≢◌, ℕ, ◌≤◌, List, [], ◌∷◌, ◌++◌, length, drop}
use Rattle.machine_shape.specs.{Walk.Levels, Walk.Path, Walk.IsSpot, Names.numbered}

-- no byte is a dot
abbrev pub NoDot : List ℕ → Type 0
NoDot [] = Unit {0}
NoDot (b ∷ bs) = (b ≢ 46) × NoDot bs

-- the words of a way, each with a dot behind, and then this text
abbrev pub way_text : List ℕ → Path → List ℕ → List ℕ
way_text letters [] last = last
way_text [] (i ∷ p) last = last
way_text (c ∷ letters) (i ∷ p) last = numbered c i ++ 46 ∷ way_text letters p last

-- the text is the words of this way and a last word, which begins at this place
pub record IsRead (ls : Levels) (letters text : List ℕ) (p : Path) (last : ℕ) : Type 0 where
  pub spot : IsSpot ls p
  pub within : last ≤ length text
  pub named : text ≡ way_text letters p (drop last text)
  pub undotted : NoDot (drop last text)

-- the text is the words of some way and a last word
pub record IsReadable (ls : Levels) (letters text : List ℕ) : Type 0 where
  pub path : Path
  pub last : List ℕ
  pub spot : IsSpot ls path
  pub undotted : NoDot last
  pub named : text ≡ way_text letters path last
