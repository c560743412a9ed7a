-- Names that were added, with marks of the signals that have theirs among them.
use Rattle.std.specs.Prelude.{ℕ, ◌≡◌, true, false, List, [], slice_index_or}
use Rattle.design_flatten.specs.{declared.needs.Marked.Marked, Uses.is_among, NameSets.with_names}

-- a marked signal has its name in the set
abbrev pub AreRightMarks : Marked → Type 0
AreRightMarks m = (k : ℕ) → slice_index_or m.marks.items k false ≡ true → is_among m.set (slice_index_or m.names.now k []) ≡ true

-- the words were added, if the marks were right
pub record HasTaken (old : Marked) (words : List (List ℕ)) (new : Marked) : Type 0 where
  pub names : new.names ≡ old.names
  pub marks : AreRightMarks old → AreRightMarks new
  pub set : AreRightMarks old → new.set ≡ with_names old.set words
