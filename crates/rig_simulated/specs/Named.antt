-- The faults that a name stands for.
use Rattle.std.specs.Prelude.{◌≡◌, ◌⊎◌, ℕ, ◌≤◌, Option, Some, None, IfSome, List, [], ◌∷◌, ◌++◌, length}
use Rattle.machine_shape.specs.{declared.Shape.Shape, Bounds.most_text}
use Rattle.machine_meaning.specs.Faults.{Faults}
use Rattle.base_io.specs.Vocabulary.{Rose, Told, bytes_of, IfTold, StoreState}
use Rattle.machine_faults.specs.Text.{IsFaultText}
use Rattle.machine_faults.specs.declared.kind.FaultsFault.TheVariants as text
use Rattle.machine_bench.specs.Faults.{AreBenchFaults}
use Rattle.rig.specs.{Names.generated_of, Rig.IsNoText, declared.rig.AttachFail.AttachFail}
use Rattle.rig.specs.declared.rig.AttachFail.TheVariants as attach

-- the fault text of a name by its number, if it has one: that of generated faults is empty
abbrev pub text_by : Option ℕ → Option (List ℕ) → Option (List ℕ)
text_by (Some n) told = Some []
text_by None told = told

abbrev pub texts_of : (List ℕ → Told) → List ℕ → Option (List ℕ)
texts_of contents name = text_by (generated_of name) (bytes_of (contents name))

-- the faults are those that the number makes, or else those that the file spells, where it is told
abbrev pub AreNamed : Option ℕ → Shape → Told → Faults → Type 0
AreNamed (Some n) m told f = AreBenchFaults m n f
AreNamed None m told f = IfTold told (λ bytes. IsFaultText m bytes f × (length bytes ≤ most_text m))

-- the store was asked for nothing where the name has a number, and else for the name alone
abbrev pub Asks : Option ℕ → List ℕ → StoreState → StoreState → Type 0
Asks (Some n) name old new = new ≡ old
Asks None name old new = new.asked ≡ old.asked ++ name ∷ []

-- the same where memory may have been wanting before
abbrev pub AsksAtMost : Option ℕ → List ℕ → StoreState → StoreState → Type 0
AsksAtMost (Some n) name old new = new ≡ old
AsksAtMost None name old new = (new.asked ≡ old.asked) ⊎ (new.asked ≡ old.asked ++ name ∷ [])

-- why the faults of a name aren't given
abbrev pub NamesFail : AttachFail → Shape → Option (List ℕ) → StoreState → StoreState → Type 0
NamesFail attach.Failed m told old new = Rose old.failures new.failures
NamesFail (attach.Faults (text.At line kind)) m told old new = IfSome told (λ bytes. IsNoText m bytes line kind)
NamesFail (attach.Faults text.Memory) m told old new = ⊥
NamesFail attach.Memory m told old new = Unit {0}

-- the faults are told, and are those of the name
abbrev pub TellsNamed : Option ℕ → Shape → Told → Option Faults → Type 0
TellsNamed number m told None = ⊥
TellsNamed number m told (Some f) = AreNamed number m told f
