-- What tests have shown of a machine, and what calls make of it.
use Rattle.std.specs.Prelude.{Option}
use Rattle.machine_meaning.specs.Vocabulary.{Faults}
use Rattle.rig.specs.Rig.{RigState, ForEach}
use Rattle.diag_evidence.specs.Kept.{Advances, AdvancesButPairs}
use Rattle.diag_known.specs.Vocabulary.{IsKnown, KnowsAll}
use Rattle.diag_sweep.specs.{Marks.AreMarksFor, Marks.TrueIf, declared.knowledge.Knowledge.Knowledge}

-- What is known is known by what is kept, and is its set; and there is a mark for each part of the machine.
pub record IsCoherent (k : Knowledge) : Type 0 where
  pub known : IsKnown k.facts k.verified
  pub all : KnowsAll k.facts k.verified.steps
  pub marks : AreMarksFor k.facts.shape k.marks

-- what is kept and marked is true of the faults, where they are told
abbrev pub TrueOf : Option Faults → Knowledge → Type 0
TrueOf told k = TrueIf told k.facts k.verified.steps k.marks

-- What calls of tests make of it: it stays coherent, and true of each set of faults that explains what was read, if it was before; and
-- the rig and what is kept advance.
pub record Progress (old new : RigState) (k l : Knowledge) : Type 0 where
  pub coherent : IsCoherent l
  pub holds : ForEach new (λ told. TrueOf told k → TrueOf told l)
  pub advances : Advances old new k.facts l.facts

-- .. but that pairs may be taken back
pub record ProgressButPairs (old new : RigState) (k l : Knowledge) : Type 0 where
  pub coherent : IsCoherent l
  pub holds : ForEach new (λ told. TrueOf told k → TrueOf told l)
  pub advances : AdvancesButPairs old new k.facts l.facts
