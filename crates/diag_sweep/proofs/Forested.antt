-- Forests whose crosspoints are kept, and whose wires are known.
use Rattle.std.proofs.Common.{◌≡◌, ◌≢◌, ℕ, true, Option, Some, refl, sym, ap, subst, is_some}
use Rattle.diag_sweep.proofs.Vocabulary.{false≢true, KnownWires, HasWire, IsKnown, known_pair}
use Rattle.diag_evidence.specs.Vocabulary.{Kept, keeps_wire, keeps_pair, Trees, KeepsForest, KnowsForest, HangsOn, bare, is_hung, pin_of, with_planted}

pub keeps_bare : {k : Kept} {trees : Trees} → trees ≡ bare k.shape → KeepsForest k trees
keeps_bare {k} same = subst (KeepsForest k) (sym same) (record { shape = refl; crosses = λ x on. absurd (false≢true on) })

pub keeps_planted : {k : Kept} {old new : Trees} (pin : ℕ) → new ≡ with_planted old pin → KeepsForest k old → KeepsForest k new
keeps_planted {k} pin same keeps = subst (KeepsForest k) (sym same) (record { shape = keeps.shape; crosses = keeps.crosses })

hung : (o : Option ℕ) (pin : ℕ) → o ≡ Some pin → is_some o ≡ true
hung o pin e = ap is_some e

-- all wires that hang are known
pub knows : {k : Kept} {known : KnownWires} {trees : Trees} → IsKnown k known → KeepsForest k trees → ((w : ℕ) → is_hung trees w ≡ true → HasWire known.steps w) → KnowsForest k trees
knows {k} {known} {trees} is keeps all = record {
  keeps = keeps;
  wires = λ w pin on. kept w (all w (hung (pin_of trees w) pin on));
  pairs = λ w u pin other on also differ. known_pair is u w (all u (hung (pin_of trees u) other also)) (all w (hung (pin_of trees w) pin on)) differ;
}
  where
    kept : (w : ℕ) → HasWire known.steps w → keeps_wire k w ≡ true
    kept w h = subst (λ v. keeps_wire k v ≡ true) h.at.wire (is.steps h.place h.at.step h.at.here).kept
