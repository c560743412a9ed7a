-- What is known of known wires.
use Rattle.diag_machine.proofs.Vocabulary.{◌≡◌, ℕ, ◌<◌, true, sym, subst, IsNumbered, wires_of, Kept, keeps_wire}
use Rattle.machine_meaning.proofs.JoinedLemmas.{Ends-swap}
use Rattle.diag_known.specs.Known.{KnownWires, HasWire, IsKnown, Stands, on_pin, on_feet}
use Rattle.diag_known.specs.declared.verified_wire.SupportedBy.{SupportedBy}

module _ {k : Kept} {known : KnownWires} (is : IsKnown k known) where
  pub known_wire : (w : ℕ) → HasWire known.steps w → keeps_wire k w ≡ true
  known_wire w h = subst (λ v. keeps_wire k v ≡ true) h.at.wire (is.steps h.place h.at.step h.at.here).kept

  module _ (numbered : IsNumbered k.shape) where
    stands_within : (i w : ℕ) (s : SupportedBy) → Stands k known.steps i w s → w < wires_of k.shape
    stands_within i w s (on_pin within e) = subst (λ v. v < wires_of k.shape) (sym e) (numbered.pins _ within)
    stands_within i w s (on_feet a b differ) = numbered.ends _ _ _ a.within (Ends-swap a.at)

    pub known_within : (w : ℕ) → HasWire known.steps w → w < wires_of k.shape
    known_within w h = let s = is.steps h.place h.at.step h.at.here in subst (λ v. v < wires_of k.shape) h.at.wire (stands_within h.place h.at.step.wire.0 h.at.step.stand s.stands)
