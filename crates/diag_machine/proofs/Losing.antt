-- Wires that are left out.
use Rattle.diag_machine.proofs.Vocabulary.{◌<◌, ℕ, Option, List, ap, subst, turned, wires_of, Faults, IsFaultless, two, all_sound, Kept}
use Rattle.diag_machine.proofs.Vocabulary.{IsMoreButPairs, HasWire, VerifiedWire, AreLeftOut, IsLeftOut, IfFaultless, IsReached, ReachedIf}

-- Without faults no wire is left out.
pub none_left_out : {k : Kept} {f : Faults} {ss : List VerifiedWire} {w : ℕ} → IsFaultless f → IsReached k f (HasWire ss) → w < wires_of k.shape → IsLeftOut k ss w → ⊥
none_left_out {k} {f} {ss} {w} none reached within out =
    let a = out.feet.first in
    let b = out.feet.second in
    out.unknown (reached.wires w within (λ u s. none.wires u) (λ u has s. out.unknown (subst (HasWire ss) ((all_sound none w).alone u s) has))
    (two a.meets.0 b.meets.0 out.feet.one out.feet.two (a.meets.1).0 (b.meets.1).0
    (turned (ap (λ p. p.0) a.meets.2) (ap (λ p. p.1) a.meets.2)) (turned (ap (λ p. p.0) b.meets.2) (ap (λ p. p.1) b.meets.2)) out.feet.different
    a.known b.known (none.crosses a.meets.0) (none.crosses b.meets.0)))

-- What was reached stays reached when more is kept.
pub reached_later : {k l : Kept} {f : Faults} {known : ℕ → Type 0} → IsMoreButPairs k l → IsReached k f known → IsReached l f known
reached_later more r = record {
  pins = rw more.shape r.pins;
  wires = rw more.shape r.wires;
  crosses = λ x h tap line unstuck. more.crosses x (r.crosses x (rw more.shape at h) (rw more.shape at tap) (rw more.shape at line) unstuck);
}

-- So a wire that is left out shows that there are faults.
pub out_never : {told : Option Faults} {k : Kept} {ss : List VerifiedWire} {P : Type 0} → ReachedIf told k ss → AreLeftOut k ss → IfFaultless told k P
out_never reached out = record { at = λ f e none holds. absurd (none_left_out none (reached.at f e) out.within out.out) }
