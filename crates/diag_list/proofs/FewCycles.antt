-- Few cycles for each load, from where the machine was attached.
use Rattle.diag_list.proofs.Vocabulary.{◌≡◌, ℕ, ◌+◌, ◌*◌, ◌≤◌, ap, arith, inl, inr, refl, sym, RigState, Machine, cycles_made}
use Rattle.diag_evidence.specs.Kept.{TakesFewCycles, most_cycles}
use Rattle.diag_list.specs.Possible.{MakesFewCycles}

pub few-unasked : (rig : RigState) → MakesFewCycles rig rig
few-unasked rig = inl refl

no-more : (c x y : ℕ) → c ≡ 0 → y ≡ x → c + x ≤ y
no-more c x y none same = omega (arith, none, same)

-- nothing was loaded
pub few-unloaded : (old new : RigState) → cycles_made new ≡ 0 → new.loads ≡ old.loads → MakesFewCycles old new
few-unloaded old new none same = inr (λ room.
    no-more (cycles_made new) (most_cycles new.machine * old.loads) (most_cycles new.machine * new.loads) none (λ i. most_cycles new.machine * same i))

from-none : (c a d b x y : ℕ) → c + a ≤ d + b → d ≡ 0 → x ≡ a → y ≡ b → c + x ≤ y
from-none c a d b x y few none before after = omega (arith, few, none, before, after)

-- few were made since
pub few-listed : (old mid new : RigState) → cycles_made mid ≡ 0 → mid.loads ≡ old.loads → new.machine ≡ mid.machine → TakesFewCycles mid new → MakesFewCycles old new
few-listed old mid new none loads machine few = inr (λ room.
    from-none (cycles_made new) (most_cycles mid.machine * mid.loads) (cycles_made mid) (most_cycles mid.machine * new.loads)
    (most_cycles new.machine * old.loads) (most_cycles new.machine * new.loads) (few room) none
    (λ i. most_cycles (machine i) * sym loads i) (ap (λ (m : Machine). most_cycles m * new.loads) machine))
