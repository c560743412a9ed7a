-- The log of a rig over the steps of a command.
use Rattle.std.proofs.Common.{◌≡◌, ◌∙◌, ◌⊎◌, ◌+◌, ◌<◌, ◌≤◌, Option, List, [], ◌∷◌, ◌++◌, length, length-append, subst, ap, arith, inl, inr, IsSome}
use Rattle.std.proofs.lemmas.Bool.{cases_lt, false≢true}
use Rattle.cmd_steps.proofs.Vocabulary.{RigState, Machine, Asked, AttachFails, IsDetached, Narrows, Tells, LogGoesOn, TellsTruly}
use Rattle.rig.specs.declared.rig.AttachFail.{AttachFail}
use Rattle.rig.specs.declared.rig.AttachFail.TheVariants as attach

pub log_same : (r : RigState) → LogGoesOn r r
log_same r = record { asked = omega arith; narrows = λ same f e. e; tells = λ t. t; told = λ more. absurd (let none : ⊥ = omega (arith, more) in none) }

pub log_then : {a b c : RigState} → LogGoesOn a b → LogGoesOn b c → LogGoesOn a c
log_then {a} {b} {c} p q = record {
  asked = (let one = p.asked in let other = q.asked in omega (arith, one, other));
  narrows = λ same f e. (let one = p.asked in let other = q.asked in p.narrows (omega (arith, one, other, same)) f (q.narrows (omega (arith, one, other, same)) f e));
  tells = λ t. q.tells (p.tells t);
  told = λ more. by more (cases_lt (length a.machine.asked) (length b.machine.asked));
}
  where
    by : length a.machine.asked < length c.machine.asked → (length a.machine.asked < length b.machine.asked) ⊎ (length b.machine.asked ≤ length a.machine.asked) → TellsTruly c
    by more (inl first) = q.tells (p.told first)
    by more (inr none) = q.told (omega (arith, more, none))

-- the machine stays, what explains the log then explained it before, and told faults explain it if they did before
pub log_kept : {old new : RigState} → new.machine ≡ old.machine → Narrows old new → Tells old new → LogGoesOn old new
log_kept machine narrows tells = record {
  asked = (let same = ap (λ (m : Machine). length m.asked) machine in omega (arith, same));
  narrows = λ same. narrows;
  tells = λ truly some. tells (truly (subst (λ (m : Machine). IsSome m.attached) machine some));
  told = λ more. absurd (let same = ap (λ (m : Machine). length m.asked) machine in let none : ⊥ = omega (arith, same, more) in none);
}

pub narrows_by : {old new : RigState} → LogGoesOn old new → new.machine ≡ old.machine → Narrows old new
narrows_by log machine = log.narrows (ap (λ (m : Machine). length m.asked) machine)

-- a machine more was asked for
pub log_asked : (machine : Asked) {old new : RigState} → new.machine.asked ≡ old.machine.asked ++ machine ∷ [] → TellsTruly new → LogGoesOn old new
log_asked machine {old} {new} is truly = record { asked = omega (arith, more); narrows = λ same. absurd (let none : ⊥ = omega (arith, more, same) in none); tells = λ _. truly; told = λ _. truly }
  where
    more : length new.machine.asked ≡ length old.machine.asked + 1
    more = ap length is ∙ length-append old.machine.asked (machine ∷ [])

-- nothing is attached, so nothing explains what was read, and nothing is told of a machine
none_attached : {rig : RigState} → IsDetached rig → TellsTruly rig
none_attached none some = absurd (false≢true (subst (λ (o : Option Asked). IsSome o) none.attached some))

log_detached : {old new : RigState} → new.machine.asked ≡ old.machine.asked → IsDetached new → LogGoesOn old new
log_detached is none = record {
  asked = (let same = ap (λ (xs : List Asked). length xs) is in omega (arith, same));
  narrows = λ same f e. absurd (rw none.attached at e.faults);
  tells = λ _. none_attached none;
  told = λ _. none_attached none;
}

-- a machine isn't attached
pub log_refused : (machine : Asked) {old new : RigState} (fail : AttachFail) → IsDetached new → AttachFails fail machine old new → LogGoesOn old new
log_refused machine attach.Failed none fails = log_asked machine fails.1 (none_attached none)
log_refused machine (attach.Faults fault) none fails = log_asked machine fails.0 (none_attached none)
log_refused machine attach.Memory none fails = log_detached fails.0 none
