use Rattle.diag_known.proofs.Vocabulary.{sym, subst, IsPin, is_pin}
use Rattle.diag_known.proofs.verified_wire.VerifiedWire.is_pin.Goals as goal

pub returns-in-Pin-clause-pin : goal.returns-in-Pin-clause-pin
returns-in-Pin-clause-pin c = λ yes_is. subst IsPin (sym c.in-Pin.is) is_pin
