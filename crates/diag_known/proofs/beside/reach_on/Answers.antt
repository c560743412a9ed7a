use Rattle.std.proofs.Common.{◌∙◌, refl, sym}
use Rattle.diag_known.proofs.Reaching.{hangs_pin, hangs_first, hangs_second}
use Rattle.diag_known.proofs.beside.reach_on.Goals as goal

pub returns-in-Pin-clause-hangs : goal.returns-in-Pin-clause-hangs
returns-in-Pin-clause-hangs c = λ pin same. hangs_pin c.in-Pin.pin pin c.in-Pin.is same

pub returns-in-From-clause-hangs : goal.returns-in-From-clause-hangs
returns-in-From-clause-hangs c = λ pin same. hangs_first pin c.in-Feet.is (sym c.reach_at.ensures ∙ c.in-From.is ∙ same)

pub returns-in-From-reach_at : goal.returns-in-From-reach_at
returns-in-From-reach_at c = record {
  hangs = λ pin same. hangs_second pin c.in-Feet.is (sym c.reach_at-2.ensures ∙ c.in-From-reach_at.is ∙ same);
  whole = λ why. (c.in-From-reach_at.pin, refl);
  off = λ e. cc;
}
