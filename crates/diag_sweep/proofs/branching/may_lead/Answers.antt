use Rattle.std.proofs.Common.{refl}
use Rattle.diag_sweep.proofs.Coursing.{knows_leads}
use Rattle.diag_sweep.proofs.branching.may_lead.Goals as goal

pub returns : goal.returns
returns c = λ yes. record {
  knows = knows_leads c.requires.known (c.if-not-is_known.ensures.knows refl) (c.if-not-is_known.ensures.all refl) (c.if-not-are_known_along.ensures refl);
  branch = record {
    walks = c.if-not-are_leads.ensures refl;
    once = c.in_ok-are_once.ensures c.if-not-branch.false;
    own = c.are_in_order.ensures.own yes;
    later = c.are_in_order.ensures.later yes;
  };
  tries = c.if-not-may_try_all.ensures refl;
}
