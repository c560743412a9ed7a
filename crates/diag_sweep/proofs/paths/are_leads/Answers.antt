use Rattle.diag_sweep.proofs.Vocabulary.{◌≤◌, length, arith, subst, refl, All, take_all, IsLead}
use Rattle.diag_sweep.proofs.Coursing.{all_next}
use Rattle.diag_sweep.proofs.paths.are_leads.Goals as goal

pub leads-init : goal.leads-init
leads-init c = λ k d none. absurd (let no : ⊥ = omega (arith, none) in no)

pub leads-preserved : goal.leads-preserved
leads-preserved c = all_next c.args.leads.now c.leads.k c.index-leads-k.result (omega arith) c.index-leads-k.is (IsLead c.args.forest.now) c.leads.invariant (c.if-not-is_lead.ensures refl)

pub returns : goal.returns
returns c = let whole : length c.args.leads.now ≤ c.leads.k = omega arith in λ _. subst (All (IsLead c.args.forest.now)) (take_all c.leads.k c.args.leads.now whole) c.leads.invariant
