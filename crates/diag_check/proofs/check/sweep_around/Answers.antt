use Rattle.diag_check.proofs.Vocabulary.{refl, subst, Shape, IsFieldOf}
use Rattle.diag_check.proofs.Checking.{loads_swept}
use Rattle.diag_check.proofs.check.sweep_around.Goals as goal

pub returns-clause-loads : goal.returns-clause-loads
returns-clause-loads g c = loads_swept c.args.knowledge.now.facts c.args.knowledge.now.marks c.in-Ok.field c.args.parts.now.used _ _ (c.if-not-is_paid.ensures refl)
    (c.growth_after_a_sweep_is_paid.ensures.alone c.in-Ok.field c.args.knowledge.now.facts c.sweep.new.knowledge.facts c.args.knowledge.now.marks c.sweep.new.knowledge.marks _ _ (subst (λ (m : Shape). IsFieldOf m c.in-Ok.field) c.requires.image c.in-Ok.ensures.field) c.sweep.ensures.pays)
