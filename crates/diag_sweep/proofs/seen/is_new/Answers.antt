use Rattle.diag_sweep.proofs.Vocabulary.{◌∷◌, [], ◌∙◌, sym, subst, SeesMore}
use Rattle.diag_sweep.proofs.Sighting.{sees_one}
use Rattle.diag_sweep.proofs.seen.is_new.Goals as goal

pub returns-clause-sees : goal.returns-clause-sees
returns-clause-sees c = λ _. subst (λ bits. SeesMore c.args.seen.now bits (c.args.n ∷ [])) (sym c.insert.ensures) (sees_one c.args.seen.now c.args.n c.requires (sym c.has.ensures ∙ c.if-has.false))
