use Rattle.place_repair.proofs.Vocabulary.{ℕ, ◌<◌, sym, subst, IsUnited}
use Rattle.place_repair.proofs.groups.join.Goals as goal

pub unite-requires-clause-a : goal.unite-requires-clause-a
unite-requires-clause-a c = subst (λ n. c.ends.result.0.0 < n) (sym c.requires.sized) c.ends.ensures.tap

pub unite-requires-clause-b : goal.unite-requires-clause-b
unite-requires-clause-b c = subst (λ n. c.ends.result.1.0 < n) (sym c.requires.sized) c.ends.ensures.line

pub returns : goal.returns
returns c = subst (λ (p : ℕ × ℕ). IsUnited c.args.parents.now c.unite.new.parents p.0 p.1) c.ends.ensures.ends c.unite.ensures
