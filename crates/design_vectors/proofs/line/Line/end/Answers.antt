use Rattle.design_vectors.proofs.Vocabulary.{◌≡◌, ◌<◌, [], length, subst, refl, arith, vector_size, PartLine}
use Rattle.design_vectors.proofs.InsideLemmas.{IsSound-inside, shown_length}
use Rattle.design_vectors.proofs.LineLemmas.{end-blank, end-vector, end-short}
use Rattle.design_vectors.proofs.line.Line.end.Goals as goal

pub returns-then-self-eq0-clause-says : goal.returns-then-self-eq0-clause-says
returns-then-self-eq0-clause-says c = end-blank _ (IsSound-inside _ _ c.self.invariant c.self.view_is)
    (subst (λ (p : PartLine). p.shown ≡ []) c.self.view_is (rw c.if-self-eq0.true refl))

pub returns-then-self-len-clause-says : goal.returns-then-self-len-clause-says
returns-then-self-len-clause-says c = end-short _ (IsSound-inside _ _ c.self.invariant c.self.view_is)
    (subst (λ (p : PartLine). 0 < length p.shown) c.self.view_is (let e = shown_length c.self.inside c.self.invariant in omega arith))
    (subst (λ (p : PartLine). length p.shown < vector_size p.width) c.self.view_is (let e = shown_length c.self.inside c.self.invariant in omega (arith, c.self.invariant.size)))

pub returns-clause-says : goal.returns-clause-says
returns-clause-says c = end-vector _ (IsSound-inside _ _ c.self.invariant c.self.view_is)
    (subst (λ (p : PartLine). length p.shown ≡ vector_size p.width) c.self.view_is (let e = shown_length c.self.inside c.self.invariant in omega (arith, c.self.invariant.size, c.self.invariant.count)))
