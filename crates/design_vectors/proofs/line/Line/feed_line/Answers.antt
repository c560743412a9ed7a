use Rattle.design_vectors.proofs.Vocabulary.{◌+◌, ap, false, PartLine}
use Rattle.design_vectors.proofs.{InsideLemmas.IsSound-inside, LineLemmas.feed-blank, LineLemmas.feed-vector, LineLemmas.feed-short}
use Rattle.design_vectors.proofs.line.Line.feed_line.Goals as goal

pub returns-in-Onward : goal.returns-in-Onward
returns-in-Onward c = rw c.in-Onward.is
    (feed-blank _ _ (IsSound-inside _ _ c.self.invariant c.self.view_is) c.requires c.in-Onward.ensures.ends
    (ap (λ (p : PartLine). record p { at = p.at + 1; number = p.number + 1; in_comment = false }) c.self.view_is))

pub returns-in-Vector : goal.returns-in-Vector
returns-in-Vector c = rw c.in-Vector.is
    (feed-vector _ _ (IsSound-inside _ _ c.self.invariant c.self.view_is) c.requires c.in-Vector.ensures.ends
    (ap (λ (p : PartLine). record p { at = p.at + 1; number = p.number + 1 }) c.self.view_is))

pub returns-in-Fault : goal.returns-in-Fault
returns-in-Fault c =
    let e = c.in-Fault.ensures.ends in
    rw (c.in-Fault.is, e.0) (feed-short _ (IsSound-inside _ _ c.self.invariant c.self.view_is) c.requires e.1 e.2)
