use Rattle.design_flatten.proofs.Vocabulary.{◌∙◌, sym, ap, length, length-map}
use Rattle.design_flatten.proofs.name_set.NameSet.len.Goals as goal

pub returns : goal.returns
returns c = c.len.ensures.len ∙ sym (length-map c.self.inside.set.keys (λ k. k.now)) ∙ ap length c.self.view_is
