use Rattle.design_netlist.proofs.Vocabulary.{◌∙◌, ap, ◌++◌, joined}
use Rattle.design_netlist.proofs.NameLemmas.{put_more}
use Rattle.design_netlist.proofs.names.put_texts.Goals as goal

pub places-preserved : goal.places-preserved
places-preserved c =
    ap (λ x. x ++ joined c.args.beginnings.now c.pop.new.self.items) c.in_ok-extend_from_slice.ensures.items
    ∙ put_more c.args.beginnings.now c.places.text.items c.text_at.result.now c.in-Some.place c.pop.new.self.items c.places.places.items c.text_at.ensures c.in-Some.ensures.items
    ∙ c.places.invariant
