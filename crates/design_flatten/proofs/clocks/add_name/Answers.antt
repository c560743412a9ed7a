use Rattle.design_flatten.proofs.Vocabulary.{◌≡◌, None, sym, ◌∙◌, at_name}
use Rattle.design_flatten.proofs.ClockLemmas.{added_place, absent_place}
use Rattle.design_flatten.proofs.clocks.add_name.Goals as goal

pub returns : goal.returns
returns c w =
    let name = c.args.name.now in
    let none : at_name c.args.places.now name ≡ None = absent_place (at_name c.args.places.now name) (sym c.contains_key.ensures ∙ c.if-contains_key.false) in
    added_place (at_name c.args.places.now) _ name w c.args.place none (c.in_ok-insert.ensures.updates.0 (record c.args.name { now = w }))
