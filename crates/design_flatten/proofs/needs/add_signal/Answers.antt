use Rattle.design_flatten.proofs.Vocabulary.{◌∙◌, refl, ap, Marked, with_name}
use Rattle.design_flatten.proofs.MarkLemmas.{new_taken}
use Rattle.design_flatten.proofs.needs.add_signal.Goals as goal

pub returns : goal.returns
returns c =
    let new : Marked = record { names = c.args.marked.now.names; set = c.add.new.self; marks = c.set_mark.new.marks } in
    new_taken c.args.marked.now new c.args.signal refl (c.in_ok-add.ensures ∙ ap (with_name c.args.marked.now.set) c.name_at.ensures) c.set_mark.ensures
