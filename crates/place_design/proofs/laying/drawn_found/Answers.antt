use Rattle.place_design.proofs.Vocabulary.{inr}
use Rattle.place_design.proofs.{Fewer.just-as-many, PlainWidths.plain-inputs, PlainWidths.plain-outputs}
use Rattle.place_design.proofs.laying.drawn_found.Goals as goal

pub drawn-requires-clause-inputs : goal.drawn-requires-clause-inputs
drawn-requires-clause-inputs c = plain-inputs c.args.netlist.now c.args.whole.now c.requires.plain

pub drawn-requires-clause-outputs : goal.drawn-requires-clause-outputs
drawn-requires-clause-outputs c = plain-outputs c.args.netlist.now c.args.whole.now c.requires.plain

pub drawn-requires-clause-tables : goal.drawn-requires-clause-tables
drawn-requires-clause-tables c = just-as-many c.args.netlist.now c.args.whole.now c.requires.plain

pub drawn-requires-clause-choice : goal.drawn-requires-clause-choice
drawn-requires-clause-choice c =
    let i = c.requires.found in
    inr (inr (record { large = c.requires.large; plain = c.requires.plain; first = i.first; in_order = i.in_order; crossings = i.crossings }))
