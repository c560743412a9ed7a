use Rattle.map_network.proofs.Vocabulary.{◌<◌, ◌∙◌, sym, map, length, arith, get_or-map, length-map, Input, number}
use Rattle.map_network.proofs.NameLemmas.{among_here, among_skip}
use Rattle.map_network.proofs.joining.is_in.Goals as goal

pub returns-then-number : goal.returns-then-number
returns-then-number c =
    let l : c.sources.k < length (map number c.args.sources.now) = omega (arith, c.sources-test.true, length-map c.args.sources.now number) in
    among_here (map number c.args.sources.now) (number c.args.source) c.sources.k l (get_or-map number c.args.sources.now c.sources.k (Input 0) 0 c.sources-test.true ∙ sym c.number.ensures ∙ c.if-number.true ∙ c.number-in-sources.ensures) c.sources.invariant

pub sources-preserved : goal.sources-preserved
sources-preserved c =
    let l : c.sources.k < length (map number c.args.sources.now) = omega (arith, c.sources-test.true, length-map c.args.sources.now number) in
    among_skip (map number c.args.sources.now) (number c.args.source) c.sources.k l (λ e. c.if-number.false (c.number.ensures ∙ sym (get_or-map number c.args.sources.now c.sources.k (Input 0) 0 c.sources-test.true) ∙ e ∙ sym c.number-in-sources.ensures)) c.sources.invariant
