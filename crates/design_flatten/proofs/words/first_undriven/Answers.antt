use Rattle.design_flatten.proofs.Vocabulary.{◌∙◌, None, ap, sym, arith, fold, flat_map-map, sooner, places_of, placed_line, read_on}
use Rattle.std.proofs.lemmas.List.{take_all}
use Rattle.design_netlist.proofs.WordLemmas.{fold-flat_map}
use Rattle.design_flatten.proofs.words.first_undriven.Goals as goal

pub returns : goal.returns
returns c =
    let F = sooner (places_of c.args.firsts.now) in
    let R = read_on c.args.signals.now in
    let ps = c.args.placed.now in
    c.placed.invariant
    ∙ ap (λ xs. fold (λ b p. fold F b (R (placed_line p))) None xs) (take_all c.placed.k ps (omega arith))
    ∙ sym (fold-flat_map F (λ p. R (placed_line p)) None ps)
    ∙ ap (fold F None) (sym (flat_map-map R placed_line ps))
