use Rattle.design_flatten.proofs.Vocabulary.{◌∙◌, ap, map, texts_of, whole}
use Rattle.design_flatten.proofs.PrintLemmas.{all_ways, names_are}
use Rattle.design_flatten.proofs.printed.printed_names.Goals as goal

pub returns : goal.returns
returns c ms all first =
    let ts = texts_of c.in_ok-ways.ways.items in
    c.sharing.ensures
    ∙ ap (map (whole ts)) (c.in_ok-all.ensures ms all first)
    ∙ names_are ms ts (all_ways ms c.args.origins.now ts all c.in_ok-ways.ensures.len (c.in_ok-ways.ensures.ways ms all.0)) c.args.signals.now
