use Rattle.design_netlist.proofs.Vocabulary.{◌<◌, ◌∙◌, None, ap, length, arith, fold, get_or_default, word, word_at, reads_of, sooner}
use Rattle.design_netlist.proofs.CheckLemmas.{found_doubled, none_doubled, found_undriven, driven_once}
use Rattle.design_netlist.proofs.checks.look.Goals as goal

pub returns-in-Some : goal.returns-in-Some
returns-in-Some c =
    let f = found_doubled c.args.draft.now c.deref-2.result.now (c.deref-2.ensures.value ∙ c.in_ok-words.ensures) c.in-Some.place c.in-Some.ensures in
    let lt : c.in-Some.place < length c.in_ok-words.words.items = omega (arith, c.in-Some.ensures.0, ap length c.deref-2.ensures.value) in
    (c.in-Some.place, f, c.index.ensures ∙ get_or_default c.in_ok-words.words.items c.in-Some.place c.index.result.now (word 0 0) lt ∙ ap (λ ws. word_at ws c.in-Some.place) c.in_ok-words.ensures)

pub returns-in-Some-first_undriven : goal.returns-in-Some-first_undriven
returns-in-Some-first_undriven c =
    found_undriven c.args.draft.now c.requires c.in_ok-firsts.firsts.items c.deref.result.now (c.deref.ensures.value ∙ c.in_ok-words.ensures) c.len.result c.len.ensures c.in_ok-firsts.ensures.firsts c.in-Some-first_undriven.word
    (c.in-Some-first_undriven.ensures ∙ ap (λ firsts. fold (sooner firsts) None (reads_of c.args.draft.now)) c.deref-4.ensures.value)
    (none_doubled c.args.draft.now c.deref-2.result.now (c.deref-2.ensures.value ∙ c.in_ok-words.ensures) c.in_default.ensures)

pub sort-requires : goal.sort-requires
sort-requires c =
    driven_once c.args.draft.now c.requires c.in_ok-firsts.firsts.items c.deref.result.now (c.deref.ensures.value ∙ c.in_ok-words.ensures) c.len.result c.len.ensures c.in_ok-firsts.ensures.firsts
    (none_doubled c.args.draft.now c.deref-2.result.now (c.deref-2.ensures.value ∙ c.in_ok-words.ensures) c.in_default.ensures)
    (c.in_default-first_undriven.ensures ∙ ap (λ firsts. fold (sooner firsts) None (reads_of c.args.draft.now)) c.deref-4.ensures.value)
