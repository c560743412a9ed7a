use Rattle.design_netlist.proofs.Vocabulary.{◌++◌, ◌∙◌, ap, sym, append-nil, texts_of, joined, front}
use Rattle.design_netlist.proofs.NameLemmas.{back_step, text_past}
use Rattle.design_netlist.proofs.names.way_back.Goals as goal

pub back-init : goal.back-init
back-init c =
    let f = front (texts_of c.args.beginnings.now) c.args.last in
    sym (append-nil f) ∙ ap (λ ks. f ++ joined c.args.beginnings.now ks) (sym c.new-places.ensures.items)

pub returns-then-place-beginnings : goal.returns-then-place-beginnings
returns-then-place-beginnings c =
    let bs = c.args.beginnings.now in
    let ks = joined bs c.back.places.items in
    sym (c.back.invariant ∙ ap (λ n. front (texts_of bs) n ++ ks) c.in-Some.is ∙ ap (λ x. x ++ ks) (text_past bs c.in-Some.place c.if-place-beginnings.true))

pub back-preserved : goal.back-preserved
back-preserved c =
    let bs = c.args.beginnings.now in
    c.back.invariant
    ∙ ap (λ n. front (texts_of bs) n ++ joined bs c.back.places.items) c.in-Some.is
    ∙ back_step bs c.in-Some.place c.before-next.result c.back.places.items c.before-next.ensures
    ∙ ap (λ ks. front (texts_of bs) c.before-next.result ++ joined bs ks) (sym c.in_ok-push.ensures.items)

pub returns : goal.returns
returns c =
    let bs = c.args.beginnings.now in
    sym (c.back.invariant ∙ ap (λ n. front (texts_of bs) n ++ joined bs c.back.places.items) c.in_default.is)
