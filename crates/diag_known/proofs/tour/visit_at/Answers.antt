use Rattle.std.proofs.Common.{◌≡◌, ◌∙◌, Some, refl, sym, ap, subst, arith, slice_get}
use Rattle.diag_known.proofs.Vocabulary.{slice_get-get_or, Walk, IsFrom}
use Rattle.diag_known.proofs.{Places.some_same, Touring.walks_set, Touring.stay_set, Touring.on_set}
use Rattle.diag_known.proofs.tour.visit_at.Goals as goal

pub visit-requires-clause-walk : goal.visit-requires-clause-walk
visit-requires-clause-walk c = c.requires.walks c.args.place c.index_mut.result.now
    (slice_get-get_or c.args.routes.now.items c.args.place c.index_mut.result.now (omega arith) ∙ ap (λ (r : Walk). Some r) (sym c.index_mut.ensures.value))

pub returns-clause-walks : goal.returns-clause-walks
returns-clause-walks c =
    let at : slice_get c.args.routes.now.items c.args.place ≡ Some c.index_mut.result.now =
    slice_get-get_or c.args.routes.now.items c.args.place c.index_mut.result.now (omega arith) ∙ ap (λ (r : Walk). Some r) (sym c.index_mut.ensures.value) in
    walks_set c.args.routes.now.items c.args.place c.index_mut.result.now c.visit.new.walk at c.requires.walks c.in_ok-visit.ensures.on.walk

pub returns-clause-stay : goal.returns-clause-stay
returns-clause-stay c =
    let at : slice_get c.args.routes.now.items c.args.place ≡ Some c.index_mut.result.now =
    slice_get-get_or c.args.routes.now.items c.args.place c.index_mut.result.now (omega arith) ∙ ap (λ (r : Walk). Some r) (sym c.index_mut.ensures.value) in
    stay_set c.args.routes.now.items c.args.place c.index_mut.result.now c.visit.new.walk at c.in_ok-visit.ensures.on.stays

pub returns-clause-on : goal.returns-clause-on
returns-clause-on c =
    let at : slice_get c.args.routes.now.items c.args.place ≡ Some c.index_mut.result.now =
    slice_get-get_or c.args.routes.now.items c.args.place c.index_mut.result.now (omega arith) ∙ ap (λ (r : Walk). Some r) (sym c.index_mut.ensures.value) in
    let seen : slice_get c.args.routes.now.items c.args.place ≡ Some c.index.result.now =
    slice_get-get_or c.args.routes.now.items c.args.place c.index.result.now (omega arith) ∙ ap (λ (r : Walk). Some r) (sym c.index.ensures) in
    let from : IsFrom c.args.reaches.now.items c.index.result.now.pin c.args.w.0 =
    subst (λ pin. IsFrom c.args.reaches.now.items pin c.args.w.0) c.pin.ensures (c.if-not-is_from.ensures.from refl) in
    λ _. on_set c.args.routes.now.items c.args.place c.index_mut.result.now c.visit.new.walk at c.args.w.0
    (c.in_ok-visit.ensures.over (subst (λ (r : Walk). IsFrom c.args.reaches.now.items r.pin c.args.w.0) (some_same (sym seen ∙ at)) from))
