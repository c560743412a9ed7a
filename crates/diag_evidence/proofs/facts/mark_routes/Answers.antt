use Rattle.diag_evidence.proofs.Vocabulary.{◌≡◌, ◌∙◌, ◌||◌, true, take, ap, subst, arith, take_all, has_number, among, Walk, wires_over}
use Rattle.diag_evidence.proofs.Several.{gathered_next}
use Rattle.diag_evidence.proofs.facts.mark_routes.Goals as goal

pub mark_wires-requires : goal.mark_wires-requires
mark_wires-requires c = rw c.routes.invariant.len_is (λ w is.
    c.requires c.routes.k c.index-routes-k.result c.routes-test.true w (subst (λ (r : Walk). among r.wires w ≡ true) c.index-routes-k.is is))

pub routes-preserved : goal.routes-preserved
routes-preserved c = record {
  marked = λ w. c.mark_wires.ensures.marked w ∙ gathered_next c.args.routes.now c.routes.k w c.index-routes-k.result _ (has_number c.args.wires.now w) c.routes-test.true c.index-routes-k.is (c.routes.invariant.marked w);
  len_is = c.mark_wires.ensures.len ∙ c.routes.invariant.len_is;
}

pub returns-clause-marked : goal.returns-clause-marked
returns-clause-marked c =
    let whole : take c.routes.k c.args.routes.now ≡ c.args.routes.now = take_all c.routes.k c.args.routes.now (let no_ = c.routes-test.false in omega arith) in
    λ w. c.routes.invariant.marked w ∙ ap (λ rs. among (wires_over rs) w || has_number c.args.wires.now w) whole
