use Rattle.diag_sweep.proofs.Vocabulary.{◌≡◌, ◌<◌, get_or, length, refl, sym, subst, arith, LeadsTo, HangsOn, crosses_along, wires_along}
use Rattle.diag_sweep.proofs.Coursing.{is_lead, number_at}
use Rattle.diag_sweep.proofs.paths.is_lead.Goals as goal

pub wire_at-first-requires : goal.wire_at-first-requires
wire_at-first-requires c = let many = c.if-not-is_walk.ensures.wires refl in omega (arith, many)

pub wire_at-last-requires : goal.wire_at-last-requires
wire_at-last-requires c = let many = c.if-not-is_walk.ensures.wires refl in let all = c.len-count.ensures in omega (arith, many, all)

pub are_loose-requires : goal.are_loose-requires
are_loose-requires c = c.if-not-is_walk.ensures.wires refl

pub returns : goal.returns
returns c =
    let xs = crosses_along c.args.lead.now in
    let ws = wires_along c.args.lead.now in
    let long : 0 < length xs = omega (arith, c.if-count-eq0.false, c.len-count.ensures) in
    λ loose. is_lead c.args.forest.now c.args.lead.now long (c.if-not-is_walk.ensures.wires refl)
    (subst (λ m. LeadsTo m (get_or ws 0 0) xs ws (get_or ws (length xs) 0)) c.shape-shape.ensures.shape (c.if-not-is_walk.ensures.leads refl))
    (subst (λ w. HangsOn c.args.forest.now w c.args.lead.now.from) (sym (number_at ws 0 c.wire_at-first.result.0 c.wire_at-first.ensures)) (c.if-not-hangs_on.ensures refl))
    (subst (λ i. HangsOn c.args.forest.now (get_or ws i 0) c.args.lead.now.to) c.len-count.ensures
    (subst (λ w. HangsOn c.args.forest.now w c.args.lead.now.to) (sym (number_at ws c.len-count.result c.wire_at-last.result.0 c.wire_at-last.ensures)) (c.if-not-hangs_on-2.ensures refl)))
    (c.are_loose.ensures loose)
