use Rattle.place_pair.proofs.Vocabulary.{◌≡◌, length, sym, ap, ◌∙◌, subst, Configuration, part, IsShare, IsTenant}
use Rattle.place_pair.proofs.{Cutting.cut_within, Cutting.cut_apart, Limits.closed_fit, Limits.on_fit}
use Rattle.place_pair.proofs.splitting.tenant.Goals as goal

pub new-requires-clause-within : goal.new-requires-clause-within
new-requires-clause-within c =
    let w = c.args.whole.now in
    let s = c.args.site.now in
    let n = c.args.network.now in
    let ins = c.in_ok-inputs.ensures ∙ ap (part s.input n.inputs) c.inputs.ensures.pins in
    let outs = c.in_ok-outputs.ensures ∙ (λ i. part s.output (length (c.as_slice-shown.ensures i)) (c.outputs.ensures.pins i)) in
    let same : c.in_ok-config.config.config.shape ≡ w.config.shape = c.in_ok-config.ensures.shape ∙ ap (λ (g : Configuration). g.shape) c.config.ensures.config in
    cut_within s.input n.inputs s.output (length n.outputs) w c.inputs.ensures.right c.requires.inputs c.requires.outputs c.in_ok-inputs.inputs.items c.in_ok-outputs.outputs.items ins outs c.in_ok-config.config.config.shape same

pub new-requires-clause-apart : goal.new-requires-clause-apart
new-requires-clause-apart c =
    let s = c.args.site.now in
    let n = c.args.network.now in
    cut_apart s.input n.inputs s.output (length n.outputs) c.args.whole.now c.inputs.ensures.right c.requires.inputs c.requires.outputs c.in_ok-inputs.inputs.items c.in_ok-outputs.outputs.items
    (c.in_ok-inputs.ensures ∙ ap (part s.input n.inputs) c.inputs.ensures.pins) (c.in_ok-outputs.ensures ∙ (λ i. part s.output (length (c.as_slice-shown.ensures i)) (c.outputs.ensures.pins i)))

pub new-requires-clause-few : goal.new-requires-clause-few
new-requires-clause-few c =
    let w = c.args.whole.now in
    let s = c.args.site.now in
    let n = c.args.network.now in
    let p = c.args.plan.now in
    let owners = c.args.owners.now in
    let g = c.in_ok-config.config.config in
    let seats : c.some_seats-seats.result.now ≡ part s.table (length n.tables) p.tables = c.some_seats-seats.ensures ∙ (λ i. part s.table (length (c.as_slice-tables.ensures i)) (c.as_slice.ensures i)) in
    let share : IsShare s n owners (part s.table (length n.tables) p.tables) w.config g = subst (λ ts. IsShare s n owners ts w.config g) seats (subst (λ (z : Configuration). IsShare s n owners c.some_seats-seats.result.now z g) c.config.ensures.config c.in_ok-config.ensures) in
    closed_fit s n p owners w.config g share c.inputs.ensures.right.few

pub new-requires-clause-few_on : goal.new-requires-clause-few_on
new-requires-clause-few_on c =
    let w = c.args.whole.now in
    let s = c.args.site.now in
    let n = c.args.network.now in
    let p = c.args.plan.now in
    let owners = c.args.owners.now in
    let g = c.in_ok-config.config.config in
    let seats : c.some_seats-seats.result.now ≡ part s.table (length n.tables) p.tables = c.some_seats-seats.ensures ∙ (λ i. part s.table (length (c.as_slice-tables.ensures i)) (c.as_slice.ensures i)) in
    let share : IsShare s n owners (part s.table (length n.tables) p.tables) w.config g = subst (λ ts. IsShare s n owners ts w.config g) seats (subst (λ (z : Configuration). IsShare s n owners c.some_seats-seats.result.now z g) c.config.ensures.config c.in_ok-config.ensures) in
    on_fit s n p owners w.config g share c.requires.tables c.requires.few

pub returns : goal.returns
returns c =
    let w = c.args.whole.now in
    let s = c.args.site.now in
    let n = c.args.network.now in
    let p = c.args.plan.now in
    let owners = c.args.owners.now in
    let g = c.in_ok-config.config.config in
    let seats : c.some_seats-seats.result.now ≡ part s.table (length n.tables) p.tables = c.some_seats-seats.ensures ∙ (λ i. part s.table (length (c.as_slice-tables.ensures i)) (c.as_slice.ensures i)) in
    let share : IsShare s n owners (part s.table (length n.tables) p.tables) w.config g = subst (λ ts. IsShare s n owners ts w.config g) seats (subst (λ (z : Configuration). IsShare s n owners c.some_seats-seats.result.now z g) c.config.ensures.config c.in_ok-config.ensures) in
    let ins = c.in_ok-inputs.ensures ∙ ap (part s.input n.inputs) c.inputs.ensures.pins in
    let outs = c.in_ok-outputs.ensures ∙ (λ i. part s.output (length (c.as_slice-shown.ensures i)) (c.outputs.ensures.pins i)) in
    subst (IsTenant s n p owners w) (sym c.new.ensures.value) (record { share = share; inputs = ins; outputs = outs })
