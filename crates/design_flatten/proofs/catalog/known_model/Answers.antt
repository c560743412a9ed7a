use Rattle.design_flatten.proofs.catalog.known_model.Goals as goal

pub returns : goal.returns
returns c = λ i. record { model = c.args.model; ports = c.in_ok-ports.ensures i; needs = c.in_ok-needs.ensures i }
