use Rattle.diag_growth.proofs.rest.rest_of.Goals as goal

pub returns : goal.returns
returns c = record { wires = c.in_ok-wires.ensures; len = c.in_ok-crosses.ensures.len; only = c.in_ok-crosses.ensures.only; whole = c.in_ok-crosses.ensures.whole }
