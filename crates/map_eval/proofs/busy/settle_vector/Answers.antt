use Rattle.std.proofs.Common.{◌∙◌, sym, ap, arith}
use Rattle.map_eval.proofs.BusyLemmas.{loaded, latched_loaded}
use Rattle.map_eval.proofs.busy.settle_vector.Goals as goal

pub returns-clause-inputs : goal.returns-clause-inputs
returns-clause-inputs c = c.settle_bits.ensures.inputs c.args.vector.now
    (loaded c.args.plan.now.network c.args.values.now c.args.bits.now c.load_values.new.bits c.load_inputs.new.bits c.args.vector.now c.requires.values
    c.load_inputs.ensures.len c.load_values.ensures.len c.requires.len c.requires.inputs c.requires.one c.load_values.ensures.rest c.load_inputs.ensures.inputs c.load_inputs.ensures.behind)

pub returns-clause-latched : goal.returns-clause-latched
returns-clause-latched c = latched_loaded c.args.plan.now.network c.args.values.now c.args.bits.now c.load_values.new.bits c.load_inputs.new.bits c.args.vector.now c.requires.values
    c.settle_bits.new.bits c.load_values.ensures.tables c.load_inputs.ensures.before c.settle_bits.ensures.latched

pub returns-clause-settled : goal.returns-clause-settled
returns-clause-settled c = c.settle_bits.ensures.settled c.args.vector.now
    (loaded c.args.plan.now.network c.args.values.now c.args.bits.now c.load_values.new.bits c.load_inputs.new.bits c.args.vector.now c.requires.values
    c.load_inputs.ensures.len c.load_values.ensures.len c.requires.len c.requires.inputs c.requires.one c.load_values.ensures.rest c.load_inputs.ensures.inputs c.load_inputs.ensures.behind)

pub load_values-requires : goal.load_values-requires
load_values-requires c = let v = c.requires.values in let b = c.requires.len in omega arith

pub load_inputs-requires : goal.load_inputs-requires
load_inputs-requires c = let v = c.requires.values in let i = c.requires.inputs in let b = c.requires.len in let l = c.load_values.ensures.len in omega arith

pub settle_bits-requires-clause-len : goal.settle_bits-requires-clause-len
settle_bits-requires-clause-len c = c.load_inputs.ensures.len ∙ c.load_values.ensures.len ∙ c.requires.len
