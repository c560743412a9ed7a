use Rattle.machine_image.proofs.Vocabulary.{subst, ticks_fault, IsField, IsRefusedField}
use Rattle.machine_image.proofs.Heads.{any_field, magic_refused, counts_refused, ticks_refused, inputs_refused, outputs_refused, head_read}
use Rattle.machine_image.proofs.read.read_head.Goals as goal

pub returns-in-Err-clause-refused : goal.returns-in-Err-clause-refused
returns-in-Err-clause-refused c = magic_refused c.args.shape.now c.args.bytes.now c.in-Err.fault c.in-Err.ensures.refused

pub returns-in-Err-read_counts-clause-refused : goal.returns-in-Err-read_counts-clause-refused
returns-in-Err-read_counts-clause-refused c =
    counts_refused c.args.shape.now c.args.bytes.now c.in_default.field-0 c.in_default.ensures.found c.in-Err-read_counts.fault c.in-Err-read_counts.ensures.refused

pub returns-in-Err-ticks-clause-refused : goal.returns-in-Err-ticks-clause-refused
returns-in-Err-ticks-clause-refused c =
    ticks_refused c.args.shape.now c.args.bytes.now c.in_default.field-0 c.in_default.ensures.found c.in-Ok.at c.in-Ok.ensures.found c.in-Err-ticks.fault
    (subst (λ z. IsRefusedField 2 (ticks_fault z) c.args.bytes.now c.in-Ok.at c.in-Err-ticks.fault) c.most_ticks.ensures c.in-Err-ticks.ensures.refused)

pub returns-in-Err-take2-clause-refused : goal.returns-in-Err-take2-clause-refused
returns-in-Err-take2-clause-refused c =
    inputs_refused c.args.shape.now c.args.bytes.now c.in_default.field-0 c.in_default.ensures.found c.in-Ok.at c.in-Ok.ensures.found c.in-Ok-ticks.ticks
    (subst (λ z. IsField 2 (ticks_fault z) c.args.bytes.now c.in-Ok.at c.in-Ok-ticks.ticks) c.most_ticks.ensures c.in-Ok-ticks.ensures.found) c.in-Err-take2.fault c.in-Err-take2.ensures.refused

pub returns-in-Err-take2-2-clause-refused : goal.returns-in-Err-take2-2-clause-refused
returns-in-Err-take2-2-clause-refused c =
    outputs_refused c.args.shape.now c.args.bytes.now c.in_default.field-0 c.in_default.ensures.found c.in-Ok.at c.in-Ok.ensures.found c.in-Ok-ticks.ticks
    (subst (λ z. IsField 2 (ticks_fault z) c.args.bytes.now c.in-Ok.at c.in-Ok-ticks.ticks) c.most_ticks.ensures c.in-Ok-ticks.ensures.found)
    c.in-Ok-take2.inputs (any_field c.in-Ok-take2.inputs c.in-Ok-take2.ensures.found c.in-Ok-take2.ensures.within) c.in-Err-take2-2.fault c.in-Err-take2-2.ensures.refused

pub returns-clause-found : goal.returns-clause-found
returns-clause-found c =
    head_read c.args.shape.now c.args.bytes.now c.in_default.field-0 c.in_default.ensures.found c.in-Ok.at c.in-Ok.ensures.found c.in-Ok-ticks.ticks
    (subst (λ z. IsField 2 (ticks_fault z) c.args.bytes.now c.in-Ok.at c.in-Ok-ticks.ticks) c.most_ticks.ensures c.in-Ok-ticks.ensures.found)
    c.in-Ok-take2.inputs (any_field c.in-Ok-take2.inputs c.in-Ok-take2.ensures.found c.in-Ok-take2.ensures.within)
    c.in-Ok-take2-2.outputs (any_field c.in-Ok-take2-2.outputs c.in-Ok-take2-2.ensures.found c.in-Ok-take2-2.ensures.within)
