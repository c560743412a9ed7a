use Rattle.diag_evidence.proofs.Vocabulary.{◌≡◌, ◌<◌, length, sym, ap, ◌∙◌, arith, length-set, table_wire, HangsOn, pin_of}
use Rattle.diag_evidence.proofs.Addresses.{input_set, input_loose}
use Rattle.diag_evidence.proofs.sheets.set_address.Goals as goal
use Rattle.diag_evidence.proofs.sheets.set_address.Goals.{in-Some, in_default}

pub set-requires : goal.set-requires
set-requires c =
    let hangs : HangsOn c.args.forest.now c.pin_of.result.0 c.in-Some.pin = sym c.pin_of-in-inputs.ensures ∙ c.in-Some.is in
    rw (c.inputs.invariant.len, c.requires.drive) (c.shape-shape.ensures.forest.led _ _ hangs).below

pub inputs-preserved : goal.inputs-preserved
inputs-preserved c =
    let wire : c.pin_of.result.0 ≡ table_wire c.args.forest.now.shape c.args.t.0 c.inputs.j = c.pin_of.ensures.wire ∙ ap (λ m. table_wire m c.args.t.0 c.inputs.j) c.shape-shape.ensures.shape in
    elim c.match-pin_of.branch [
      | in-Some w ↦ (
          let here : HangsOn c.args.forest.now c.pin_of.result.0 w.in-Some.pin = sym c.pin_of-in-inputs.ensures ∙ w.in-Some.is in
          let hangs : HangsOn c.args.forest.now (table_wire c.args.forest.now.shape c.args.t.0 c.inputs.j) w.in-Some.pin = ap (pin_of c.args.forest.now) (sym wire) ∙ here in
          let room : w.in-Some.pin < length c.inputs.drive = rw (c.inputs.invariant.len, c.requires.drive) (c.shape-shape.ensures.forest.led _ _ here).below in
          rw (w.drive-is, w.set.ensures) (record {
            address = input_set c.args.forest.now c.args.t.0 c.args.address c.inputs.j c.inputs.drive c.requires.inputs (omega arith) c.inputs.invariant.address w.in-Some.pin _ hangs room w.bit_of.ensures;
            len = length-set c.inputs.drive _ _ ∙ c.inputs.invariant.len;
          }))
      | in_default w ↦ rw w.drive-is (record {
        address = input_loose c.args.forest.now c.args.t.0 c.args.address c.inputs.j c.inputs.drive c.requires.inputs (omega arith) c.inputs.invariant.address
            (ap (pin_of c.args.forest.now) (sym wire) ∙ sym c.pin_of-in-inputs.ensures ∙ w.in_default.is);
        len = c.inputs.invariant.len;
      })
    ]
