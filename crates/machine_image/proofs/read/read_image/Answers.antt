use Rattle.machine_image.proofs.Vocabulary.{◌+◌, refl, subst, sym, arith, IsImage, Reads}
use Rattle.machine_image.proofs.Ends.{refused_as, pins_refused, settings_refused, image_read}
use Rattle.machine_image.proofs.read.read_image.Goals as goal

pub returns-in-Err-clause-refused : goal.returns-in-Err-clause-refused
returns-in-Err-clause-refused c =
    refused_as c.args.shape.now c.args.bytes.now c.limits_of.ensures (omega (arith, c.if-bytes-gt-MOST_BYTES.false)) c.in-Err.fault c.in-Err.ensures.refused

pub returns-in-Err-read_pins-clause-refused : goal.returns-in-Err-read_pins-clause-refused
returns-in-Err-read_pins-clause-refused c =
    pins_refused c.args.shape.now c.args.bytes.now c.limits_of.ensures (omega (arith, c.if-bytes-gt-MOST_BYTES.false))
    c.in-Ok.head c.in-Ok.ensures.found c.read_pins.new.at (c.in-Ok.head.inputs + c.in-Ok.head.outputs) refl c.in-Err-read_pins.fault c.in-Err-read_pins.ensures.refused

pub returns-in-Ok-read_settings-clause-found : goal.returns-in-Ok-read_settings-clause-found
returns-in-Ok-read_settings-clause-found c =
    subst (Reads c.args.shape.now c.args.bytes.now) (sym c.new.ensures.value)
    (image_read c.args.shape.now c.args.bytes.now c.limits_of.ensures (omega (arith, c.if-bytes-gt-MOST_BYTES.false))
    c.in-Ok.head c.in-Ok.ensures.found c.read_pins.new.at (c.in-Ok.head.inputs + c.in-Ok.head.outputs) refl c.in-Ok-read_pins.pins.items c.in-Ok-read_pins.ensures.found
    c.split_off.new.self.items c.in-Ok-split_off.outputs.items c.in-Ok-split_off.ensures.items c.in-Ok-split_off.ensures.tail c.in-Ok-read_settings.config.config
    (subst IsImage c.new.ensures.value c.new.ensures.right) c.in-Ok-read_settings.ensures.found)

pub returns-in-Err-read_settings-clause-refused : goal.returns-in-Err-read_settings-clause-refused
returns-in-Err-read_settings-clause-refused c =
    settings_refused c.args.shape.now c.args.bytes.now c.limits_of.ensures (omega (arith, c.if-bytes-gt-MOST_BYTES.false))
    c.in-Ok.head c.in-Ok.ensures.found c.read_pins.new.at (c.in-Ok.head.inputs + c.in-Ok.head.outputs) refl c.in-Ok-read_pins.pins.items c.in-Ok-read_pins.ensures.found
    c.in-Err-read_settings.fault c.in-Err-read_settings.ensures.refused
