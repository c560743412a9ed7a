use Rattle.rig_port.proofs.Vocabulary.{◌≡◌, length, sym, length-take-le, All-take, pins_of, Pins}
use Rattle.rig_port.proofs.Held.{front_lengths}
use Rattle.rig_port.proofs.resume.redrive_first.Goals as goal

pub returns-clause-lengths : goal.returns-clause-lengths
returns-clause-lengths g c = front_lengths _ c.args.spare.now c.redrive.new.spare c.redrive.ensures.lengths

pub redrive-requires-clause-rows : goal.redrive-requires-clause-rows
redrive-requires-clause-rows g c = record {
  wide = All-take (λ (row : Pins). length row ≡ pins_of c.args.link.now.set.config.shape) _ c.args.spare.now c.requires.spare;
  as_many = sym (length-take-le _ c.args.spare.now c.requires.as_many);
}
