use Rattle.std.proofs.Common.{◌∙◌, ap}
use Rattle.machine_defects.specs.Text.{counts_of}
use Rattle.machine_defects.proofs.Writing.{heads_are}
use Rattle.machine_defects.proofs.write.put_heads.Goals as goal

pub returns : goal.returns
returns c = heads_are c.counts_of.result (counts_of c.args.shape.now.counts) c.args.text.now.items c.extend_from_slice.new.self.items c.put_numbers.new.text.items c.push.new.self.items
    (c.counts_of.ensures.counts ∙ ap counts_of c.counts.ensures) c.in_ok-extend_from_slice.ensures.items c.in_ok-put_numbers.ensures c.in_ok-push.ensures.items
