use Rattle.std.specs.Option.{option_to_list}
use Rattle.design_flatten.proofs.MarkLemmas.{on_ok, latch_taken}
use Rattle.design_flatten.proofs.needs.add_latch.Goals as goal

pub returns : goal.returns
returns c =
    on_ok c.add_control.result _ _
    (latch_taken c.args.marked.now c.add_signal.new.marked c.add_signal-2.new.marked c.add_control.new.marked c.args.latch.now.from c.args.latch.now.out (option_to_list c.args.control.now) c.in_ok-add_signal.ensures c.in_ok-add_signal-2.ensures)
    c.add_control.ensures
