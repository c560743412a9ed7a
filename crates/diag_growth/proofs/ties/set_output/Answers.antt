use Rattle.diag_growth.proofs.Tying.{output_of}
use Rattle.diag_growth.proofs.ties.set_output.Goals as goal

pub returns : goal.returns
returns c = output_of c.args.seat.now _ _ c.clear.ensures.items c.in_ok-push.ensures.items
