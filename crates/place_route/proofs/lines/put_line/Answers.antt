use Rattle.place_route.proofs.Lining.{is_put}
use Rattle.place_route.proofs.lines.put_line.Goals as goal

pub returns : goal.returns
returns c = is_put c.args.visit c.args.lines.now c.insert.new.self c.in_ok-insert.ensures.updates.0
