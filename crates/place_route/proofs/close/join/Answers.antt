use Rattle.std.proofs.{Common.sym, lemmas.Result.on_ok_weaker}
use Rattle.place_route.proofs.Joining.{join_one}
use Rattle.place_route.proofs.close.join.Goals as goal

pub returns-in-Some-cross : goal.returns-in-Some-cross
returns-in-Some-cross c =
    let at = c.in-Some-cross.ensures.found in
    on_ok_weaker c.close_cross.result (λ made. join_one c.args.shape c.args.lines.now (c.the_crosspoints_are_sound.ensures.crosses c.args.shape) c.args.node.0 c.args.net.0 c.args.wire.0 c.in-Some.line c.in-Some-cross.cross.0 c.args.config.now.config c.close_cross.new.self.config (sym c.in-Some.ensures) at.0 at.1 made) c.close_cross.ensures.closed
