use Rattle.std.proofs.Common.{◌<◌, length, arith}
use Rattle.rig_simulated.proofs.Undoing.{take_shorter}
use Rattle.rig_simulated.proofs.closing.open_behind.Goals as goal

pub behind-preserved : goal.behind-preserved
behind-preserved c =
    let shorter = take_shorter c.args.classes.now.closed.items c.behind.classes.closed.items c.open_last.new.classes.closed.items c.behind.invariant.closed c.open_last.ensures.closed in
    record {
      count = (let l = shorter.0 in omega (arith, l, c.behind-test.true));
      openable = c.open_last.ensures.openable;
      stays = λ m f h. c.open_last.ensures.stays m f (c.behind.invariant.stays m f h);
      closed = shorter.1;
    }
