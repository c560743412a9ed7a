use Rattle.std.proofs.Common.{refl, true}
use Rattle.rig_port.proofs.Resumed.{resumes_behind, rows_beside}
use Rattle.rig_port.proofs.port_board.post_session.Goals as goal

pub returns-clause-resumes : goal.returns-clause-resumes
returns-clause-resumes c = λ device.
    let old = c.args.link.now.set.config.shape in
    resumes_behind c.post.result device c.post.new.link (record c.args.again.now { whole = c.post.new.whole; made = 0; covers = true }) c.args.config.now.config
    (rows_beside old c.post.new.link.set.config.shape c.args.again.now _ c.post.ensures.shape refl refl refl refl c.requires.rows) refl c.post.ensures.posted c.post.ensures.anew
    c.post.ensures.lost
