use Rattle.std.proofs.Common.{refl}
use Rattle.rig_board.proofs.Logging.{explained, found_at}
use Rattle.rig_board.proofs.exact.log_explained.Goals as goal

pub returns-clause-found : goal.returns-clause-found
returns-clause-found g c = λ m at. found_at _ _ _ _ m (λ a. refl) c.args.rig.now.linked.found at

pub returns-clause-each : goal.returns-clause-each
returns-clause-each g c = λ d b m at faults. explained _ c.args.rig.now.logged d b m at faults
