use Rattle.rig_board.proofs.Vocabulary.{ap, option_map, session_of}
use Rattle.rig_board.proofs.Logging.{logged_set}
use Rattle.rig_board.proofs.board_rig.BoardRigRig.load.Goals as goal

pub invariant_of-self-clause-logged : goal.invariant_of-self-clause-logged
invariant_of-self-clause-logged g c =
    logged_set c.args.config.now.config (session_of c.in-Ok.kept) (ap (option_map session_of) c.end.ensures.none) c.in-Ok.ensures.config c.in-Ok.ensures.cycles
    c.in-Ok-set_up.ensures.set_for_each c.end.new.self.logged
