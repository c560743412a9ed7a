use Rattle.std.proofs.Common.{◌∙◌, ◌∷◌, ◌++◌, [], ap}
use Rattle.rig_port.proofs.Held.{posted_anew}
use Rattle.rig_port.proofs.port_board.restart.Goals as goal

pub returns-clause-posted : goal.returns-clause-posted
returns-clause-posted c = λ device shape.
    posted_anew device c.args.link.now.set.config.shape c.clear.new.self.config c.extend_from_slice.new.self.items shape c.clear.ensures.cleared
    (c.in_ok-extend_from_slice.ensures.items ∙ ap (λ l. l ++ 122 ∷ 32 ∷ []) c.clear-2.ensures.items)
