use Rattle.rig_board.proofs.Vocabulary.{◌≡◌, ◌++◌, ◌∙◌, ap, set_of}
use Rattle.rig_board.proofs.SameSets.{closed_is}
use Rattle.rig_board.proofs.kept.Kept.new.Goals as goal

pub returns-clause-config : goal.returns-clause-config
returns-clause-config c =
    let same : c.extend_from_slice.new.self.items ≡ c.closed.result.now = c.in_ok-extend_from_slice.ensures.items ∙ ap (λ xs. xs ++ c.closed.result.now) c.new-closed.ensures.items in
    let closed = ap set_of same ∙ closed_is c.args.config.now.config c.closed.result.now c.closed.ensures in
    λ i. record { shape = c.shape-shape.ensures.shape i; closed = closed i; tables = c.in_ok-tables.ensures i; ticks = c.ticks.ensures i }
