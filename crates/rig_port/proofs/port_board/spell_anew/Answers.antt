use Rattle.std.proofs.Common.{◌∙◌, ◌++◌, ◌∷◌, [], sym, ap}
use Rattle.rig_port.proofs.Resumed.{anew_of}
use Rattle.rig_port.proofs.port_board.spell_anew.Goals as goal

pub returns-clause-anew : goal.returns-clause-anew
returns-clause-anew c =
    anew_of c.args.set.now.config.shape c.clear.new.self.config c.put_edits.new.set.config c.args.config.now.config c.extend_from_slice.new.self.items c.put_edits.new.line.items
    c.clear.ensures.cleared (c.in_ok-extend_from_slice.ensures.items ∙ ap (λ l. l ++ 122 ∷ 32 ∷ []) c.clear-2.ensures.items) c.in_ok-put_edits.ensures.made c.in_ok-put_edits.ensures.same
    (sym c.requires)
