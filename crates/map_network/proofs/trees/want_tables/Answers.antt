use Rattle.std.proofs.Common.{◌∙◌, ◌++◌, ◌∷◌, [], ap}
use Rattle.map_network.proofs.TreeLemmas.{wants_more}
use Rattle.map_network.proofs.trees.want_tables.Goals as goal

pub tables-preserved : goal.tables-preserved
tables-preserved c = wants_more c.args.first c.tables.k c.tables.wants.items c.push.new.self.items c.tables.invariant (c.in_ok-push.ensures.items ∙ ap (λ w. c.tables.wants.items ++ w ∷ []) c.want_table.ensures)
