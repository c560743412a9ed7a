use Rattle.std.specs.Prelude.{slice_index}
use Rattle.rig_simulated.proofs.ranks.rank_all.Goals as goal

pub returns-then-are_ranked-clause-settles : goal.returns-then-are_ranked-clause-settles
returns-then-are_ranked-clause-settles c = λ _. record { rank = slice_index c.passes.ranks; ranked = c.are_ranked.ensures c.if-are_ranked.true }

pub returns-clause-settles : goal.returns-clause-settles
returns-clause-settles c = λ e. record { rank = slice_index c.passes.ranks; ranked = c.are_ranked-2.ensures e }
