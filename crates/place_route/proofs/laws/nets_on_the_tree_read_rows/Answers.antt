use Rattle.std.proofs.Common.{◌≡◌, Some}
use Rattle.place_route.proofs.Routed.{set_is_free, tree_reads_rows}
use Rattle.place_route.proofs.laws.nets_on_the_tree_read_rows.Goals as goal

pub returns-clause-free : goal.returns-clause-free
returns-clause-free c = λ d n p g plan set. set_is_free d n p g plan set

pub returns-clause-rows : goal.returns-clause-rows
returns-clause-rows c = λ f d n p g line port formed plan set laid deep covers. tree_reads_rows d n p g plan (λ a k w. line a k ≡ Some w) (λ a k w. port a k ≡ Some w) (c.the_numbering_is_sound.ensures.numbered g.shape) (c.the_numbering_is_sound.ensures.tree g.shape) formed laid f set deep covers
