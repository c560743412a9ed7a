use Rattle.std.proofs.Common.{◌≡◌, Some}
use Rattle.place_route.proofs.Turns.{route_reads_rows}
use Rattle.place_route.proofs.laws.laid_out_nets_read_rows.Goals as goal

pub returns : goal.returns
returns c = λ f d n p g owner formed laid deep covers. route_reads_rows d n p g (λ k w. owner w ≡ Some k) f (c.the_numbering_is_sound.ensures.numbered g.shape) formed laid covers deep
