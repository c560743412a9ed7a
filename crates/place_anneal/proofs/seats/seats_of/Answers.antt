use Rattle.place_anneal.proofs.Seating.{tables_within}
use Rattle.place_anneal.proofs.seats.seats_of.Goals as goal

pub taken_seats-requires : goal.taken_seats-requires
taken_seats-requires c = tables_within _ _ _ _ c.shape-shape.ensures.shape c.requires
