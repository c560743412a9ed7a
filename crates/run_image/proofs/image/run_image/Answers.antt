use Rattle.run_image.proofs.image.run_image.Goals as goal

pub returns : goal.returns
returns g c = record { follows = c.run_copies.ensures.follows }
