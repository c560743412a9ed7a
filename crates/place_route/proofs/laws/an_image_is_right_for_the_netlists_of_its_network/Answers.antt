use Rattle.place_route.proofs.Reading.{right_image}
use Rattle.place_route.proofs.laws.an_image_is_right_for_the_netlists_of_its_network.Goals as goal

pub returns : goal.returns
returns c = λ f i n netlist has reads. right_image n netlist f i has reads
