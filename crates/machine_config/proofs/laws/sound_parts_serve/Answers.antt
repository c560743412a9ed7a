use Rattle.machine_config.proofs.{Parts.loose_of_sound, Passing.driven_in}
use Rattle.machine_config.proofs.laws.sound_parts_serve.Goals as goal

pub returns : goal.returns
returns c = record { driven = driven_in; loose = loose_of_sound }
