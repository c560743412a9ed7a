use Rattle.machine_image.proofs.Alike.{runs_alike}
use Rattle.machine_image.proofs.laws.free_images_run_alike.Goals as goal

pub returns : goal.returns
returns c = λ d i f h is free cf ch vectors reads others p q. runs_alike d i (c.the_numbering_is_sound.ensures.numbered i.config.shape) is free f h cf ch vectors p q
