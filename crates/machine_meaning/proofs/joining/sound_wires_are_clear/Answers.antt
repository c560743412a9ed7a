use Rattle.machine_meaning.proofs.Clear.{clear_of_sound, unshorted_of_sound}
use Rattle.machine_meaning.proofs.joining.sound_wires_are_clear.Goals as goal

pub returns : goal.returns
returns c = record { clear = λ m f w s. clear_of_sound s; alone = λ m f w u s n. unshorted_of_sound s n }
