use Rattle.rig_port.proofs.Vocabulary.{◌≡◌, ◌-◌, ◌<◌, length, All, pins_of}
use Rattle.rig_port.proofs.parse.read_drives.Given as goal

abbrev pub invariant-words : goal.invariant-words
invariant-words l = (0 < length l.drives.items) × All (λ row. length row ≡ pins_of l.shape) l.drives.items

abbrev pub decreases-words : goal.decreases-words
decreases-words l = length l.body - l.at
