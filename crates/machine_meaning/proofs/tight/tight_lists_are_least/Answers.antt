use Rattle.machine_meaning.proofs.Tightness.{least, one_free}
use Rattle.machine_meaning.proofs.tight.tight_lists_are_least.Goals as goal

pub returns-clause-least : goal.returns-clause-least
returns-clause-least c = λ m d f are tight. least m (c.the_numbering_is_sound.ensures.numbered m) d f are tight

pub returns-clause-one : goal.returns-clause-one
returns-clause-one c = λ m d f are covers tight w below clear could.
    one_free m (c.the_numbering_is_sound.ensures.numbered m) f are d covers tight w below clear could
