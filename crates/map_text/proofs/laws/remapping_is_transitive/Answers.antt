use Rattle.map_text.proofs.RemapLemmas.{remapped-then}
use Rattle.map_text.proofs.laws.remapping_is_transitive.Goals as goal

pub returns : goal.returns
returns c = λ d e f text again first second. remapped-then d e f text again first second
