use Rattle.map_text.proofs.RemapLemmas.{own-text}
use Rattle.map_text.proofs.laws.own_texts_are_remapped.Goals as goal

pub returns : goal.returns
returns c = λ d text is short. own-text d text is short
