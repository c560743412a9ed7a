use Rattle.std.proofs.Common.{◌∙◌}
use Rattle.base_text.proofs.BytesLemmas.{has_bad_byte_words}
use Rattle.base_text.proofs.bytes.has_bad_byte.Goals as goal

pub returns : goal.returns
returns c = c.any_bad.ensures ∙ has_bad_byte_words c.args.words.now
