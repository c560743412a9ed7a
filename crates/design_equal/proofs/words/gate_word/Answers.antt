use Rattle.design_equal.proofs.Vocabulary.{Bool, ◌&&◌, ap, ◌∙◌, is_bit, and-bit}
use Rattle.design_equal.proofs.PlanLemmas.{local_bit}
use Rattle.design_equal.proofs.words.gate_word.Goals as goal

pub returns : goal.returns
returns c = λ lane ll.
    and-bit c.literal_word-left_word.result c.literal_word-right_word.result lane
    ∙ ap (λ (b : Bool). b && is_bit c.literal_word-right_word.result lane) (c.literal_word-left_word.ensures lane ll)
    ∙ ap (λ (b : Bool). local_bit c.args.words.now lane c.args.left && b) (c.literal_word-right_word.ensures lane ll)
