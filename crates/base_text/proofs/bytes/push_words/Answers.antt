use Rattle.base_text.proofs.Vocabulary.{◌<◌, ◌∙◌, length, map, arith, position_or_len, is_blank}
use Rattle.base_text.proofs.BytesLemmas.{words_more, words_end}
use Rattle.base_text.proofs.bytes.push_words.Goals as goal

pub returns-then-end-rest : goal.returns-then-end-rest
returns-then-end-rest c =
    c.in_ok-push_run.ensures ∙ rw c.blank_place-end.ensures.place (words_end (map (λ w. w.now) c.loop-rest.words.items) c.loop-rest.rest.now (omega arith)) ∙ c.loop-rest.invariant

pub loop-rest-preserved : goal.loop-rest-preserved
loop-rest-preserved c =
    let within : position_or_len is_blank c.loop-rest.rest.now < length c.loop-rest.rest.now = omega arith in
    rw (c.in_ok-push_run.ensures, c.bytes_after-rest.ensures, c.blank_place-end.ensures.place) (words_more (map (λ w. w.now) c.loop-rest.words.items) c.loop-rest.rest.now within) ∙ c.loop-rest.invariant
