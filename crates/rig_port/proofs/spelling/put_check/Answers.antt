use Rattle.rig_port.proofs.Vocabulary.{◌∙◌, ◌++◌, ◌∷◌, [], ap, encode_lower, after, check_bytes}
use Rattle.rig_port.proofs.Spelled.{octets_step}
use Rattle.rig_port.proofs.spelling.put_check.Goals as goal

pub returns-clause-spelled : goal.returns-clause-spelled
returns-clause-spelled c =
    let now = c.with_body-now.result in
    let begun = c.args.line.now.items ++ 42 ∷ [] in
    c.push_reserved-2.ensures.items
    ∙ ap (λ l. l ++ 10 ∷ []) (c.put_byte-2.ensures.spelled
    ∙ ap (λ l. l ++ encode_lower (now.plain ∷ [])) (c.put_byte.ensures.spelled ∙ ap (λ l. l ++ encode_lower (now.weighted ∷ [])) c.push_reserved.ensures.items)
    ∙ octets_step begun now.weighted (now.plain ∷ [])
    ∙ ap (λ k. begun ++ encode_lower (check_bytes k)) (c.with_body-now.ensures ∙ ap (after c.args.check) c.deref.ensures.value))
