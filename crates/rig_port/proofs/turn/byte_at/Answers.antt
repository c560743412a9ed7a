use Rattle.std.proofs.Common.{◌∙◌, ◌∷◌, [], get_or, ap}
use Rattle.rig_port.proofs.Taken.{byte_of}
use Rattle.rig_port.proofs.turn.byte_at.Goals as goal

pub returns : goal.returns
returns c = λ v small text.
    let digits = c.digit_at.result ∷ c.digit_at-2.result ∷ [] in
    byte_of digits c.decode_to_slice.new.out v _ _ small
    (ap (λ d. d ∷ c.digit_at-2.result ∷ []) c.digit_at.ensures ∙ ap (λ d. get_or c.args.reply.now c.args.place 48 ∷ d ∷ []) c.digit_at-2.ensures ∙ text)
    c.decode_to_slice.ensures.value
