use Rattle.std.proofs.Common.{◌≡◌, ◌∙◌, ◌+◌, ◌++◌, ◌∷◌, [], ap, sym, take, length, arith, Some, None, cond}
use Rattle.design_flatten.proofs.Vocabulary.{take_more, length-take-le, option_or, bytes_eq, place_in}
use Rattle.design_flatten.proofs.ClockLemmas.{place_push}
use Rattle.design_flatten.proofs.clocks.places_of.Goals as goal

pub names-preserved : goal.names-preserved
names-preserved c w =
    let ns = c.args.names.now in
    let i = c.names.place in
    let n = c.index-names-place.result in
    let more : take (i + 1) ns ≡ take i ns ++ n ∷ [] = take_more ns i n c.names-test.true ∙ ap (λ m. take i ns ++ m ∷ []) (sym c.index-names-place.is) in
    let len : length (take i ns) ≡ i = length-take-le i ns (omega (arith, c.names-test.true)) in
    c.in_ok-add_name.ensures w
    ∙ (λ j. option_or (c.names.invariant w j) (cond (bytes_eq w (c.as_slice.ensures j)) (Some (sym len j)) None))
    ∙ sym (place_push (take i ns) n w) ∙ ap (λ xs. place_in xs w) (sym more)
