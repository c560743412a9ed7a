use Rattle.std.proofs.Common.{◌≡◌, ◌<◌, ◌+◌, ◌*◌, ◌++◌, ◌∷◌, [], ◌∙◌, ℕ, List, sym, ap, map, get_or, length, arith}
use Rattle.map_network.proofs.Vocabulary.{get_or-map, length-map, length-append, length_push, map-append, Source, Input, is_among, number}
use Rattle.map_network.proofs.AddressLemmas.{table_skipped, name_kept, name_added, too_many_names}
use Rattle.map_network.proofs.joining.together.Goals as goal

in_both : (first second : List Source) (k : ℕ) → k < length first + length second → k < length (map number (first ++ second))
in_both first second k l = omega (arith, length-append first second, length-map (first ++ second) number)

number_at : (first second : List Source) (k : ℕ) (s : Source) → k < length first + length second → s ≡ get_or (first ++ second) k (Input 0) → number s ≡ get_or (map number (first ++ second)) k 0
number_at first second k s l e = ap number e ∙ sym (get_or-map number (first ++ second) k (Input 0) 0 (omega (arith, length-append first second)))

pub both-preserved-then-number : goal.both-preserved-then-number
both-preserved-then-number c = (table_skipped (2 * c.args.table + 1) (map number (c.args.first.now ++ c.args.second.now)) c.both.k (in_both c.args.first.now c.args.second.now c.both.k c.both-test.true) (map number c.both.sources) c.both.invariant.0 (sym (number_at c.args.first.now c.args.second.now c.both.k c.source_of_both-source.result c.both-test.true c.source_of_both-source.ensures) ∙ sym c.number.ensures ∙ c.if-number.true ∙ c.number-in-both.ensures), c.both.invariant.1)

pub both-preserved-then-is_in : goal.both-preserved-then-is_in
both-preserved-then-is_in c =
    let at = number_at c.args.first.now c.args.second.now c.both.k c.source_of_both-source.result c.both-test.true c.source_of_both-source.ensures in
    (name_kept (2 * c.args.table + 1) (map number (c.args.first.now ++ c.args.second.now)) c.both.k (in_both c.args.first.now c.args.second.now c.both.k c.both-test.true) (map number c.both.sources) c.both.invariant.0 (λ e. c.if-number.false (c.number.ensures ∙ at ∙ e ∙ sym c.number-in-both.ensures)) (sym c.if-is_in.true ∙ c.is_in.ensures ∙ ap (λ ss. is_among (map number ss) (number c.source_of_both-source.result)) c.as_slice.ensures.sources ∙ ap (is_among (map number c.both.sources)) at), c.both.invariant.1)

pub returns-then-as_slice-eq-TABLE_INPUTS : goal.returns-then-as_slice-eq-TABLE_INPUTS
returns-then-as_slice-eq-TABLE_INPUTS c =
    let at = number_at c.args.first.now c.args.second.now c.both.k c.source_of_both-source.result c.both-test.true c.source_of_both-source.ensures in
    let six : length (map number c.both.sources) ≡ 6 = omega (arith, length-map c.both.sources number, ap length c.as_slice-in-both.ensures.sources) in
    too_many_names (2 * c.args.table + 1) (map number (c.args.first.now ++ c.args.second.now)) c.both.k (in_both c.args.first.now c.args.second.now c.both.k c.both-test.true) (map number c.both.sources) c.both.invariant.0 (λ e. c.if-number.false (c.number.ensures ∙ at ∙ e ∙ sym c.number-in-both.ensures)) (sym c.if-is_in.false ∙ c.is_in.ensures ∙ ap (λ ss. is_among (map number ss) (number c.source_of_both-source.result)) c.as_slice.ensures.sources ∙ ap (is_among (map number c.both.sources)) at) six

pub both-preserved : goal.both-preserved
both-preserved c =
    let at = number_at c.args.first.now c.args.second.now c.both.k c.source_of_both-source.result c.both-test.true c.source_of_both-source.ensures in
    let less : length c.both.sources < 6 = omega (arith, ap length c.as_slice-in-both.ensures.sources, c.both.invariant.1) in (
      ap (map number) c.push.ensures
          ∙ map-append number c.both.sources (c.source_of_both-source.result ∷ [])
          ∙ ap (λ x. map number c.both.sources ++ x ∷ []) at
          ∙ name_added (2 * c.args.table + 1) (map number (c.args.first.now ++ c.args.second.now)) c.both.k (in_both c.args.first.now c.args.second.now c.both.k c.both-test.true) (map number c.both.sources) c.both.invariant.0 (λ e. c.if-number.false (c.number.ensures ∙ at ∙ e ∙ sym c.number-in-both.ensures)) (sym c.if-is_in.false ∙ c.is_in.ensures ∙ ap (λ ss. is_among (map number ss) (number c.source_of_both-source.result)) c.as_slice.ensures.sources ∙ ap (is_among (map number c.both.sources)) at),
      omega (arith, ap length c.push.ensures, length_push c.both.sources c.source_of_both-source.result),
    )
