use Rattle.map_network.proofs.Vocabulary.{◌≡◌, ◌≤◌, ◌∙◌, ap, sym, get_or, length, arith, length_push, is_among}
use Rattle.map_network.proofs.NameLemmas.{names_kept, names_more, too_many}
use Rattle.map_network.proofs.names.distinct_names.Goals as goal

pub ins-preserved-then-is_among : goal.ins-preserved-then-is_among
ins-preserved-then-is_among c = (names_kept c.args.ins.now c.ins.names.items c.ins.k c.ins-test.true c.ins.invariant.0 (sym c.if-is_among.true ∙ c.is_among.ensures ∙ ap (λ ns. is_among ns (get_or c.args.ins.now c.ins.k 0)) c.deref.ensures.value), c.ins.invariant.1)

pub returns-then-len-eq-TABLE_INPUTS : goal.returns-then-len-eq-TABLE_INPUTS
returns-then-len-eq-TABLE_INPUTS c =
    let six : length c.ins.names.items ≡ 6 = omega arith in
    too_many c.args.ins.now c.ins.names.items c.ins.k c.ins-test.true c.ins.invariant.0 (sym c.if-is_among.false ∙ c.is_among.ensures ∙ ap (λ ns. is_among ns (get_or c.args.ins.now c.ins.k 0)) c.deref.ensures.value) six

pub ins-preserved : goal.ins-preserved
ins-preserved c =
    let e = ap length c.in_ok-push.ensures.items in
    let l : length c.push.new.self.items ≤ 6 = omega (arith, length_push c.ins.names.items (get_or c.args.ins.now c.ins.k 0), c.ins.invariant.1) in
    (names_more c.args.ins.now c.ins.names.items c.ins.k c.ins-test.true c.ins.invariant.0 (sym c.if-is_among.false ∙ c.is_among.ensures ∙ ap (λ ns. is_among ns (get_or c.args.ins.now c.ins.k 0)) c.deref.ensures.value) c.push.new.self.items c.in_ok-push.ensures.items, l)
