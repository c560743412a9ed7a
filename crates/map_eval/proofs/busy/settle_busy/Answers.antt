use Rattle.map_eval.proofs.Vocabulary.{◌∙◌, List, Bool, sym, ap, length, subst, value_in, one_of, HaveInputs, AreTrueTo}
use Rattle.map_eval.proofs.StateLemmas.{whole_items}
use Rattle.map_eval.proofs.busy.settle_busy.Goals as goal

pub returns-clause-busy : goal.returns-clause-busy
returns-clause-busy c = (
    let all = whole_items c.args.busy.now.bits c.settle_vector.new.bits (c.settle_vector.ensures.len ∙ ap length c.deref_mut.ensures.value) in
    record {
      wires = c.requires.busy.wires;
      len = ap length all ∙ c.settle_vector.ensures.inputs.len;
      one = ap (λ (bits : List Bool). value_in bits (one_of c.args.plan.now.network)) all ∙ c.settle_vector.ensures.inputs.one;
    })

pub returns-clause-inputs : goal.returns-clause-inputs
returns-clause-inputs c =
    subst (HaveInputs c.args.plan.now.network c.args.vector.now) (sym (whole_items c.args.busy.now.bits c.settle_vector.new.bits (c.settle_vector.ensures.len ∙ ap length c.deref_mut.ensures.value))) c.settle_vector.ensures.inputs

pub returns-clause-latched : goal.returns-clause-latched
returns-clause-latched c = λ t l.
    ap (λ (bits : List Bool). value_in bits t) (whole_items c.args.busy.now.bits c.settle_vector.new.bits (c.settle_vector.ensures.len ∙ ap length c.deref_mut.ensures.value)) ∙ c.settle_vector.ensures.latched t l

pub returns-clause-settled : goal.returns-clause-settled
returns-clause-settled c =
    let n = c.args.plan.now.network in
    subst (λ (bits : List Bool). AreTrueTo n (length n.tables) c.args.vector.now bits) (sym (whole_items c.args.busy.now.bits c.settle_vector.new.bits (c.settle_vector.ensures.len ∙ ap length c.deref_mut.ensures.value))) c.settle_vector.ensures.settled
