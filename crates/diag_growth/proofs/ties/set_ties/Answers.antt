use Rattle.diag_growth.proofs.Vocabulary.{◌/◌, ◌∙◌, refl, ap, sym, subst, arith, among, cross_numbers, bit_of, AreSeatTies}
use Rattle.diag_growth.proofs.Tying.{first_of, ties_next, halves_next, read_at}
use Rattle.diag_growth.proofs.ties.set_ties.Goals as goal

pub inputs-init : goal.inputs-init
inputs-init c = record { ties = first_of c.args.seat.now (bit_of c.args.address) _ _ c.clear.ensures.items c.in_ok-push.ensures.items; rest = refl }

pub inputs-preserved : goal.inputs-preserved
inputs-preserved c = record {
  ties = ties_next c.args.seat.now c.args.address c.inputs.input c.inputs.rest c.index.result.now _ _
      (read_at c.args.seat.now.arms.items c.inputs.input c.index.result.now _ (let a = c.inputs-test.true in let b = c.requires in omega arith) c.index.ensures)
      c.inputs.invariant.rest c.in_ok-push_low.ensures.low (λ e x. ap (λ xs. among (cross_numbers xs) x) (c.in_ok-push_low.ensures.high e)) c.inputs.invariant.ties;
  rest = ap (λ r. r / 2) c.inputs.invariant.rest ∙ sym (halves_next c.args.address c.inputs.input);
}

pub returns : goal.returns
returns c = subst (λ n. AreSeatTies c.args.seat.now (bit_of c.args.address) n (among (cross_numbers c.inputs.ties.items))) (let a = c.inputs.auto.input-end in let b = c.inputs-test.false in omega arith) c.inputs.invariant.ties
