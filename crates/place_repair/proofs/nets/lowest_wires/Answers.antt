use Rattle.place_repair.proofs.Vocabulary.{◌≡◌, ◌<◌, sym, ap, ◌∙◌, subst, arith, wires_of, IsLowest}
use Rattle.place_repair.proofs.{Sieving.sieve_next, Sieving.sieve_all, Hanging.wire_within}
use Rattle.place_repair.proofs.nets.lowest_wires.Goals as goal

pub is_lowest-is-requires-clause-within : goal.is_lowest-is-requires-clause-within
is_lowest-is-requires-clause-within c = (let e : c.wires-w-end.result ≡ wires_of c.args.config.now.config.shape = c.wires-w-end.ensures.wires ∙ ap wires_of c.shape.ensures.shape in subst (λ n. c.loop-w.w < n) e c.loop-w-test.true)

pub loop-w-preserved : goal.loop-w-preserved
loop-w-preserved c = sieve_next (IsLowest c.args.config.now.config) c.loop-w.w c.is_lowest-is.result c.loop-w.lowest c.push_if.new.numbers c.is_lowest-is.ensures c.in_ok-push_if.ensures c.loop-w.invariant

pub returns : goal.returns
returns c =
    let e : c.wires-w-end.result ≡ wires_of c.args.config.now.config.shape = c.wires-w-end.ensures.wires ∙ ap wires_of c.shape.ensures.shape in
    let q : c.loop-w.w ≡ c.wires-w-end.result = omega arith in
    sieve_all (IsLowest c.args.config.now.config) c.loop-w.w c.loop-w.lowest
    (λ w is. subst (λ n. w < n) (sym (q ∙ e)) (wire_within c.args.config.now.config (c.the_numbering_is_sound.ensures.numbered c.args.config.now.config.shape) c.shape.ensures.right w is.touched)) c.loop-w.invariant
