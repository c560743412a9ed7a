use Rattle.std.proofs.Common.{◌≡◌, ◌<◌, ◌+◌, ◌∙◌, length, take, ap, arith, ◌||◌}
use Rattle.diag_evidence.proofs.Vocabulary.{has_number, among, length-set, take_all, among_at}
use Rattle.diag_evidence.proofs.KeptLemmas.{mark_next}
use Rattle.diag_evidence.proofs.facts.mark_wires.Goals as goal

pub insert-requires : goal.insert-requires
insert-requires c =
    let below : c.wires.k < length c.args.route.now.wires = omega arith in
    rw c.wires.invariant.len_is (c.requires _ (among_at c.args.route.now.wires c.wires.k _ below c.wire_at.ensures))

pub wires-preserved : goal.wires-preserved
wires-preserved c =
    let below : c.wires.k < length c.args.route.now.wires = omega arith in
    let within : c.wire_at.result.0 < length c.wires.wires = rw c.wires.invariant.len_is (c.requires _ (among_at c.args.route.now.wires c.wires.k _ below c.wire_at.ensures)) in
    rw c.insert.ensures (record {
      marked = mark_next c.args.route.now.wires c.wires.k _ _ c.wires.wires below c.wire_at.ensures within c.wires.invariant.marked;
      len_is = length-set c.wires.wires _ _ ∙ c.wires.invariant.len_is;
    })

pub returns-2-clause-marked : goal.returns-2-clause-marked
returns-2-clause-marked c =
    let below : c.wires.k < length c.args.route.now.wires = omega arith in
    let within : c.wire_at.result.0 < length c.wires.wires = rw c.wires.invariant.len_is (c.requires _ (among_at c.args.route.now.wires c.wires.k _ below c.wire_at.ensures)) in
    let whole : take (c.wires.k + 1) c.args.route.now.wires ≡ c.args.route.now.wires = take_all (c.wires.k + 1) c.args.route.now.wires (omega arith) in
    rw c.insert.ensures (λ w. mark_next c.args.route.now.wires c.wires.k _ _ c.wires.wires below c.wire_at.ensures within c.wires.invariant.marked w
    ∙ ap (λ ws. among ws w || has_number c.args.wires.now w) whole)
