use Rattle.diag_sweep.proofs.Vocabulary.{◌<◌, ◌∙◌, length, sym, subst, ap, ℕ, length-replicate, length-set, wires_of, HasWire}
use Rattle.diag_sweep.proofs.Chosen.{among_next, among_none}
use Rattle.diag_sweep.proofs.choice.known_among.Goals as goal

pub places-init : goal.places-init
places-init c = record {
  len = ap length c.in_ok-set.ensures ∙ length-replicate _ _ ∙ c.wires.ensures.wires ∙ ap wires_of c.shape.ensures;
  known = among_none c.in_ok-set.set _ c.in_ok-set.ensures;
}

pub insert-requires : goal.insert-requires
insert-requires c = subst (λ (n : ℕ). c.wire_at-wire.result.0 < n) (sym c.places.invariant.len) c.wire_at-wire.ensures.within

pub places-preserved : goal.places-preserved
places-preserved c = record {
  len = ap length c.insert.ensures ∙ length-set _ _ _ ∙ c.places.invariant.len;
  known = among_next c.places.set c.insert.new.self c.wire_at-wire.result.0 c.places.invariant.known (record { place = c.places.place; at = c.wire_at-wire.ensures.at }) c.insert.ensures;
}
