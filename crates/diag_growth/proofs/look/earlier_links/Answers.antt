use Rattle.diag_growth.proofs.Vocabulary.{List, sym, subst, ◌∙◌, ◌<◌, arith, Shape, wires_of, AreLinksOf, IsFieldOf, AreEarlierUpTo, Support, at_index}
use Rattle.diag_growth.proofs.Looking.{earlier_none, earlier_next, earlier_all, other_within}
use Rattle.diag_growth.proofs.look.earlier_links.Goals as goal

pub links_of-requires : goal.links_of-requires
links_of-requires c = record {
  field = subst (λ (m : Shape). IsFieldOf m c.args.field.now) (sym c.shape.ensures) c.requires.field;
  wire = subst (λ (m : Shape). c.args.look.link.wire.0 < wires_of m) (sym c.shape.ensures) c.requires.other;
}

pub links-init : goal.links-init
links-init c = subst (λ (fs : List Support). AreEarlierUpTo c.in_ok-links.links.items c.args.known.now.steps c.args.look.place fs 0) (sym c.new-others.ensures.items) (earlier_none c.in_ok-links.links.items c.args.known.now.steps c.args.look.place)

pub put_earlier-requires-clause-wire : goal.put_earlier-requires-clause-wire
put_earlier-requires-clause-wire c =
    let here = at_index c.in_ok-links.links.items c.links.j c.index.result.now (let end = c.len-j-end.ensures in omega (arith, end)) c.index.ensures in
    subst (λ (m : Shape). c.index.result.now.wire.0 < wires_of m) (c.shape.ensures ∙ sym c.requires.known.shape) (other_within (c.the_numbering_is_sound.ensures.numbered c.shape.result) (c.in_ok-links.ensures.right c.links.j c.index.result.now here))

pub links-preserved : goal.links-preserved
links-preserved c = earlier_next (at_index c.in_ok-links.links.items c.links.j c.index.result.now (let end = c.len-j-end.ensures in omega (arith, end)) c.index.ensures) c.in_ok-put_earlier.ensures c.links.invariant

pub returns : goal.returns
returns c = earlier_all (subst (λ (m : Shape). AreLinksOf m c.args.field.now c.args.look.link.wire.0 c.in_ok-links.links.items) c.shape.ensures c.in_ok-links.ensures) (let end = c.len-j-end.ensures in omega (arith, end)) c.links.invariant
