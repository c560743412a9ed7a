use Rattle.std.proofs.Common.{◌∙◌, ◌<◌, ◌+◌, ◌*◌, refl, sym, subst, arith}
use Rattle.diag_known.proofs.Linking.{below_earlier, below_first, below_past, below_pushed, earlier_more, link_in_field, listed_first, listed_more, listed_none, listed_past, more_pushed, ordered_pushed, precedes_row, right_pushed, row_ascends}
use Rattle.diag_known.specs.Vocabulary.{across_of}
use Rattle.diag_known.proofs.links.put_row.Goals as goal

pub returns-in_default-clause-listed : goal.returns-in_default-clause-listed
returns-in_default-clause-listed c = listed_none c.args.shape.now c.args.field.now c.args.links.now.items c.args.look.across c.args.look.from.0 c.args.node.0 c.in_default.ensures.none

pub returns-in_default-clause-earlier : goal.returns-in_default-clause-earlier
returns-in_default-clause-earlier c = earlier_more c.args.shape.now c.args.links.now.items (omega arith) c.requires.earlier

pub places-init : goal.places-init
places-init c = record {
  right = c.requires.right;
  ordered = c.requires.ordered;
  below = below_first c.args.shape.now c.args.links.now.items c.args.node.0 _ c.requires.earlier;
  stays = λ x u h. h;
  listed = listed_first c.args.shape.now c.args.field.now c.args.links.now.items c.args.look.across c.args.look.from.0 c.args.node.0;
}

pub has-requires : goal.has-requires
has-requires c = subst (λ n. c.in-Some.row.first + c.places.place * c.in-Some.row.step < n) (sym c.requires.field.crosses) (c.in-Some.ensures.row.within c.places.place (let end = c.width-place-end.ensures in omega (arith, end)))

pub places-preserved-then-not-has : goal.places-preserved-then-not-has
places-preserved-then-not-has c =
    let low : c.places.place < across_of c.args.shape.now c.args.look.across c.args.node.0 = (let end = c.width-place-end.ensures in omega (arith, end)) in
    record {
      right = c.places.invariant.right;
      ordered = c.places.invariant.ordered;
      below = below_past c.args.shape.now c.places.links.items c.args.node.0 (row_ascends c.in-Some.ensures.row c.places.place) c.places.invariant.below;
      stays = c.places.invariant.stays;
      listed = listed_past c.args.field.now c.places.links.items (c.the_crosspoints_are_sound.ensures.crosses c.args.shape.now) c.in-Some.ensures.row low c.places.invariant.listed (sym c.has.ensures ∙ c.if-not-has.true);
    }

pub places-preserved : goal.places-preserved
places-preserved c =
    let low : c.places.place < across_of c.args.shape.now c.args.look.across c.args.node.0 = (let end = c.width-place-end.ensures in omega (arith, end)) in
    let pushed = c.in_ok-push.ensures.items in
    let old = c.places.invariant in
    record {
      right = right_pushed c.args.shape.now c.args.field.now c.args.look.from.0 c.places.links.items _ pushed old.right (link_in_field c.in-Some.ensures.row low refl c.wire_across-wire.ensures.wire (sym c.has.ensures ∙ c.if-not-has.false));
      ordered = ordered_pushed c.args.shape.now c.places.links.items _ pushed old.ordered (precedes_row c.places.links.items old.below (c.in-Some.ensures.row.node c.places.place low));
      below = below_pushed c.args.shape.now c.places.links.items _ c.args.node.0 pushed (c.in-Some.ensures.row.node c.places.place low) (row_ascends c.in-Some.ensures.row c.places.place) old.below;
      stays = λ x u h. more_pushed _ pushed x u (old.stays x u h);
      listed = listed_more c.args.field.now c.places.links.items _ (c.the_crosspoints_are_sound.ensures.crosses c.args.shape.now) c.in-Some.ensures.row low old.listed pushed refl c.wire_across-wire.ensures.wire;
    }

pub returns-clause-earlier : goal.returns-clause-earlier
returns-clause-earlier c = below_earlier c.args.shape.now c.places.links.items c.places.invariant.below

pub returns-clause-listed : goal.returns-clause-listed
returns-clause-listed c = λ i x less. c.places.invariant.listed i x (let end = c.width-place-end.ensures in let t = c.places-test.false in omega (arith, end, t, less))

pub overflow_mul-cross : goal.overflow_mul-cross
overflow_mul-cross c =
    let within = c.in-Some.ensures.row.within c.places.place (let end = c.width-place-end.ensures in omega (arith, end)) in
    let few = c.crosses-crosses.ensures.few in
    let is = c.crosses-crosses.ensures.crosses in
    omega (arith, within, few, is)

pub overflow_add-cross : goal.overflow_add-cross
overflow_add-cross c =
    let within = c.in-Some.ensures.row.within c.places.place (let end = c.width-place-end.ensures in omega (arith, end)) in
    let few = c.crosses-crosses.ensures.few in
    let is = c.crosses-crosses.ensures.crosses in
    omega (arith, within, few, is)
