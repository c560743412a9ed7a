use Rattle.std.proofs.Common.{arith}
use Rattle.diag_known.proofs.Crosswise.{across_asked, across_more, has_after}
use Rattle.diag_known.proofs.Grounding.{founds_none, founds_then}
use Rattle.diag_known.proofs.looks.take_across.Goals as goal

pub places-init : goal.places-init
places-init c = record {
  ground = c.requires.ground;
  founds = founds_none;
  looked = λ i less. absurd (let no : ⊥ = omega (arith, less) in no);
  stands = c.requires.stands;
}

pub places-preserved : goal.places-preserved
places-preserved c =
    let old = c.places.invariant in
    let next = c.in_ok-take_to.ensures in
    record {
      ground = next.ground;
      founds = founds_then old.founds next.founds;
      looked = across_more next.founds c.args.look.across c.args.look.from.0 c.args.node.0 c.places.place c.wire_across-to.result.0 old.looked (across_asked c.args.look.across c.args.node.0 c.places.place c.shape-shape.ensures c.wire_across-to.ensures.wire) next.looked;
      stands = has_after next.founds old.stands;
    }
