use Rattle.std.proofs.Common.{sym, ◌∙◌, arith}
use Rattle.diag_sweep.proofs.Coursing.{loose_first, loose_more}
use Rattle.diag_sweep.proofs.paths.are_loose.Goals as goal

pub wire_at-w-requires : goal.wire_at-w-requires
wire_at-w-requires c = let many = c.requires in omega (arith, many)

pub places-init : goal.places-init
places-init c = loose_first c.args.forest.now c.args.lead.now

pub places-preserved : goal.places-preserved
places-preserved c = loose_more c.args.forest.now c.args.lead.now c.places.k c.wire_at-w.result.0 c.wire_at-w.ensures (sym c.if-hangs.false ∙ c.hangs.ensures) c.places.invariant

pub returns : goal.returns
returns c = λ _ i some_ less. c.places.invariant i some_ (omega (arith, less))
