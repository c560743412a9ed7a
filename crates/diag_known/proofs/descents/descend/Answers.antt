use Rattle.diag_known.proofs.Vocabulary.{List, sym, subst, Descends, Down}
use Rattle.diag_known.proofs.Rising.{descends_more}
use Rattle.diag_known.proofs.descents.descend.Goals as goal

pub down-preserved : goal.down-preserved
down-preserved c = record {
  two = c.places_after.ensures.two;
  steps = subst (λ (ds : List Down). Descends c.args.facts.now c.args.known.now.steps c.args.from c.args.other ds c.places_after.result.0 c.places_after.result.1) (sym c.in_ok-push.ensures.items)
      (descends_more c.args.from c.args.other c.down.downs.items c.down.invariant.steps c.places_after.ensures.goes);
}
