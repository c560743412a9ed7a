use Rattle.place_plan.proofs.Vocabulary.{◌≡◌, ◌-◌, suc, length, serves_by, step_at, IsTrail, AreSeen, AreScanned, AskWithin}
use Rattle.place_plan.proofs.search.search.Given as goal

abbrev pub invariant-loop-h : goal.invariant-loop-h
invariant-loop-h l = record {
  trail : IsTrail (serves_by l.site.defects.now l.site.asks.now) l.site.lines.now l.owners l.steps.items;
  marks : AreSeen l.site.lines.now l.steps.items l.seen.items;
  scanned : AreScanned (serves_by l.site.defects.now l.site.asks.now) l.site.lines.now l.steps.items l.seen.items l.h;
  first : (step_at l.steps.items 0).ask ≡ l.ask;
  asks : AskWithin (length l.site.asks.now) l.steps.items;
}

abbrev pub decreases-loop-h : goal.decreases-loop-h
decreases-loop-h l = suc (length l.site.lines.now) - l.h
