use Rattle.place_plan.proofs.Vocabulary.{length, serves_by, IsScanning, AskWithin}
use Rattle.place_plan.proofs.search.scan.Given as goal

abbrev pub invariant-loop-j : goal.invariant-loop-j
invariant-loop-j l = record {
  scanning : IsScanning (serves_by l.site.defects.now l.site.asks.now) l.site.lines.now l.owners l.fn.steps.items l.steps.items l.seen l.h l.ask l.j;
  asks : AskWithin (length l.site.asks.now) l.steps.items;
}
