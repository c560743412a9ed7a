use Rattle.place_plan.proofs.Vocabulary.{range_with_len, serves_by, IsPartial}
use Rattle.place_plan.proofs.keeping.owners_by.Given as goal

abbrev pub invariant-asks : goal.invariant-asks
invariant-asks l = IsPartial (serves_by l.site.defects.now l.site.asks.now) l.site.lines.now (range_with_len 0 l.k) l.owners.items
