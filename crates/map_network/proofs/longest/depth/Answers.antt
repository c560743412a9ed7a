use Rattle.map_network.proofs.Vocabulary.{arith, ap, length, subst, IsMost, AreMarks, level_at}
use Rattle.map_network.proofs.SearchLemmas.{no_path_yet, depth_is}
use Rattle.map_network.proofs.longest.depth.Goals as goal

pub tables-init : goal.tables-init
tables-init c = record {
  searching = no_path_yet c.args.network.now c.in_ok-marks_of.field-0.items (subst (λ t. AreMarks t (length t) c.in_ok-marks_of.field-0.items) c.as_slice-tables.ensures (c.in_ok-marks_of.ensures {u = tt})) c.new.result.items c.new.ensures.items;
  ended = c.new.ensures.items;
  seen = λ j lj. absurd (omega arith);
}

pub returns : goal.returns
returns c = depth_is c.args.network.now c.tables.search.marks.items c.tables.search.path.items c.tables.invariant.searching c.tables.invariant.ended (λ j lj. c.tables.invariant.seen j (omega (arith, lj, ap length c.as_slice-tables.ensures))) c.most_of_all.result (subst (λ m. IsMost (level_at m) (length m) c.most_of_all.result) c.deref.ensures.value c.most_of_all.ensures)
