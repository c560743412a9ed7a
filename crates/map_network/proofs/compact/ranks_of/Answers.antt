use Rattle.map_network.proofs.Vocabulary.{◌+◌, ◌∙◌, ap, sym, get_or, false, arith, rank}
use Rattle.map_network.proofs.CompactLemmas.{ranks_none, ranks_more, rank_step, rank_zero, one_unless_le}
use Rattle.map_network.proofs.compact.ranks_of.Goals as goal

pub tables-init : goal.tables-init
tables-init c = record {
  ranks = ranks_none c.args.dropped.now c.in_ok-ranks.ranks.items c.in_ok-ranks.ensures.items;
  count = sym (rank_zero c.args.dropped.now);
  few = omega arith;
}

pub tables-preserved : goal.tables-preserved
tables-preserved c = record {
  ranks = ranks_more c.args.dropped.now c.tables.j c.tables.count c.tables.ranks.items c.push.new.self.items c.tables.invariant.ranks c.tables.invariant.count c.in_ok-push.ensures.items;
  count = ap (λ n. n + c.one_unless-count.result) c.tables.invariant.count ∙ ap (λ n. rank c.args.dropped.now c.tables.j + n) c.one_unless-count.ensures ∙ sym (rank_step c.args.dropped.now c.tables.j c.tables-test.true);
  few = (let f = c.tables.invariant.few in let o = c.one_unless-count.ensures in let l = one_unless_le (get_or c.args.dropped.now c.tables.j false) in omega arith);
}
