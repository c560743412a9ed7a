use Rattle.design_eval.proofs.Vocabulary.{length, places}
use Rattle.design_eval.proofs.ReaderLemmas.{keys-sorted, latches-sorted, in-order}
use Rattle.design_eval.proofs.readers.keys_of.Goals as goal

pub returns-clause-keys : goal.returns-clause-keys
returns-clause-keys c =
    keys-sorted c.args.covers.now (places c.args.turns.now) (length c.args.turns.now) c.push_latches.new.keys.items c.sort.new.self.items
    (λ k i lk li. c.in_ok-push_latches.ensures.more _ (c.in_ok-keys.ensures k i lk li)) c.in_ok-sort.ensures.permutation

pub returns-clause-latches : goal.returns-clause-latches
returns-clause-latches c =
    latches-sorted (length c.args.turns.now) c.args.reads.now c.push_latches.new.keys.items c.sort.new.self.items c.in_ok-push_latches.ensures.keys c.in_ok-sort.ensures.permutation

pub returns-clause-sorted : goal.returns-clause-sorted
returns-clause-sorted c = in-order c.sort.new.self.items c.in_ok-sort.ensures.sorted
