use Rattle.rig_simulated.proofs.Vocabulary.{◌<◌, length, rules, arith, get_or_default, Reader}
use Rattle.std.proofs.lemmas.List.Sorted.{IsNonDecreasingBy-from_sort_by_key, All-permutation}
use Rattle.rig_simulated.proofs.Reading.{listed_more, listed_sorted}
use Rattle.rig_simulated.proofs.readers.fill_list.Goals as goal

pub gates-preserved : goal.gates-preserved
gates-preserved c = record {
  within = c.in_ok-push_readers.ensures.within (length c.args.gates.now) c.gates-test.true c.gates.invariant.within;
  listed = listed_more c.args.gates.now c.gates.k _ c.gates.list.items c.push_readers.new.list.items c.gates.invariant.listed c.gates-test.true (get_or_default c.args.gates.now c.gates.k _ _ c.gates-test.true) c.in_ok-push_readers.ensures;
}

pub returns-clause-sorted : goal.returns-clause-sorted
returns-clause-sorted c = IsNonDecreasingBy-from_sort_by_key (λ (x : Reader). x.class) _ c.sort_unstable_by_key.ensures.sorted (λ a r q k. search rules)

pub returns-clause-within : goal.returns-clause-within
returns-clause-within c = All-permutation (λ (x : Reader). x.place < length c.args.gates.now) c.gates.list.items c.sort_unstable_by_key.new.self.items c.sort_unstable_by_key.ensures.permutation c.gates.invariant.within

pub returns-clause-listed : goal.returns-clause-listed
returns-clause-listed c = listed_sorted c.args.gates.now (length c.args.gates.now) c.gates.k c.gates.list.items c.sort_unstable_by_key.new.self.items c.sort_unstable_by_key.ensures.permutation (omega arith) c.gates.invariant.listed
