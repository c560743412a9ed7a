use Rattle.rig_simulated.proofs.Vocabulary.{◌<◌, length, All, Reader, AreListed}
use Rattle.rig_simulated.proofs.readers.fill_list.Given as goal

abbrev pub invariant-gates : goal.invariant-gates
invariant-gates l = record {
  within : All (λ (x : Reader). x.place < length l.gates) l.list.items;
  listed : AreListed l.gates l.k l.list.items;
}
