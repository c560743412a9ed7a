use Rattle.machine_faults.proofs.Vocabulary.{◌≡◌, ◌++◌, map, take, written, fault_words}
use Rattle.machine_faults.proofs.write.put_faults.Given as goal

abbrev pub invariant-loop-fault : goal.invariant-loop-fault
invariant-loop-fault l = l.text.items ≡ l.fn.text.items ++ written (map (fault_words l.shape) (take l.fault-index l.faults))
