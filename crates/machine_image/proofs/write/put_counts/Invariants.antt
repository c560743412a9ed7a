use Rattle.machine_image.proofs.Vocabulary.{◌≡◌, ◌++◌, take, flat_map, two}
use Rattle.machine_image.proofs.write.put_counts.Given as goal

abbrev pub invariant-counts : goal.invariant-counts
invariant-counts l = l.out.items ≡ l.initial.out.items ++ flat_map two (take l.i l.counts)
