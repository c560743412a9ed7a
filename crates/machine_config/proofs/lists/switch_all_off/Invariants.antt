use Rattle.machine_config.proofs.Vocabulary.{◌≡◌, vec_capacity, AreListed}
use Rattle.machine_config.proofs.lists.switch_all_off.Given as goal

abbrev pub invariant-loop-t : goal.invariant-loop-t
invariant-loop-t l = AreListed l.tables l.on.items × (vec_capacity l.on ≡ vec_capacity l.initial.on)

abbrev pub decreases-loop-t : goal.decreases-loop-t
decreases-loop-t l = goal.left-loop-t l
