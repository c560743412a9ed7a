use Rattle.map_network.proofs.Vocabulary.{◌+◌, vec_len, IsFollowing, marked_in}
use Rattle.map_network.proofs.useless.follow.Given as goal

abbrev pub invariant-tables : goal.invariant-tables
invariant-tables l = IsFollowing l.network l.marks.items l.queue.items

abbrev pub decreases-tables : goal.decreases-tables
decreases-tables l = marked_in l.marks.items + vec_len l.queue
