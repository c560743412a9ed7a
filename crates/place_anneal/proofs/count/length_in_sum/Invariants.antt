use Rattle.place_anneal.proofs.Vocabulary.{◌≡◌, ◌≤◌, ◌*◌, length, take, sum_by}
use Rattle.place_anneal.proofs.count.length_in_sum.Given as goal

abbrev pub invariant-loop-list : goal.invariant-loop-list
invariant-loop-list l = (l.sum ≡ sum_by length (take l.list-index l.lists)) × (l.sum ≤ l.list-index * 18446744073709551615)
