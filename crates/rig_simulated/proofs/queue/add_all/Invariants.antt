use Rattle.rig_simulated.proofs.Vocabulary.{◌≡◌, ◌<◌, ℕ, true, length, is_marked, IsQueue}
use Rattle.rig_simulated.proofs.queue.add_all.Given as goal

abbrev pub invariant-places : goal.invariant-places
invariant-places l = record {
  queue : IsQueue l.queue;
  len : length l.queue.marks.items ≡ length l.fn.queue.marks.items;
  marked : (i : ℕ) → i < l.k → is_marked l.queue.marks.items i ≡ true;
}
