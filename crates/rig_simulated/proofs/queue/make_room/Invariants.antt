use Rattle.rig_simulated.proofs.Vocabulary.{◌≡◌, ℕ, false, length, is_marked}
use Rattle.rig_simulated.proofs.queue.make_room.Given as goal

abbrev pub invariant-places : goal.invariant-places
invariant-places l = record {
  count : l.queue.count ≡ 0;
  due : length l.queue.due.items ≡ l._k;
  marks : length l.queue.marks.items ≡ l._k;
  none : (k : ℕ) → is_marked l.queue.marks.items k ≡ false;
}
