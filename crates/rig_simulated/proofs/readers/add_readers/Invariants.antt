use Rattle.rig_simulated.proofs.Vocabulary.{◌≡◌, ◌≤◌, ◌<◌, ℕ, true, length, get_or, slice_index, Reader, is_marked, IsQueue, KeepsMarks}
use Rattle.rig_simulated.proofs.readers.add_readers.Given as goal

abbrev pub invariant-readers : goal.invariant-readers
invariant-readers l = record {
  queue : IsQueue l.queue;
  len : length l.queue.marks.items ≡ length l.fn.queue.marks.items;
  kept : KeepsMarks l.fn.queue.marks.items l.queue.marks.items;
  marked : (p : ℕ) (d : Reader) → slice_index l.readers.starts.items l.place ≤ p → p < l.i → is_marked l.queue.marks.items (get_or l.readers.list.items p d).place ≡ true;
}
