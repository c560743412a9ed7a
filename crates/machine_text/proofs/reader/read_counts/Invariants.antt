use Rattle.machine_text.proofs.Vocabulary.{◌≡◌, ℕ, ◌<◌, true, [], length, map, take, get_or, list_all}
use Rattle.machine_text.specs.Reading.{value_of, is_count}
use Rattle.machine_text.proofs.reader.read_counts.Given as goal

abbrev pub invariant-loop-i : goal.invariant-loop-i
invariant-loop-i l = record {
  sound : list_all is_count (take l.i (map (λ w. w.now) l.words)) ≡ true;
  values : (k : ℕ) → k < l.i → get_or l.counts k 0 ≡ value_of (get_or (map (λ w. w.now) l.words) k []);
  size : length l.counts ≡ length l.words;
}
