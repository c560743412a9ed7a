use Rattle.run_image.proofs.Vocabulary.{◌≡◌, ◌*◌, List, Bool, map, take, length, All, rows_in, driven}
use Rattle.run_image.proofs.run.put_vectors.Given as goal

abbrev pub invariant-rows : goal.invariant-rows
invariant-rows l = record {
  from : l.from ≡ l.k * length l.pins;
  count : length l.drives ≡ length l.fn.drives;
  driven_so : take l.k l.drives ≡ map (λ (v : List Bool). driven l.pins v l.other) (take l.k (rows_in l.count (length l.pins) l.vectors));
  wide : All (λ drive. length drive ≡ length l.other) l.drives;
}
