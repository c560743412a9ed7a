use Rattle.machine_defects.proofs.Vocabulary.{◌≡◌, ◌++◌, map, written, those, entry_words, as_cross}
use Rattle.std.specs.FinSet as set
use Rattle.machine_defects.proofs.write.put_crosses.Given as goal

abbrev pub invariant-crosses : goal.invariant-crosses
invariant-crosses l = l.text.items ≡ l.fn.text.items ++ written (map (entry_words l.list.shape) (map as_cross (those (set.contains l.list.list.crosses) l.x)))
