use Rattle.diag_evidence.proofs.Vocabulary.{◌≡◌, ◌∷◌, map, range_with_len, none_driven, one_driven}
use Rattle.diag_evidence.proofs.looks.look_drives.Given as goal

abbrev pub invariant-pins : goal.invariant-pins
invariant-pins l = l.drives.items ≡ none_driven l.pins ∷ map (one_driven l.pins) (range_with_len 0 l.k)
