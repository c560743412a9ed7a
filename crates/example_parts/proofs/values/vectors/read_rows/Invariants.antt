use Rattle.std.proofs.Common.{◌≡◌, length, IsSome}
use Rattle.example_parts.proofs.values.vectors.read_rows.Given as goal

abbrev pub invariant-vectors : goal.invariant-vectors
invariant-vectors l = IsSome l.store.current × (l.text.width ≡ 1) × (l.line ≡ 1) × (length l.row.items ≡ 1)
