use Rattle.diag_sweep.proofs.Vocabulary.{ℕ, ◌<◌, slice_index_or, table_wire, HangsOn}
use Rattle.diag_sweep.proofs.fits.has_inputs.Given as goal

abbrev pub invariant-inputs : goal.invariant-inputs
invariant-inputs l = (i : ℕ) → i < l.j → HangsOn l.forest (table_wire l.forest.shape l.t.0 i) (slice_index_or l.ins i 0)
