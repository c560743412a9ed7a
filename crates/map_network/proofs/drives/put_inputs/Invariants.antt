use Rattle.map_network.proofs.Vocabulary.{◌≡◌, drop, length, written, input_drives}
use Rattle.map_network.proofs.drives.put_inputs.Given as goal

abbrev pub invariant-inputs : goal.invariant-inputs
invariant-inputs l = record { len : length l.sources.items ≡ length l.fn.sources.items; sources : written l.sources.items (input_drives l.k (drop l.k l.inputs)) ≡ written l.fn.sources.items (input_drives 0 l.inputs) }
