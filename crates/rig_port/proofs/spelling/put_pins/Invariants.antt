use Rattle.rig_port.proofs.Vocabulary.{◌≡◌, ◌+◌, ◌-◌, ◌*◌, ◌≤◌, ◌++◌, vec_len, vec_capacity, encode_lower, octets_below}
use Rattle.rig_port.proofs.spelling.put_pins.Given as goal

abbrev pub invariant-octets : goal.invariant-octets
invariant-octets l = (l.line.items ++ encode_lower (octets_below l.pins (l.count - l.k)) ≡ l.initial.line.items ++ encode_lower (octets_below l.pins l.count))
    × (vec_len l.line ≡ vec_len l.initial.line + 2 * l.k)
    × (vec_capacity l.initial.line ≤ vec_capacity l.line)
