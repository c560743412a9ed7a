use Rattle.rig_port.proofs.Vocabulary.{◌≡◌, ◌+◌, ◌≤◌, ◌∷◌, [], take, vec_len, join_by, sum_by, vec_capacity, pin_text, word_room}
use Rattle.rig_port.proofs.spelling.put_readings.Given as goal

abbrev pub invariant-reads : goal.invariant-reads
invariant-reads l = (l.line.items ≡ 61 ∷ join_by pin_text (32 ∷ []) (take l.k l.reads))
    × (vec_len l.line ≤ 1 + sum_by word_room (take l.k l.reads))
    × (vec_capacity l.initial.line ≤ vec_capacity l.line)
