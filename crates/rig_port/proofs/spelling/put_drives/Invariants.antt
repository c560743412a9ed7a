use Rattle.rig_port.proofs.Vocabulary.{◌≡◌, ◌+◌, ◌≤◌, ◌++◌, take, vec_len, sum_by, vec_capacity, word_room, drives_text}
use Rattle.rig_port.proofs.spelling.put_drives.Given as goal

abbrev pub invariant-drives : goal.invariant-drives
invariant-drives l = (l.line.items ≡ l.initial.line.items ++ drives_text (take l.k l.drives))
    × (vec_len l.line ≤ vec_len l.initial.line + sum_by word_room (take l.k l.drives))
    × (vec_capacity l.initial.line ≤ vec_capacity l.line)
