use Rattle.rig_port.proofs.Vocabulary.{◌≡◌, take, sum_by, word_room}
use Rattle.rig_port.proofs.respell.room_of.Given as goal

abbrev pub invariant-rows : goal.invariant-rows
invariant-rows l = l.total ≡ sum_by word_room (take l.k l.rows)
