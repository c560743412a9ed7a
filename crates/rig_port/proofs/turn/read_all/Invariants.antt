use Rattle.rig_port.proofs.Vocabulary.{◌≡◌, List, Pins, KeepLengths, Check, reading_line}
use Rattle.rig_port.proofs.Taken.{AreRead}
use Rattle.rig_port.proofs.turn.read_all.Given as goal

abbrev pub invariant-reads : goal.invariant-reads
invariant-reads l = KeepLengths l.initial.reads l.reads
    × ((c : Check) (rows : List Pins) → KeepLengths l.initial.reads rows → l.reply ≡ reading_line c rows → AreRead c l.reads rows l.k l.at l.reply)
