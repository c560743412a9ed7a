use Rattle.rig_port.proofs.Vocabulary.{◌≡◌, length, ahead}
use Rattle.rig_port.proofs.Heard.{HasDropped}
use Rattle.rig_port.proofs.talk.listen.Given as goal

abbrev pub invariant-parts : goal.invariant-parts
invariant-parts g l = record {
  length : length l.reply ≡ length l.initial.reply;
  dropped : HasDropped l.initial.is_cut l.is_cut l.request (ahead l.initial.rest (g.F.Read.remaining l.initial.from)) (ahead l.rest (g.F.Read.remaining l.from)) l.dropped;
}
