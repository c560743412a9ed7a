use Rattle.rig_port.proofs.Vocabulary.{◌≡◌, ◌≢◌, take, length, All, Consumes, ahead}
use Rattle.rig_port.proofs.talk.read_line.Given as goal

abbrev pub invariant-bytes : goal.invariant-bytes
invariant-bytes g l = (length l.into ≡ length l.initial.into)
    × Consumes (ahead l.initial.rest (g.F.Read.remaining l.initial.from)) (ahead l.rest (g.F.Read.remaining l.from)) (take l.k l.into)
    × All (λ byte. byte ≢ 10) (take l.k l.into)
