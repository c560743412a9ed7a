use Rattle.machine_history.proofs.Leaving.{covered_alone, faultless_alone, fewer_alone}
use Rattle.machine_history.proofs.alone.fewer_faults_leave_alone.Goals as goal

pub returns : goal.returns
returns c = record {
  covered = λ d i f is free covers. covered_alone d i f (c.the_numbering_is_sound.ensures.numbered i.config.shape) is free covers;
  faultless = faultless_alone;
  fewer = λ whole tenant f more among alone. fewer_alone f more among whole tenant alone;
}
