use Rattle.diag_check.proofs.laws.free_images_run_soundly.Goals as goal

pub returns : goal.returns
returns c = λ d f i is free covers. record {
  alone = c.fewer_faults_leave_alone.ensures.covered d i f is free covers;
  runs = record {
    alike = λ none empty vectors reads others p q. c.free_images_run_alike.ensures d i f none is free covers (c.every_list_covers_no_faults.ensures i.config.shape d none empty) vectors reads others p q;
  };
}
