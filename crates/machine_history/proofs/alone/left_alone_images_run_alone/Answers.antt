use Rattle.machine_history.proofs.{Images.image_runs_alone, Images.always_alone, Leaving.covered_alone}
use Rattle.machine_history.proofs.alone.left_alone_images_run_alone.Goals as goal

pub returns : goal.returns
returns c = record {
  alone = λ i h none n vectors reads alone is left faultless p q. image_runs_alone i is h none faultless n vectors reads alone left p q;
  covered = λ d i h none vectors reads alone is free covers faultless p q.
      always_alone i is h none faultless
      (λ cycle instant. covered_alone d i (h cycle instant) (c.the_numbering_is_sound.ensures.numbered i.config.shape) is free (covers cycle instant))
      vectors reads alone p q;
}
