use Rattle.diag_check.proofs.Vocabulary.{refl, map, drive_of}
use Rattle.diag_check.proofs.Covering.{others, image_free, no_registers, others_cover, same_registers, left_alone}
use Rattle.diag_check.proofs.laws.kept_images_run_soundly.Goals as goal

pub returns : goal.returns
returns c = λ k f i used is shape are holds keeps.
    let g = no_registers i used is are k f shape holds keeps in
    let sound = c.free_images_run_soundly.ensures (others i used is are) g i is (image_free i used is are) (others_cover i used is are k f shape holds keeps) in
    record {
      alone = left_alone i used is are k f shape holds keeps;
      runs = record {
        alike = λ none empty vectors reads more p q. sound.runs.alike none empty vectors reads more
            (c.stuck_registers_hold.ensures.combinational f g i.config refl refl refl refl (same_registers i used is are k f shape holds keeps) (map (drive_of i) vectors) reads p) q;
      };
    }
