use Rattle.diag_check.proofs.laws.no_faults_leave_images_unharmed.Goals as goal

pub returns : goal.returns
returns c = λ f i none wide.
    let m = i.config.shape in
    let wires = c.without_faults_all_is_sound.ensures.wires m f none in
    let crosses = c.without_faults_all_is_sound.ensures.crosses m f none in
    record {
      wide = wide;
      parts = record {
        wires = λ w _. wires w;
        crosses = λ x _. crosses x;
        tables = λ t _. c.without_faults_all_is_sound.ensures.tables m f none t;
      };
      surroundings = record { wires = λ w _. wires w; crosses = λ x _. crosses x };
    }
