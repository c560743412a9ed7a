-- What a `bench` that is done has done.
use Rattle.std.specs.Prelude.{◌≡◌, ℕ, ◌-◌, map, length, Some}
use Rattle.base_io.specs.Vocabulary.{next_count, Wrote}
use Rattle.machine_shape.specs.declared.Shape.{Shape}
use Rattle.machine_meaning.specs.Faults.{Faults}
use Rattle.design_netlist.specs.{declared.netlist_data.NetlistData.NetlistData, Rows.AreRows}
use Rattle.design_blif.specs.Designs.{IsDesign}
use Rattle.machine_image.specs.Images.{ImageValue, IsImage, drive_of, image_row}
use Rattle.place_route.specs.RightImages.{IsRightImage}
use Rattle.rig.specs.Rig.{Explains, config_of, cycles_of, drives_of, readings_of}
use Rattle.machine_bench.specs.Work as work
use Rattle.cmd_steps.specs.Outside.{Outside}
use Rattle.diag_list.specs.Lists.{Listed, IsListed}
use Rattle.place_design.specs.Laying.{IsRoutedDesign}
use Rattle.cmd_bench.specs.{Summary.summary_text, Bench.bench_machine, Bench.bench_vectors, Bench.ones_of}

-- Of the rig's one session: its configuration, with one input pin and two output pins, is `image`
pub record IsBenched (n : ℕ) (old new : Outside) : Type 0 where
  -- a machine of the generator's counts is attached under the name of the number
  pub shape : Shape
  pub counts : shape.counts ≡ work.bench_counts
  pub attached : new.rig.machine.attached ≡ Some (bench_machine n shape)
  -- its defects are listed, a diagnosis by all that was read. One load was made after those of the list
  pub made : Listed
  pub is_listed : IsListed shape old.rig.loads new.rig made
  pub loads : new.rig.loads ≡ next_count made.loads
  pub draft : NetlistData
  pub design : IsDesign work.bench_design draft
  -- the session's configuration is that of an image with a pin for each input and output of the design
  pub image : ImageValue
  pub is_image : IsImage image
  pub image_shape : image.config.shape ≡ shape
  pub one_input : length image.inputs ≡ 1
  pub two_outputs : length image.outputs ≡ 2
  -- on the list no table is on and no crosspoint closed that the design doesn't need
  pub routed : IsRoutedDesign made.list draft image
  pub config : config_of new.rig ≡ Some image.config
  -- it has a cycle for each vector, which it drove
  pub drives : drives_of (cycles_of new.rig) ≡ map (drive_of image) (bench_vectors n)
  -- the summary is written, with the ones that were read and the loads that were made
  pub ones : ℕ
  pub ones_are : ones ≡ ones_of (map (image_row image) (readings_of (cycles_of new.rig)))
  pub written : Wrote old.sink.written new.sink.written (summary_text n 17 18 ones (new.rig.loads - old.rig.loads))
  -- the image is right for the design under each set of faults that explains what was read, which is the design's rows if there is one
  pub right : (f : Faults) → Explains f new.rig → IsRightImage f image draft
  pub rows : (f : Faults) → Explains f new.rig →
      AreRows draft (bench_vectors n) (map (image_row image) (readings_of (cycles_of new.rig)))
