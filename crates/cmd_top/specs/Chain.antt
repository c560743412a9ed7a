-- One command's output is another's file, and one command comes behind another.
use Rattle.std.specs.Prelude.{◌≡◌, ℕ, List, [], map, Some}
use Rattle.base_io.specs.Told.{holds}
use Rattle.machine_meaning.specs.Vocabulary.{Covers, Faults, IsFaultless, Pins}
use Rattle.machine_config.specs.Faulty.{IsRun}
use Rattle.design_netlist.specs.Rows.{AreRows}
use Rattle.machine_image.specs.Images.{drive_of, image_row}
use Rattle.machine_history.specs.Vocabulary.{AreAmong, History, IsRunOver}
use Rattle.rig.specs.Rig.{Explains, cycles_of, drives_of, readings_of}
use Rattle.cmd_steps.specs.Outside.{Outside}
use Rattle.cmd_check.specs.{Headline.IsChecked, declared.answer.Answer.TheVariants.Sound}
use Rattle.cmd_compile.specs.Headline.{IsCompiled}
use Rattle.cmd_diagnose.specs.Headline.{IsDiagnosed}
use Rattle.cmd_run.specs.Headline.{IsRan}

-- ---- a file that was written

-- what a command wrote to an empty sink is a file of a later one with the same machine text
pub record IsHandedOn (machine file : List ℕ) (done handed : Outside) (old : Outside) : Type 0 where
  pub empty : old.sink.written ≡ Some []
  pub bytes : List ℕ
  pub written : done.sink.written ≡ Some bytes
  pub told : handed.store.contents file ≡ holds bytes
  pub machine_file : List ℕ
  pub machine_told : old.store.contents machine ≡ holds machine_file
  pub machine_again : handed.store.contents machine ≡ holds machine_file

-- Of an image that `compile` wrote: where faults that the list covers explain what was read, the rows that `run` wrote are the design's
abbrev pub RunsTheDesign : (machine defects design name image vectors : List ℕ) → (old compiled handed ran : Outside) → Type 0
RunsTheDesign machine defects design name image vectors old compiled handed ran =
    (c : IsCompiled machine defects design old compiled) → (r : IsRan machine name image vectors handed ran) →
    IsHandedOn machine image compiled handed old → (f : Faults) → Explains f ran.rig → Covers c.list.shape c.list.list f →
    AreRows c.draft r.all_vectors r.rows

-- And of a list that `diagnose` wrote, by which `compile` laid the image: where one set of faults explains what was read by both, the
-- `diagnose` and the `run`, the rows are the design's
abbrev pub RunsOnItsMachine : (machine name defects design other image vectors : List ℕ) →
    (old diagnosed listed compiled handed ran : Outside) → Type 0
RunsOnItsMachine machine name defects design other image vectors old diagnosed listed compiled handed ran =
    IsDiagnosed machine name old diagnosed → (c : IsCompiled machine defects design listed compiled) →
    (r : IsRan machine other image vectors handed ran) → IsHandedOn machine defects diagnosed listed old →
    IsHandedOn machine image compiled handed listed → (f : Faults) → Explains f diagnosed.rig → Explains f ran.rig →
    AreRows c.draft r.all_vectors r.rows

-- ---- a check behind a run

-- both have the same machine text and the same image file
pub record HaveSameFiles (machine image : List ℕ) (old later : Outside) : Type 0 where
  pub machine_file : List ℕ
  pub machine_told : old.store.contents machine ≡ holds machine_file
  pub machine_again : later.store.contents machine ≡ holds machine_file
  pub image_file : List ℕ
  pub image_told : old.store.contents image ≡ holds image_file
  pub image_again : later.store.contents image ≡ holds image_file

-- An image was run, and then `check` wrote that it is sound. Where what was read is the run over a history, and each fault of it is one
-- of a set that explains what the check has read, the rows are those of the image's run without faults: faults that came for good
-- while it ran are found behind it
abbrev pub IsCertified : (machine name image vectors other : List ℕ) → (old ran later checked : Outside) → Type 0
IsCertified machine name image vectors other old ran later checked =
    (r : IsRan machine name image vectors old ran) → (c : IsChecked machine other image later checked) → c.answer ≡ Sound →
    HaveSameFiles machine image old later → (f : Faults) → Explains f checked.rig →
    (h : History) → ((cycle instant : ℕ) → AreAmong (h cycle instant) f) →
    IsRunOver h r.loaded.config (drives_of (cycles_of ran.rig)) (readings_of (cycles_of ran.rig)) →
    (none : Faults) (alone : List Pins) → IsFaultless none → IsRun none r.loaded.config (map (drive_of r.loaded) r.all_vectors) alone →
    r.rows ≡ map (image_row r.loaded) alone
