-- What the command `check` comes to.
use Rattle.cmd_check.proofs.Vocabulary.{ℕ, Bool, true, false, List, [], ◌∷◌, ImageValue, Around, Course, IsLawful, IsExcused, Answer, Sound}
use Rattle.cmd_steps.specs.declared.refusal.Refusal.{Refusal}
use Rattle.cmd_steps.specs.declared.refusal.Refusal.TheVariants as refused
use Rattle.cmd_steps.proofs.Excused.{image-excused, rig-excused}
use Rattle.cmd_steps.proofs.QuietJobs.{quiet-lawful, machine-well}
use Rattle.cmd_steps.proofs.Well.{IsWell, well-after, well-write, well-done}
use Rattle.cmd_check.specs.Check.{Lacks, answer_written, by_test, check_course, CheckRight, check_files, check_job}

module _ (machine name image : List ℕ) (old new : Around) where
  lack-excused : (refusal : Refusal) → Lacks refusal → IsExcused refusal old new
  lack-excused refused.Memory stops = tt
  lack-excused refusal stops = absurd stops

  of-two : (sound : Bool) (this that : Course) → IsWell old new this → IsWell old new that → IsWell old new (by_test sound this that)
  of-two true this that is other = is
  of-two false this that other is = is

  written-well : (i : ImageValue) (loads : ℕ) (a : Answer) →
      IsWell old new (answer_written (image ∷ machine ∷ []) old.store new.store new.rig loads i a)
  written-well i loads a = well-write old new _ _ _ (well-done old new _)

  -- right files are refused for nothing but what the store and the rig do, and lack of memory
  check-well : CheckRight (check_files old.store machine image) → IsWell old new (check_course machine name image old new)
  check-well right =
      machine-well old new machine name _ _ right.machine.bytes right.shape right.machine.is_told right.machine.says right.machine.within
      (well-after old new _ _ _
      (λ refusal stops. image-excused old new right.file.bytes right.shape right.image right.file.says.image right.file.says.shape right.file.says.text
      right.file.within refusal (rw right.file.is_told at stops))
      (λ i _. well-after old new _ _ _ (λ refusal stops. rig-excused old new refusal stops.0)
      (λ t _. of-two t.sound _ _ (written-well i t.loads Sound)
      (well-after old new _ _ _ (λ refusal stops. rig-excused old new refusal stops.0)
      (λ l _. well-after old new _ _ _ lack-excused (λ a _. written-well i l.loads a))))))

pub check-lawful : (machine name image : List ℕ) → IsLawful (check_job machine name image)
check-lawful machine name image = quiet-lawful _ _ _ _ (check-well machine name image)
