-- What the command `repair` comes to.
use Rattle.cmd_repair.proofs.Vocabulary.{ℕ, List, [], refl, inl, inr, arith, Defects, ImageValue, Short, Seats, HasTooMany, NotRepaired}
use Rattle.cmd_repair.proofs.Vocabulary.{IsRepairOf, repair_course, image_written, repair_files, repair_job, AreRightFiles}
use Rattle.place_repair.specs.Plans.{AreSeats, AreNets, HasRoom, IsShortPlan, Nets}
use Rattle.cmd_steps.specs.Vocabulary.{ShortPlace, Around, Next, refuses, IsLawful, EndsWell, EndsShort, third_files}
use Rattle.cmd_steps.specs.declared.refusal.Refusal.{Refusal}
use Rattle.cmd_steps.specs.declared.refusal.Refusal.TheVariants as refused
use Rattle.cmd_steps.proofs.Sure.{IsLed, Excuses, led-after, led-sure, led-line, machine-sure, list-sure, image-sure}

-- right files are read and the image is taken; then there is no room, or it is repaired, whatever these lead to
module _ (machine defects image : List ℕ) (old new : Around) (next_is : Next → Type 0) where
  repair-led : (right : AreRightFiles (repair_files old.store machine defects image)) → Excuses old new next_is →
      ((place : ShortPlace) → IsShortPlan right.list.list right.image place.short → next_is (refuses (refused.Room place))) →
      ((j : ImageValue) → IsRepairOf right.list right.image j →
      IsLed next_is (image_written (third_files machine defects image right.list.shape) old.store new.store j)) →
      IsLed next_is (repair_course machine defects image old.store new.store)
  repair-led right excused lacks repaired =
      let m = right.list.shape in
      let i = right.image in
      led-sure (machine-sure right.machine.is_told right.machine.within m right.machine.says) excused
      (led-sure (list-sure right.list right.defects.is_told right.defects.within right.defects.says) excused
      (led-sure (image-sure right.file.is_told right.file.within m i right.file.says.image right.file.says.shape right.file.says.text) excused
      (led-after too-many (λ _ _. led-after unrepaired repaired))))
    where
      too-many : (refusal : Refusal) → HasTooMany right.image refusal → next_is (refuses refusal)
      too-many (refused.Image line kind) stops =
          let few = right.few in
          let many = stops.2 in
          absurd (let no : ⊥ = omega (arith, few, many) in no)
      too-many refusal stops = absurd stops

      unrepaired : (refusal : Refusal) → NotRepaired right.list right.image refusal → next_is (refuses refusal)
      unrepaired (refused.Room place) stops = lacks place stops.1
      unrepaired refused.Memory stops = excused refused.Memory tt
      unrepaired refusal stops = absurd stops

-- a plan and a want of room exclude each other
abbrev AreDecided : Type 0
AreDecided = (d : Defects) (i : ImageValue) (s : Seats) (n : Nets) (short : Short) → AreSeats d i s → AreNets d i s n → HasRoom i s n →
    ¬ IsShortPlan d i short

pub repair-lawful : AreDecided → (machine defects image : List ℕ) → IsLawful (repair_job machine defects image)
repair-lawful decided machine defects image = record {
  right = λ old new text next is.
      let right = is [] text refl in
      let room = right.room in
      let led = repair-led machine defects image old new (EndsWell old new) right.files (λ refusal h. h)
      (λ place lacks. absurd (decided _ _ _ _ place.short room.seats_are room.nets_are room.room lacks)) (λ j _. led-line tt tt) in
      led.leads text next;
  short = λ old new text next is.
      let short = is [] text refl in
      let lacks = short.lacks in
      let led = repair-led machine defects image old new (EndsShort old new) short.files (λ refusal h. inr h) (λ place _. inl refl)
      (λ j is. absurd (decided _ _ _ _ lacks.short is.repair.seats_are is.repair.nets_are is.repair.room lacks.is_short)) in
      led.leads text next;
  few = λ old new few text begun at. begun;
}
