-- What the command `compile` comes to.
use Rattle.std.proofs.Common.{ℕ, List, [], refl, inr}
use Rattle.cmd_steps.specs.Vocabulary.{Around, Next, IsLawful, EndsWell, EndsShort, third_files}
use Rattle.cmd_steps.specs.declared.design_file.DesignFile.TheVariants.{Design}
use Rattle.cmd_steps.proofs.Sure.{IsLed, Excuses, led-after, led-sure, led-line, machine-sure, list-sure, design-sure}
use Rattle.place_design.proofs.Rooms.{AreDecided, never-lacks, never-refused, lay-excused, lay-short}
use Rattle.cmd_compile.specs.Compile.{compile_course, design_laid, compile_files, compile_job, CompileFiles, AreRightFiles, CompileRight, CompileShort}

module _ (machine defects design : List ℕ) (old new : Around) where
  abbrev t : CompileFiles
  t = compile_files old.store machine defects design

  -- right files are read, whatever follows on them
  files-led : {next_is : Next → Type 0} (right : AreRightFiles t) → Excuses old new next_is →
      IsLed next_is (design_laid (third_files machine defects design right.list.shape) old.store new.store right.list right.draft) →
      IsLed next_is (compile_course machine defects design old.store new.store)
  files-led right excused led =
      led-sure (machine-sure right.machine.is_told right.machine.within right.list.shape right.machine.says) excused
      (led-sure (list-sure right.list right.defects.is_told right.defects.within right.defects.says) excused
      (led-sure (design-sure right.design.is_told right.design.within Design right.draft right.design.says) excused led))

  -- where there is room the design is laid
  compile-right : AreDecided → CompileRight t → IsLed (EndsWell old new) (compile_course machine defects design old.store new.store)
  compile-right decided right =
      let d = right.files.list in
      let draft = right.files.draft in
      files-led right.files (λ refusal h. h)
      (led-after (lay-excused d draft old new (never-refused decided d draft right.room)) (λ i _. led-line tt tt))

  -- where there is none, on a small machine, it isn't
  compile-short : AreDecided → CompileShort t → IsLed (EndsShort old new) (compile_course machine defects design old.store new.store)
  compile-short decided short =
      let d = short.files.list in
      let draft = short.files.draft in
      files-led short.files (λ refusal h. inr h)
      (led-after (lay-short d draft old new) (λ i laid. absurd (never-lacks decided d draft (laid.1 short.small) short.lacks)))

pub compile-lawful : AreDecided → (machine defects design : List ℕ) → IsLawful (compile_job machine defects design)
compile-lawful decided machine defects design = record {
  right = λ old new text next is. (compile-right machine defects design old new decided (is [] text refl)).leads text next;
  short = λ old new text next is. (compile-short machine defects design old new decided (is [] text refl)).leads text next;
  few = λ old new few text begun at. begun;
}
