-- What a program comes to at its end: wrong words, or a job that was done.
use Rattle.cmd_steps.proofs.Vocabulary.{◌≡◌, ◌∙◌, ◌⊎◌, ℕ, List, ◌++◌, sym, inl, inr, arith, SinkState, Wrote, Refusal, Stop, Refused, Sink}
use Rattle.base_io.specs.declared.sink.SinkFail.TheVariants.{Failed as SinkFailed, Memory as SinkMemory}
use Rattle.cmd_steps.specs.Vocabulary.{Outside, around, Course, ends, refuses, status_of, Job, wrong_words, EndWrote, Ended, Finishes, Refuses, whole, refused, cut_line, no_line, cut}
use Rattle.cmd_steps.specs.declared.refusal.Refusal.TheVariants.{Words, Machine, Faults, Defects, Image, Design, Vectors, Room, Rig, Store, Memory, Differ}
use Rattle.cmd_steps.proofs.Standing.{Standing, stands-end}

-- a refusal has a status of its own
refused-some : (refusal : Refusal) → status_of refusal ≡ 0 → ⊥
refused-some Words is = absurd cc
refused-some (Machine line kind) is = absurd cc
refused-some (Faults line kind) is = absurd cc
refused-some (Defects line kind) is = absurd cc
refused-some (Image line kind) is = absurd cc
refused-some (Design place) is = absurd cc
refused-some (Vectors line kind) is = absurd cc
refused-some (Room place) is = absurd cc
refused-some Rig is = absurd cc
refused-some Store is = absurd cc
refused-some Memory is = absurd cc
refused-some Differ is = absurd cc

refuses-some : (refusal : Refusal) (old new : SinkState) (status : ℕ) → Refuses refusal old new status → status ≡ 0 → ⊥
refuses-some refusal old new status (inl h) zero = refused-some refusal (sym h.0 ∙ zero)
refuses-some refusal old new status (inr (inl h)) zero = let is = h.0 in absurd (let no : ⊥ = omega (arith, is, zero) in no)
refuses-some refusal old new status (inr (inr h)) zero = let is = h.0 in absurd (let no : ⊥ = omega (arith, is, zero) in no)

pub finishes-some : (stop : Stop) (old new : SinkState) (status : ℕ) → Finishes stop old new status → status ≡ 0 → ⊥
finishes-some (Refused refusal) old new status fin zero = refuses-some refusal old new status fin zero
finishes-some (Sink SinkFailed) old new status fin zero = let is = fin.0 in absurd (let no : ⊥ = omega (arith, is, zero) in no)
finishes-some (Sink SinkMemory) old new status fin zero = refuses-some Memory old new status fin zero

-- what ended with status 0 came to the end of its course
end-done : (words : Type 0) (course : Course) (old new : Outside) (status : ℕ) → EndWrote words course old new status → status ≡ 0
    → (text : List ℕ) × course text ends × Wrote old.sink.written new.sink.written text
end-done words course old new _ (whole text f w) is = (text, f, w)
end-done words course old new _ (refused refusal text s w) is = absurd (refused-some refusal is)
end-done words course old new _ (cut_line refusal text n s r w) is = absurd cc
end-done words course old new _ (no_line refusal text s l w) is = absurd cc
end-done words course old new _ (cut text line n p r w) is = absurd cc

wrong-some : (old new : Outside) (status : ℕ) → Ended (Unit {0}) wrong_words old new status → status ≡ 0 → ⊥
wrong-some old new status e zero =
    let w = end-done (Unit {0}) (wrong_words.course (around old) (around new)) old new status e.written zero in
    let no : ends ≡ refuses Words = w.1.1 in
    absurd (cc)

-- the words were wrong, since one of them begins with `-`, or the job was done
abbrev pub EndedAs : Job → Outside → Outside → ℕ → Type 0
EndedAs job old new status = Ended (Unit {0}) wrong_words old new status ⊎ Ended ⊥ job old new status

module _ {job : Job} {status : ℕ} (old new : Outside) where
  -- whatever the status, the course of the job stands somewhere
  pub whatever : EndedAs job old new status → {P : Type 0} → (Ended (Unit {0}) wrong_words old new status → P)
      → (Standing (job.course (around old) (around new)) old.sink new.sink → P) → P
  whatever (inl e) wrong right = wrong e
  whatever (inr e) wrong right = right (stands-end ⊥ (job.course (around old) (around new)) old new status e.written)

  -- at status 0 it is at its end
  pub done-as : EndedAs job old new status → status ≡ 0 → {P : Type 0}
      → ((text : List ℕ) → new.store.asked ≡ old.store.asked ++ job.files → Wrote old.sink.written new.sink.written text
      → job.course (around old) (around new) text ends → P) → P
  done-as (inl e) zero headline = absurd (wrong-some old new status e zero)
  done-as (inr e) zero headline =
      let w = end-done ⊥ (job.course (around old) (around new)) old new status e.written zero in
      headline w.0 (e.asked_all zero) w.2 w.1
