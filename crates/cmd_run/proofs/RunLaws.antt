-- What the command `run` comes to.
use Rattle.cmd_run.proofs.Vocabulary.{◌≡◌, ◌∙◌, ℕ, ◌≤◌, List, [], ◌∷◌, ◌++◌, length, refl, subst, inl, inr, ImageValue, most_rows}
use Rattle.cmd_run.proofs.Vocabulary.{RowsBegin, image_rows, image-well, image-few, run_course, run_files, run_job, RunFiles, RunRight}
use Rattle.cmd_run.proofs.Vocabulary.{RunFew}
use Rattle.cmd_steps.specs.Vocabulary.{vectors_at, outputs_line, Around, RowWork, refuses, IsLawful, EndsWell}
use Rattle.cmd_steps.specs.declared.refusal.Refusal.TheVariants.{Memory}
use Rattle.cmd_steps.proofs.Excused.{attach-excused}
use Rattle.cmd_steps.proofs.ShapeLemmas.{one-machine, one-image}
use Rattle.cmd_steps.proofs.Sure.{IsLed, Excuses, led-after, led-sure, machine-sure, image-sure}

module _ (machine name image vectors : List ℕ) (old new : Around) where
  abbrev t : RunFiles
  t = run_files old machine image vectors

  -- the rows of an image, and where its work begins
  abbrev rows : ImageValue → RowWork
  rows i = image_rows i t.vectors new.store old.rig.failures new.rig

  abbrev begin : ImageValue → RowsBegin
  begin i = record { image = i; vectors = vectors; files = image ∷ machine ∷ []; begun = old.store; before = old.rig.loads }

  run-right : RunRight t → IsLed (EndsWell old new) (run_course machine name image vectors old new)
  run-right right =
      let m = right.shape in
      let i = right.image in
      let excused : Excuses old new (EndsWell old new) = λ refusal h. h in
      led-sure (machine-sure right.machine.is_told right.machine.within m right.machine.says) excused
      (led-after (attach-excused old new (record { shape = m; name = name })) (λ _ _.
      led-sure (image-sure right.file.is_told right.file.within m i right.file.says.image right.file.says.shape right.file.says.text) excused
      (record {
        leads = λ text next. image-well (rows i) (begin i) old new right.vectors.bytes right.vectors.is_told right.vectors.no_fault (λ vs rows h. h) text next tt;
      })))

  -- after the line `outputs` memory is lacking only for more rows than there was room for
  run-few : RunFew t → (text more : List ℕ) → text ≡ outputs_line ++ more →
      run_course machine name image vectors old new text (refuses Memory) → ⊥
  run-few few text more begins (inl h) = let empty = h.0 in absurd (cc)
  run-few few text more begins (inr (m, read, inl h)) = let empty = h.0 in absurd (cc)
  run-few few text more begins (inr (m, read, inr (u, attached, inl h))) = let empty = h.0 in absurd (cc)
  run-few few text more begins (inr (m, read, inr (u, attached, inr (i, given, h)))) =
      let r = few.right in
      let shape = r.file.says.shape ∙ one-machine t.machine r.machine.bytes r.shape m r.machine.is_told r.machine.says read in
      let same = one-image t.image r.file.bytes m r.image i r.file.is_told shape r.file.says.image r.file.says.text given in
      let most = subst (λ (w : ImageValue). length (vectors_at (length w.inputs) r.vectors.bytes) ≤ most_rows) same few.few in
      image-few (rows i) (begin i) new r.vectors.bytes r.vectors.is_told (λ count most. most) most text more begins h

pub run-lawful : (machine name image vectors : List ℕ) → IsLawful (run_job machine name image vectors)
run-lawful machine name image vectors = record {
  right = λ old new text next is. (run-right machine name image vectors old new (is [] text refl)).leads text next;
  short = λ old new text next is at. absurd (is [] text refl);
  few = λ old new few text begun at. run-few machine name image vectors old new few text begun.0 begun.1 at;
}
