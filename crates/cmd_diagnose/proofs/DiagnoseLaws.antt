-- What the command `diagnose` comes to.
use Rattle.cmd_diagnose.proofs.Vocabulary.{◌≡◌, ℕ, List, [], ◌∷◌, refl, text_of, after-leads, write-leads, done-leads, lists}
use Rattle.cmd_steps.specs.Vocabulary.{Around, StandsIn, after, done, Unloaded, reads_machine, attaches, IsLawful, Leads, Fronts, EndsWell}
use Rattle.cmd_steps.proofs.Excused.{machine-excused, attach-excused, rig-excused}
use Rattle.cmd_diagnose.specs.Diagnose.{diagnose_course, diagnose_job, machine_listed, list_written, DiagnoseRight}

module _ (machine name : List ℕ) (old new : Around) where
  abbrev near : Type 0
  near = StandsIn (machine ∷ []) old.store new.store

  abbrev unloaded : Type 0
  unloaded = Unloaded (machine ∷ []) old new

  abbrev any : List ℕ → Type 0
  any text = Unit {0}

  diagnose-right : Leads (Fronts (λ front. DiagnoseRight (old.store.contents machine))) (diagnose_course machine name old new) (EndsWell old new)
  diagnose-right text next is at =
      let right = is [] text refl in
      after-leads (reads_machine (old.store.contents machine)) unloaded
      (λ m. after (attaches (record { shape = m; name = name }) old.rig new.rig) unloaded (λ _. machine_listed machine old new m)) any (EndsWell old new)
      (λ _ refusal stops. machine-excused old new right.text.bytes right.shape.counts right.text.says right.text.within refusal (rw right.text.is_told at stops))
      (λ m read. after-leads (attaches (record { shape = m; name = name }) old.rig new.rig) unloaded (λ _. machine_listed machine old new m) any (EndsWell old new)
      (λ _ refusal stops. attach-excused old new (record { shape = m; name = name }) refusal stops)
      (λ _ _. after-leads (lists m old.rig.loads new.rig) near (list_written machine old new) any (EndsWell old new)
      (λ _ refusal stops. rig-excused old new refusal stops.0)
      (λ l _. write-leads (text_of l.list) (near × (new.rig.loads ≡ l.loads)) (done (near × (new.rig.loads ≡ l.loads))) any (EndsWell old new) tt
      (done-leads (near × (new.rig.loads ≡ l.loads)) any (EndsWell old new) (λ _. tt)))))
      text next tt at

pub diagnose-lawful : (machine name : List ℕ) → IsLawful (diagnose_job machine name)
diagnose-lawful machine name = record {
  right = λ old new. diagnose-right machine name old new;
  short = λ old new text next is at. absurd (is [] text refl);
  few = λ old new few text begun at. begun;
}
