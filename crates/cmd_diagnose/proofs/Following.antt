-- How the steps of `diagnose` follow one another: a lemma for each place where the body ends, over plain states.
use Rattle.cmd_diagnose.proofs.Vocabulary.{◌≡◌, ℕ, List, [], ◌∷◌, refl, sym, Result, Ok, Err, StoreState, SinkState, Listed, WritesList}
use Rattle.cmd_diagnose.proofs.Vocabulary.{MakesFewCycles, few-unasked, few-unloaded, diagnose_course, diagnose_job, machine_listed}
use Rattle.machine_shape.specs.declared.Shape.{Shape}
use Rattle.machine_defects.specs.Lists.{DefectList}
use Rattle.rig.specs.Rig.{RigState, cycles_made}
use Rattle.cmd_steps.specs.Vocabulary.{Outside, StandsIn, outside, around, Course, done, Does, Took, Follows, reads_machine, attaches, MayAsk, Unloaded}
use Rattle.cmd_steps.specs.declared.refusal.Stop.{Stop}
use Rattle.cmd_steps.proofs.Machines.{AsksNamed, named, machine-stops, attach-stops, attached-gives}
use Rattle.cmd_steps.proofs.Taking.{all-done}
use Rattle.diag_list.proofs.Following.{list-ends, list-goes}

module _ (machine name : List ℕ) (s0 s1 : StoreState) (a : SinkState) where
  abbrev near : Type 0
  near = StandsIn (machine ∷ []) s0 s1

  abbrev unloaded : RigState → RigState → Type 0
  unloaded r0 r1 = Unloaded (machine ∷ []) (around (outside s0 r0 a)) (around (outside s1 r1 a))

  abbrev done-to : {U : Type 0} → RigState → Result U Stop → Outside → Type 0
  done-to r0 result new = Does ⊥ (diagnose_job machine name) result (outside s0 r0 a) new

  -- its steps were made, with few cycles for each load
  with-cycles : {U : Type 0} (r0 : RigState) (result : Result U Stop) (new : Outside) → MakesFewCycles r0 new.rig → Follows ⊥ (machine ∷ []) (AsksNamed machine name (outside s0 r0 a) new) (diagnose_course machine name (around (outside s0 r0 a)) (around new)) result (outside s0 r0 a) new → done-to r0 result new
  with-cycles r0 result new few is = record { later = is.later; asked = is.asked; machines = (is.machines, few); written = is.written; counted = is.counted }

  abbrev rest-at : RigState → Outside → Shape → Course
  rest-at r0 new = machine_listed machine (around (outside s0 r0 a)) (around new)

  pub no-machine : {U : Type 0} (r : RigState) (stop : Stop) (result : Result U Stop) → result ≡ Err stop → Took (machine ∷ []) (reads_machine (s0.contents machine)) (Err stop) (outside s0 r a) (outside s1 r a) → done-to r result (outside s1 r a)
  no-machine r stop result is took = with-cycles r result (outside s1 r a) (few-unasked r)
      (machine-stops machine name (unloaded r r) (rest-at r (outside s1 r a)) [] s0 s1 r a stop result is took (took.place, refl))

  module _ (r0 r1 : RigState) (m : Shape) (read : Took (machine ∷ []) (reads_machine (s0.contents machine)) (Ok m) (outside s0 r0 a) (outside s1 r0 a)) (may : MayAsk (named name m) r0.machine.asked r1.machine.asked) (loads : r1.loads ≡ r0.loads) (unused : cycles_made r1 ≡ 0) where
    pub unattached : {U : Type 0} (stop : Stop) (result : Result U Stop) → result ≡ Err stop → Took [] (attaches (named name m) r0 r1) (Err stop) (outside s1 r0 a) (outside s1 r1 a) → done-to r0 result (outside s1 r1 a)
    unattached stop result is took = with-cycles r0 result (outside s1 r1 a) (few-unloaded r0 r1 unused loads)
        (attach-stops machine name (unloaded r0 r1) (rest-at r0 (outside s1 r1 a)) [] s0 s1 r0 r1 a m read may stop result is took (read.place, loads))

    module _ (attached : Took [] (attaches (named name m) r0 r1) (Ok tt) (outside s1 r0 a) (outside s1 r1 a)) (r2 : RigState) (k : SinkState) (same : r2.machine ≡ r1.machine) (few : MakesFewCycles r0 r2) where
      abbrev here : Listed → Type 0
      here l = near × (r2.loads ≡ l.loads)

      -- the list is made and written, or it isn't
      tried : {U : Type 0} (result : Result U Stop) → Follows ⊥ [] (r2.machine ≡ r1.machine) (rest-at r0 (outside s1 r2 k) m) result (outside s1 r1 a) (outside s1 r2 k) → done-to r0 result (outside s1 r2 k)
      tried result is = with-cycles r0 result (outside s1 r2 k) few
          (attached-gives machine name (unloaded r0 r2) (rest-at r0 (outside s1 r2 k)) [] s0 s1 r0 r1 a m read may result (outside s1 r2 k) attached is)

      pub unlisted : {U : Type 0} (stop : Stop) (result : Result U Stop) → result ≡ Err stop → WritesList m (Err stop) (outside s1 r1 a) (outside s1 r2 k) → done-to r0 result (outside s1 r2 k)
      unlisted stop result is written =
          tried result (list-ends m r0.loads near here (λ l. done (here l)) [] s1 r1 r2 a k loads same stop result is written read.place (λ l is. (read.place, sym is)))

      pub listed : {U : Type 0} (d : DefectList) (u : U) → WritesList m (Ok d) (outside s1 r1 a) (outside s1 r2 k) → done-to r0 (Ok u) (outside s1 r2 k)
      listed d u written =
          let l : Listed = record { list = d; loads = r2.loads } in
          let end = outside s1 r2 k in
          let all = all-done (here l) u end (read.place, refl) in
          tried (Ok u) (list-goes m r0.loads near here (λ l. done (here l)) [] s1 r1 r2 a k loads same d (Ok u) end written
          (record { later = all.later; asked = all.asked; machines = refl; written = all.written; counted = all.counted }))
