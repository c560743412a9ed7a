-- What words ask for, done to the end of the program.
use Rattle.std.proofs.Common.{◌≡◌, ◌∙◌, ◌⊎◌, ℕ, ◌≤◌, Bool, true, false, List, [], ◌∷◌, map, IsTrue, refl, sym, inl, inr, arith, Result, Ok, Err, OnOk, IfErr}
use Rattle.cmd_steps.proofs.Vocabulary.{list_any, Rose, SinkState, Refusal, Stop, Refused, Sink}
use Rattle.base_io.specs.declared.sink.SinkFail.TheVariants.{Failed as SinkFailed, Memory as SinkMemory}
use Rattle.cmd_steps.specs.Vocabulary.{Outside, outside, around, IsLater, status_of, Job, IsLawful, Does, EndWrote, Ended, Finishes, Refuses, Asked, no_job, a_job, HasNoJob, job_of, asked_if, DoesAsked}
use Rattle.cmd_steps.specs.declared.refusal.Refusal.TheVariants.{Words, Machine, Faults, Defects, Image, Design, Vectors, Room, Rig, Store, Memory}
use Rattle.cmd_steps.proofs.EndLemmas.{ended}
use Rattle.cmd_steps.proofs.JobLemmas.{wrong-lawful, does-wrong, does-asked, ends-done, ends-stopped, end-wrong}
use Rattle.cmd_steps.proofs.Done.{EndedAs, finishes-some}

-- wrong words are refused at once
pub does-none : (o : Outside) → DoesAsked {T = Unit {0}} no_job (Err (Refused Words)) o o
does-none o = record { lawful = wrong-lawful; does = does-wrong (Unit {0}) (Err (Refused Words)) o refl tt }

-- a job is done as a command does it
pub does-job : {T : Type 0} (job : Job) (result : Result T Stop) (old new : Outside) → IsLawful job → Does ⊥ job result old new → DoesAsked (a_job job) result old new
does-job job result old new lawful does = record { lawful = lawful; does = does }

-- ---- the end of the program

-- wrong words are refused, unless the sink fails
wrong-only : (asked : Asked) (old new : Outside) (status : ℕ) → EndWrote (HasNoJob asked) ((job_of asked).course (around old) (around new)) old new status → HasNoJob asked → (status ≡ 2) ⊎ (((status ≡ 5) × Rose old.sink.failures new.sink.failures) ⊎ ((status ≡ 6) × IsTrue old.sink.can_lack))
wrong-only no_job old new status written why = end-wrong (Unit {0}) old new status written
wrong-only (a_job job) old new status written why = absurd why

ends-well : {T : Type 0} (asked : Asked) (x : T) (old new : Outside) → DoesAsked asked (Ok x) old new → Ended (HasNoJob asked) (job_of asked) old new 0
ends-well asked x old new d =
    let written = ends-done (HasNoJob asked) (job_of asked) old new d.does.written in
    ended (HasNoJob asked) (job_of asked) d.lawful old new 0 d.does.later (does-asked (HasNoJob asked) (job_of asked) (Ok x) old new d.does) (λ _. d.does.asked.all) d.does.machines written (wrong-only asked old new 0 written)

ends-badly : {T : Type 0} (asked : Asked) (stop : Stop) (old mid : Outside) (sink : SinkState) (status : ℕ) → DoesAsked {T = T} asked (Err stop) old mid → Finishes stop mid.sink sink status → mid.sink.failures ≤ sink.failures → sink.can_lack ≡ mid.sink.can_lack → Ended (HasNoJob asked) (job_of asked) old (outside mid.store mid.rig sink) status
ends-badly {T} asked stop old mid sink status d fin later kind =
    let result : Result T Stop = Err stop in
    let new = outside mid.store mid.rig sink in
    let first = d.does.later in
    let written = ends-stopped (HasNoJob asked) (job_of asked) stop result old mid new status refl refl refl d.does fin in
    let on : IsLater old new = record {
      contents = first.contents;
      texts = first.texts;
      kind = kind ∙ first.kind;
      store = first.store;
      rig = first.rig;
      sink = omega (arith, first.sink, later);
      log = first.log;
    } in
    ended (HasNoJob asked) (job_of asked) d.lawful old new status on (does-asked (HasNoJob asked) (job_of asked) result old mid d.does) (λ zero. absurd (finishes-some stop mid.sink sink status fin zero)) d.does.machines written (wrong-only asked old new status written)

-- what was asked for was done, and the status is that of how it ended
pub ends-so : {T : Type 0} (asked : Asked) (result : Result T Stop) (old mid : Outside) (sink : SinkState) (status : ℕ) → DoesAsked asked result old mid
    → OnOk result ((status ≡ 0) × (sink ≡ mid.sink)) → IfErr result (λ stop. Finishes stop mid.sink sink status)
    → mid.sink.failures ≤ sink.failures → sink.can_lack ≡ mid.sink.can_lack → Ended (HasNoJob asked) (job_of asked) old (outside mid.store mid.rig sink) status
ends-so asked (Ok x) old mid sink status d all stopped later kind =
    rw (all.0, all.1) (ends-well asked x old mid d)
ends-so asked (Err stop) old mid sink status d all stopped later kind = ends-badly asked stop old mid sink status d stopped later kind

-- words of which one may begin with `-` are wrong, or their job was done
pub ended-asked : {job : Job} (b : Bool) {status : ℕ} (old new : Outside)
    → Ended (HasNoJob (asked_if b no_job (a_job job))) (job_of (asked_if b no_job (a_job job))) old new status → EndedAs job old new status
ended-asked true old new e = inl e
ended-asked false old new e = inr e

-- a test of what each element becomes
pub list_any-map : {A B : Type 0} (f : B → Bool) (g : A → B) (xs : List A) → list_any f (map g xs) ≡ list_any (λ x. f (g x)) xs
list_any-map f g [] = refl
list_any-map f g (x ∷ xs) = rw (list_any-map f g xs) refl
