-- Jobs that are done for words.
use Rattle.std.proofs.Common.{◌≡◌, ◌⊎◌, ℕ, List, [], IsTrue, refl, inl, inr, arith, Result, Ok, Err}
use Rattle.cmd_steps.proofs.Vocabulary.{Rose, Wrote, Refusal, Stop, Refused}
use Rattle.cmd_steps.specs.Vocabulary.{Outside, around, ends, refuses, Asks, AsksSome, status_of, Job, wrong_words, IsLawful, Does, EndWrote, Stands, Finishes, whole, refused, cut_line, no_line, cut}
use Rattle.cmd_steps.specs.declared.refusal.Refusal.TheVariants as refused
use Rattle.cmd_steps.proofs.WriteLemmas.{Wrote-none, asks-all}
use Rattle.cmd_steps.proofs.EndLemmas.{end-stop}
use Rattle.cmd_steps.proofs.Logs.{log_same}

-- wrong words are refused at once
pub does-wrong : {T : Type 0} (words : Type 0) (result : Result T Stop) (old : Outside) → result ≡ Err (Refused refused.Words) → words → Does words wrong_words result old old
does-wrong {T} words result old is why = rw is (record {
  later = record { contents = refl; texts = refl; kind = refl; store = omega arith; rig = omega arith; sink = omega arith; log = log_same old.rig };
  asked = record { all = tt; some = refl };
  machines = refl;
  written = ([], (refl, refl, refl), Wrote-none old.sink.written);
  counted = why;
})

pub wrong-lawful : IsLawful wrong_words
wrong-lawful = record {
  right = λ old new text next is at. absurd (is [] text refl);
  short = λ old new text next is at. absurd (is [] text refl);
  few = λ old new few text begun at. begun;
}

-- the names that were asked
asked-some : {T : Type 0} (names : List (List ℕ)) (result : Result T Stop) (old new : Outside) → Asks names result old.store new.store → AsksSome names old.store.asked new.store.asked
asked-some names (Ok x) old new asks = asks-all names old.store.asked new.store.asked asks.all
asked-some names (Err stop) old new asks = asks.some

pub does-asked : {T : Type 0} (words : Type 0) (job : Job) (result : Result T Stop) (old new : Outside) → Does words job result old new → AsksSome job.files old.store.asked new.store.asked
does-asked words job result old new d = asked-some job.files result old new d.asked

-- ---- the end of the program

-- a job that is done
pub ends-done : (words : Type 0) (job : Job) (old new : Outside) → (text : List ℕ) × job.course (around old) (around new) text ends × Wrote old.sink.written new.sink.written text → EndWrote words (job.course (around old) (around new)) old new 0
ends-done words job old new w = whole w.0 w.1 w.2

-- a job that stopped, and what followed: the store and the rig stay
pub ends-stopped : {T : Type 0} (words : Type 0) (job : Job) (stop : Stop) (result : Result T Stop) (old mid new : Outside) (status : ℕ) → result ≡ Err stop → new.store ≡ mid.store → new.rig ≡ mid.rig → Does words job result old mid → Finishes stop mid.sink new.sink status → EndWrote words (job.course (around old) (around mid)) old new status
ends-stopped words job stop result old mid new status is store rig d fin =
    let written = rw is at d.written in
    let counted = rw is at d.counted in
    end-stop words (job.course (around old) (around mid)) stop old mid new status d.later.sink d.later.kind store rig counted written fin

-- wrong words
wrong-status : (refusal : Refusal) → refuses refusal ≡ refuses refused.Words → status_of refusal ≡ 2
wrong-status refused.Words is = refl
wrong-status refusal is = absurd cc

wrong-stands : (words : Type 0) (old new : Outside) (refusal : Refusal) (text : List ℕ) → Stands words (wrong_words.course (around old) (around new)) old new refusal text → status_of refusal ≡ 2
wrong-stands words old new refusal text (inl s) = wrong-status refusal s.1.1
wrong-stands words old new refusal text (inr s) = let line = s.2.1.1 in absurd (cc)

pub end-wrong : (words : Type 0) (old new : Outside) (status : ℕ) → EndWrote words (wrong_words.course (around old) (around new)) old new status → (status ≡ 2) ⊎ (((status ≡ 5) × Rose old.sink.failures new.sink.failures) ⊎ ((status ≡ 6) × IsTrue old.sink.can_lack))
end-wrong words old new _ (whole text f w) = let none = f.1 in absurd (cc)
end-wrong words old new _ (refused refusal text s w) = inl (wrong-stands words old new refusal text s)
end-wrong words old new _ (cut_line refusal text n s r w) = inr (inl (refl, r))
end-wrong words old new _ (no_line refusal text s l w) = inr (inr (refl, l))
end-wrong words old new _ (cut text line n p r w) = let none = p.1 in absurd (cc)
