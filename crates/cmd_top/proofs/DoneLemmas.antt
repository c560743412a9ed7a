-- What a program comes to, from what its words ask for.
use Rattle.cmd_top.proofs.Vocabulary.{◌≡◌, ◌∙◌, ℕ, List, ap, subst, list_any, ended-asked, commands, asked_in, asked_by}
use Rattle.cmd_steps.specs.Vocabulary.{Outside, Job, Ended, Asked, no_job, a_job, HasNoJob, job_of, asked_if, is_dashed}
use Rattle.cmd_steps.proofs.Done.{EndedAs}

-- words that the table has a line for are wrong, since one begins with `-`, or the job was done
pub ended-as : {line : List (List ℕ)} {job : Job} (words : List (List ℕ)) {status : ℕ} (old new : Outside)
    → Ended (HasNoJob (asked_by words)) (job_of (asked_by words)) old new status
    → words ≡ line → asked_in commands line ≡ a_job job → EndedAs job old new status
ended-as {line} {job} words {status} old new ended is asks =
    ended-asked (list_any is_dashed line) old new (subst (λ (asked : Asked). Ended (HasNoJob asked) (job_of asked) old new status) same ended)
  where
    same : asked_by words ≡ asked_if (list_any is_dashed line) no_job (a_job job)
    same = ap asked_by is ∙ ap (asked_if (list_any is_dashed line) no_job) asks
