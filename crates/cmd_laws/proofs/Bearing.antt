-- A job that was asked for comes to its end where the machine has parts to spare.
use Rattle.std.proofs.Common.{◌≡◌, ℕ, ◌≤◌, Bool, List, refl, subst, inr}
use Rattle.machine_shape.specs.declared.Shape.{Shape}
use Rattle.machine_meaning.specs.Faults.{Faults}
use Rattle.machine_faults.specs.Adding.{count_of}
use Rattle.map_network.specs.{declared.network.Network.Network, Plain.plain_network}
use Rattle.place_plan.specs.Enough.{HasStandingRoom}
use Rattle.place_spare.specs.Spare.{HasToSpare}
use Rattle.place_both.specs.Both.{joint_of}
use Rattle.cmd_steps.specs.Vocabulary.{Outside, Ended, HasNoJob, Job, Asked, no_job, a_job, asked_if, job_of}
use Rattle.cmd_go.specs.{Go.go_job, Promises.go_words}
use Rattle.cmd_pair.specs.{Pair.pair_job, Promises.pair_words}
use Rattle.cmd_twice.specs.{Twice.twice_job, Promises.twice_words}
use Rattle.cmd_top.specs.Words.{commands, asked_in, asked_by}
use Rattle.cmd_laws.specs.Borne.{HaveNoDash, GoIsBorne, PairIsBorne, TwiceIsBorne}

-- words without a dash ask for the job of their command
job-ended : (words : List (List ℕ)) (job : Job) (old new : Outside) (status : ℕ) → HaveNoDash words → asked_in commands words ≡ a_job job
    → Ended (HasNoJob (asked_by words)) (job_of (asked_by words)) old new status → Ended ⊥ job old new status
job-ended words job old new status right asks ended =
    subst (λ (a : Asked). Ended (HasNoJob a) (job_of a) old new status) asks
    (subst (λ (b : Bool). Ended (HasNoJob (asked_if b no_job (asked_in commands words))) (job_of (asked_if b no_job (asked_in commands words))) old new status) right ended)

-- a machine with so many parts to spare has parts that stand
abbrev pub BearsAll : Type 0
BearsAll = (m : Shape) (f : Faults) (n : Network) (k : ℕ) → count_of f ≤ k → HasToSpare m n k → HasStandingRoom m f n

module _ (bears : BearsAll) (k status : ℕ) (old new : Outside) where
  pub go-borne : (machine name design vectors : List ℕ) → GoIsBorne machine name design vectors k status old new
  go-borne machine name design vectors p right t b =
      let job : Job = go_job machine name design vectors in
      let ended = job-ended (go_words machine name design vectors) job old new status right refl p.ends in
      ended.complete (λ front rest wrote. record {
        texts = t;
        room = inr (record {
          faults = b.faults;
          explained = b.explained;
          network = plain_network t.draft;
          plain = refl;
          standing = bears t.shape b.faults (plain_network t.draft) k b.few b.spare;
        });
      })

  pub pair-borne : (machine name first second vectors : List ℕ) → PairIsBorne machine name first second vectors k status old new
  pair-borne machine name first second vectors p right t b =
      let job : Job = pair_job machine name first second vectors in
      let ended = job-ended (pair_words machine name first second vectors) job old new status right refl p.ends in
      ended.complete (λ front rest wrote. record {
        texts = t;
        room = inr (record {
          faults = b.faults;
          explained = b.explained;
          standing = bears t.shape b.faults (joint_of t.first_draft t.second_draft) k b.few b.spare;
        });
      })

  pub twice-borne : (machine name design vectors : List ℕ) → TwiceIsBorne machine name design vectors k status old new
  twice-borne machine name design vectors p right t b =
      let job : Job = twice_job machine name design vectors in
      let ended = job-ended (twice_words machine name design vectors) job old new status right refl p.ends in
      ended.complete (λ front rest wrote. record {
        texts = t;
        room = inr (record {
          faults = b.faults;
          explained = b.explained;
          standing = bears t.shape b.faults (joint_of t.draft t.draft) k b.few b.spare;
        });
      })
