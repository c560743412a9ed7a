-- Wrong words make no load.
use Rattle.diag_list.proofs.Vocabulary.{◌≡◌, ℕ, List, ap, RigState, Outside, around, wrong_words, Ended, MadeFewLoads, unloaded}

pub wrong-loads : {status : ℕ} (machine name : List ℕ) (more : ℕ → ℕ → Type 0) (old new : Outside)
    → Ended (Unit {0}) wrong_words old new status → MadeFewLoads machine name more (around old) (around new)
wrong-loads machine name more old new e = unloaded (ap (λ (r : RigState). r.loads) e.machines)
