-- Behind wrong words as much of the line of a refusal stands, and nothing else.
use Rattle.run_image.proofs.Vocabulary.{◌∙◌, ℕ, List, ◌++◌, ap, subst, Wrote, Adds, stands-end, BeginsWithList, none}
use Rattle.cmd_steps.specs.Vocabulary.{Outside, around, Next, refuses, wrong_words, Ended}
use Rattle.cmd_steps.specs.declared.refusal.Refusal.TheVariants.{Words}

pub wrong-begins : {status : ℕ} (machine name : List ℕ) (old new : Outside) → Ended (Unit {0}) wrong_words old new status
    → BeginsWithList machine name old new
wrong-begins {status} machine name old new e =
    let s = stands-end (Unit {0}) (wrong_words.course (around old) (around new)) old new status e.written in
    let adds : Adds (refuses Words) s.more = subst (λ (next : Next). Adds next s.more) s.at.1 s.adds in
    let line = ap (λ (t : List ℕ). t ++ s.more) s.at.0 ∙ adds.1 in
    none Words adds.0 (subst (λ (t : List ℕ). Wrote old.sink.written new.sink.written t) line s.wrote)
