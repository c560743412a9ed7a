-- What the command `eval` comes to.
use Rattle.std.proofs.Common.{◌≡◌, ℕ, List, [], ◌∷◌, ◌++◌, length, None, refl, subst, inl, inr}
use Rattle.base_io.specs.Told.{IfTold}
use Rattle.cmd_eval.proofs.Vocabulary.{NetlistData, Design, opened-well, opened-lacks, eval_rows, eval_course, eval_job, EvalRight}
use Rattle.cmd_steps.specs.Vocabulary.{says_at, outputs_line, Around, refuses, IsDesignText, IsLawful}
use Rattle.cmd_steps.specs.declared.refusal.Refusal.TheVariants.{Memory}
use Rattle.cmd_steps.proofs.Excused.{design-excused}
use Rattle.cmd_steps.proofs.Well.{IsWell, well-after}

module _ (design vectors : List ℕ) (old new : Around) where
  module _ (right : EvalRight (old.store.contents design) (old.store.contents vectors)) where
    -- vectors of the right design have no fault
    same-fault : (draft : NetlistData) → IfTold (old.store.contents design) (λ bytes. IsDesignText bytes draft) → (says_at (length draft.inputs) right.said.bytes).fault ≡ None
    same-fault draft is =
        let only = rw right.file.is_told at is in
        subst (λ d. (says_at (length d.inputs) right.said.bytes).fault ≡ None) (only.only right.draft right.file.says) right.said.no_fault

    eval-well : IsWell old new (eval_course design vectors old.store new.store)
    eval-well =
        well-after old new _ _ _ (λ refusal stops. design-excused old new Design right.file.bytes right.draft right.file.says right.file.within refusal (rw right.file.is_told at stops))
        (λ draft gives. record { well = λ text next at. opened-well (eval_rows draft (old.store.contents vectors) new.store) _ vectors (design ∷ []) old.store new.store _ old new right.said.bytes right.said.is_told (same-fault draft gives) (λ vs rows h. h) text next tt at })

  -- no row wants memory
  eval-few : (text : List ℕ) → (more : List ℕ) × (text ≡ outputs_line ++ more) → eval_course design vectors old.store new.store text (refuses Memory) → ⊥
  eval-few text begun (inl h) = let begins = begun.1 in let empty = h.0 in absurd (cc)
  eval-few text begun (inr (draft, gives, h)) =
      (opened-lacks (eval_rows draft (old.store.contents vectors) new.store) _ vectors (design ∷ []) old.store new.store _ text begun.0 begun.1 h).1.1

pub eval-lawful : (design vectors : List ℕ) → IsLawful (eval_job design vectors)
eval-lawful design vectors = record {
  right = λ old new text next is at. (eval-well design vectors old new (is [] text refl)).well text next at;
  short = λ old new text next is at. absurd (is [] text refl);
  few = λ old new few text begun at. eval-few design vectors old new text begun at;
}
