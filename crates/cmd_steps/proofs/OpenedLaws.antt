-- What rows behind an opened file of vectors lead to.
use Rattle.cmd_steps.proofs.Vocabulary.{◌≡◌, ◌∙◌, ℕ, Bool, List, ◌∷◌, ◌++◌, None, ap, inl, inr, Told, holds, StoreState, Memory}
use Rattle.cmd_steps.specs.Vocabulary.{says_at, AreAll, outputs_line, output_text, Around, StandsIn, RowWork, all_rows, HasReadRows, ends, refuses, write, opens, Leads, EndsWell}
use Rattle.cmd_steps.proofs.Leading.{after-leads, write-leads}
use Rattle.cmd_steps.proofs.Excused.{open-excused, rows-well}
use Rattle.cmd_steps.proofs.OpenedRows.{opened}

-- all vectors of the file were read, and their rows written behind the line `outputs`
pub record HasEnded (w : RowWork) (text : List ℕ) : Type 0 where
  pub more : List ℕ
  pub rows : HasReadRows w more
  pub all : AreAll w.width w.told rows.has.vectors
  pub text_is : text ≡ output_text rows.has.rows

module _ (w : RowWork) (told : Told) (vectors : List ℕ) (files : List (List ℕ)) (begun ended : StoreState) (here : Type 0) where
  -- of vectors without a fault nothing is refused but what is excused
  pub opened-well : (old new : Around) (bytes : List ℕ) → w.told ≡ holds bytes → (says_at w.width bytes).fault ≡ None → ((vs rows : List (List Bool)) → w.differs vs rows → ⊥) → Leads (λ text. Unit {0}) (opened told vectors files begun ended here (all_rows w)) (EndsWell old new)
  opened-well old new bytes is none alike =
      after-leads (opens told) (StandsIn (vectors ∷ files) begun ended) (λ _. write outputs_line here (all_rows w)) (λ text. Unit {0}) (EndsWell old new)
      (λ _ refusal stops. open-excused old new refusal stops)
      (λ _ _. write-leads outputs_line here (all_rows w) (λ text. Unit {0}) (EndsWell old new) tt (rows-well old new w bytes (λ text. Unit {0}) is none alike))

  -- behind the line `outputs` memory is lacking for a row alone
  pub opened-lacks : (text more : List ℕ) → text ≡ outputs_line ++ more → opened told vectors files begun ended here (all_rows w) text (refuses Memory) → (rows : List ℕ) × all_rows w rows (refuses Memory)
  opened-lacks text more begins (inl h) = let empty = h.0 in absurd (cc)
  opened-lacks text more begins (inr (u, present, inl h)) = let line = h.1 in absurd (cc)
  opened-lacks text more begins (inr (u, present, inr (rows, is, h))) = (rows, h)

  pub opened-ends : (text : List ℕ) → opened told vectors files begun ended here (all_rows w) text ends → HasEnded w text
  opened-ends text (inl h) = absurd h.1
  opened-ends text (inr (u, present, inl h)) = let line = h.1 in absurd (cc)
  opened-ends text (inr (u, present, inr (more, is, h))) = has-ended more h.0 h.1 is
    where
      has-ended : (more : List ℕ) (rows : HasReadRows w more) → AreAll w.width w.told rows.has.vectors → text ≡ outputs_line ++ more → HasEnded w text
      has-ended more rows all is = record {
        more = more;
        rows = rows;
        all = all;
        text_is = is ∙ ap (λ t. outputs_line ++ t) rows.has.text_is;
      }
