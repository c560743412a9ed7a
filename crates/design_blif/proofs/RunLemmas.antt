-- Reading line by line gives what the text spells, or its fault.
use Rattle.std.proofs.Common.{◌≡◌, ℕ, Bool, true, false, cond, List, [], ◌∷◌, ◌++◌, Option, Some, None, Result, Ok, Err, map, refl, sym, ap, ◌∙◌, append_assoc, IfOk}
use Rattle.design_blif.proofs.Vocabulary.{Vec, append-nil, LogicalLine, logical_lines, DesignKind, NoModel, DesignFault, Model}
use Rattle.design_blif.specs.Faults.{fault_of, first_fault, answer, reading}
use Rattle.design_blif.specs.Runs.{Gives, TextState, text_start, text_after, above_of, run, ended, whole}
use Rattle.design_blif.specs.Grammar.{models_of, spelled_model, is_some_model, above_by, AreModels}
use Rattle.design_blif.proofs.RightLemmas.{right_lines, no_fault}
use Rattle.design_blif.proofs.ModelsLemmas.{IsText, text_start_is, above_is, models_are, text_step}

run_is : (lines above : List LogicalLine) (t : TextState) → IsText (models_of above) t → ended (run t lines) ≡ answer (above ++ lines) (first_fault above lines)
unfolding run first_fault
run_is [] above t is = rw (append-nil above, models_are (models_of above) t is, is.begun) refl
run_is (l ∷ lines) above t is = by (fault_of (above_of t) l) refl (run_is lines (above ++ l ∷ []) (text_after t l))
  where
    by : (f : Option DesignKind) → fault_of (above_of t) l ≡ f → (IsText (models_of (above ++ l ∷ [])) (text_after t l) → ended (run (text_after t l) lines) ≡ answer ((above ++ l ∷ []) ++ lines) (first_fault (above ++ l ∷ []) lines))
        → ended (run t (l ∷ lines)) ≡ answer (above ++ l ∷ lines) (first_fault above (l ∷ lines))
    by None e below =
        let seen : fault_of (above_by (models_of above)) l ≡ None = ap (λ x. fault_of x l) (sym (above_is (models_of above) t is)) ∙ e in
        rw (e, seen) (rw append_assoc at (below (text_step above t l is e)))
    by (Some k) e below =
        let seen : fault_of (above_by (models_of above)) l ≡ Some k = ap (λ x. fault_of x l) (sym (above_is (models_of above) t is)) ∙ e in
        rw (e, seen) refl

pub whole_is : (lines : List LogicalLine) → whole lines ≡ reading lines
whole_is lines = run_is lines [] text_start text_start_is

abbrev first : Option (ℕ × DesignKind) → Bool → List Model → Result (List Model) (ℕ × DesignKind)
first (Some f) b e = Err f
first None b e = cond b (Ok e) (Err (0, NoModel))

reading_ok : (f : Option (ℕ × DesignKind)) (b : Bool) (d e : List Model) → first f b e ≡ Ok d → (f ≡ None) × (b ≡ true) × (d ≡ e)
reading_ok (Some f) b d e h = absurd cc
reading_ok None true d e h = (refl, refl, cc)
reading_ok None false d e h = absurd cc

first_is : (lines : List LogicalLine) (f : Option (ℕ × DesignKind)) → first f (is_some_model (models_of lines)) (map spelled_model (models_of lines)) ≡ answer lines f
first_is lines (Some f) = refl
first_is lines None = refl

-- a text that is read is that of the models, and their text is read
module _ (bytes : List ℕ) where
  pub are_models : (d : List Model) → reading (logical_lines true bytes) ≡ Ok d → AreModels bytes d
  are_models d h =
      let lines = logical_lines true bytes in
      let p = reading_ok (first_fault [] lines) (is_some_model (models_of lines)) d (map spelled_model (models_of lines)) (first_is lines (first_fault [] lines) ∙ h) in
      record { right = right_lines lines [] p.0; some = p.1; models_are = p.2 }

  pub are_read : (d : List Model) → AreModels bytes d → reading (logical_lines true bytes) ≡ Ok d
  are_read d is = rw (no_fault (logical_lines true bytes) [] is.right, is.some, is.models_are) refl

pub found_are : (bytes : List ℕ) (r : Result (Vec Model) DesignFault) → Gives (λ v. v.items) r (whole (logical_lines true bytes)) → IfOk r (λ v. AreModels bytes (v.items))
found_are bytes (Ok v) h = are_models bytes (v.items) (sym (whole_is (logical_lines true bytes)) ∙ h)
found_are bytes (Err e) h = tt
