-- What an `eval` that is done has done, from its course.
use Rattle.cmd_eval.proofs.Vocabulary.{◌≡◌, ℕ, List, [], ◌∷◌, ◌++◌, subst, inl, inr, Outside, ends, opened-ends, eval_course, eval_rows}
use Rattle.base_io.specs.Sink.{Wrote}
use Rattle.cmd_eval.specs.Headline.{IsEvaled}

module _ (design vectors : List ℕ) (old new : Outside) where
  pub evaled : (text : List ℕ) → new.store.asked ≡ old.store.asked ++ design ∷ vectors ∷ [] → Wrote old.sink.written new.sink.written text → eval_course design vectors old.store new.store text ends → IsEvaled design vectors old new
  evaled text asked wrote (inl h) = absurd h.1
  evaled text asked wrote (inr (draft, drawn, h)) =
      let ended = opened-ends (eval_rows draft (old.store.contents vectors) new.store) _ vectors (design ∷ []) old.store new.store _ text h in
      record {
        draft = draft;
        all_vectors = ended.rows.has.vectors;
        rows = ended.rows.has.rows;
        asked = asked;
        design_is = drawn;
        are_all = ended.all;
        written = subst (λ t. Wrote old.sink.written new.sink.written t) ended.text_is wrote;
        rows_are = ended.rows.has.are;
      }
