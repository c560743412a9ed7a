-- What a `compile` that is done has done, from its course.
use Rattle.std.proofs.Common.{◌≡◌, ◌∙◌, ℕ, List, [], ◌∷◌, ◌++◌, ap, sym, subst, inl, inr, append-nil}
use Rattle.base_io.specs.Vocabulary.{IfTold, Wrote}
use Rattle.machine_shape.specs.declared.Shape.{Shape}
use Rattle.machine_image.specs.Images.{image_bytes}
use Rattle.cmd_steps.specs.Vocabulary.{Outside, ends, IsMachineText, IsDefectsText}
use Rattle.cmd_compile.specs.{Compile.compile_course, Headline.IsCompiled}

module _ (machine defects design : List ℕ) (old new : Outside) where
  pub compiled : (text : List ℕ) → new.store.asked ≡ old.store.asked ++ machine ∷ defects ∷ design ∷ [] → Wrote old.sink.written new.sink.written text → compile_course machine defects design old.store new.store text ends → IsCompiled machine defects design old new
  compiled text asked wrote (inl h) = absurd h.1
  compiled text asked wrote (inr (m, read, inl h)) = absurd h.1
  compiled text asked wrote (inr (m, read, inr (d, listed, inl h))) = absurd h.1
  compiled text asked wrote (inr (m, read, inr (d, listed, inr (draft, drawn, inl h)))) = absurd h.1
  compiled text asked wrote (inr (m, read, inr (d, listed, inr (draft, drawn, inr (i, laid, inl h))))) = let line = h.1 in absurd (cc)
  compiled text asked wrote (inr (m, read, inr (d, listed, inr (draft, drawn, inr (i, laid, inr (more, first, h)))))) = record {
    list = d;
    draft = draft;
    image = i;
    asked = asked;
    machine_is = subst (λ (s : Shape). IfTold (old.store.contents machine) (λ bytes. IsMachineText bytes s)) (sym listed.0) read;
    list_is = subst (λ (s : Shape). IfTold (old.store.contents defects) (λ bytes. IsDefectsText s bytes d)) (sym listed.0) listed.1;
    design_is = drawn;
    image_for = laid.0;
    room = laid.1;
    written = subst (λ t. Wrote old.sink.written new.sink.written t) (first ∙ (ap (λ t. image_bytes i ++ t) h.0 ∙ append-nil (image_bytes i))) wrote;
  }
