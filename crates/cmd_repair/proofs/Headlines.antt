-- What a `repair` that is done has done, from its course.
use Rattle.std.proofs.Common.{◌≡◌, ◌∙◌, ℕ, List, [], ◌∷◌, ◌++◌, ap, sym, subst, inl, inr, append-nil}
use Rattle.base_io.specs.Vocabulary.{IfTold, Wrote}
use Rattle.cmd_repair.proofs.Vocabulary.{Shape, Reads, image_bytes, Outside, ends, IsMachineText, IsDefectsText, repair_course}
use Rattle.cmd_repair.specs.Headline.{IsRepaired}

module _ (machine defects image : List ℕ) (old new : Outside) where
  pub repaired : (text : List ℕ) → new.store.asked ≡ old.store.asked ++ machine ∷ defects ∷ image ∷ [] → Wrote old.sink.written new.sink.written text → repair_course machine defects image old.store new.store text ends → IsRepaired machine defects image old new
  repaired text asked wrote (inl h) = absurd h.1
  repaired text asked wrote (inr (m, read, inl h)) = absurd h.1
  repaired text asked wrote (inr (m, read, inr (d, listed, inl h))) = absurd h.1
  repaired text asked wrote (inr (m, read, inr (d, listed, inr (i, given, inl h)))) = absurd h.1
  repaired text asked wrote (inr (m, read, inr (d, listed, inr (i, given, inr (u, few, inl h))))) = absurd h.1
  repaired text asked wrote (inr (m, read, inr (d, listed, inr (i, given, inr (u, few, inr (j, is, inl h)))))) = let line = h.1 in absurd (cc)
  repaired text asked wrote (inr (m, read, inr (d, listed, inr (i, given, inr (u, few, inr (j, is, inr (more, first, h))))))) = record {
    list = d;
    given = i;
    repaired = j;
    asked = asked;
    machine_is = subst (λ (s : Shape). IfTold (old.store.contents machine) (λ bytes. IsMachineText bytes s)) (sym listed.0) read;
    list_is = subst (λ (s : Shape). IfTold (old.store.contents defects) (λ bytes. IsDefectsText s bytes d)) (sym listed.0) listed.1;
    image_is = subst (λ (s : Shape). IfTold (old.store.contents image) (λ bytes. Reads s bytes i)) (sym listed.0) given.2;
    few = few;
    repair = is;
    written = subst (λ t. Wrote old.sink.written new.sink.written t) (first ∙ (ap (λ t. image_bytes j ++ t) h.0 ∙ append-nil (image_bytes j))) wrote;
  }
