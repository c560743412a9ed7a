-- What a `diagnose` that is done has done, from its course.
use Rattle.cmd_diagnose.proofs.Vocabulary.{◌≡◌, ◌∙◌, ℕ, List, [], ◌∷◌, ◌++◌, refl, ap, subst, inl, inr, append-nil, Wrote, text_of, Around}
use Rattle.cmd_diagnose.proofs.Vocabulary.{Outside, around, Next, ends, stopped, MadeFewLoads, unloaded, few, lists, diagnose_course}
use Rattle.cmd_diagnose.specs.Headline.{IsDiagnosed}

module _ (machine name : List ℕ) (old new : Outside) where
  pub diagnosed : (text : List ℕ) → new.store.asked ≡ old.store.asked ++ machine ∷ [] → Wrote old.sink.written new.sink.written text → diagnose_course machine name (around old) (around new) text ends → IsDiagnosed machine name old new
  diagnosed text asked wrote (inl h) = absurd h.1
  diagnosed text asked wrote (inr (m, read, inl h)) = absurd h.1
  diagnosed text asked wrote (inr (m, read, inr (u, attached, inl h))) = absurd h.1
  diagnosed text asked wrote (inr (m, read, inr (u, attached, inr (l, listed, inl h)))) = let line = h.1 in absurd (cc)
  diagnosed text asked wrote (inr (m, read, inr (u, attached, inr (l, listed, inr (more, first, h))))) = record {
    shape = m;
    made = l;
    asked = asked;
    machine_is = read;
    attached = attached;
    is_listed = listed;
    written = subst (λ t. Wrote old.sink.written new.sink.written t) (first ∙ (ap (λ t. text_of l.list ++ t) h.0 ∙ append-nil (text_of l.list))) wrote;
    loads = h.2.1;
  }

-- few loads were made, wherever it ends
module _ (machine name : List ℕ) (old new : Around) where
  abbrev few-made : Type 0
  few-made = MadeFewLoads machine name (λ made now. now ≡ made) old new

  pub few-loads : (text : List ℕ) (next : Next) → diagnose_course machine name old new text next → few-made
  few-loads text next (inl h) = unloaded h.2.1
  few-loads text next (inr (m, read, inl h)) = unloaded h.2.1
  few-loads text next (inr (m, read, inr (u, attached, inl h))) =
      few m new.rig.loads read attached (stopped (lists m old.rig.loads new.rig) next h.1).2.1 refl
  few-loads text next (inr (m, read, inr (u, attached, inr (l, listed, inl h)))) = few m l.loads read attached listed.few h.2.1
  few-loads text next (inr (m, read, inr (u, attached, inr (l, listed, inr (more, first, h))))) = few m l.loads read attached listed.few h.2.1
