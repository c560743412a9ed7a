-- What the mapper has done at status 0, from its courses.
use Rattle.cmd_map.proofs.Vocabulary.{◌≡◌, ◌⊎◌, ℕ, List, [], ◌∷◌, ◌++◌, sym, subst, inl, inr, IfTold, Wrote, Shape, MayStandFor, IsNarrowOr}
use Rattle.cmd_map.proofs.Vocabulary.{HasNarrowCovers, Remapped, DesignText, line-ended, map_course, fit_course}
use Rattle.cmd_steps.specs.Vocabulary.{Outside, ends, IsMachineText, IsDefectsText, IsDesignText, IsTextRead}
use Rattle.cmd_steps.proofs.TextLemmas.{IfTold-with}
use Rattle.cmd_map.specs.Headline.{WroteRemapped, IsMapped, IsFitted}

module _ (design : List ℕ) (old new : Outside) where
  -- the covers have few inputs, or the text is the file's
  narrow-or : (read : DesignText) (r : Remapped) → IsTextRead (old.store.contents design) read → IsNarrowOr read.text r → HasNarrowCovers r.netlist ⊎ IfTold (old.store.contents design) (λ bytes. r.text ≡ bytes)
  narrow-or read r is (inl narrow) = inl narrow
  narrow-or read r is (inr own) = inr (IfTold-with (old.store.contents design) _ _ is.file (λ bytes same. rw own same))

  pub wrote-remapped : (read : DesignText) (r : Remapped) (text : List ℕ) → IsTextRead (old.store.contents design) read → MayStandFor read.netlist read.text r → text ≡ r.text → Wrote old.sink.written new.sink.written text → WroteRemapped design read.netlist r.text r.netlist old new
  wrote-remapped read r text is stands same wrote = record {
    design_is = IfTold-with (old.store.contents design) _ _ is.file (λ bytes file. subst (λ t. IsDesignText t read.netlist) file is.design);
    remapped = stands.remapped;
    narrow = narrow-or read r is stands.narrow;
    written = subst (λ t. Wrote old.sink.written new.sink.written t) same wrote;
  }

  pub mapped : (text : List ℕ) → new.store.asked ≡ old.store.asked ++ design ∷ [] → Wrote old.sink.written new.sink.written text → map_course design old.store new.store text ends → IsMapped design old new
  mapped text asked wrote (inl h) = absurd h.1
  mapped text asked wrote (inr (read, is, inl h)) = absurd h.1
  mapped text asked wrote (inr (read, is, inr (r, stands, h))) = record {
    draft = read.netlist;
    text = r.text;
    mapped = r.netlist;
    asked = asked;
    wrote = wrote-remapped read r text is stands (line-ended r.text _ text h).0 wrote;
  }

module _ (machine defects design : List ℕ) (old new : Outside) where
  pub fitted : (text : List ℕ) → new.store.asked ≡ old.store.asked ++ machine ∷ defects ∷ design ∷ [] → Wrote old.sink.written new.sink.written text → fit_course machine defects design old.store new.store text ends → IsFitted machine defects design old new
  fitted text asked wrote (inl h) = absurd h.1
  fitted text asked wrote (inr (m, read, inl h)) = absurd h.1
  fitted text asked wrote (inr (m, read, inr (d, listed, inl h))) = absurd h.1
  fitted text asked wrote (inr (m, read, inr (d, listed, inr (x, drawn, inl h)))) = absurd h.1
  fitted text asked wrote (inr (m, read, inr (d, listed, inr (x, drawn, inr (r, made, h))))) = record {
    list = d;
    draft = x.netlist;
    text = r.text;
    mapped = r.netlist;
    asked = asked;
    machine_is = subst (λ (s : Shape). IfTold (old.store.contents machine) (λ bytes. IsMachineText bytes s)) (sym listed.0) read;
    list_is = subst (λ (s : Shape). IfTold (old.store.contents defects) (λ bytes. IsDefectsText s bytes d)) (sym listed.0) listed.1;
    wrote = wrote-remapped design old new x r text drawn made.0 (line-ended r.text _ text h).0 wrote;
    room = made.1;
  }
