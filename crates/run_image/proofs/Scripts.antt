-- What such a command reads behind its machine, and where its course stands.
use Rattle.run_image.proofs.Vocabulary.{◌≡◌, ℕ, List, [], ◌∷◌, Some, subst, inl, inr, Told, Shape, IsMachine, DefectList, NetlistData}
use Rattle.run_image.proofs.Vocabulary.{ImageValue, Asked, DesignFile, Refusal, stopped, Laid, IsLaidOn, RunBegin, machine_listed}
use Rattle.design_blif.specs.Designs.{IsDesign}
use Rattle.cmd_steps.specs.Vocabulary.{Around, Course, Next, after, refuses, Unloaded, machine_attached, IsRightFile, reads_machine, reads_design, attaches, NoMachine, NoDesign, IsExcused}
use Rattle.cmd_steps.proofs.Excused.{machine-excused, design-excused, attach-excused}
use Rattle.cmd_steps.proofs.ShapeLemmas.{one-machine, one-design}

-- each image of it is right
abbrev pub AreLaidOn : Laid → Type 0
AreLaidOn x = (d : DefectList) (i : ImageValue) → (x.lays d).gives i → IsLaidOn x d i

-- designs are read, one after another, and then what they say is laid
pub data Script : Type 1 where
  reads : DesignFile → (name : List ℕ) → (NetlistData → Script) → Script
  runs : (x : Laid) → AreLaidOn x → Script

-- the words of a command, and what it does with the designs that they name
pub record Words : Type 1 where
  pub machine : List ℕ
  pub name : List ℕ
  pub vectors : List ℕ
  pub script : Script

-- ---- its course

module _ (w : Words) (old new : Around) where
  abbrev pub begin-at : List (List ℕ) → RunBegin
  begin-at files = record { begun = old.store; failures = old.rig.failures; files = files; vectors = w.vectors }

  abbrev pub script-course : Script → List (List ℕ) → Shape → Course
  script-course (reads file name rest) files m =
      after (reads_design file (old.store.contents name)) (Unloaded (name ∷ files) old new)
      (λ draft. script-course (rest draft) (name ∷ files) m)
  script-course (runs x on) files m = machine_listed x m old.rig.loads (begin-at files) new

  abbrev pub run-course : Course
  run-course = machine_attached w.machine w.name old new (λ m. script-course w.script (w.machine ∷ []) m)

-- ---- its files

-- the file of a machine is told and right
pub record HasMachine (told : Told) : Type 0 where
  pub shape : Shape
  pub text : IsRightFile told (λ bytes. IsMachine bytes shape.counts)

-- and so is that of a design
pub record HasDesign (told : Told) : Type 0 where
  pub draft : NetlistData
  pub text : IsRightFile told (λ bytes. IsDesign bytes draft)

-- so are those of all designs, and P is so of what is laid
abbrev pub AreRight : (contents : List ℕ → Told) → Script → (Laid → Type 0) → Type 0
AreRight contents (reads file name rest) P = (d : HasDesign (contents name)) × AreRight contents (rest d.draft) P
AreRight contents (runs x on) P = P x

pub record IsRight (w : Words) (old : Around) (P : Shape → Laid → Type 0) : Type 0 where
  pub machine : HasMachine (old.store.contents w.machine)
  pub designs : AreRight old.store.contents w.script (P machine.shape)

-- the designs were read, and Q is so of what is laid, with the files that were read before it
abbrev pub AreRead : (contents : List ℕ → Told) → Script → List (List ℕ) → (List (List ℕ) → Laid → Type 0) → Type 0
AreRead contents (reads file name rest) files Q =
    (draft : NetlistData) × (reads_design file (contents name)).gives draft × AreRead contents (rest draft) (name ∷ files) Q
AreRead contents (runs x on) files Q = Q files x

-- ---- where it stands

-- the machine and these files were read, and this part of the script is left
pub record HasCome (w : Words) (old new : Around) (m : Shape) (script : Script) (files : List (List ℕ)) : Type 1 where
  pub machine_is : (reads_machine (old.store.contents w.machine)).gives m
  pub attached : new.rig.machine.attached ≡ Some (record { shape = m; name = w.name })
  -- right files say the same
  pub right : (P : Shape → Laid → Type 0) → IsRight w old P → AreRight old.store.contents script (P m)
  -- and what is so of the rest is so of the whole
  pub whole : (Q : List (List ℕ) → Laid → Type 0) → AreRead old.store.contents script files Q
      → AreRead old.store.contents w.script (w.machine ∷ []) Q

-- it stops before the list, with no load made, and right files excuse it; or the machine is listed
module _ (w : Words) (old new : Around) (text : List ℕ) (next : Next) (X : Type 0)
    (stops : (refusal : Refusal) → text ≡ [] → next ≡ refuses refusal → new.rig.loads ≡ old.rig.loads
    → ((P : Shape → Laid → Type 0) → IsRight w old P → IsExcused refusal old new) → X)
    (goes : (m : Shape) (files : List (List ℕ)) (x : Laid) (on : AreLaidOn x) → HasCome w old new m (runs x on) files
    → machine_listed x m old.rig.loads (begin-at w old new files) new text next → X) where
  script-leads : (m : Shape) (script : Script) (files : List (List ℕ)) → HasCome w old new m script files
      → script-course w old new script files m text next → X
  script-leads m (reads file name rest) files c (inl h) =
      let told = old.store.contents name in
      let s = stopped (reads_design file told) next h.1 in
      stops s.0 h.0 s.1 h.2.1 (λ P is. let d = (c.right P is).0 in
      design-excused old new file d.text.bytes d.draft d.text.says d.text.within s.0 (subst (λ (t : Told). NoDesign file t s.0) d.text.is_told s.2))
  script-leads m (reads file name rest) files c (inr (draft, gives, at)) =
      let same : (d : HasDesign (old.store.contents name)) → d.draft ≡ draft = λ d.
      one-design file (old.store.contents name) d.text.bytes d.draft draft d.text.is_told d.text.says gives in
      script-leads m (rest draft) (name ∷ files) (record {
        machine_is = c.machine_is;
        attached = c.attached;
        right = λ P is. let r = c.right P is in subst (λ (x : NetlistData). AreRight old.store.contents (rest x) (P m)) (same r.0) r.1;
        whole = λ Q q. c.whole Q (draft, gives, q);
      }) at
  script-leads m (runs x on) files c at = goes m files x on c at

  pub run-leads : run-course w old new text next → X
  run-leads (inl h) =
      let told = old.store.contents w.machine in
      let s = stopped (reads_machine told) next h.1 in
      stops s.0 h.0 s.1 h.2.1 (λ P is. let r = is.machine in
      machine-excused old new r.text.bytes r.shape.counts r.text.says r.text.within s.0 (subst (λ (t : Told). NoMachine t s.0) r.text.is_told s.2))
  run-leads (inr (m, read, inl h)) =
      let asked : Asked = record { shape = m; name = w.name } in
      let s = stopped (attaches asked old.rig new.rig) next h.1 in
      stops s.0 h.0 s.1 h.2.1 (λ _ _. attach-excused old new asked s.0 s.2)
  run-leads (inr (m, read, inr (u, attached, at))) =
      let same : (r : HasMachine (old.store.contents w.machine)) → r.shape ≡ m = λ r.
      one-machine (old.store.contents w.machine) r.text.bytes r.shape m r.text.is_told r.text.says read in
      script-leads m w.script (w.machine ∷ []) (record {
        machine_is = read;
        attached = attached;
        right = λ P is. subst (λ (s : Shape). AreRight old.store.contents w.script (P s)) (same is.machine) is.designs;
        whole = λ Q q. q;
      }) at
