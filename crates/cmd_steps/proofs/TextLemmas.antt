-- Texts that are read: what is so of the bytes is so of the file that has them.
use Rattle.cmd_steps.proofs.Vocabulary.{◌≡◌, ◌∙◌, ℕ, ◌<◌, ◌≤◌, List, length, refl, inl, arith, Told, untold, absent, holds, IfTold, Shape}
use Rattle.cmd_steps.proofs.Vocabulary.{most_text, IsDesignFault, TooLong, most_bytes, DesignFile, Refusal, Stop, Refused}
use Rattle.machine_text.specs.declared.kind.MachineKind.TheVariants as machine
use Rattle.machine_defects.specs.declared.kind.DefectsKind.TheVariants as defects
use Rattle.design_netlist.specs.declared.fault.DesignKind.{DesignKind}
use Rattle.design_netlist.specs.declared.fault.DesignKind.TheVariants as design
use Rattle.machine_image.specs.declared.kind.ImageKind.TheVariants as image
use Rattle.cmd_steps.specs.Vocabulary.{Step, Outside, StepStops, IsCounted, reads_machine, reads_defects, reads_design, reads_text, reads_image, NoMachine, NoDefects, NoDesign, NoImage, IsNoDesign, IsRefusedAt}
use Rattle.cmd_steps.specs.declared.refusal.Refusal.TheVariants as refused

pub IfTold-with : (told : Told) (P Q : List ℕ → Type 0) → IfTold told P → ((bytes : List ℕ) → P bytes → Q bytes) → IfTold told Q
IfTold-with untold P Q h f = tt
IfTold-with absent P Q h f = h
IfTold-with (holds bytes) P Q h f = f bytes h

-- this text is what the file has, which may have so many bytes
abbrev pub IsTextOf : (most : ℕ) → Told → List ℕ → Type 0
IsTextOf most told text = IfTold told (λ bytes. (text ≡ bytes) × (length bytes ≤ most))

-- and the file has more bytes than are read
abbrev pub IsLong : (most : ℕ) → Told → Type 0
IsLong most told = IfTold told (λ bytes. most < length bytes)

-- what a step says of a text it says of the file that has it, and a store that fails or lacks memory stops it
pub record IsOfFile {T : Type 0} (most : ℕ) (step : Told → Step T) : Type 0 where
  pub gives : (told : Told) (text : List ℕ) → IsTextOf most told text → (x : T) → (step (holds text)).gives x → (step told).gives x
  pub stops : (told : Told) (text : List ℕ) → IsTextOf most told text → (refusal : Refusal) → (step (holds text)).stops refusal → (step told).stops refusal
  pub fails : (told : Told) → (step told).stops refused.Store
  pub lacks : (told : Told) → (step told).stops refused.Memory

-- ---- machines

no-machine : (told : Told) (text : List ℕ) → IsTextOf most_bytes told text → (refusal : Refusal) → NoMachine (holds text) refusal → NoMachine told refusal
no-machine told text is (refused.Machine line kind) stops = IfTold-with told _ _ is (λ bytes h. rw (← h.0) stops)
no-machine told text is refused.Memory stops = tt
no-machine told text is refused.Store stops = tt
no-machine told text is refusal stops = absurd stops

pub of-machine : IsOfFile most_bytes reads_machine
of-machine = record {
  gives = λ told text is m h. IfTold-with told _ _ is (λ bytes same. rw (← same.0) h);
  stops = no-machine;
  fails = λ told. tt;
  lacks = λ told. tt;
}

pub long-machine : (told : Told) → IsLong most_bytes told → StepStops (reads_machine told) (Refused (refused.Machine 0 machine.Limit))
long-machine told long = IfTold-with told _ _ long (λ bytes more. (inl (more, (refl, refl)), λ c is within. omega (arith, more, within)))

-- ---- lists of defects

no-defects : (m : Shape) (told : Told) (text : List ℕ) → IsTextOf (most_text m) told text → (refusal : Refusal) → NoDefects (holds text) m refusal → NoDefects told m refusal
no-defects m told text is (refused.Defects line kind) stops = IfTold-with told _ _ is (λ bytes h. rw (← h.0) stops)
no-defects m told text is refused.Memory stops = tt
no-defects m told text is refused.Store stops = tt
no-defects m told text is refusal stops = absurd stops

pub of-defects : (m : Shape) → IsOfFile (most_text m) (λ told. reads_defects told m)
of-defects m = record {
  gives = λ told text is d h. (h.0, IfTold-with told _ _ is (λ bytes same. rw (← same.0) h.1));
  stops = no-defects m;
  fails = λ told. tt;
  lacks = λ told. tt;
}

pub long-defects : (m : Shape) (told : Told) → IsLong (most_text m) told → StepStops (reads_defects told m) (Refused (refused.Defects 0 defects.Limit))
long-defects m told long = IfTold-with told _ _ long (λ bytes more. (inl (more, refl, refl), λ d is within. omega (arith, more, within)))

-- ---- images

no-image : (m : Shape) (told : Told) (text : List ℕ) → IsTextOf most_bytes told text → (refusal : Refusal) → NoImage (holds text) m refusal → NoImage told m refusal
no-image m told text is (refused.Image line kind) stops = IfTold-with told _ _ is (λ bytes h. rw (← h.0) stops)
no-image m told text is refused.Memory stops = tt
no-image m told text is refused.Store stops = tt
no-image m told text is refusal stops = absurd stops

pub of-image : (m : Shape) → IsOfFile most_bytes (λ told. reads_image told m)
of-image m = record {
  gives = λ told text is i h. (h.0, h.1, IfTold-with told _ _ is (λ bytes same. rw (← same.0) h.2));
  stops = no-image m;
  fails = λ told. tt;
  lacks = λ told. tt;
}

pub long-image : (m : Shape) (told : Told) → IsLong most_bytes told → StepStops (reads_image told m) (Refused (refused.Image 0 image.Limit))
long-image m told long = IfTold-with told _ _ long (λ bytes more. (inl (more, (refl, refl)), λ i is shape text within. omega (arith, more, within)))

-- ---- designs

no-design : (file : DesignFile) (told : Told) (text : List ℕ) → IsTextOf most_bytes told text → (refusal : Refusal) → NoDesign file (holds text) refusal → NoDesign file told refusal
no-design file told text is (refused.Design place) stops = (stops.0, IfTold-with told _ _ is (λ bytes h. rw (← h.0) stops.1))
no-design file told text is refused.Memory stops = tt
no-design file told text is refused.Store stops = tt
no-design file told text is refusal stops = absurd stops

pub of-design : (file : DesignFile) → IsOfFile most_bytes (reads_design file)
of-design file = record {
  gives = λ told text is draft h. IfTold-with told _ _ is (λ bytes same. rw (← same.0) h);
  stops = no-design file;
  fails = λ told. tt;
  lacks = λ told. tt;
}

-- a fault of a design that was refused
pub design-refused : (file : DesignFile) (told : Told) (line : ℕ) (kind : DesignKind) (stop : Stop) → IsRefusedAt file line kind stop → IfTold told (λ bytes. IsDesignFault bytes line kind × IsNoDesign bytes) → StepStops (reads_design file told) stop
design-refused file told line kind (Refused (refused.Design place)) is why = rw is (refl, why)
design-refused file told line kind (Refused refused.Memory) is why = tt
design-refused file told line kind stop is why = absurd is

pub design-counted : (file : DesignFile) (line : ℕ) (kind : DesignKind) (stop : Stop) (old new : Outside) → IsRefusedAt file line kind stop → IsCounted ⊥ stop old new
design-counted file line kind (Refused (refused.Design place)) old new is = tt
design-counted file line kind (Refused refused.Memory) old new is = tt
design-counted file line kind stop old new is = absurd is

pub long-design : (file : DesignFile) (told : Told) (stop : Stop) → IsRefusedAt file 0 design.Limit stop → IsLong most_bytes told → StepStops (reads_design file told) stop
long-design file told stop is long =
    design-refused file told 0 design.Limit stop is (IfTold-with told _ _ long (λ bytes more. (TooLong more refl refl, λ draft right within. omega (arith, more, within))))

-- ---- designs with their bytes

pub of-text : (file : DesignFile) → IsOfFile most_bytes (reads_text file)
of-text file = record {
  gives = λ told text is x h. record { design = h.design; file = IfTold-with told _ _ is (λ bytes same. h.file ∙ same.0) };
  stops = no-design file;
  fails = λ told. tt;
  lacks = λ told. tt;
}

-- what stops a design's reading stops it with its bytes
pub text-stops : (file : DesignFile) (told : Told) (stop : Stop) → StepStops (reads_design file told) stop → StepStops (reads_text file told) stop
text-stops file told (Refused refusal) stops = stops
text-stops file told stop stops = absurd stops
