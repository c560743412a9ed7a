-- How the steps of `run` follow one another, once the machine is attached.
use Rattle.std.proofs.Common.{◌≡◌, ◌≤◌, ℕ, List, [], ◌∷◌, Some, option_map, refl, sym, ap, subst, ◌∙◌, Result, Ok, Err}
use Rattle.base_io.specs.Vocabulary.{Told, StoreState, SinkState}
use Rattle.machine_shape.specs.declared.Shape.{Shape}
use Rattle.cmd_run.proofs.Vocabulary.{RigState, Asked, shape_of, ImageValue, named, attached-gives, image_rows, image_course, run_job}
use Rattle.cmd_steps.specs.Vocabulary.{Outside, StandsIn, outside, around, Does, Took, Follows, reads_machine, reads_image, attaches, MayAsk}
use Rattle.cmd_steps.specs.declared.refusal.Stop.{Stop}
use Rattle.cmd_steps.proofs.Reading.{none-read, more-read, read-stops, read-gives}

-- the machine that is attached has the image's shape
pub attached-shape : (rig : RigState) (m : Shape) (name : List ℕ) (i : ImageValue) → rig.machine.attached ≡ Some (record { shape = m; name = name }) → i.config.shape ≡ m → shape_of rig ≡ Some i.config.shape
attached-shape rig m name i is shape = ap (option_map (λ (a : Asked). a.shape)) is ∙ ap Some (sym shape)

-- the rows of an image are followed, of a file of vectors that is told so, where so many loads were made before, and the rig had
-- failed so many times as the command began
abbrev Runs : (machine image vectors : List ℕ) → StoreState → ImageValue → Result (Unit {0}) Stop → (mid new : Outside) → (failures : ℕ) → Told → ℕ → Type 0
Runs machine image vectors begun i result mid new failures told before =
    Follows ⊥ (vectors ∷ []) (new.rig.machine ≡ mid.rig.machine) (image_course (image_rows i told new.store failures new.rig)
    (record { image = i; vectors = vectors; files = image ∷ machine ∷ []; begun = begun; before = before }) (around new)) result mid new

module _ {machine name image vectors : List ℕ} {s0 s1 : StoreState} {r0 r1 : RigState} {a : SinkState} {m : Shape}
    (read : Took (machine ∷ []) (reads_machine (s0.contents machine)) (Ok m) (outside s0 r0 a) (outside s1 r0 a))
    (may : MayAsk (named name m) r0.machine.asked r1.machine.asked) (loads : r1.loads ≡ r0.loads)
    (attached : Took [] (attaches (named name m) r0 r1) (Ok tt) (outside s1 r0 a) (outside s1 r1 a)) where
  pub no-image : {U : Type 0} {s2 : StoreState} {stop : Stop} →
      Took (image ∷ []) (reads_image (s1.contents image) m) (Err stop) (outside s1 r1 a) (outside s2 r1 a) →
      Does {T = U} ⊥ (run_job machine name image vectors) (Err stop) (outside s0 r0 a) (outside s2 r1 a)
  no-image took =
      let one = more-read reads_machine machine [] s0 m _ _ (none-read s0) read in
      attached-gives machine name _ _ (image ∷ vectors ∷ []) s0 s1 r0 r1 a m read may _ _ attached
      (read-stops (λ told. reads_image told m) image (machine ∷ []) s0 _ _ (vectors ∷ []) _ _ _ _ _ refl one took
      (λ at. (at, loads)) refl)

  -- the image was read, and its rows are followed from where the store and the rig stand
  pub rows-follow : {s2 : StoreState} {i : ImageValue} {result : Result (Unit {0}) Stop} {new : Outside} →
      Took (image ∷ []) (reads_image (s1.contents image) m) (Ok i) (outside s1 r1 a) (outside s2 r1 a) →
      (StandsIn (image ∷ machine ∷ []) s0 s2 → r0.failures ≤ r1.failures →
      Runs machine image vectors s0 i result (outside s2 r1 a) new r0.failures (s2.contents vectors) r1.loads) →
      Does ⊥ (run_job machine name image vectors) result (outside s0 r0 a) new
  rows-follow {s2} {i} {result} {new} took rest =
      let one = more-read reads_machine machine [] s0 m _ _ (none-read s0) read in
      let runs = Runs machine image vectors s0 i result (outside s2 r1 a) new r0.failures in
      let both = more-read (λ told. reads_image told m) image (machine ∷ []) s0 i _ _ one took in
      let told = subst (λ (contents : List ℕ → Told). runs (contents vectors) r1.loads) both.contents (rest both.place attached.later.rig) in
      let is = subst (λ n. runs (s0.contents vectors) n) loads told in
      attached-gives machine name _ _ (image ∷ vectors ∷ []) s0 s1 r0 r1 a m read may _ _ attached
      (read-gives (λ told. reads_image told m) image (machine ∷ []) s0 _ _ (vectors ∷ []) _ _ _ _ _ _ _ one took is is.machines)
