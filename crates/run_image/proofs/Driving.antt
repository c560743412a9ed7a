-- The session of an image that is loaded, cycle by cycle.
use Rattle.std.proofs.Common.{◌≡◌, ℕ, ◌+◌, ◌≤◌, Bool, List, [], ◌∷◌, ◌++◌, length, map, Some, arith, refl, sym, ap, ◌∙◌, subst, length-append}
use Rattle.run_image.proofs.Vocabulary.{length-map, map-append, Faults, Pins, ImageValue, drive_of, image_row, pins_in, RunsRow, RunsRows}
use Rattle.machine_config.specs.Vocabulary.{Configuration, Cycles, none, cycle, IsRun}
use Rattle.rig.specs.Rig.{RigState, Explains, Exchange, Begins, config_of, cycles_of, drives_of, readings_of, spare_of}
use Rattle.rig.proofs.Narrowing.{session_run}

-- the image is loaded with room for so many rows, these vectors were driven, and these rows were read
pub record HasDriven (room : ℕ) (i : ImageValue) (vectors rows : List (List Bool)) (rig : RigState) : Type 0 where
  pub config : config_of rig ≡ Some i.config
  pub drives : drives_of (cycles_of rig) ≡ map (drive_of i) vectors
  pub rows_are : rows ≡ map (image_row i) (readings_of (cycles_of rig))
  pub left : room ≤ spare_of rig + length rows

pub driven-start : (room : ℕ) (i : ImageValue) (rig : RigState) → Begins i.config room rig → HasDriven room i [] [] rig
driven-start room i rig begins = record {
  config = begins.config;
  drives = rw begins.cycles refl;
  rows_are = rw begins.cycles refl;
  left = omega (arith, begins.spare);
}

-- one more cycle
pub driven-more : (room : ℕ) (i : ImageValue) (vectors rows : List (List Bool)) (vector row : List Bool) (rig rig' : RigState) → HasDriven room i vectors rows rig → RunsRow (pins_in i) rig rig' vector row → HasDriven room i (vectors ++ vector ∷ []) (rows ++ row ∷ []) rig'
driven-more room i vectors rows vector row rig rig' is run =
    let size : length (rows ++ row ∷ []) ≡ length rows + 1 = rw (length-append rows) refl in
    record {
      config = run.1.config ∙ is.config;
      drives = rw (run.1.cycles, map-append (λ (x : Exchange). x.drive) (cycles_of rig), map-append (drive_of i) vectors, is.drives) refl;
      rows_are = rw (run.1.cycles, map-append (λ (x : Exchange). x.reading) (cycles_of rig), map-append (image_row i) (readings_of (cycles_of rig)), ← is.rows_are, run.2) refl;
      left = let spare = run.1.spare in let left = is.left in omega (arith, left, spare, size);
    }

-- several cycles at once
pub driven-all : (room : ℕ) (i : ImageValue) (vectors rows vs rs : List (List Bool)) (rig rig' : RigState) → HasDriven room i vectors rows rig → RunsRows (pins_in i) rig rig' vs rs → HasDriven room i (vectors ++ vs) (rows ++ rs) rig'
driven-all room i vectors rows vs rs rig rig' is run =
    let goes = run.1 in
    let before : List Exchange = cycles_of rig in
    let made : length rs ≡ length run.0 = ap length run.2 ∙ length-map run.0 (image_row i) in
    let read : length run.0 ≡ length goes.more = ap length (sym goes.read) ∙ length-map goes.more (λ (x : Exchange). x.reading) in
    let driven : length goes.more ≡ length (map (drive_of i) vs) = sym (length-map goes.more (λ (x : Exchange). x.drive)) ∙ ap length goes.driven in
    let size = length-append rows rs in
    record {
      config = goes.config ∙ is.config;
      drives =
          ap drives_of goes.cycles ∙ (map-append (λ (x : Exchange). x.drive) before goes.more ∙ (ap (λ (t : List Pins). t ++ drives_of goes.more) is.drives
          ∙ (ap (λ (t : List Pins). map (drive_of i) vectors ++ t) goes.driven ∙ sym (map-append (drive_of i) vectors vs))));
      rows_are =
          ap (λ (t : List (List Bool)). t ++ rs) is.rows_are
          ∙ (ap (λ (t : List (List Bool)). map (image_row i) (readings_of before) ++ t) (run.2 ∙ ap (map (image_row i)) (sym goes.read))
          ∙ (sym (map-append (image_row i) (readings_of before) (readings_of goes.more))
          ∙ ap (map (image_row i)) (sym (map-append (λ (x : Exchange). x.reading) before goes.more) ∙ ap readings_of (sym goes.cycles))));
      left = let spare = goes.spare in let left = is.left in omega (arith, left, spare, size, made, read, driven);
    }

-- the first of the cycles of a run
less-cycles : {c : _} {x y : _} (ds more rs behind : List Pins) → length ds ≡ length rs → Cycles c x (ds ++ more) (rs ++ behind) y → (z : _) × Cycles c x ds rs z
less-cycles {x = x} [] more [] behind size run = (x, none)
less-cycles (d ∷ ds) more [] behind size run = absurd (let never : ⊥ = omega (arith, size) in never)
less-cycles [] more (r ∷ rs) behind size run = absurd (let never : ⊥ = omega (arith, size) in never)
less-cycles (d ∷ ds) more (r ∷ rs) behind size (cycle step steps) =
    let less = less-cycles ds more rs behind (omega (arith, size)) steps in (less.0, cycle step less.1)

pub run-less : (f : Faults) (g : Configuration) (ds more rs behind : List Pins) → length ds ≡ length rs → IsRun f g (ds ++ more) (rs ++ behind) → IsRun f g ds rs
run-less f g ds more rs behind size run = let less = less-cycles ds more rs behind size run.cycles in record { outputs = less.0; cycles = less.1 }

-- under each set that explains what was read, that is the run of the image under what was driven
pub explained-run : (rig : RigState) (i : ImageValue) (vectors : List (List Bool)) → config_of rig ≡ Some i.config → drives_of (cycles_of rig) ≡ map (drive_of i) vectors → (f : Faults) → Explains f rig → IsRun f i.config (map (drive_of i) vectors) (readings_of (cycles_of rig))
explained-run rig i vectors config drives f e = subst (λ (ds : List Pins). IsRun f i.config ds (readings_of (cycles_of rig))) drives (session_run f rig i.config config e)
