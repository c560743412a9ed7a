-- The rows of what is left alone are those of a machine without faults.
use Rattle.std.proofs.Common.{◌≡◌, ℕ, Bool, Some, None, Option, List, length, map, take, sym, ap, ◌∙◌, subst, refl, IsSome}
use Rattle.machine_history.proofs.Vocabulary.{All, nat_cmp, false≢true, take-map, Shape, Configuration, IsConfiguration, IsRun}
use Rattle.std.specs.FinMap as finmap
use Rattle.std.specs.FinSet as set
use Rattle.machine_meaning.specs.Vocabulary.{Faults, AreFaultsOf, IsFaultless, pair_cmp, Defects, Covers, Pins}
use Rattle.machine_image.specs.Vocabulary.{ImageValue, IsImage, IsFreeImage, drive_of, image_row}
use Rattle.machine_history.specs.Vocabulary.{History, IsHistoryOf, IsRunOver, IsTenantOf, LeavesAloneFor, IsDriveFor, drive_alone}
use Rattle.machine_history.proofs.Constant.{run_of}
use Rattle.machine_history.proofs.Existing.{run_over_exists}
use Rattle.machine_history.proofs.Images.{image_runs_alone, always_alone}
use Rattle.machine_history.proofs.Lasting.{tenant_runs_alone}
use Rattle.machine_history.proofs.Within.{within_alone}

-- no faults at all
pub clean : Faults
clean = record { wires = finmap.empty; crosses = finmap.empty; cells = finmap.empty; registers = finmap.empty; bridges = set.empty }

pub clean_faultless : IsFaultless clean
unfolding clean
clean_faultless = record {
  wires = λ w. finmap.get-empty nat_cmp w;
  crosses = λ x. finmap.get-empty nat_cmp x;
  cells = λ t a. finmap.get-empty pair_cmp (t, a);
  registers = λ t. finmap.get-empty nat_cmp t;
  bridges = λ p. set.contains-empty pair_cmp p;
}

not_there : {o : Option Bool} → o ≡ None → IsSome o → ⊥
not_there e is = let no_value : IsSome {T = Bool} None = subst IsSome e is in false≢true no_value

-- a machine without faults has a run
clean_of : (m : Shape) → AreFaultsOf m clean
clean_of m = record {
  wires = λ w is. absurd (not_there (clean_faultless.wires w) is);
  crosses = λ x is. absurd (not_there (clean_faultless.crosses x) is);
  cells = λ t a is. absurd (not_there (clean_faultless.cells t a) is);
  registers = λ t is. absurd (not_there (clean_faultless.registers t) is);
  bridges = λ w u is. absurd (false≢true (sym (clean_faultless.bridges (w, u)) ∙ is));
}

pub clean_run : (g : Configuration) → IsConfiguration g → (drives : List Pins) → (reads : List Pins) × IsRun clean g drives reads
clean_run g is drives =
    let r = run_over_exists g is (λ cycle instant. clean) (λ cycle instant. clean_of g.shape) drives in
    (r.0, run_of clean g (λ cycle instant. clean) (λ cycle instant. refl) drives r.0 r.1)

module _ (Rows : List (List Bool) → List (List Bool) → Type 0) where
  -- without faults the image reads these rows
  abbrev pub IsRight : ImageValue → Type 0
  IsRight i = (vectors : List (List Bool)) (reads : List Pins) → All (λ v. length v ≡ length i.inputs) vectors → IsRun clean i.config (map (drive_of i) vectors) reads → Rows vectors (map (image_row i) reads)

  -- as long as a tenant is left alone it reads the first of its own rows
  pub tenant_rows : (whole tenant : ImageValue) → IsImage whole → IsConfiguration tenant.config → IsTenantOf whole tenant → IsRight tenant → (h : History) (n : ℕ) (drives reads : List Pins) (vectors : List (List Bool)) → LeavesAloneFor n h whole tenant →
      All (IsDriveFor whole tenant) drives → map (drive_alone tenant) drives ≡ map (drive_of tenant) vectors → All (λ v. length v ≡ length tenant.inputs) vectors → IsRunOver h whole.config drives reads →
      (rows : List (List Bool)) × Rows vectors rows × (map (image_row tenant) (take n reads) ≡ take n rows)
  tenant_rows whole tenant image config is right h n drives reads vectors left quiet same widths p =
      let r = clean_run tenant.config config (map (drive_of tenant) vectors) in (
        map (image_row tenant) r.0,
        right vectors r.0 widths r.1,
        tenant_runs_alone whole tenant is h clean n drives reads r.0 image is left clean_faultless quiet p (subst (λ ds. IsRun clean tenant.config ds r.0) (sym same) r.1)
            ∙ sym (take-map (image_row tenant) n r.0),
      )

  module _ (i : ImageValue) (is : IsImage i) (right : IsRight i) (h : History) (vectors : List (List Bool)) (reads : List Pins) (widths : All (λ v. length v ≡ length i.inputs) vectors) (p : IsRunOver h i.config (map (drive_of i) vectors) reads) where
    -- as long as an image is left alone in itself it reads the first of its rows
    pub image_rows : (n : ℕ) → LeavesAloneFor n h i i → (rows : List (List Bool)) × Rows vectors rows × (map (image_row i) (take n reads) ≡ take n rows)
    image_rows n left =
        let r = clean_run i.config is.config (map (drive_of i) vectors) in
        (map (image_row i) r.0, right vectors r.0 widths r.1, image_runs_alone i is h clean clean_faultless n vectors reads r.0 left p r.1 ∙ sym (take-map (image_row i) n r.0))

    -- an image on what a list leaves free reads its rows, whatever is done to what is listed
    pub covered_rows : (d : Defects) → IsHistoryOf i.config.shape h → IsFreeImage d i → ((cycle instant : ℕ) → Covers i.config.shape d (h cycle instant)) → Rows vectors (map (image_row i) reads)
    covered_rows d faults free covers =
        let r = clean_run i.config is.config (map (drive_of i) vectors) in
        subst (Rows vectors) (sym (always_alone i is h clean clean_faultless (λ cycle instant. within_alone d i (h cycle instant) (faults cycle instant) is free (covers cycle instant)) vectors reads r.0 p r.1))
        (right vectors r.0 widths r.1)
