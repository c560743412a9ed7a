-- A tenant that is left alone reads for its part of the vectors what it reads by itself.
use Rattle.std.proofs.Common.{◌≡◌, ℕ, ◌+◌, ◌<◌, ◌≤◌, Bool, true, false, List, [], ◌∷◌, ◌++◌, length, get_or, map, take, refl, sym, ap, ◌∙◌, subst, arith}
use Rattle.place_pair.proofs.Vocabulary.{All, Contains, range_with_len, pins_of, Faults, IsFaultless, Pins, IsRun, ImageValue, IsImage}
use Rattle.place_pair.proofs.Vocabulary.{bit_for, row_at, drive_of, different_at, part, AreTenants, RunsAsAloneOver}
use Rattle.std.proofs.lemmas.List.{get_or_append_left, get_or_default, ext_get_or, length-append, take_at, drop_at, take_all}
use Rattle.std.proofs.lemmas.List.Elements.{All-map, Contains-append_left, Contains-append_right}
use Rattle.std.proofs.lemmas.List.FromFn.{length-map-range_with_len}
use Rattle.machine_image.proofs.Driven.{drive_pin, drive_low}
use Rattle.machine_history.specs.Vocabulary.{History, IsTenantOf, LeavesAloneFor, IsDriveFor, drive_alone}
use Rattle.machine_history.proofs.Driving.{same_lows, low_there, low_here, drives_itself}
use Rattle.machine_history.proofs.Lasting.{tenant_runs_alone}
use Rattle.place_pair.proofs.Lists.{nth_part}
use Rattle.place_pair.proofs.Sharing.{first_is_tenant, second_is_tenant}

-- the tenant's input pins are some of the whole's, from a place on
module _ (whole tenant : ImageValue) (image : IsImage whole) (shape : tenant.config.shape ≡ whole.config.shape) (front : ℕ) (here : tenant.inputs ≡ part front (length tenant.inputs) whole.inputs) (long : front + length tenant.inputs ≤ length whole.inputs) where
  there : (i : ℕ) → i < length tenant.inputs → get_or tenant.inputs i 0 ≡ get_or whole.inputs (front + i) 0
  there i h = ap (λ xs. get_or xs i 0) here ∙ nth_part front (length tenant.inputs) whole.inputs i 0 h

  within : (i : ℕ) → i < length whole.inputs → get_or whole.inputs i 0 < pins_of whole.config.shape
  within i h = subst (λ k. k < pins_of whole.config.shape) (get_or_append_left whole.inputs whole.outputs 0 i h) (image.within i 0 (rw length-append (omega (arith, h))))

  one_place : (i j : ℕ) → i < length whole.inputs → j < length whole.inputs → get_or whole.inputs i 0 ≡ get_or whole.inputs j 0 → i ≡ j
  one_place i j h l e =
      different_at (whole.inputs ++ whole.outputs) image.apart i j (rw length-append (omega (arith, h))) (rw length-append (omega (arith, l)))
      (get_or_append_left whole.inputs whole.outputs 0 i h ∙ e ∙ sym (get_or_append_left whole.inputs whole.outputs 0 j l))

  module _ (v : List Bool) where
    whole_pin : (i : ℕ) → i < length tenant.inputs → get_or (drive_of whole v) (get_or tenant.inputs i 0) true ≡ get_or v (front + i) true
    whole_pin i h =
        ap (λ k. get_or (drive_of whole v) k true) (there i h)
        ∙ drive_pin (pins_of whole.config.shape) whole.inputs v (front + i) (omega (arith, h, long)) (within (front + i) (omega (arith, h, long))) (λ j l e. one_place j (front + i) l (omega (arith, h, long)) e)

    own_pin : (i : ℕ) → i < length tenant.inputs → get_or (drive_of tenant (part front (length tenant.inputs) v)) (get_or tenant.inputs i 0) true ≡ get_or v (front + i) true
    own_pin i h =
        drive_pin (pins_of tenant.config.shape) tenant.inputs (part front (length tenant.inputs) v) i h (rw (there i h, shape) (within (front + i) (omega (arith, h, long))))
        (λ j l e. let same : front + j ≡ front + i = one_place (front + j) (front + i) (omega (arith, l, long)) (omega (arith, h, long)) (sym (there j l) ∙ e ∙ there i h) in omega (arith, same))
        ∙ nth_part front (length tenant.inputs) v i true h

    wide : (f : ℕ → Bool) → length (map f (range_with_len 0 (pins_of tenant.config.shape))) ≡ pins_of tenant.config.shape
    wide f = length-map-range_with_len f 0 (pins_of tenant.config.shape)

    same_pin : (k : ℕ) → k < pins_of tenant.config.shape → get_or (drive_alone tenant (drive_of whole v)) k true ≡ get_or (drive_of tenant (part front (length tenant.inputs) v)) k true
    same_pin k h = same_lows _ _ down up
      where
        down : get_or (drive_alone tenant (drive_of whole v)) k true ≡ false → get_or (drive_of tenant (part front (length tenant.inputs) v)) k true ≡ false
        down e =
            let r = low_there tenant (drive_of whole v) k e in
            let i = r.0.0 in
            let at : get_or tenant.inputs i 0 ≡ k = get_or_default tenant.inputs i 0 k r.0.1 ∙ r.0.2 in
            subst (λ q. get_or (drive_of tenant (part front (length tenant.inputs) v)) q true ≡ false) at
            (own_pin i r.0.1 ∙ sym (whole_pin i r.0.1) ∙ ap (λ q. get_or (drive_of whole v) q true) at ∙ r.1)

        up : get_or (drive_of tenant (part front (length tenant.inputs) v)) k true ≡ false → get_or (drive_alone tenant (drive_of whole v)) k true ≡ false
        up e =
            let r = drive_low (pins_of tenant.config.shape) tenant.inputs (part front (length tenant.inputs) v) k e in
            low_here tenant (drive_of whole v) k h (r.0, r.1, get_or_default tenant.inputs r.0 k 0 r.1 ∙ r.2)
            (ap (λ q. get_or (drive_of whole v) q true) (sym r.2) ∙ whole_pin r.0 r.1 ∙ sym (nth_part front (length tenant.inputs) v r.0 true r.1) ∙ r.3)

    pub same_drive : drive_alone tenant (drive_of whole v) ≡ drive_of tenant (part front (length tenant.inputs) v)
    same_drive =
        ext_get_or true _ _ (wide (bit_for tenant.inputs (row_at tenant.inputs (drive_of whole v))) ∙ sym (wide (bit_for tenant.inputs (part front (length tenant.inputs) v))))
        (λ k l. same_pin k (subst (λ z. k < z) (wide (bit_for tenant.inputs (row_at tenant.inputs (drive_of whole v)))) l))

  same_drives : (vectors : List (List Bool)) → map (drive_alone tenant) (map (drive_of whole) vectors) ≡ map (drive_of tenant) (map (part front (length tenant.inputs)) vectors)
  same_drives [] = refl
  same_drives (v ∷ vs) = λ j. same_drive v j ∷ same_drives vs j

  module _ (outs : (k : ℕ) → Contains tenant.outputs k → Contains whole.outputs k) (is : IsTenantOf whole tenant) (h : History) (n : ℕ) (left : LeavesAloneFor n h whole tenant) where
    driven : (v : List Bool) → IsDriveFor whole tenant (drive_of whole v)
    driven v = let r = drives_itself whole image v in record { within = r.within; outputs = λ k has. r.outputs k (outs k has) }

    pub lonely : RunsAsAloneOver h n whole tenant front
    lonely none vectors reads alone faultless p q =
        tenant_runs_alone whole tenant is h none n (map (drive_of whole) vectors) reads alone image is left faultless (All-map (IsDriveFor whole tenant) (drive_of whole) vectors (λ k d l. driven _)) p
        (subst (λ ds. IsRun none tenant.config ds alone) (sym (same_drives vectors)) q)

module _ (whole first second : ImageValue) (image : IsImage whole) (are : AreTenants whole first second) (h : History) (n : ℕ) where
  many : length whole.inputs ≡ length first.inputs + length second.inputs
  many = rw (are.inputs, length-append) refl

  pub first_alone : LeavesAloneFor n h whole first → RunsAsAloneOver h n whole first 0
  first_alone left = lonely whole first image are.first_shape 0 (sym (ap (part 0 (length first.inputs)) are.inputs ∙ take_at first.inputs second.inputs (length first.inputs) refl)) (let e = many in omega (arith, e))
      (λ k has. subst (λ xs. Contains xs k) (sym are.outputs) (Contains-append_left first.outputs second.outputs k has)) (first_is_tenant whole first second are) h n left

  pub second_alone : LeavesAloneFor n h whole second → RunsAsAloneOver h n whole second (length first.inputs)
  second_alone left = lonely whole second image are.second_shape (length first.inputs)
      (sym (ap (part (length first.inputs) (length second.inputs)) are.inputs ∙ ap (take (length second.inputs)) (drop_at first.inputs second.inputs (length first.inputs) refl) ∙ take_all (length second.inputs) second.inputs (omega arith))) (let e = many in omega (arith, e))
      (λ k has. subst (λ xs. Contains xs k) (sym are.outputs) (Contains-append_right first.outputs second.outputs k has)) (second_is_tenant whole first second are) h n left
