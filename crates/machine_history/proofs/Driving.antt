-- What is driven for a tenant, in the whole and by itself.
use Rattle.std.proofs.Common.{◌≡◌, ℕ, zero, suc, ◌+◌, ◌<◌, Bool, true, false, cond, eqb, List, [], ◌∷◌, length, get_or, map, refl, sym, ap, ◌∙◌, arith}
use Rattle.machine_history.proofs.Vocabulary.{Contains, range_with_len, eqb-true, eq-eqb, Contains-append_left, get_or-map-range_with_len}
use Rattle.machine_history.proofs.Vocabulary.{length-map-range_with_len, pins_of, Pins, IsDriveFor, drive_alone}
use Rattle.std.proofs.lemmas.List.{get_or-map, get_or_default, get_or_append_left, get_or-append-add, ext_get_or, length-append}
use Rattle.machine_image.specs.Vocabulary.{ImageValue, IsImage, bit_for, row_at, drive_of}
use Rattle.machine_image.proofs.Driven.{drive_low}

-- truth values of which each is false where the other is
pub same_lows : (a b : Bool) → (a ≡ false → b ≡ false) → (b ≡ false → a ≡ false) → a ≡ b
same_lows false b down up = sym (down refl)
same_lows true false down up = up refl
same_lows true true down up = refl

-- the bit that is put on a pin is the one that it has
bit_of_row : (drive : Pins) (ins : List ℕ) (k i : ℕ) → i < length ins → get_or ins i k ≡ k → get_or drive k true ≡ false → bit_for ins (row_at ins drive) k ≡ false
bit_of_row drive [] k i h at low = absurd (omega arith)
bit_of_row drive (p ∷ ps) k zero h at low = rw (eq-eqb p k at) (ap (λ q. get_or drive q true) at ∙ low)
bit_of_row drive (p ∷ ps) k (suc i) h at low = by (eqb p k) refl (bit_of_row drive ps k i (omega arith) at low)
  where
    by : (t : Bool) → eqb p k ≡ t → bit_for ps (row_at ps drive) k ≡ false → cond t (get_or drive p true) (bit_for ps (row_at ps drive) k) ≡ false
    by true e more = ap (λ q. get_or drive q true) (eqb-true p k e) ∙ low
    by false e more = more

module _ (i : ImageValue) where
  -- what pulls a pin by itself pulls it in the whole
  pub low_there : (drive : Pins) (k : ℕ) → get_or (drive_alone i drive) k true ≡ false → Contains i.inputs k × (get_or drive k true ≡ false)
  low_there drive k e =
      let r = drive_low (pins_of i.config.shape) i.inputs (row_at i.inputs drive) k e in (
        (r.0, r.1, get_or_default i.inputs r.0 k 0 r.1 ∙ r.2),
        ap (λ q. get_or drive q true) (sym r.2) ∙ sym (get_or-map (λ q. get_or drive q true) i.inputs r.0 0 true r.1) ∙ r.3,
      )

  -- and back, at an input pin
  pub low_here : (drive : Pins) (k : ℕ) → k < pins_of i.config.shape → Contains i.inputs k → get_or drive k true ≡ false → get_or (drive_alone i drive) k true ≡ false
  low_here drive k h has low = get_or-map-range_with_len (bit_for i.inputs (row_at i.inputs drive)) 0 (pins_of i.config.shape) k k true h (omega arith) ∙ bit_of_row drive i.inputs k has.0 has.1 has.2 low

  module _ (is : IsImage i) (vector : List Bool) where
    low_input : (k : ℕ) → get_or (drive_of i vector) k true ≡ false → Contains i.inputs k
    low_input k e = let r = drive_low (pins_of i.config.shape) i.inputs vector k e in (r.0, r.1, get_or_default i.inputs r.0 k 0 r.1 ∙ r.2)

    input_within : (k : ℕ) → Contains i.inputs k → k < pins_of i.config.shape
    input_within k has = rw (← has.2) (rw (← get_or_append_left i.inputs i.outputs k has.0 has.1) (is.within has.0 k (rw length-append (omega (arith, has.1)))))

    no_output : (k : ℕ) → Contains i.inputs k → Contains i.outputs k → ⊥
    no_output k a b =
        let l : a.0 < length i.inputs = a.1 in
        is.apart a.0 (length i.inputs + b.0) k (omega (arith, l)) (rw length-append (omega (arith, b.1)))
        (get_or_append_left i.inputs i.outputs k a.0 a.1 ∙ a.2 ∙ sym (get_or-append-add i.inputs i.outputs b.0 k ∙ b.2))

    -- a vector drives the image's own input pins alone
    pub drives_itself : IsDriveFor i i (drive_of i vector)
    drives_itself = record {
      within = λ k e. Contains-append_left i.inputs i.outputs k (low_input k e);
      outputs = λ k has. by k has (get_or (drive_of i vector) k true) refl;
    }
      where
        by : (k : ℕ) → Contains i.outputs k → (b : Bool) → get_or (drive_of i vector) k true ≡ b → get_or (drive_of i vector) k true ≡ true
        by k has true e = e
        by k has false e = absurd (no_output k (low_input k e) has)

    pub alone_as_driven : drive_alone i (drive_of i vector) ≡ drive_of i vector
    alone_as_driven = ext_get_or true _ _ (long (bit_for i.inputs (row_at i.inputs (drive_of i vector))) ∙ sym (long (bit_for i.inputs vector))) (λ k l. same_lows _ _
        (λ e. (low_there (drive_of i vector) k e).1)
        (λ e. let has = low_input k e in low_here (drive_of i vector) k (input_within k has) has e))
      where
        long : (f : ℕ → Bool) → length (map f (range_with_len 0 (pins_of i.config.shape))) ≡ pins_of i.config.shape
        long f = length-map-range_with_len f 0 (pins_of i.config.shape)
