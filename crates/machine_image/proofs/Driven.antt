-- What a vector drives, and what a table with no fault does.
use Rattle.std.proofs.Common.{◌≡◌, ◌⊎◌, ℕ, zero, suc, ◌+◌, ◌*◌, ◌^◌, ◌<◌, ◌≤◌, Bool, true, false, cond, eqb, Some, None, Option, List, [], ◌∷◌, length, get_or, map, refl, sym, ◌∙◌, inl, inr, arith, if◌then◌else◌}
use Rattle.machine_image.proofs.Vocabulary.{range_with_len, false≢true, eqb-true, ne_eqb, eq-eqb, cases_lt, get_or_past}
use Rattle.machine_image.proofs.Vocabulary.{get_or-map-range_with_len, length-map-range_with_len, fill_by_all, Setting, bit_for, drive_on}
use Rattle.std.proofs.Math.Nat.{pow-succ'}
use Rattle.machine_meaning.specs.Faults.{Faults, wrong_cell, stuck_register}
use Rattle.machine_config.specs.Vocabulary.{cell_of, table_or_off, number_of, first_output, tick_output, edge_output}

-- ---- pins

bit_for_pin : (ins : List ℕ) (bits : List Bool) (i : ℕ) → i < length ins → ((j : ℕ) → j < length ins → get_or ins j 0 ≡ get_or ins i 0 → j ≡ i) → bit_for ins bits (get_or ins i 0) ≡ get_or bits i true
bit_for_pin [] bits i h only = absurd (omega arith)
bit_for_pin (p ∷ ps) [] i h only = refl
bit_for_pin (p ∷ ps) (b ∷ bits) zero h only = rw (eq-eqb p p refl) refl
bit_for_pin (p ∷ ps) (b ∷ bits) (suc i) h only =
    let other : eqb p (get_or ps i 0) ≡ false = ne_eqb _ _ (λ e. absurd (let z : 0 ≡ suc i = only 0 (omega arith) e in omega arith)) in
    rw other (bit_for_pin ps bits i (omega arith) (λ j k e. let s : suc j ≡ suc i = only (suc j) (omega arith) e in omega arith))

-- only an input pin is driven 0
bit_for_low : (ins : List ℕ) (bits : List Bool) (k : ℕ) → bit_for ins bits k ≡ false → (i : ℕ) × (i < length ins) × (get_or ins i 0 ≡ k) × (get_or bits i true ≡ false)
bit_for_low [] bits k e = absurd (false≢true (sym e))
bit_for_low (p ∷ ps) [] k e = absurd (false≢true (sym e))
bit_for_low (p ∷ ps) (b ∷ bits) k e = by (eqb p k) refl e (bit_for_low ps bits k)
  where
    by : (t : Bool) → eqb p k ≡ t → cond t b (bit_for ps bits k) ≡ false → (bit_for ps bits k ≡ false → (i : ℕ) × (i < length ps) × (get_or ps i 0 ≡ k) × (get_or bits i true ≡ false)) → (i : ℕ) × (i < length (p ∷ ps)) × (get_or (p ∷ ps) i 0 ≡ k) × (get_or (b ∷ bits) i true ≡ false)
    by true s e more = (0, omega arith, eqb-true p k s, e)
    by false s e more = let r = more e in (suc r.0, omega (arith, r.1), r.2, r.3)

module _ (pins : ℕ) (ins : List ℕ) (bits : List Bool) where
  pub drive_pin : (i : ℕ) → i < length ins → get_or ins i 0 < pins → ((j : ℕ) → j < length ins → get_or ins j 0 ≡ get_or ins i 0 → j ≡ i) → get_or (drive_on pins ins bits) (get_or ins i 0) true ≡ get_or bits i true
  drive_pin i h within only = get_or-map-range_with_len (bit_for ins bits) 0 pins (get_or ins i 0) (get_or ins i 0) true within (omega arith) ∙ bit_for_pin ins bits i h only

  pub drive_low : (k : ℕ) → get_or (drive_on pins ins bits) k true ≡ false → (i : ℕ) × (i < length ins) × (get_or ins i 0 ≡ k) × (get_or bits i true ≡ false)
  drive_low k e = by (cases_lt k pins)
    where
      by : (k < pins) ⊎ (pins ≤ k) → (i : ℕ) × (i < length ins) × (get_or ins i 0 ≡ k) × (get_or bits i true ≡ false)
      by (inl h) = bit_for_low ins bits k (sym (get_or-map-range_with_len (bit_for ins bits) 0 pins k k true h (omega arith)) ∙ e)
      by (inr h) = absurd (false≢true (sym e ∙ get_or_past (drive_on pins ins bits) k true (rw length-map-range_with_len h)))

-- ---- tables

below_two_more : (b : Bool) (n m : ℕ) → n < m → (if b then 1 else 0) + 2 * n < 2 * m
below_two_more true n m h = omega arith
below_two_more false n m h = omega arith

pub number_below : (bs : List Bool) → number_of bs < 2 ^ length bs
number_below [] = omega arith
number_below (b ∷ bs) = rw pow-succ' (below_two_more b (number_of bs) (2 ^ length bs) (number_below bs))

pub same_map : {X : Type 0} (f h : ℕ → X) (n : ℕ) (d : X) → ((k : ℕ) → k < n → f k ≡ h k) → map f (range_with_len 0 n) ≡ map h (range_with_len 0 n)
same_map f h n d same = fill_by_all h (map f (range_with_len 0 n)) n d (length-map-range_with_len f 0 n) (λ k l. get_or-map-range_with_len f 0 n k k d l (omega arith) ∙ same k l)

-- a table that is on does as its setting says
pub tick_of : (f : Faults) (t : ℕ) (o : Option Setting) (s : Setting) (a : ℕ) (old : Bool) → o ≡ Some s → wrong_cell f t a ≡ None → tick_output (table_or_off f t o) a old ≡ (if s.latched then old else cell_of s a)
tick_of f t o s a old e free = rw e (rw free refl)

pub edge_of : (f : Faults) (t : ℕ) (o : Option Setting) (s : Setting) (a : ℕ) (old : Bool) → o ≡ Some s → wrong_cell f t a ≡ None → stuck_register f t ≡ None → edge_output (table_or_off f t o) a old ≡ (if s.latched then cell_of s a else old)
edge_of f t o s a old e free loose = rw e (by s.latched refl)
  where
    by : (b : Bool) → s.latched ≡ b → edge_output (table_or_off f t (Some s)) a old ≡ (if s.latched then cell_of s a else old)
    by true q = rw (q, free, loose) refl
    by false q = rw q refl

pub first_of : (f : Faults) (t : ℕ) (o : Option Setting) (s : Setting) → o ≡ Some s → stuck_register f t ≡ None → first_output (table_or_off f t o) ≡ s.init
first_of f t o s e loose = rw e (by s.latched refl)
  where
    by : (b : Bool) → s.latched ≡ b → first_output (table_or_off f t (Some s)) ≡ s.init
    by true q = rw (q, loose) refl
    by false q = rw q refl
