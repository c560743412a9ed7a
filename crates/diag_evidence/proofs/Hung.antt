-- Marks of the wires that hang.
use Rattle.std.proofs.Common.{◌≡◌, ◌⊎◌, inl, inr, ℕ, zero, suc, ◌+◌, ◌<◌, ◌≤◌, Bool, true, false, not, ◌||◌, None, Option, is_some, List, length, get_or, set, refl, sym, ap, ◌∙◌, arith}
use Rattle.std.proofs.lemmas.Bool.{cases_eq, cases_lt, false≢true}
use Rattle.std.proofs.lemmas.List.{get_or-set_same, get_or-set_other, length-set, get_or_past}
use Rattle.std.specs.List.{list_all, range_with_len}
use Rattle.base_bits.specs.Numbers.{has_number}
use Rattle.machine_shape.specs.Vocabulary.{wires_of}
use Rattle.diag_evidence.proofs.Vocabulary.{Cross, Shape}
use Rattle.diag_evidence.proofs.Rows.{every_yet, not_every, or_first, or_second, or_neither}
use Rattle.diag_evidence.specs.Vocabulary.{Trees, MarksHung, is_hung, all_hang}

-- one more wire hangs, whichever crosspoints there are then
pub marks_more : (m : Shape) (ps : List (Option ℕ)) (xs ys : List Cross) (marks : List Bool) (at : ℕ) (o : Option ℕ) → length ps ≡ wires_of m → at < wires_of m → is_some o ≡ true
    → MarksHung (record { shape = m; pins = ps; crosses = xs }) marks → MarksHung (record { shape = m; pins = set ps at o; crosses = ys }) (set marks at true)
marks_more m ps xs ys marks at o some within hangs is = record { len = length-set marks at true ∙ is.len; each = λ w. by w (cases_eq w at) }
  where
    by : (w : ℕ) → (w ≡ at) ⊎ (w ≡ at → ⊥) → get_or (set marks at true) w false ≡ is_some (get_or (set ps at o) w None)
    by w (inl e) = ap (λ i. get_or (set marks at true) i false) e ∙ get_or-set_same marks at true false (omega (arith, within, is.len))
        ∙ sym (ap is_some (ap (λ i. get_or (set ps at o) i None) e ∙ get_or-set_same ps at o None (omega (arith, within, some))) ∙ hangs)
    by w (inr apart) = get_or-set_other marks at w true false apart ∙ is.each w ∙ sym (ap is_some (get_or-set_other ps at w o None apart))

-- all wires of a set hang, or one doesn't
module _ (set : List Bool) (trees : Trees) (marks : List Bool) (each : (w : ℕ) → has_number marks w ≡ is_hung trees w) where
  abbrev hangs_if_in : ℕ → Bool
  hangs_if_in w = not (has_number set w) || is_hung trees w

  yet : ((w : ℕ) → has_number set w ≡ true → has_number marks w ≡ true) → (n : ℕ) → list_all hangs_if_in (range_with_len 0 n) ≡ true
  yet all zero = refl
  yet all (suc n) = (let next : suc n ≡ n + 1 = omega arith in ap (λ k. list_all hangs_if_in (range_with_len 0 k)) next) ∙ every_yet hangs_if_in n (yet all n) (by (has_number set n) refl)
    where
      by : (b : Bool) → has_number set n ≡ b → hangs_if_in n ≡ true
      by false e = or_first (not (has_number set n)) (is_hung trees n) (ap not e)
      by true e = or_second (not (has_number set n)) (is_hung trees n) (sym (each n) ∙ all n e)

  pub all_hang_by : (b : Bool) → (b ≡ true → (w : ℕ) → has_number set w ≡ true → has_number marks w ≡ true) → (b ≡ false → (w : ℕ) × (has_number set w ≡ true) × (has_number marks w ≡ false)) → b ≡ all_hang set trees
  all_hang_by true all none = sym (yet (all refl) (length set))
  all_hang_by false all none = by (none refl)
    where
      by : (w : ℕ) × (has_number set w ≡ true) × (has_number marks w ≡ false) → false ≡ all_hang set trees
      by h = by_place (cases_lt h.0 (length set))
        where
          by_place : (h.0 < length set) ⊎ (length set ≤ h.0) → false ≡ all_hang set trees
          by_place (inl within) = sym (not_every hangs_if_in (length set) h.0 within (or_neither (not (has_number set h.0)) (is_hung trees h.0) (ap not h.1) (sym (each h.0) ∙ h.2)))
          by_place (inr past) = absurd (false≢true (sym (get_or_past set h.0 false past) ∙ h.1))
