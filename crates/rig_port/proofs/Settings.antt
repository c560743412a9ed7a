-- Tables one after another.
use Rattle.std.proofs.Common.{◌≡◌, ◌≢◌, ℕ, ◌+◌, ◌<◌, Bool, true, false, Option, None, length, set, refl, sym, ap, ◌∙◌, arith, ◌==◌}
use Rattle.rig_port.proofs.Vocabulary.{nat_tests, Setting, Configuration, setting_of, with_setting}
use Rattle.std.proofs.lemmas.List.{get_or-set_same, get_or-set_other, set-get_or, ext_get_or, length-set}

-- a table that has its setting
pub same_given : (g : Configuration) (t : ℕ) (s : Option Setting) → setting_of g t ≡ s → g ≡ with_setting g t s
same_given g t s is = ap (λ ts. record g { tables = ts }) (sym (ap (λ o. set g.tables t o) (sym is) ∙ set-get_or g.tables t None))

-- one more table has it
pub given_next : (g h : Configuration) (t : ℕ) (s : Option Setting) → t < length g.tables → s ≡ setting_of h t → ((j : ℕ) → j < t → setting_of g j ≡ setting_of h j)
    → (j : ℕ) → j < t + 1 → setting_of (with_setting g t s) j ≡ setting_of h j
given_next g h t s within is before j lt = by_order (j == t) refl where
  by_order : (b : Bool) → (j == t) ≡ b → setting_of (with_setting g t s) j ≡ setting_of h j
  by_order true at =
      let same : j ≡ t = grind (arith, nat_tests, at) in
      ap (λ k. setting_of (with_setting g t s) k) same ∙ get_or-set_same g.tables t s None within ∙ is ∙ ap (setting_of h) (sym same)
  by_order false at =
      let other : j ≢ t = λ e. grind (arith, nat_tests, at, e) in
      get_or-set_other g.tables t j s None other ∙ before j (grind (arith, nat_tests, at, lt))

pub all_given : (g h : Configuration) (n : ℕ) → length g.tables ≡ n → length h.tables ≡ n → ((j : ℕ) → j < n → setting_of g j ≡ setting_of h j) → g.tables ≡ h.tables
all_given g h n len other same = ext_get_or None g.tables h.tables (len ∙ sym other) (λ i lt. same i (omega (arith, lt, len)))

pub given_length : (g : Configuration) (t : ℕ) (s : Option Setting) → length (with_setting g t s).tables ≡ length g.tables
given_length g t s = length-set g.tables t s

-- a setting is known by its fields
pub same_setting : (x y : Setting) → x.cells ≡ y.cells → x.latched ≡ y.latched → x.init ≡ y.init → x ≡ y
same_setting x y cells latched init = λ i. record { cells = cells i; latched = latched i; init = init i }
