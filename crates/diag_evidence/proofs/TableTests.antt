-- What the tests of a cell and of a register read, where the wires are as they should be.
use Rattle.std.proofs.Common.{◌≡◌, ◌≢◌, ◌<◌, ◌≤◌, ℕ, Bool, true, false, Some, None, Option, length, set, sym, ap, ◌∙◌, subst, arith, if◌then◌else◌, unwrap_or}
use Rattle.std.proofs.lemmas.List.{get_or-set_same, get_or-set_other, get_or_past, set-set, set-get_or}
use native.Mathlib.Decide.{dec_lt}
use Rattle.diag_evidence.proofs.Vocabulary.{pins_of, Pins, Faults, Setting, Reads, CellPasses, RegisterPasses}
use Rattle.machine_config.specs.Vocabulary.{Configuration, setting_of, with_setting, cell_of, with_cell, with_init, IsCellTest, IsRegisterTest, IsDrivenAlone}
use Rattle.machine_config.proofs.Cells.{cell_reads}
use Rattle.machine_config.proofs.FirstReadings.{register_reads}
use Rattle.machine_config.proofs.Marks.{bit_after, tested_same}
use Rattle.diag_evidence.proofs.Shown.{low_and_high}

-- the settings once one is changed
module _ (g : Configuration) (t : ℕ) (s r : Setting) (on : setting_of g t ≡ Some s) where
  within : t < length g.tables
  within = by_place (dec_lt t (length g.tables))
    where
      some_or_none : {o : Option Setting} → o ≡ Some s → o ≡ None → ⊥
      some_or_none p q = cc

      by_place : Dec (t < length g.tables) → t < length g.tables
      by_place (yes h) = h
      by_place (no h) = let past : length g.tables ≤ t = omega arith in absurd (some_or_none on (get_or_past g.tables t None past))

  pub on_after : setting_of (with_setting g t (Some r)) t ≡ Some r
  on_after = get_or-set_same g.tables t (Some r) None within

  pub off_after : ((u : ℕ) → u ≢ t → setting_of g u ≡ None) → (u : ℕ) → u ≢ t → setting_of (with_setting g t (Some r)) u ≡ None
  off_after off u n = get_or-set_other g.tables t u (Some r) None n ∙ off u n

-- a setting that is set back
pub set_back : (g : Configuration) (t : ℕ) (s was : Setting) → setting_of g t ≡ Some was → with_setting (with_setting g t (Some s)) t (Some was) ≡ g
set_back g t s was on = ap (λ ts. record g { tables = ts }) (set-set g.tables t (Some s) (Some was) ∙ ap (set g.tables t) (sym on) ∙ set-get_or g.tables t None)

same_some : {s r : Setting} {o : Option Setting} → o ≡ Some s → o ≡ Some r → s ≡ r
same_some {s} p q = ap (λ o. unwrap_or o s) (sym p ∙ q)

-- the test of a cell, with the cell set
cell_test : (f : Faults) (g : Configuration) (t a : ℕ) (s : Setting) (b : Bool) (left right bits : ℕ → Bool) (k l : ℕ) → IsCellTest f g t a s left right bits k l →
    IsCellTest f (with_setting g t (Some (with_cell s a b))) t a (with_cell s a b) left right bits k l
cell_test f g t a s b left right bits k l p = record {
  on = on_after g t s (with_cell s a b) p.on;
  off = off_after g t s (with_cell s a b) p.on p.off;
  comb = p.comb;
  init = p.init;
  one = p.one;
  k_pin = p.k_pin;
  not_wrong = p.not_wrong;
  groups = p.groups;
  k_left = p.k_left;
  l_right = p.l_right;
  inputs = p.inputs;
  number = p.number;
  led = p.led;
}

cell_is : (s : Setting) (a : ℕ) (b : Bool) → cell_of (with_cell s a b) a ≡ b
cell_is s a b = bit_after s.cells a a b ∙ ap (λ t. if t then b else cell_of s a) (tested_same a)

pub cell_shows : {told : Option Faults} {drive : Pins} {pin : ℕ} {a b : Bool} (g : Configuration) (t y : ℕ) (s : Setting) → setting_of g t ≡ Some s → pin < pins_of g.shape →
    (p : Reads told (with_setting g t (Some (with_cell s y false))) drive pin a) (q : Reads told (with_setting g t (Some (with_cell s y true))) drive pin b) → a ≡ b → CellPasses told g t y drive pin false
cell_shows {told} {drive} {pin} {a} {b} g t y s on below p q e = record { at = λ f r left right bits k is test driven. by_setting f left right bits k is driven (subst (λ r. IsCellTest f g t y r left right bits k pin) (same_some test.on on) test) }
  where
    by_setting : (f : Faults) (left right bits : ℕ → Bool) (k : ℕ) → told ≡ Some f → IsDrivenAlone drive k → IsCellTest f g t y s left right bits k pin → false ≡ true
    by_setting f left right bits k is driven test =
        let low = cell_reads f _ t y k pin _ left right bits drive (cell_test f g t y s false left right bits k pin test) driven _ below (p.run f is) ∙ cell_is s y false in
        let high = cell_reads f _ t y k pin _ left right bits drive (cell_test f g t y s true left right bits k pin test) driven _ below (q.run f is) ∙ cell_is s y true in
        absurd (low_and_high p.bit_is q.bit_is (low, high) e)

register_test : (f : Faults) (g : Configuration) (t : ℕ) (s : Setting) (b : Bool) (left right : ℕ → Bool) (drive : Pins) (l : ℕ) → IsRegisterTest f g t s left right drive l →
    IsRegisterTest f (with_setting g t (Some (with_init s b))) t (with_init s b) left right drive l
register_test f g t s b left right drive l p = record {
  on = on_after g t s (with_init s b) p.on;
  off = off_after g t s (with_init s b) p.on p.off;
  latched = p.latched;
  not_stuck = p.not_stuck;
  groups = p.groups;
  l_right = p.l_right;
  quiet = p.quiet;
  led = p.led;
}

pub register_shows : {told : Option Faults} {drive : Pins} {pin : ℕ} {a b : Bool} (g : Configuration) (t : ℕ) (s : Setting) → setting_of g t ≡ Some s → pin < pins_of g.shape →
    (p : Reads told (with_setting g t (Some (with_init s false))) drive pin a) (q : Reads told (with_setting g t (Some (with_init s true))) drive pin b) → a ≡ b → RegisterPasses told g t drive pin false
register_shows {told} {drive} {pin} {a} {b} g t s on below p q e = record { at = λ f r left right is test. by_setting f left right is (subst (λ r. IsRegisterTest f g t r left right drive pin) (same_some test.on on) test) }
  where
    by_setting : (f : Faults) (left right : ℕ → Bool) → told ≡ Some f → IsRegisterTest f g t s left right drive pin → false ≡ true
    by_setting f left right is test =
        let low = register_reads f _ t pin _ left right drive (register_test f g t s false left right drive pin test) _ below (p.run f is) in
        let high = register_reads f _ t pin _ left right drive (register_test f g t s true left right drive pin test) _ below (q.run f is) in
        absurd (low_and_high p.bit_is q.bit_is (low, high) e)
