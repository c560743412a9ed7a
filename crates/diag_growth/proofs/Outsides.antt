-- Wires outside a hextant, and the set of those that are known.
use Rattle.std.proofs.Common.{◌≡◌, ◌≢◌, ◌⊎◌, ℕ, ◌+◌, ◌<◌, ◌≤◌, Bool, true, false, List, length, replicate, refl, sym, ap, ◌∙◌, subst, inl, inr, arith, set}
use Rattle.diag_growth.proofs.Vocabulary.{false≢true, has_number, at_one, at_within, PutsOutside, Shape, IsOutside}
use Rattle.std.proofs.lemmas.List.{length-set, get_or-set_same, get_or-set_other, get_or-replicate, get_or_past, length-replicate}
use native.Mathlib.Decide.{dec_lt, ℕ_discrete}
use Rattle.diag_known.specs.Known.{KnownWires, IsAt, HasWire, InSet}
use Rattle.machine_shape.specs.Vocabulary.{Meaning, Pin, Line, Port, TablePin, Means, is_line, is_table_pin, hextant_of, IsLine, HasMeanings}

-- what a wire of the hextant's lines and of its tables' pins isn't
abbrev pub IsElsewhere : Shape → ℕ → Meaning → Type 0
IsElsewhere m h (Pin k) = Unit {0}
IsElsewhere m h (Line n k) = n ≢ h
IsElsewhere m h (Port n k) = Unit {0}
IsElsewhere m h (TablePin t k) = hextant_of m t ≢ h

line_means : (m : Shape) (h w : ℕ) → IsLine m h w → (k : ℕ) × Means m w (Line h k)
unfolding IsLine
line_means m h w l = (l.1.0, is_line h l.1.0 l.0 l.1.1 l.1.2)

means_line : (m : Shape) (h w k : ℕ) → Means m w (Line h k) → IsLine m h w
unfolding IsLine
means_line m h w k (is_line n j below within e) = (below, (k, within, e))

module _ {m : Shape} (law : HasMeanings m) (h w : ℕ) where
  pub means_outside : (x : Meaning) → Means m w x → IsElsewhere m h x → IsOutside m h w
  means_outside x means elsewhere = record { no_line = λ l. not_line x means elsewhere (line_means m h w l); no_pin = λ t k below is within e. not_pin x means elsewhere t k is (is_table_pin t k below within e) }
    where
      not_line : (x : Meaning) → Means m w x → IsElsewhere m h x → ((k : ℕ) × Means m w (Line h k)) → ⊥
      not_line (Pin k) means elsewhere p = let e : Pin k ≡ Line h p.0 = law.one w (Pin k) (Line h p.0) means p.1 in cc
      not_line (Line n k) means elsewhere p = let e : Line n k ≡ Line h p.0 = law.one w (Line n k) (Line h p.0) means p.1 in elsewhere (let same : n ≡ h = cc in same)
      not_line (Port n k) means elsewhere p = let e : Port n k ≡ Line h p.0 = law.one w (Port n k) (Line h p.0) means p.1 in cc
      not_line (TablePin t k) means elsewhere p = let e : TablePin t k ≡ Line h p.0 = law.one w (TablePin t k) (Line h p.0) means p.1 in cc

      not_pin : (x : Meaning) → Means m w x → IsElsewhere m h x → (t k : ℕ) → hextant_of m t ≡ h → Means m w (TablePin t k) → ⊥
      not_pin (Pin j) means elsewhere t k is p = let e : Pin j ≡ TablePin t k = law.one w (Pin j) (TablePin t k) means p in cc
      not_pin (Line n j) means elsewhere t k is p = let e : Line n j ≡ TablePin t k = law.one w (Line n j) (TablePin t k) means p in cc
      not_pin (Port n j) means elsewhere t k is p = let e : Port n j ≡ TablePin t k = law.one w (Port n j) (TablePin t k) means p in cc
      not_pin (TablePin u j) means elsewhere t k is p = let e : TablePin u j ≡ TablePin t k = law.one w (TablePin u j) (TablePin t k) means p in
          elsewhere (let same : u ≡ t = cc in ap (hextant_of m) same ∙ is)

pub outside_line : {m : Shape} (h w n k : ℕ) → Means m w (Line n k) → n ≡ h → ¬ IsOutside m h w
outside_line {m} h w n k means e out = out.no_line (means_line m h w k (subst (λ i. Means m w (Line i k)) e means))

pub outside_pin : {m : Shape} (h w t k : ℕ) → Means m w (TablePin t k) → hextant_of m t ≡ h → ¬ IsOutside m h w
outside_pin {m} h w t k (is_table_pin u j below within at) e out = out.no_pin t k below e within at

-- the known wires at the first places that are outside the hextant
pub record AreOutsideUpTo (k : KnownWires) (h n : ℕ) (set : List Bool) : Type 0 where
  pub known : (w : ℕ) → InSet set w → HasWire k.steps w
  pub outside : (w : ℕ) → InSet set w → IsOutside k.shape h w
  pub whole : (i w : ℕ) → i < n → IsAt k.steps i w → IsOutside k.shape h w → InSet set w

pub outside_first : {k : KnownWires} {h : ℕ} (set : List Bool) (len : ℕ) → set ≡ replicate len false → AreOutsideUpTo k h 0 set
outside_first set len e = record {
  known = λ w is. absurd (none w is);
  outside = λ w is. absurd (none w is);
  whole = λ i w less at out. absurd (let no : ⊥ = omega (arith, less) in no);
}
  where
    none : (w : ℕ) → InSet set w → ⊥
    none w is = by (dec_lt w len)
      where
        on : has_number (replicate len false) w ≡ true
        on = ap (λ s. has_number s w) (sym e) ∙ is

        by : Dec (w < len) → ⊥
        by (yes h) = false≢true (sym (get_or-replicate len w false false h) ∙ on)
        by (no h) = false≢true (sym (get_or_past (replicate len false) w false (rw length-replicate (omega (arith, h)))) ∙ on)

pub outside_next : {k : KnownWires} {h n : ℕ} {old new : List Bool} → PutsOutside k h n old new → AreOutsideUpTo k h n old → AreOutsideUpTo k h (n + 1) new
outside_next {k} {h} {n} {old} {new} puts was = record {
  known = λ w is. known w (puts.only w is);
  outside = λ w is. outside w (puts.only w is);
  whole = λ i w less at out. whole i w less at out (ℕ_discrete i n);
}
  where
    known : (w : ℕ) → InSet old w ⊎ (IsAt k.steps n w × IsOutside k.shape h w) → HasWire k.steps w
    known w (inl is) = was.known w is
    known w (inr is) = record { place = n; at = is.0 }

    outside : (w : ℕ) → InSet old w ⊎ (IsAt k.steps n w × IsOutside k.shape h w) → IsOutside k.shape h w
    outside w (inl is) = was.outside w is
    outside w (inr is) = is.1

    whole : (i w : ℕ) → i < n + 1 → IsAt k.steps i w → IsOutside k.shape h w → Dec (i ≡ n) → InSet new w
    whole i w less at out (yes e) = puts.puts w (subst (λ p. IsAt k.steps p w) e at) out
    whole i w less at out (no d) = puts.stays w (was.whole i w (omega (arith, less, d)) at out)

pub outside_all : {k : KnownWires} {h n : ℕ} {set : List Bool} → AreOutsideUpTo k h n set → length k.steps ≤ n → (w : ℕ) → HasWire k.steps w → IsOutside k.shape h w → InSet set w
outside_all are le w has out = are.whole has.place w (let low = at_within has.at in omega (arith, low, le)) has.at out

-- one wire is put, or is none to be put
pub puts_none : {k : KnownWires} {h place v : ℕ} {set : List Bool} → IsAt k.steps place v → ¬ IsOutside k.shape h v → PutsOutside k h place set set
puts_none {k} {h} at inside = record {
  len = refl;
  stays = λ w is. is;
  only = λ w is. inl is;
  puts = λ w there out. absurd (inside (subst (IsOutside k.shape h) (sym (at_one at there)) out));
}

pub puts_one : {k : KnownWires} {h place v : ℕ} {old new : List Bool} → IsAt k.steps place v → IsOutside k.shape h v → v < length old → new ≡ set old v true → PutsOutside k h place old new
puts_one {k} {h} {place} {v} {old} {new} at out within put = record {
  len = ap length put ∙ length-set old v true;
  stays = λ w is. stays w is (ℕ_discrete w v);
  only = λ w is. only w is (ℕ_discrete w v);
  puts = λ w there also. subst (InSet new) (at_one at there) here;
}
  where
    here : InSet new v
    here = ap (λ s. has_number s v) put ∙ get_or-set_same old v true false within

    other : (w : ℕ) → w ≢ v → has_number new w ≡ has_number old w
    other w d = ap (λ s. has_number s w) put ∙ get_or-set_other old v w true false d

    stays : (w : ℕ) → InSet old w → Dec (w ≡ v) → InSet new w
    stays w is (yes e) = subst (InSet new) (sym e) here
    stays w is (no d) = other w d ∙ is

    only : (w : ℕ) → InSet new w → Dec (w ≡ v) → InSet old w ⊎ (IsAt k.steps place w × IsOutside k.shape h w)
    only w is (yes e) = inr (subst (IsAt k.steps place) (sym e) at, subst (IsOutside k.shape h) (sym e) out)
    only w is (no d) = inl (sym (other w d) ∙ is)
