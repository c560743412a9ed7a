-- A wire is listed where it isn't free.
use Rattle.std.proofs.Common.{◌≡◌, ℕ, Bool, true, false, not, refl, sym, ap, ◌∙◌, ◌↔◌}
use Rattle.std.specs.FinSet as set
use Rattle.place_repair.proofs.Vocabulary.{false≢true, Defects, IsFreeWire, is_free_wire}

pub unfree_listed : (d : Defects) (w : ℕ) (free : Bool) → (free ≡ true) ↔ IsFreeWire d w → free ≡ false → set.contains d.wires w ≡ true
unfree_listed d w free tells off = by (set.contains d.wires w) refl
  where
    by : (b : Bool) → set.contains d.wires w ≡ b → b ≡ true
    by true e = refl
    by false e = absurd (false≢true (sym off ∙ tells.1 e))

pub listed_unfree : (d : Defects) (w : ℕ) → set.contains d.wires w ≡ true → IsFreeWire d w → ⊥
listed_unfree d w has free = false≢true (sym free ∙ has)

-- what a test tells is that test
pub free_tested : (d : Defects) (w : ℕ) (free : Bool) → (free ≡ true) ↔ IsFreeWire d w → free ≡ is_free_wire d w
free_tested d w true tells = sym (ap not (tells.0 refl))
free_tested d w false tells = sym (ap not (unfree_listed d w false tells refl))
