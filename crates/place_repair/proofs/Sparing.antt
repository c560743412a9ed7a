-- Which tables and pins are spare, by marks on the wires that are used.
use Rattle.std.proofs.Common.{◌≡◌, ◌≢◌, ◌⊎◌, ℕ, ◌+◌, Bool, true, false, Option, Some, None, List, get_or, refl, sym, ap, ◌∙◌, inl, inr, arith, is_some}
use Rattle.std.proofs.lemmas.Bool.{false≢true, cases_eq}
use Rattle.place_repair.proofs.Vocabulary.{Shape, table_wire, wires_of, Setting, ImageValue, Uses, IsUnusedTo, AreMarks}

-- a table that isn't on is off
pub off_is : (o : Option Setting) → is_some o ≡ false → o ≡ None
off_is None e = refl
off_is (Some s) e = absurd (false≢true (sym e))

pub is_off : (o : Option Setting) → is_some o ≡ true → o ≡ None → ⊥
is_off None e off = false≢true e
is_off (Some s) e off = cc

pub unused_none : (used : List Bool) (m : Shape) (t : ℕ) → IsUnusedTo used m t 0
unused_none used m t j l = absurd (let no : ⊥ = omega (arith, l) in no)

pub unused_more : (used : List Bool) (m : Shape) (t n : ℕ) → IsUnusedTo used m t n → get_or used (table_wire m t n) false ≡ false → IsUnusedTo used m t (n + 1)
unused_more used m t n so_far here j l = by (cases_eq j n)
  where
    by : (j ≡ n) ⊎ (j ≢ n) → get_or used (table_wire m t j) false ≡ false
    by (inl e) = ap (λ z. get_or used (table_wire m t z) false) e ∙ here
    by (inr ne) = so_far j (omega (arith, l, ne))

module _ (i : ImageValue) (used : List Bool) (marks : AreMarks (wires_of i.config.shape) (Uses i) used) where
  pub unused_of : (w : ℕ) → get_or used w false ≡ false → ¬ Uses i w
  unused_of w e uses = false≢true (sym e ∙ marks.each w uses)

  pub of_unused : (w : ℕ) → ¬ Uses i w → get_or used w false ≡ false
  of_unused w never = by (get_or used w false) refl
    where
      by : (b : Bool) → get_or used w false ≡ b → b ≡ false
      by false e = refl
      by true e = absurd (never (marks.only w e))
