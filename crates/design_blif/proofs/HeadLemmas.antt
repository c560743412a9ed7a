-- What a line begins with that is no row.
use Rattle.design_blif.proofs.Vocabulary.{◌≡◌, ℕ, ◌==◌, Bool, true, false, List, [], ◌∷◌, refl, sym, ◌∙◌, slice_index, eqb-true, head_of}
use Rattle.design_blif.specs.declared.head.Head.TheVariants as head

unlike : (b : ℕ) → (b ≡ 46 → ⊥) → (b == 46) ≡ false
unlike b h = by (b == 46) refl
  where
    by : (c : Bool) → (b == 46) ≡ c → c ≡ false
    by true e = absurd (h (eqb-true b 46 e))
    by false e = refl

undotted : (w : List ℕ) → (slice_index w 0 == 46) ≡ false → head_of w ≡ head.Row
unfolding head_of
undotted [] h = refl
undotted (b ∷ w) h = rw h refl

-- a word that doesn't begin with a dot begins a row
pub row_head : (w : List ℕ) → (slice_index w 0 ≡ 46 → ⊥) → head_of w ≡ head.Row
row_head w h = undotted w (unlike (slice_index w 0) h)
