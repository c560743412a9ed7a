-- Whether a wire is known.
use Rattle.std.proofs.Common.{◌≡◌, ◌⊎◌, ℕ, zero, suc, Some, List, [], ◌∷◌, refl, ap, ◌∙◌, inl, inr, slice_get}
use Rattle.diag_growth.proofs.Vocabulary.{cases_eq, HasWire, VerifiedWire}

pub known_or : (ss : List VerifiedWire) (w : ℕ) → HasWire ss w ⊎ (HasWire ss w → ⊥)
known_or [] w = inr (λ h. let e = h.at.here in cc)
known_or (s ∷ ss) w = by (cases_eq s.wire.0 w) (known_or ss w)
  where
    by : (s.wire.0 ≡ w) ⊎ (s.wire.0 ≡ w → ⊥) → HasWire ss w ⊎ (HasWire ss w → ⊥) → HasWire (s ∷ ss) w ⊎ (HasWire (s ∷ ss) w → ⊥)
    by (inl e) other = inl (record { place = 0; at = record { step = s; here = refl; wire = e } })
    by (inr differs) (inl h) = inl (record { place = suc h.place; at = record { step = h.at.step; here = h.at.here; wire = h.at.wire } })
    by (inr differs) (inr none) = inr (λ h. at_place h.place h.at.step h.at.here h.at.wire)
      where
        at_place : (j : ℕ) (t : VerifiedWire) → slice_get (s ∷ ss) j ≡ Some t → t.wire.0 ≡ w → ⊥
        at_place zero t here e = differs (let same : s ≡ t = cc in ap (λ (z : VerifiedWire). z.wire.0) same ∙ e)
        at_place (suc j) t here e = none (record { place = j; at = record { step = t; here = here; wire = e } })
