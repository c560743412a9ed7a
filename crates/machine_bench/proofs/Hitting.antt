-- Which wires may be hit, by what they are.
use Rattle.std.proofs.Common.{◌↔◌, ℕ, ◌≤◌, IsTrue, true, false, nat_le, nat_lt, if◌then◌else◌, subst}
use Rattle.machine_bench.proofs.Vocabulary.{leb-true, le-leb, Shape, IsHittable, MayBeHit}
use Rattle.machine_shape.specs.Vocabulary.{Meaning, Means, HasMeanings}
use Rattle.machine_faults.specs.Adding.{lower_first}

pub hit_by_meaning : (m : Shape) (w : ℕ) (x : Meaning) → HasMeanings m → Means m w x → MayBeHit m w ↔ IsHittable m x
hit_by_meaning m w x all means = (
  λ h. subst (IsHittable m)
      (all.one w _ _ h.means means) h.hittable,
  λ h. record { meaning = x; means = means; hittable = h },
)

pub hit_by_test : (m : Shape) (w : ℕ) (x : Meaning) (least k : ℕ) → HasMeanings m → Means m w x → ((least ≤ k) ↔ IsHittable m x) →
    IsTrue (nat_le least k) ↔ MayBeHit m w
hit_by_test m w x least k all means is =
    let h = hit_by_meaning m w x all means in
    (λ t. h.1 (is.0 (leb-true least k t)), λ may. le-leb least k (is.1 (h.0 may)))

-- both wires of a bridge may be hit
abbrev pub Both : Shape → ℕ × ℕ → Type 0
Both m p = MayBeHit m p.0 × MayBeHit m p.1

pub both_in_order : (m : Shape) (a b : ℕ) → Both m (a, b) → Both m (lower_first a b)
both_in_order m a b h = elim (nat_lt b a) as (λ t. Both m (if t then (b, a) else (a, b))) [ true ↦ (h.1, h.0) | false ↦ h ]
