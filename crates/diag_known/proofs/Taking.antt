-- Loads for what isn't kept are loads for all.
use Rattle.std.proofs.Common.{◌≡◌, ℕ, ◌+◌, ◌*◌, ◌≤◌, Bool, true, false, Some, Option, length, refl, subst, arith, not, ◌&&◌}
use Rattle.diag_known.proofs.Vocabulary.{has_number, size_of, Faults, IsFaultless, Kept, HoldsFor, keeps_cross, fresh, pins_in, TakesFew}
use Rattle.diag_known.specs.declared.field.Field.{Field}
use Rattle.diag_known.proofs.Counting.{many_more, many_size}

first_on : (a b : Bool) → (a && b) ≡ true → a ≡ true
first_on true b e = refl
first_on false b e = e

-- of a field some crosspoints aren't kept, all at most
pub fresh_few : (k : Kept) (a : Field) → fresh k a ≤ size_of a.crosses
fresh_few k a = subst (λ n. fresh k a ≤ n) (many_size a.crosses)
    (many_more _ (has_number a.crosses) (length a.crosses) (λ x less on. first_on (has_number a.crosses x) (not (keeps_cross k x)) on))

pub takes_wide : (k : Kept) (a : Field) (before : ℕ) {after : ℕ} → after + pins_in k.shape a ≤ before + (8 * fresh k a + 3 * size_of a.wires) →
    after ≤ before + (8 * size_of a.crosses + 3 * size_of a.wires)
takes_wide k a before {after} most = sums _ _ _ _ (fresh_few k a) most
  where
    sums : (p x y w : ℕ) → x ≤ y → after + p ≤ before + (8 * x + 3 * w) → after ≤ before + (8 * y + 3 * w)
    sums p x y w less most = omega (arith, less, most)

pub few_wide : {told : Option Faults} {k : Kept} {a : Field} {before after : ℕ} {f : Faults} → TakesFew told k a before after → told ≡ Some f → IsFaultless f → HoldsFor k f →
    after ≤ before + (2 * size_of a.crosses + 3 * size_of a.wires)
few_wide {k = k} {a = a} {before = before} {after = after} few is none holds = sums _ _ _ _ (fresh_few k a) (few.at _ is none holds)
  where
    sums : (p x y w : ℕ) → x ≤ y → after + p ≤ before + (2 * x + 3 * w) → after ≤ before + (2 * y + 3 * w)
    sums p x y w less most = omega (arith, less, most)
