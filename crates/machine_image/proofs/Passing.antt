-- From field to field.
use Rattle.std.proofs.Common.{◌≡◌, ℕ, ◌+◌, ◌≤◌, List, [], ◌∷◌, ◌++◌, length, drop, Option, refl, sym, ap, ◌∙◌, subst}
use Rattle.machine_image.proofs.Vocabulary.{flat_map, append_assoc, append-nil, flat_map-append, big_bytes, ImageKind, ImageFault, At}
use Rattle.machine_image.proofs.Vocabulary.{Memory, InField, IsField, IsRefusedField, FaultIn, Passed}

-- a refused field is the first fault
pub refused_in : {size : ℕ} {fault_of : ℕ → Option ImageKind} {bytes : List ℕ} {at : ℕ} (B : ℕ → ImageKind → ℕ → Type 0) (f : ImageFault) →
    IsRefusedField size fault_of bytes at f → FaultIn (λ l k. InField bytes l k at size fault_of (B l k)) f
refused_in B f (IsRefusedField.is_cut s) = subst (FaultIn _) (sym s.1) (InField.cut s.0 refl refl)
refused_in B f (IsRefusedField.is_wrong n k stands wrong e) = subst (FaultIn _) (sym e) (InField.wrong n stands wrong refl)

-- a fault behind what was passed is a fault of the whole
pub passed_in : {bytes : List ℕ} {at end : ℕ} {front : List ℕ} {W M : ℕ → ImageKind → Type 0} → Passed bytes at end front W M →
    (f : ImageFault) → FaultIn M f → FaultIn W f
passed_in p Memory h = tt
passed_in p (At l k) h = p.faults l k h

-- a right field is passed
pub pass_field : {size : ℕ} {fault_of : ℕ → Option ImageKind} {bytes : List ℕ} {at n : ℕ} (end : ℕ) (B : ℕ → ImageKind → ℕ → Type 0) → at + size ≡ end → IsField size fault_of bytes at n →
    Passed bytes at end (big_bytes size n) (λ l k. InField bytes l k at size fault_of (B l k)) (λ l k. B l k n)
pass_field {size} {fault_of} {bytes} {at} {n} end B e f =
    subst (λ z. Passed bytes at z (big_bytes size n) (λ l k. InField bytes l k at size fault_of (B l k)) (λ l k. B l k n)) e
    (record { within = f.within; text = f.stands.1; faults = λ l k behind. InField.behind n f.stands f.right behind })

-- one part behind another
pub pass_both : {bytes : List ℕ} {a b c : ℕ} {f g : List ℕ} {W M B : ℕ → ImageKind → Type 0} → Passed bytes a b f W M → Passed bytes b c g M B → Passed bytes a c (f ++ g) W B
pass_both {bytes = bytes} {c = c} {f = f} {g = g} p q = record {
  within = q.within;
  text = p.text ∙ ap (λ r. f ++ r) q.text ∙ sym (append_assoc f g (drop c bytes));
  faults = λ l k h. p.faults l k (q.faults l k h);
}

-- nothing is passed yet
pub pass_none : {bytes : List ℕ} {at : ℕ} {W : ℕ → ImageKind → Type 0} → at ≤ length bytes → Passed bytes at at [] W W
pass_none h = record { within = h; text = refl; faults = λ l k h. h }

-- an item behind a list of items
pub pass_item : {X : Type 0} (f : X → List ℕ) {bytes : List ℕ} {a b c : ℕ} (xs : List X) (x : X) {W M B : ℕ → ImageKind → Type 0} →
    Passed bytes a b (flat_map f xs) W M → Passed bytes b c (f x) M B → Passed bytes a c (flat_map f (xs ++ x ∷ [])) W B
pass_item f {bytes} {a} {b} {c} xs x {W} {M} {B} p q =
    subst (λ r. Passed bytes a c r W B) (sym (flat_map-append f xs (x ∷ []) ∙ ap (λ r. flat_map f xs ++ r) (append-nil (f x)))) (pass_both p q)
