-- A vector on distinct pins, pin by pin.
use Rattle.std.proofs.Common.{◌≡◌, ◌≢◌, ℕ, suc, ◌<◌, Bool, true, List, [], ◌∷◌, length, replicate, get_or, refl, sym, ap, ◌∙◌, subst, arith, All, AllPairs, ◌==◌, if◌then◌else◌, slice_set}
use Rattle.std.proofs.Math.Logic.{⊎_elim}
use Rattle.run_image.proofs.Vocabulary.{cases_eq, eq-eqb, ne_eqb, Pins, bit_for, drive_on, driven}
use Rattle.std.proofs.lemmas.List.{get_or-replicate, get_or-set_same, get_or-set_other, length-set, length-replicate, FromFn.fill_by_all}

-- the bit that a vector gives to a pin, and another to one that is no input
abbrev bit_or : Bool → List ℕ → List Bool → ℕ → Bool
bit_or d [] bits k = d
bit_or d (p ∷ ps) [] k = d
bit_or d (p ∷ ps) (b ∷ bits) k = if p == k then b else bit_or d ps bits k

bit_or-true : (ps : List ℕ) (bits : List Bool) (k : ℕ) → bit_or true ps bits k ≡ bit_for ps bits k
bit_or-true [] bits k = refl
bit_or-true (p ∷ ps) [] k = refl
bit_or-true (p ∷ ps) (b ∷ bits) k = ap (λ r. if p == k then b else r) (bit_or-true ps bits k)

bit_or-absent : (d : Bool) (ps : List ℕ) (bits : List Bool) (k : ℕ) → All (λ p. k ≢ p) ps → bit_or d ps bits k ≡ d
bit_or-absent d [] bits k n = refl
bit_or-absent d (p ∷ ps) [] k n = refl
bit_or-absent d (p ∷ ps) (b ∷ bits) k n =
    let h : p ≢ k = λ e. n 0 0 (omega arith) (sym e) in
    rw (ne_eqb p k h) (bit_or-absent d ps bits k (λ i x l. n (suc i) x (omega arith)))

one_more : (p k : ℕ) (b : Bool) (ps : List ℕ) (bits : List Bool) (drive : Pins) → k < length drive → All (λ q. p ≢ q) ps →
    bit_or (get_or (slice_set drive p b) k true) ps bits k ≡ (if p == k then b else bit_or (get_or drive k true) ps bits k)
one_more p k b ps bits drive h n = ⊎_elim
    (λ e. rw (eq-eqb p k e, ap (λ i. get_or (slice_set drive i b) k true) e, get_or-set_same drive k b true h) (bit_or-absent b ps bits k (subst (λ i. All (λ q. i ≢ q) ps) e n)))
    (λ e. rw (ne_eqb p k e, get_or-set_other drive p k b true (λ f. e (sym f))) refl)
    (cases_eq p k)

length-driven : (ps : List ℕ) (bits : List Bool) (drive : Pins) → length (driven ps bits drive) ≡ length drive
length-driven [] bits drive = refl
length-driven (p ∷ ps) [] drive = refl
length-driven (p ∷ ps) (b ∷ bits) drive = length-driven ps bits (slice_set drive p b) ∙ length-set drive p b

driven_at : (ps : List ℕ) (bits : List Bool) (drive : Pins) (k : ℕ) → k < length drive → AllPairs (λ i j. i ≢ j) ps → get_or (driven ps bits drive) k true ≡ bit_or (get_or drive k true) ps bits k
driven_at [] bits drive k h n = refl
driven_at (p ∷ ps) [] drive k h n = refl
driven_at (p ∷ ps) (b ∷ bits) drive k h n =
    driven_at ps bits (slice_set drive p b) k (let e = length-set drive p b in omega arith) (λ i j d l m. n (suc i) (suc j) d (omega arith) (omega arith))
    ∙ one_more p k b ps bits drive h (λ i d l. n 0 (suc i) d (omega arith) (omega arith))

-- over released pins
pub driven_is : (pins : ℕ) (ps : List ℕ) (bits : List Bool) → AllPairs (λ i j. i ≢ j) ps → driven ps bits (replicate pins true) ≡ drive_on pins ps bits
driven_is pins ps bits n =
    let e : length (replicate pins true) ≡ pins = length-replicate pins true in
    fill_by_all (bit_for ps bits) (driven ps bits (replicate pins true)) pins true (length-driven ps bits (replicate pins true) ∙ e)
    (λ k h. driven_at ps bits (replicate pins true) k (omega arith) n ∙ ap (λ d. bit_or d ps bits k) (get_or-replicate pins k true true h) ∙ bit_or-true ps bits k)
