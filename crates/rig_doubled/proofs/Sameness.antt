-- Rows that are the same.
use Rattle.rig_doubled.proofs.Vocabulary.{◌≡◌, Bool, true, false, List, [], ◌∷◌, refl, ap, beq, false≢true}
use lib.Pointwise.{pointwise}

pub same_bits : (xs ys : List Bool) → pointwise beq xs ys ≡ true → xs ≡ ys
same_bits [] [] e = refl
same_bits [] (y ∷ ys) e = absurd (false≢true e)
same_bits (x ∷ xs) [] e = absurd (false≢true e)
same_bits (true ∷ xs) (true ∷ ys) e = ap (λ l. true ∷ l) (same_bits xs ys e)
same_bits (true ∷ xs) (false ∷ ys) e = absurd (false≢true e)
same_bits (false ∷ xs) (true ∷ ys) e = absurd (false≢true e)
same_bits (false ∷ xs) (false ∷ ys) e = ap (λ l. false ∷ l) (same_bits xs ys e)

pub bits_same : (xs : List Bool) → pointwise beq xs xs ≡ true
bits_same [] = refl
bits_same (true ∷ xs) = bits_same xs
bits_same (false ∷ xs) = bits_same xs
