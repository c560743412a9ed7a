-- Wires that stand in a list once.
use Rattle.std.proofs.Common.{◌≡◌, ◌≢◌, ℕ, zero, suc, ◌<◌, true, false, List, [], ◌∷◌, ◌++◌, length, get_or, sym, ◌∙◌, subst, arith, AllPairs}
use Rattle.diag_known.proofs.Vocabulary.{false≢true, nat_tests, among}
use Rattle.std.proofs.lemmas.List.Quantifiers.{all_pairs_push}

at_in : (ws : List ℕ) (i d : ℕ) → i < length ws → among ws (get_or ws i d) ≡ true
at_in [] i d h = absurd (omega arith)
at_in (w ∷ ws) zero d h = grind (arith, nat_tests)
at_in (w ∷ ws) (suc i) d h = by (at_in ws i d (omega arith))
  where
    by : among ws (get_or ws i d) ≡ true → among (w ∷ ws) (get_or ws i d) ≡ true
    by e = grind (arith, nat_tests)

pub once_more : (ws : List ℕ) (w : ℕ) → AllPairs (λ v u. v ≢ u) ws → among ws w ≡ false → AllPairs (λ v u. v ≢ u) (ws ++ w ∷ [])
once_more ws w once out = all_pairs_push (λ v u. v ≢ u) ws w once (λ i d h e. false≢true (sym out ∙ subst (λ v. among ws v ≡ true) e (at_in ws i d h)))

pub once_alone : (w : ℕ) → AllPairs (λ v u. v ≢ u) (w ∷ [])
once_alone w i j d less within = absurd (let no : ⊥ = omega (arith, less, within) in no)
