-- What a search found, with fewer crossings than so many.
use Rattle.place_anneal.proofs.Vocabulary.{◌≡◌, ℕ, ◌<◌, ◌≤◌, Option, None, Some, IfSome, subst, Shape, Defects, Network, Plan}
use Rattle.place_anneal.specs.{declared.better.Better.Better, Better.IsBetterBy, Better.IsBetterLaid, Crossings.HasCrossings}

-- what a search found for at most so many, of a plan that has no fewer
abbrev pub IsFound : Shape → Defects → Network → Plan → ℕ → Option Better → Type 0
IsFound m d n p most o = IfSome o (λ b. (sum : ℕ) → HasCrossings m n p sum → most ≤ sum → IsBetterBy m d n p most b)

module _ (m : Shape) (d : Defects) (n : Network) (p : Plan) (before most : ℕ) where
  pub found_fewer : (o : Option Better) → HasCrossings m n p before → most ≤ before → IsFound m d n p most o → IfSome o (λ b. b.crossings < most)
  found_fewer None are few is = tt
  found_fewer (Some b) are few is = (is before are few).fewer

  pub found_laid : (o : Option Better) (b : Better) → HasCrossings m n p before → most ≤ before → o ≡ Some b → IsFound m d n p most o →
      IsBetterLaid m d n p b.placed
  found_laid o b are few e is =
      (subst (λ z. IfSome z (λ x. (sum : ℕ) → HasCrossings m n p sum → most ≤ sum → IsBetterBy m d n p most x)) e is before are few).laid
