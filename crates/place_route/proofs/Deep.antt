-- A path of tables passes none twice, so a network is no deeper than it has tables.
use Rattle.std.proofs.Common.{◌≡◌, ◌≢◌, ◌⊎◌, ℕ, zero, suc, ◌+◌, ◌<◌, ◌≤◌, List, [], ◌∷◌, length, get_or, refl, sym, ◌∙◌, subst, inl, inr, arith}
use Rattle.place_route.proofs.Vocabulary.{All, AllPairs, Contains, get_or_default, Table, Network, few_below}
use Rattle.map_network.specs.Vocabulary.{IsCombinational, IsPath, alone, onward, IsDeepest, table_at, IsDepth}

module _ (n : Network) where
  -- the tables of a path, from its end
  trail : {j k : ℕ} → IsPath n j k → List ℕ
  trail (alone {j} is) = j ∷ []
  trail (onward {i} {j} p is at) = j ∷ trail p

  trail_long : {j k : ℕ} (p : IsPath n j k) → length (trail p) ≡ k
  unfolding trail
  trail_long (alone is) = refl
  trail_long (onward p is at) = let e = trail_long p in omega arith

  trail_within : {j k : ℕ} (p : IsPath n j k) → All (λ a. a < length n.tables) (trail p)
  unfolding trail
  trail_within (alone is) zero d h = is.within
  trail_within (alone is) (suc i) d h = absurd (omega arith)
  trail_within (onward p is at) zero d h = is.within
  trail_within (onward p is at) (suc i) d h = trail_within p i d (omega arith)

  -- a path to one of them goes on to the end
  graft : {i k : ℕ} (p : IsPath n i k) (q len : ℕ) → q < length (trail p) → IsPath n (get_or (trail p) q 0) len → IsPath n i (len + q)
  unfolding trail
  graft (alone {j} is) zero len h path = subst (IsPath n j) (let e : len ≡ len + 0 = omega arith in e) path
  graft (alone is) (suc q) len h path = absurd (omega arith)
  graft (onward {i} {j} p is at) zero len h path = subst (IsPath n j) (let e : len ≡ len + 0 = omega arith in e) path
  graft (onward {i} {j} p is at) (suc q) len h path = subst (IsPath n j) (let e : suc (len + q) ≡ len + suc q = omega arith in e) (onward (graft p q len (omega arith) path) is at)

  module _ (depth : ℕ) (deep : IsDeepest n depth) where
    module _ (i j k : ℕ) (p : IsPath n i k) (is : IsCombinational n j) (at : Contains (table_at n j).ins (Table i)) (q : ℕ) (h : q < length (trail p)) (e : get_or (trail p) q 0 ≡ j) where
      -- where a path comes to a table again, paths to it are of any length
      pump : (t : ℕ) → (len : ℕ) × (t ≤ len) × IsPath n j len
      pump zero = (suc k, omega arith, onward p is at)
      pump (suc t) =
          let r = pump t in
          (suc (r.0 + q), (let l = r.1 in omega arith), onward (graft p q r.0 h (subst (λ x. IsPath n x r.0) (sym e) r.2)) is at)

      never_again : ⊥
      never_again = let r = pump (suc depth) in let l = deep j r.0 r.2 in let m = r.1 in absurd (omega arith)

    trail_apart : {j k : ℕ} (p : IsPath n j k) → AllPairs (λ a b. a ≢ b) (trail p)
    unfolding trail
    trail_apart (alone is) i j d l h = absurd (omega arith)
    trail_apart (onward p is at) i zero d l h = absurd (omega arith)
    trail_apart (onward {i = a} {j = b} {k = k} p is at) zero (suc j) d l h = λ e. never_again a b k p is at j (omega arith) (get_or_default (trail p) j 0 d (omega arith) ∙ sym e)
    trail_apart (onward p is at) (suc i) (suc j) d l h = trail_apart p i j d (omega arith) (omega arith)

  path_few : (depth : ℕ) → IsDeepest n depth → {j k : ℕ} → IsPath n j k → k ≤ length n.tables
  path_few depth deep p = subst (λ z. z ≤ length n.tables) (trail_long p) (few_below (trail p) (length n.tables) (trail_within p) (trail_apart depth deep p))

  pub depth_few : (depth : ℕ) → IsDepth n depth → depth ≤ length n.tables
  depth_few depth is = by is.reached
    where
      by : (depth ≡ 0) ⊎ ((j : ℕ) × IsPath n j depth) → depth ≤ length n.tables
      by (inl e) = omega arith
      by (inr r) = path_few depth is.longest r.1
