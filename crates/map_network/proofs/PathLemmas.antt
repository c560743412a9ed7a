-- Paths and levels of tables.
use Rattle.map_network.proofs.Vocabulary.{◌≡◌, ℕ, zero, suc, ◌+◌, ◌<◌, ◌≤◌, refl, sym, ap, inl, inr, arith, Contains, cases_eq, Table}
use Rattle.map_network.proofs.Vocabulary.{Network, IsCombinational, IsPath, alone, onward, IsDeepest, table_at, IsMost}

pub last_is : {n : Network} {j k : ℕ} → IsPath n j k → IsCombinational n j
last_is (alone is) = is
last_is (onward p is at) = is

pub some_long : {n : Network} {j k : ℕ} → IsPath n j k → 1 ≤ k
some_long (alone is) = omega arith
some_long (onward p is at) = omega arith

-- where each table reads another of them, paths are as long as you like
pub endless : (n : Network) (P : ℕ → Type 0) → ((j : ℕ) → P j → IsCombinational n j) → ((j : ℕ) → P j → (i : ℕ) × P i × Contains (table_at n j).ins (Table i)) → (k j : ℕ) → P j → IsPath n j (suc k)
endless n P is more zero j p = alone (is j p)
endless n P is more (suc k) j p = let m = more j p in onward (endless n P is more k m.0 m.1) (is j p) m.2

pub no_loop : (n : Network) (depth : ℕ) → IsDeepest n depth → (P : ℕ → Type 0) → ((j : ℕ) → P j → IsCombinational n j) → ((j : ℕ) → P j → (i : ℕ) × P i × Contains (table_at n j).ins (Table i)) → (j : ℕ) → P j → ⊥
no_loop n depth deep P is more j p = let l : suc depth ≤ depth = deep j (suc depth) (endless n P is more depth j p) in omega arith

module _ (f : ℕ → ℕ) where
  pub most_none : IsMost f 0 0
  most_none = record { most = λ k lk. absurd (omega arith); one = inl refl }

  pub most_up : (m best level : ℕ) → level ≡ f m → best < level → IsMost f m best → IsMost f (m + 1) level
  most_up m best level e more h = record {
    most = λ k lk. elim (cases_eq k m) [ inl s ↦ (let t : f k ≡ f m = ap f s in omega arith) | inr s ↦ (let l : f k ≤ best = h.most k (omega arith) in omega arith) ];
    one = inr (m, omega arith, sym e);
  }

  pub most_stays : (m best level : ℕ) → level ≡ f m → level ≤ best → IsMost f m best → IsMost f (m + 1) best
  most_stays m best level e less h = record {
    most = λ k lk. elim (cases_eq k m) [ inl s ↦ (let t : f k ≡ f m = ap f s in omega arith) | inr s ↦ h.most k (omega arith) ];
    one = elim h.one [ inl z ↦ inl z | inr o ↦ inr (o.0, omega (arith, o.1), o.2) ];
  }
