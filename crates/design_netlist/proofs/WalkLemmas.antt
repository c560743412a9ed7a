-- Without a cycle the walks from cover to cover are short.
use Rattle.std.proofs.Common.{◌≡◌, ℕ, zero, suc, ◌+◌, ◌-◌, ◌<◌, ◌≤◌, ◌⊎◌, List, [], ◌∷◌, refl, sym, subst, arith, inl, inr, length, get_or}
use Rattle.design_netlist.proofs.Vocabulary.{Contains, cases_eq, cases_lt, Cover, cover_at, Reads, Reaches, here, onward, IsOnCycle}
use Rattle.design_netlist.proofs.ListLemmas.{few_numbers, apart_or, stands_or}

module _ (covers : List Cover) where
  -- no walk from the cover has t steps
  abbrev pub IsLow : ℕ → ℕ → Type 0
  IsLow zero u = ⊥
  IsLow (suc t) u = (v : ℕ) → Reads covers u v → IsLow t v

  abbrev pub IsWalk : ℕ → List ℕ → Type 0
  IsWalk u [] = Unit {0}
  IsWalk u (v ∷ vs) = Reads covers u v × IsWalk v vs

  abbrev pub HasWalk : ℕ → ℕ → Type 0
  HasWalk t u = (vs : List ℕ) × (length vs ≡ t) × IsWalk u vs

  reads_or : (u v : ℕ) → Reads covers u v ⊎ (Reads covers u v → ⊥)
  reads_or u v = by (cases_lt u (length covers)) (cases_lt v (length covers)) (stands_or (cover_at covers u).ins (cover_at covers v).out)
    where
      by : (u < length covers) ⊎ (length covers ≤ u) → (v < length covers) ⊎ (length covers ≤ v) → Contains (cover_at covers u).ins (cover_at covers v).out ⊎ (Contains (cover_at covers u).ins (cover_at covers v).out → ⊥) → Reads covers u v ⊎ (Reads covers u v → ⊥)
      by (inl lu) (inl lv) (inl c) = inl (record { reader = lu; driver = lv; input = c })
      by (inl lu) (inl lv) (inr n) = inr (λ r. n r.input)
      by (inl lu) (inr lv) c = inr (λ r. let l : v < length covers = r.driver in omega arith)
      by (inr lu) b c = inr (λ r. let l : u < length covers = r.reader in omega arith)

  -- all covers below m that are read are low, or there is a walk through one of them
  below : (t u m : ℕ) → ((v : ℕ) → IsLow t v ⊎ HasWalk t v) → ((v : ℕ) → v < m → Reads covers u v → IsLow t v) ⊎ HasWalk (suc t) u
  below t u zero each = inl (λ v lv r. absurd (let no : ⊥ = omega arith in no))
  below t u (suc m) each = by (below t u m each) (reads_or u m) (each m)
    where
      by : ((v : ℕ) → v < m → Reads covers u v → IsLow t v) ⊎ HasWalk (suc t) u → Reads covers u m ⊎ (Reads covers u m → ⊥) → IsLow t m ⊎ HasWalk t m → ((v : ℕ) → v < suc m → Reads covers u v → IsLow t v) ⊎ HasWalk (suc t) u
      by (inr w) r e = inr w
      by (inl low) (inl r) (inr w) = inr (m ∷ w.0, omega (arith, w.1), (r, w.2))
      by (inl low) (inl r) (inl l) = inl (λ v lv s. elim (cases_eq v m) [ inl e ↦ subst (λ x. IsLow t x) (sym e) l | inr n ↦ low v (omega arith) s ])
      by (inl low) (inr n) e = inl (λ v lv s. elim (cases_eq v m) [ inl e ↦ absurd (n (subst (λ x. Reads covers u x) e s)) | inr n ↦ low v (omega arith) s ])

  low_or : (t u : ℕ) → IsLow t u ⊎ HasWalk t u
  low_or zero u = inr ([], refl, tt)
  low_or (suc t) u = by (below t u (length covers) (λ v. low_or t v))
    where
      by : ((v : ℕ) → v < length covers → Reads covers u v → IsLow t v) ⊎ HasWalk (suc t) u → IsLow (suc t) u ⊎ HasWalk (suc t) u
      by (inl low) = inl (λ v r. low v r.driver r)
      by (inr w) = inr w

  walk_step : (u : ℕ) (vs : List ℕ) (k : ℕ) → IsWalk u vs → k < length vs → Reads covers (get_or (u ∷ vs) k 0) (get_or (u ∷ vs) (suc k) 0)
  walk_step u [] k w lk = absurd (omega arith)
  walk_step u (v ∷ vs) zero w lk = w.0
  walk_step u (v ∷ vs) (suc k) w lk = walk_step v vs k w.1 (omega arith)

  walk_reaches : (u : ℕ) (vs : List ℕ) (m i j : ℕ) → i + m ≡ j → IsWalk u vs → j ≤ length vs → Reaches covers (get_or (u ∷ vs) i 0) (get_or (u ∷ vs) j 0)
  walk_reaches u vs zero i j e w lj = let same : i ≡ j = omega arith in subst (λ x. Reaches covers (get_or (u ∷ vs) i 0) (get_or (u ∷ vs) x 0)) same here
  walk_reaches u vs (suc m) i j e w lj = onward (walk_step u vs i w (omega arith)) (walk_reaches u vs m (suc i) j (omega arith) w lj)

  walk_below : (u : ℕ) (vs : List ℕ) (k : ℕ) → u < length covers → IsWalk u vs → k < length (u ∷ vs) → get_or (u ∷ vs) k 0 < length covers
  walk_below u vs zero lu w lk = lu
  walk_below u vs (suc k) lu w lk = (walk_step u vs k w (omega arith)).driver

  pub low_all : ((i : ℕ) → i < length covers → IsOnCycle covers i → ⊥) → (u : ℕ) → u < length covers → IsLow (length covers) u
  low_all acyclic u lu = by (low_or (length covers) u)
    where
      cycle : (vs : List ℕ) → length vs ≡ length covers → IsWalk u vs → (i j : ℕ) → i < j → j < length (u ∷ vs) → get_or (u ∷ vs) i 0 ≡ get_or (u ∷ vs) j 0 → ⊥
      cycle vs len w i j lt lj e =
          let s = walk_step u vs i w (omega arith) in
          acyclic (get_or (u ∷ vs) i 0) s.reader (get_or (u ∷ vs) (suc i) 0, s, subst (λ x. Reaches covers (get_or (u ∷ vs) (suc i) 0) x) (sym e) (reach vs w (suc i) j (omega arith) (omega arith)))
        where
          reach : (vs : List ℕ) → IsWalk u vs → (i j : ℕ) → i ≤ j → j ≤ length vs → Reaches covers (get_or (u ∷ vs) i 0) (get_or (u ∷ vs) j 0)
          reach vs w i j le lj = walk_reaches u vs (j - i) i j (omega arith) w lj

      by : IsLow (length covers) u ⊎ HasWalk (length covers) u → IsLow (length covers) u
      by (inl l) = l
      by (inr w) = absurd (again (apart_or (u ∷ w.0)))
        where
          again : ((i j : ℕ) → i < j → j < length (u ∷ w.0) → get_or (u ∷ w.0) i 0 ≡ get_or (u ∷ w.0) j 0 → ⊥) ⊎ ((i j : ℕ) × (i < j) × (j < length (u ∷ w.0)) × (get_or (u ∷ w.0) i 0 ≡ get_or (u ∷ w.0) j 0)) → ⊥
          again (inl apart) = let few : length (u ∷ w.0) ≤ length covers = few_numbers (length covers) (u ∷ w.0) (λ k lk. walk_below u w.0 k lu w.2 lk) apart in omega (arith, w.1)
          again (inr h) = cycle w.0 w.1 w.2 h.0 h.1 h.2 h.3 h.4
