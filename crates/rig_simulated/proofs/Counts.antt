-- Lists in which each number of a set stands once.
use Rattle.std.proofs.Common.{◌≡◌, ◌≢◌, ◌⊎◌, ⊎_elim, ℕ, zero, suc, ◌+◌, ◌<◌, ◌≤◌, Bool, true, false, cond, eqb, None, IsSome, List, [], ◌∷◌, length, get_or, refl, sym, ap, ◌∙◌, arith, is_some, count_by}
use Rattle.std.specs.List.{list_any, All}
use Rattle.rig_simulated.proofs.Vocabulary.{false≢true, cases_Bool, cases_lt, or_left, eq-eqb, eqb-true, get_or_past, Cross, Table}
use Rattle.rig_simulated.proofs.Vocabulary.{tables_of, crosses_of, Configuration, IsConfiguration, is_closed, setting_of, is_among}
use Rattle.std.proofs.lemmas.List.Sums.{sum_by-cons}

module _ {X : Type 0} (p : X → Bool) where
  count_cons : (x : X) (xs : List X) → count_by p (x ∷ xs) ≡ cond (p x) 1 0 + count_by p xs
  count_cons x xs = sum_by-cons (λ y. cond (p y) 1 0) x xs

  pub count_at : (xs : List X) (k : ℕ) (d : X) → k < length xs → p (get_or xs k d) ≡ true → 1 ≤ count_by p xs
  count_at [] k d h e = absurd (omega arith)
  count_at (x ∷ xs) zero d h e = let c = count_cons x xs in let o = ap {B = ℕ} (λ b. cond b 1 0) e in omega (arith, c, o)
  count_at (x ∷ xs) (suc k) d h e = let c = count_cons x xs in let more : 1 ≤ count_by p xs = count_at xs k d (omega (arith, h)) e in omega (arith, c, more)

  -- what stands in a list that has it once exactly where the answer is yes
  yes_from_count : (xs : List X) (k : ℕ) (d : X) (b : Bool) → count_by p xs ≡ cond b 1 0 → k < length xs → p (get_or xs k d) ≡ true → b ≡ true
  yes_from_count xs k d true e h is = refl
  yes_from_count xs k d false e h is = absurd (let c = count_at xs k d h is in omega (arith, c, e))

  pub place_from_count : (xs : List X) → 1 ≤ count_by p xs → (k : ℕ) × (k < length xs) × ((d : X) → p (get_or xs k d) ≡ true)
  place_from_count [] h = absurd (omega arith)
  place_from_count (x ∷ xs) h = ⊎_elim
      (λ e. (0, omega arith, λ d. e))
      (λ e. let c = count_cons x xs in let o = ap {B = ℕ} (λ b. cond b 1 0) e in let more = place_from_count xs (omega (arith, c, o, h)) in (suc more.0, (let m = more.1 in omega (arith, m)), more.2))
      (cases_Bool (p x))

  pub any_from_count : (b : Bool) (xs : List X) → count_by p xs ≡ cond b 1 0 → list_any p xs ≡ b
  any_from_count true [] e = let z : count_by p [] ≡ 0 = refl in absurd (omega (arith, e, z))
  any_from_count false [] e = refl
  any_from_count b (x ∷ xs) e = ⊎_elim
      (λ t. or_left _ _ t ∙ sym (must b (let c = count_cons x xs in let o = ap {B = ℕ} (λ q. cond q 1 0) t in omega (arith, c, o, e))))
      (λ n. (rw n refl) ∙ any_from_count b xs (let c = count_cons x xs in let o = ap {B = ℕ} (λ q. cond q 1 0) n in omega (arith, c, o, e)))
      (cases_Bool (p x))
    where
      must : (b : Bool) → 1 ≤ cond b 1 0 → b ≡ true
      must true h = refl
      must false h = absurd (omega (arith, h))

some_below : (g : Configuration) (t : ℕ) → IsSome (setting_of g t) → t < length g.tables
some_below g t is = ⊎_elim (λ l. l) (λ l. absurd (false≢true (sym (ap is_some (get_or_past g.tables t None l)) ∙ is))) (cases_lt t (length g.tables))

module _ (g : Configuration) (on : List Table) (counts : (t : ℕ) → count_by (λ x. eqb x.0 t) on ≡ cond (is_some (setting_of g t)) 1 0) where
  pub on_is_some : (k : ℕ) (d : Table) → k < length on → IsSome (setting_of g (get_or on k d).0)
  on_is_some k d h = let t = (get_or on k d).0 in yes_from_count (λ (x : Table). eqb x.0 t) on k d (is_some (setting_of g t)) (counts t) h (eq-eqb t t refl)

  pub on_below : IsConfiguration g → (k : ℕ) (d : Table) → k < length on → (get_or on k d).0 < tables_of g.shape
  on_below is k d h = let b = some_below g (get_or on k d).0 (on_is_some k d h) in let e = is.tables in omega (arith, b, e)

  pub stands_on : (t : ℕ) → IsSome (setting_of g t) → (k : ℕ) × (k < length on) × ((d : Table) → (get_or on k d).0 ≡ t)
  stands_on t is =
      let one : count_by (λ x. eqb x.0 t) on ≡ 1 = counts t ∙ ap {B = ℕ} (λ b. cond b 1 0) is in
      let found = place_from_count (λ (x : Table). eqb x.0 t) on (omega (arith, one)) in
      (found.0, found.1, λ d. eqb-true _ t (found.2 d))

module _ (g : Configuration) (closed : List Cross) (counts : (x : ℕ) → count_by (λ c. eqb c.0 x) closed ≡ cond (is_closed g x) 1 0) where
  pub closed_below : IsConfiguration g → All (λ c. c.0 < crosses_of g.shape) closed
  closed_below is k d h = let x = (get_or closed k d).0 in is.crosses x (yes_from_count (λ (c : Cross). eqb c.0 x) closed k d (is_closed g x) (counts x) h (eq-eqb x x refl))

  pub among_closed : (x : ℕ) → is_among closed x ≡ is_closed g x
  among_closed x = any_from_count (λ c. eqb c.0 x) (is_closed g x) closed (counts x)
