-- What stays is closed again, and tables are switched on where they stand.
use Rattle.std.proofs.Common.{◌≡◌, ◌≢◌, ◌⊎◌, ℕ, ◌+◌, ◌<◌, ◌≤◌, Bool, true, false, not, ◌&&◌, Option, None, List, [], ◌∷◌, length, get_or, set, refl, sym, ap, ◌∙◌, subst, inl, inr, arith, IsSome, ◌==◌, if◌then◌else◌, count_by}
use Rattle.place_repair.proofs.Vocabulary.{nat_cmp_total, unsigned_tied, nat_cmp, len-insert, contains-remove, cases_eq, get_or-set_same}
use Rattle.place_repair.proofs.Vocabulary.{get_or-set_other, length-set, Cross, ends_of, Setting, Configuration, is_closed, setting_of}
use Rattle.place_repair.proofs.Vocabulary.{with_setting, Closes, closes_then, closes_same, nth_of, Plan, HasStayingWire, IsKeptCross}
use Rattle.place_repair.proofs.Vocabulary.{IsKeptCrossOf, AreSeated, no_cross, IsOfFirst, of_list, listed}
use Rattle.std.specs.FinSet as sets
use Rattle.std.proofs.lemmas.{Bool.Decides.nat_tests, List.Sums.sum_by-cons}
use Rattle.machine_config.proofs.Changes.{insert-remove}
use Rattle.place_repair.proofs.Marking.{first_more, first_before, first_last}

-- ---- how many are closed

one_less : (s : sets.FinSet nat_cmp) (y : ℕ) → sets.contains s y ≡ true → sets.len s ≡ sets.len (sets.remove s y) + 1
one_less s y is =
    ap sets.len (sym (insert-remove s y is)) ∙ len-insert nat_cmp_total (sets.remove s y) y
    ∙ ap (λ b. if b then sets.len (sets.remove s y) else sets.len (sets.remove s y) + 1) (contains-remove nat_cmp_total s y y ∙ ap (λ b. not b && sets.contains s y) (unsigned_tied y y ∙ (let e : (y == y) ≡ true = grind (arith, nat_tests) in e)))

-- a list in which each number of a set stands once isn't longer than the set
pub no_longer : (xs : List Cross) (s : sets.FinSet nat_cmp) → ((q : ℕ) → count_by (λ (c : Cross). c.0 == q) xs ≡ (if sets.contains s q then 1 else 0)) → length xs ≤ sets.len s
no_longer [] s counts = omega arith
no_longer (x ∷ xs) s counts = (let l = no_longer xs (sets.remove s x.0) rest in let o = one_less s x.0 here in omega (arith, l, o))
  where
    count : (q : ℕ) → count_by (λ (c : Cross). c.0 == q) (x ∷ xs) ≡ (if x.0 == q then 1 else 0) + count_by (λ (c : Cross). c.0 == q) xs
    count q = sum_by-cons (λ (c : Cross). if c.0 == q then 1 else 0) x xs

    same : (x.0 == x.0) ≡ true
    same = grind (arith, nat_tests)

    by_member : (b : Bool) (n : ℕ) → 1 + n ≡ (if b then 1 else 0) → (b ≡ true) × (n ≡ 0)
    by_member true n e = (refl, omega (arith, e))
    by_member false n e = absurd (omega (arith, e))

    member : (sets.contains s x.0 ≡ true) × (count_by (λ (c : Cross). c.0 == x.0) xs ≡ 0)
    member = by_member (sets.contains s x.0) (count_by (λ (c : Cross). c.0 == x.0) xs) (ap (λ b. (if b then 1 else 0) + count_by (λ (c : Cross). c.0 == x.0) xs) (sym same) ∙ sym (count x.0) ∙ counts x.0)

    here : sets.contains s x.0 ≡ true
    here = member.0

    rest : (q : ℕ) → count_by (λ (c : Cross). c.0 == q) xs ≡ (if sets.contains (sets.remove s x.0) q then 1 else 0)
    rest q = by (x.0 == q) refl
      where
        removed : sets.contains (sets.remove s x.0) q ≡ (not (q == x.0) && sets.contains s q)
        removed = contains-remove nat_cmp_total s x.0 q ∙ ap (λ b. not b && sets.contains s q) (unsigned_tied q x.0)

        by : (b : Bool) → (x.0 == q) ≡ b → count_by (λ (c : Cross). c.0 == q) xs ≡ (if sets.contains (sets.remove s x.0) q then 1 else 0)
        by true e =
            let at : x.0 ≡ q = grind (arith, nat_tests, e) in
            subst (λ z. count_by (λ (c : Cross). c.0 == z) xs ≡ (if sets.contains (sets.remove s x.0) z then 1 else 0)) at
            (member.1 ∙ sym (ap (λ b. if b then 1 else 0) (contains-remove nat_cmp_total s x.0 x.0 ∙ ap (λ b. not b && sets.contains s x.0) (unsigned_tied x.0 x.0 ∙ same))))
        by false e =
            let other : (q == x.0) ≡ false = grind (arith, nat_tests, e) in
            (let z : count_by (λ (c : Cross). c.0 == q) xs ≡ 0 + count_by (λ (c : Cross). c.0 == q) xs = omega arith in z)
            ∙ ap (λ b. (if b then 1 else 0) + count_by (λ (c : Cross). c.0 == q) xs) (sym e) ∙ sym (count q) ∙ counts q ∙ sym (ap (λ b. if b then 1 else 0) (removed ∙ ap (λ b. not b && sets.contains s q) other))

-- ---- crosspoints that stay

module _ (g : Configuration) (p : Plan) where
  pub kept_more : (xs : List Cross) (n : ℕ) (old mid new : Configuration) → Closes (IsOfFirst (λ (c : Cross). IsKeptCrossOf g p c.0) no_cross xs n) n old mid → Closes (IsKeptCrossOf g p (get_or xs n no_cross).0) 1 mid new →
      Closes (IsOfFirst (λ (c : Cross). IsKeptCrossOf g p c.0) no_cross xs (n + 1)) (n + 1) old new
  kept_more xs n old mid new a b = closes_then (IsOfFirst (λ (c : Cross). IsKeptCrossOf g p c.0) no_cross xs n) (IsKeptCrossOf g p (get_or xs n no_cross).0) (IsOfFirst (λ (c : Cross). IsKeptCrossOf g p c.0) no_cross xs (n + 1)) n 1 (n + 1) old mid new a b refl
      (first_before (λ (c : Cross). IsKeptCrossOf g p c.0) no_cross xs n) (first_last (λ (c : Cross). IsKeptCrossOf g p c.0) no_cross xs n) (first_more (λ (c : Cross). IsKeptCrossOf g p c.0) no_cross xs n)

  pub kept_all : (xs : List Cross) → ((x : ℕ) → count_by (λ (c : Cross). c.0 == x) xs ≡ (if is_closed g x then 1 else 0)) → (n : ℕ) → length xs ≤ n → n ≤ length xs → (old new : Configuration) →
      Closes (IsOfFirst (λ (c : Cross). IsKeptCrossOf g p c.0) no_cross xs n) n old new → Closes (IsKeptCross g p) (sets.len g.closed) old new
  kept_all xs counts n ge le old new a = closes_same (IsOfFirst (λ (c : Cross). IsKeptCrossOf g p c.0) no_cross xs n) (IsKeptCross g p) n (sets.len g.closed) old new a (let l = no_longer xs g.closed counts in omega (arith, l, le)) to from
    where
      to : (x : ℕ) → IsOfFirst (λ (c : Cross). IsKeptCrossOf g p c.0) no_cross xs n x → IsKeptCross g p x
      to x first =
          let on = of_list (λ (c : Cross). c.0) xs (is_closed g) counts first.0 no_cross (omega (arith, first.1, le)) in
          let e : (get_or xs first.0 no_cross).0 ≡ x = first.2.0 in
          subst (IsKeptCross g p) e (on, first.2.1)

      from : (x : ℕ) → IsKeptCross g p x → IsOfFirst (λ (c : Cross). IsKeptCrossOf g p c.0) no_cross xs n x
      from x kept = let r = listed (λ (c : Cross). c.0) xs (is_closed g) counts x no_cross kept.0 in (r.0, omega (arith, r.1, ge), (r.2, subst (λ z. HasStayingWire g p (ends_of g.shape z).0) (sym r.2) kept.1))

  -- ---- tables

  pub seated_none : (are : ℕ → Type 0) (old : Configuration) → ((t : ℕ) → are t → ⊥) → AreSeated g p are old old
  seated_none are old never = record { sized = refl; on = λ t a. absurd (never t a); others = λ u on. inl on; rest = refl }

  pub seated_more : (are more : ℕ → Type 0) (old mid new : Configuration) (t : ℕ) → AreSeated g p are old mid → new ≡ with_setting mid (nth_of p.tables.items t) (setting_of g t) → nth_of p.tables.items t < length mid.tables →
      ((u : ℕ) → are u → nth_of p.tables.items u ≡ nth_of p.tables.items t → u ≡ t) → ((u : ℕ) → more u → are u ⊎ (u ≡ t)) → ((u : ℕ) → are u → more u) → more t → AreSeated g p more old new
  seated_more are more old mid new t so_far made within apart to from here = record {
    sized = ap (λ (c : Configuration). length c.tables) made ∙ length-set mid.tables (nth_of p.tables.items t) (setting_of g t) ∙ so_far.sized;
    on = λ u m. on u (to u m);
    others = λ v is. others v (subst (λ o. IsSome o) (ap (λ (c : Configuration). setting_of c v) made) is) (cases_eq v (nth_of p.tables.items t));
    rest = made ∙ ap (λ (c : Configuration). record c { tables = set mid.tables (nth_of p.tables.items t) (setting_of g t) }) so_far.rest ∙ ap (λ (ts : List (Option Setting)). record old { tables = ts }) (sym (ap (λ (c : Configuration). c.tables) made));
  }
    where
      at_place : setting_of new (nth_of p.tables.items t) ≡ setting_of g t
      at_place = ap (λ (c : Configuration). setting_of c (nth_of p.tables.items t)) made ∙ get_or-set_same mid.tables (nth_of p.tables.items t) (setting_of g t) None within

      elsewhere : (v : ℕ) → v ≢ nth_of p.tables.items t → setting_of new v ≡ setting_of mid v
      elsewhere v ne = ap (λ (c : Configuration). setting_of c v) made ∙ get_or-set_other mid.tables (nth_of p.tables.items t) v (setting_of g t) None ne

      before : (u : ℕ) → are u → (nth_of p.tables.items u ≡ nth_of p.tables.items t) ⊎ (nth_of p.tables.items u ≢ nth_of p.tables.items t) → setting_of new (nth_of p.tables.items u) ≡ setting_of g u
      before u a (inl e) = ap (setting_of new) e ∙ at_place ∙ ap (setting_of g) (sym (apart u a e))
      before u a (inr ne) = elsewhere (nth_of p.tables.items u) ne ∙ so_far.on u a

      on : (u : ℕ) → are u ⊎ (u ≡ t) → setting_of new (nth_of p.tables.items u) ≡ setting_of g u
      on u (inl a) = before u a (cases_eq (nth_of p.tables.items u) (nth_of p.tables.items t))
      on u (inr e) = subst (λ z. setting_of new (nth_of p.tables.items z) ≡ setting_of g z) (sym e) at_place

      kept : (v : ℕ) → IsSome (setting_of old v) ⊎ ((u : ℕ) × are u × (nth_of p.tables.items u ≡ v)) → IsSome (setting_of old v) ⊎ ((u : ℕ) × more u × (nth_of p.tables.items u ≡ v))
      kept v (inl is) = inl is
      kept v (inr r) = inr (r.0, from r.0 r.1, r.2)

      others : (v : ℕ) → IsSome (setting_of (with_setting mid (nth_of p.tables.items t) (setting_of g t)) v) → (v ≡ nth_of p.tables.items t) ⊎ (v ≢ nth_of p.tables.items t) → IsSome (setting_of old v) ⊎ ((u : ℕ) × more u × (nth_of p.tables.items u ≡ v))
      others v is (inl e) = inr (t, here, sym e)
      others v is (inr ne) = kept v (so_far.others v (subst IsSome (get_or-set_other mid.tables (nth_of p.tables.items t) v (setting_of g t) None ne) is))

  pub seated_same : (are more : ℕ → Type 0) (old new : Configuration) → AreSeated g p are old new → ((t : ℕ) → more t → are t) → ((t : ℕ) → are t → more t) → AreSeated g p more old new
  seated_same are more old new a to from = record { sized = a.sized; on = λ t m. a.on t (to t m); others = λ u is. by u (a.others u is); rest = a.rest }
    where
      by : (u : ℕ) → IsSome (setting_of old u) ⊎ ((t : ℕ) × are t × (nth_of p.tables.items t ≡ u)) → IsSome (setting_of old u) ⊎ ((t : ℕ) × more t × (nth_of p.tables.items t ≡ u))
      by u (inl is) = inl is
      by u (inr r) = inr (r.0, from r.0 r.1, r.2)
