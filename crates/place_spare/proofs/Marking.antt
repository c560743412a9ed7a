-- So many numbers, of which a few are taken away.
use Rattle.std.proofs.Common.{◌≡◌, ◌≢◌, ◌∙◌, ℕ, ◌+◌, ◌<◌, ◌≤◌, Bool, true, false, not, List, map, length, get_or, refl, sym, ap, subst, arith}
use Rattle.std.specs.List.{All, AllPairs, Contains, filter, list_any, range_with_len}
use Rattle.std.specs.{Ordering.eq_by_cmp, Ordering.nat_cmp, Cmp.eq_by_cmp_equiv, Cmp.nat_cmp_total}
use Rattle.std.proofs.lemmas.{Bool.false≢true, List.Elements.All-filter, List.Elements.filter_passes, List.Kept.AllPairs-filter}
use Rattle.std.proofs.lemmas.List.{Filters.length-filter_both, FromFn.get_or-map-range_with_len, FromFn.length-map-range_with_len}
use Rattle.std.proofs.lemmas.Map.{Lookups.exact_unsigned, Views.tells_apart, Views.Contains-from_any, Views.list_any-from_Contains}
use Rattle.place_plan.specs.Enough.{AtLeast}
use Rattle.place_plan.proofs.Counting.{pigeon}

module _ (marked : List ℕ) where
  abbrev is_marked : ℕ → Bool
  is_marked x = list_any (eq_by_cmp nat_cmp x) marked

  abbrev isnt_marked : ℕ → Bool
  isnt_marked x = not (is_marked x)

  not_true : (b : Bool) → not b ≡ true → b ≡ true → ⊥
  not_true true e is = false≢true e
  not_true false e is = false≢true is

  unmarked : (x : ℕ) → isnt_marked x ≡ true → ¬ Contains marked x
  unmarked x e has = not_true (is_marked x) e (list_any-from_Contains (eq_by_cmp_equiv nat_cmp_total) x marked has)

  few-marked : (xs : List ℕ) → AllPairs (λ x y. x ≢ y) xs → length (filter is_marked xs) ≤ length marked
  few-marked xs different = pigeon (filter is_marked xs) marked (AllPairs-filter (λ x y. x ≢ y) is_marked xs different)
      (λ k d lt. Contains-from_any (tells_apart exact_unsigned) (get_or (filter is_marked xs) k d) marked (filter_passes is_marked xs k d lt))

  many-left : (xs : List ℕ) → AllPairs (λ x y. x ≢ y) xs → length xs ≤ length (filter isnt_marked xs) + length marked
  many-left xs different =
      let few = few-marked xs different in
      let both = length-filter_both is_marked isnt_marked (λ x. refl) xs in
      omega (arith, few, both)

  -- of so many different numbers at least as many have P as are left when the marked ones are taken away
  pub left : (P : ℕ → Type 0) (f : ℕ → ℕ) (count wanted : ℕ) → ((k : ℕ) → k < count → ¬ Contains marked (f k) → P (f k))
      → ((j k : ℕ) → j < k → k < count → f j ≢ f k) → wanted + length marked ≤ count → AtLeast P wanted
  left P f count wanted have apart many = record {
    each = filter isnt_marked xs;
    have = λ k d lt. All-filter isnt_marked (λ x. ¬ Contains marked x → P x) xs all k d lt
        (unmarked (get_or (filter isnt_marked xs) k d) (filter_passes isnt_marked xs k d lt));
    different = AllPairs-filter (λ x y. x ≢ y) isnt_marked xs different;
    many = let enough = many-left xs different in omega (arith, enough, long, many);
  }
    where
      xs : List ℕ
      xs = map f (range_with_len 0 count)

      long : length xs ≡ count
      long = length-map-range_with_len f 0 count

      at : (k d : ℕ) → k < count → get_or xs k d ≡ f k
      at k d within = get_or-map-range_with_len f 0 count k k d within (omega arith)

      all : All (λ x. ¬ Contains marked x → P x) xs
      all k d lt = let within : k < count = omega (arith, lt, long) in subst (λ x. ¬ Contains marked x → P x) (sym (at k d within)) (have k within)

      different : AllPairs (λ x y. x ≢ y) xs
      different j k d less lt e =
          let within : k < count = omega (arith, lt, long) in
          apart j k less within (sym (at j d (omega (arith, less, within))) ∙ e ∙ at k d within)
