-- What the code's maps and sets are as values.
use Rattle.std.proofs.Common.{◌≡◌, ℕ, ◌+◌, Bool, true, false, cond, ◌||◌, Some, None, IsSome, List, [], ◌∷◌, ◌++◌, map, refl, sym, ap, ◌∙◌, subst, length-append, is_some}
use Rattle.std.specs.FinMap as maps
use Rattle.std.specs.{FinMap.find, BTreeMap.is_at}
use Rattle.std.specs.FinSet as set
use Rattle.machine_faults.proofs.Vocabulary.{list_any, lookup, IsTotalOrder, eq_by_cmp_equiv, eq_by_cmp, Ordering, CmpEqualImpliesEq}
use Rattle.machine_faults.proofs.Vocabulary.{tells_apart, map-append, pair_cmp, pairs_total, pairs_exact, Lists, pair_of}
use Rattle.machine_shape.specs.declared.Wire.{Wire}

module _ {K X : Type 0} {R : K → K → Ordering} (o : IsTotalOrder R) where
  find_is : (es : List (K × X)) (q : K) → find R q es ≡ lookup (is_at (R q)) es
  find_is [] q = refl
  find_is (e ∷ es) q = ap (cond (is_at (R q) e.0) (Some e.1)) (find_is es q)

  pub get_is : (es : List (K × X)) (q : K) → maps.get (maps.from_entries {R = R} es) q ≡ lookup (is_at (R q)) es
  get_is es q = maps.get-from_entries o es q ∙ find_is es q

  pub one_put : CmpEqualImpliesEq R → (es fs : List (K × X)) (k : K) (v : X) → ((q : K) → lookup (is_at (R q)) fs ≡ cond (is_at (R k) q) (Some v) (lookup (is_at (R q)) es)) → maps.from_entries {R = R} fs ≡ maps.insert (maps.from_entries es) k v
  one_put exact es fs k v h = maps.same_map o exact _ _ (λ q.
      get_is fs q ∙ h q ∙ ap (λ b. cond b (Some v) (lookup (is_at (R q)) es)) ((eq_by_cmp_equiv o).symm k q)
      ∙ sym (maps.get-insert o (maps.from_entries es) k v q ∙ ap (cond (is_at (R q) k) (Some v)) (get_is es q)))

  -- what holds of each key, and of a new one, holds of each key with the new one
  pub all_put : CmpEqualImpliesEq R → (m : maps.FinMap R X) (k : K) (v : X) (P : K → Type 0) → ((q : K) → IsSome (maps.get m q) → P q) → P k → (q : K) → IsSome (maps.get (maps.insert m k v) q) → P q
  all_put exact m k v P all here q is =
      elim (eq_by_cmp R q k) as (λ b. eq_by_cmp R q k ≡ b → IsSome (cond b (Some v) (maps.get m q)) → P q) [
        | true ↦ λ e _. subst P (sym (tells_apart exact q k e)) here
        | false ↦ λ _ there. all q there
      ] refl (subst IsSome (maps.get-insert o m k v q) is)

  pub len_put : (m : maps.FinMap R X) (k : K) (v : X) → maps.get m k ≡ None → maps.len (maps.insert m k v) ≡ maps.len m + 1
  len_put m k v none = maps.len-insert o m k v ∙ ap (λ x. cond (is_some x) (maps.len m) (maps.len m + 1)) none

module _ {K : Type 0} {R : K → K → Ordering} (o : IsTotalOrder R) where
  pub contains_is : (ks : List K) (q : K) → set.contains (set.from_list {R = R} ks) q ≡ list_any (is_at (R q)) ks
  contains_is ks q = set.contains-from_list o ks q

  or_cond : (a b : Bool) → cond a true b ≡ (a || b)
  or_cond true b = refl
  or_cond false b = refl

  pub one_added : CmpEqualImpliesEq R → (ks ns : List K) (k : K) → ((q : K) → list_any (is_at (R q)) ns ≡ cond (is_at (R k) q) true (list_any (is_at (R q)) ks)) → set.from_list {R = R} ns ≡ set.insert (set.from_list ks) k
  one_added exact ks ns k h = set.same_set o exact _ _ (λ q.
      contains_is ns q ∙ h q ∙ or_cond (is_at (R k) q) (list_any (is_at (R q)) ks) ∙ ap (λ b. b || list_any (is_at (R q)) ks) ((eq_by_cmp_equiv o).symm k q)
      ∙ sym (set.contains-insert o (set.from_list ks) k q ∙ ap (λ b. eq_by_cmp R q k || b) (contains_is ks q)))

  pub all_added : CmpEqualImpliesEq R → (s : set.FinSet R) (k : K) (P : K → Type 0) → ((q : K) → set.contains s q ≡ true → P q) → P k → (q : K) → set.contains (set.insert s k) q ≡ true → P q
  all_added exact s k P all here q is =
      elim (eq_by_cmp R q k) as (λ b. eq_by_cmp R q k ≡ b → (b || set.contains s q) ≡ true → P q) [
        | true ↦ λ e _. subst P (sym (tells_apart exact q k e)) here
        | false ↦ λ _ there. all q there
      ] refl (sym (set.contains-insert o s k q) ∙ is)

  pub len_added : (s : set.FinSet R) (k : K) → set.contains s k ≡ false → set.len (set.insert s k) ≡ set.len s + 1
  len_added s k new = set.len-insert o s k ∙ ap (λ b. cond b (set.len s) (set.len s + 1)) new

-- ---- the list of the bridges

pub lists_none : (bridges : List (Wire × Wire)) (keys : List (ℕ × ℕ)) → bridges ≡ [] → keys ≡ [] → Lists bridges (set.from_list {R = pair_cmp} keys)
lists_none [] [] b k = record { same = refl; once = sym (set.len-empty pair_cmp) }
lists_none (b ∷ bs) ks e f = absurd cc
lists_none [] (k ∷ ks) e f = absurd cc

pub lists_more : (bridges : List (Wire × Wire)) (s : set.FinSet pair_cmp) (w : Wire × Wire) → Lists bridges s → set.contains s (pair_of w) ≡ false → Lists (bridges ++ w ∷ []) (set.insert s (pair_of w))
lists_more bridges s w l new = record {
  same = ap (λ ks. set.from_list {R = pair_cmp} ks) (map-append pair_of bridges (w ∷ [])) ∙ set.from_list_push pairs_total pairs_exact (map pair_of bridges) (pair_of w) ∙ ap (λ t. set.insert t (pair_of w)) l.same;
  once = length-append bridges (w ∷ []) ∙ ap (λ n. n + 1) l.once ∙ sym (len_added pairs_total s (pair_of w) new);
}
