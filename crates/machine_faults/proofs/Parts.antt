-- Entries added one after another to a map or a set: what they make of it, and that each is new there.
use Rattle.std.proofs.Common.{◌≡◌, Bool, true, false, cond, not, ◌||◌, Option, Some, None, List, [], ◌∷◌, filter, refl, sym, ap, ◌∙◌, subst, is_some}
use Rattle.std.specs.FinMap as maps
use Rattle.std.specs.FinSet as set
use Rattle.machine_faults.proofs.Vocabulary.{list_any, AllByRecursion, keys_of, eq_by_cmp, is_eq, Ordering, CmpEqualImpliesEq, tells_apart}
use Rattle.std.specs.List.Sorted.{IsStrictlySortedBy}
use Rattle.std.specs.{Cmp.IsTotalOrder, Cmp.eq_by_cmp_equiv, Cmp.tied_itself, declared.cmp.Ordering.TheVariants.Less}
use Rattle.std.proofs.Math.Bool.{or_assoc, or-false}

both_some : {X : Type 0} (x : Option X) (v u : X) → x ≡ Some v → x ≡ Some u → v ≡ u
both_some None v u e g = absurd cc
both_some (Some w) v u e g = cc

or_move : (a b c : Bool) → (b || (a || c)) ≡ ((a || b) || c)
or_move true true c = refl
or_move true false c = refl
or_move false b c = refl

or_move' : (a b c : Bool) → (b || (a || c)) ≡ (a || (b || c))
or_move' a b c = or_move a b c ∙ or_assoc a b c

not_true : (b : Bool) → b ≡ true → not b ≡ true → ⊥
not_true true e f = cc
not_true false e f = cc

none_of : {X : Type 0} (x : Option X) → is_some x ≡ false → x ≡ None
none_of None e = refl
none_of (Some v) e = absurd cc

-- what holds of each, holds of each that passes, and so does the test
pub all_filtered : {A : Type 0} (P : A → Type 0) (p : A → Bool) (xs : List A) → AllByRecursion P xs → AllByRecursion (λ x. P x × (p x ≡ true)) (filter p xs)
all_filtered P p [] all = tt
all_filtered P p (x ∷ xs) all = by (p x) refl (all_filtered P p xs all.1)
  where
    by : (b : Bool) → p x ≡ b → AllByRecursion (λ x. P x × (p x ≡ true)) (filter p xs) → AllByRecursion (λ x. P x × (p x ≡ true)) (cond b (x ∷ filter p xs) (filter p xs))
    by true e rest = ((all.0, e), rest)
    by false e rest = rest

pub all_weaker : {A : Type 0} {P Q : A → Type 0} → ((x : A) → P x → Q x) → (xs : List A) → AllByRecursion P xs → AllByRecursion Q xs
all_weaker to [] all = tt
all_weaker to (x ∷ xs) all = (to x all.0, all_weaker to xs all.1)

module _ {K X : Type 0} {R : K → K → Ordering} where
  -- the map with these entries put into it one after another
  abbrev pub put_all : maps.FinMap R X → List (K × X) → maps.FinMap R X
  put_all m [] = m
  put_all m (e ∷ es) = put_all (maps.insert m e.0 e.1) es

  -- each of them is new there
  abbrev pub AreNew : maps.FinMap R X → List (K × X) → Type 0
  AreNew m [] = Unit {0}
  AreNew m (e ∷ es) = (maps.get m e.0 ≡ None) × AreNew (maps.insert m e.0 e.1) es

module _ {K X : Type 0} (R : K → K → Ordering) where
  -- each key is apart from those after it
  abbrev AreApart : List (K × X) → Type 0
  AreApart [] = Unit {0}
  AreApart (e ∷ es) = AllByRecursion (λ g. eq_by_cmp R g.0 e.0 ≡ false) es × AreApart es

less_apart : {K : Type 0} {R : K → K → Ordering} → IsTotalOrder R → (k q : K) → R k q ≡ Less → eq_by_cmp R q k ≡ false
less_apart o k q l = (eq_by_cmp_equiv o).symm q k ∙ ap is_eq l

module _ {K X : Type 0} {R : K → K → Ordering} (o : IsTotalOrder R) (exact : CmpEqualImpliesEq R) where
  hit : (m : maps.FinMap R X) (k : K) (v : X) → maps.get (maps.insert m k v) k ≡ Some v
  hit m k v = maps.get-insert o m k v k ∙ ap (λ b. cond b (Some v) (maps.get m k)) (ap is_eq (tied_itself o k))

  miss : (m : maps.FinMap R X) (k : K) (v : X) (q : K) → eq_by_cmp R q k ≡ false → maps.get (maps.insert m k v) q ≡ maps.get m q
  miss m k v q e = maps.get-insert o m k v q ∙ ap (λ b. cond b (Some v) (maps.get m q)) e

  -- what holds of the entries of a map and of those that are put there, holds of all
  each_put : (Q : K → X → Type 0) (m : maps.FinMap R X) (es : List (K × X)) → ((q : K) (v : X) → maps.get m q ≡ Some v → Q q v) → AllByRecursion (λ e. Q e.0 e.1) es → (q : K) (v : X) → maps.get (put_all m es) q ≡ Some v → Q q v
  each_put Q m [] before all = before
  each_put Q m (e ∷ es) before all = each_put Q (maps.insert m e.0 e.1) es (λ q v is. by q v (eq_by_cmp R q e.0) refl (sym (maps.get-insert o m e.0 e.1 q) ∙ is)) all.1
    where
      by : (q : K) (v : X) (b : Bool) → eq_by_cmp R q e.0 ≡ b → cond b (Some e.1) (maps.get m q) ≡ Some v → Q q v
      by q v true t is = subst (λ k. Q k v) (sym (tells_apart exact q e.0 t)) (subst (Q e.0) (both_some (Some e.1) e.1 v refl is) all.0)
      by q v false t is = before q v is

  some_cond : (b : Bool) (v : X) (x : Option X) → is_some (cond b (Some v) x) ≡ (b || is_some x)
  some_cond true v x = refl
  some_cond false v x = refl

  there_put : (m : maps.FinMap R X) (es : List (K × X)) (q : K) → is_some (maps.get (put_all m es) q) ≡ (list_any (eq_by_cmp R q) (keys_of es) || is_some (maps.get m q))
  there_put m [] q = refl
  there_put m (e ∷ es) q =
      there_put (maps.insert m e.0 e.1) es q
      ∙ ap (λ b. list_any (eq_by_cmp R q) (keys_of es) || b) (ap is_some (maps.get-insert o m e.0 e.1 q) ∙ some_cond (eq_by_cmp R q e.0) e.1 (maps.get m q))
      ∙ or_move (eq_by_cmp R q e.0) (list_any (eq_by_cmp R q) (keys_of es)) (is_some (maps.get m q))

  there_from : (es : List (K × X)) (q : K) → is_some (maps.get (maps.from_entries {R = R} es) q) ≡ list_any (eq_by_cmp R q) (keys_of es)
  there_from [] q = ap is_some (maps.get-empty R q)
  there_from (e ∷ es) q = ap is_some (maps.get-insert o (maps.from_entries es) e.0 e.1 q) ∙ some_cond (eq_by_cmp R q e.0) e.1 _ ∙ ap (λ b. eq_by_cmp R q e.0 || b) (there_from es q)

  head_apart : (k : K) (es : List (K × X)) → AllByRecursion (λ q. R k q ≡ Less) (keys_of es) → AllByRecursion (λ g. eq_by_cmp R g.0 k ≡ false) es
  head_apart k [] all = tt
  head_apart k (e ∷ es) all = (less_apart o k e.0 all.0, head_apart k es all.1)

  apart : (es : List (K × X)) → IsStrictlySortedBy R (keys_of es) → AreApart R es
  unfolding IsStrictlySortedBy
  apart [] s = tt
  apart (e ∷ es) s = (head_apart e.0 es s.0, apart es s.1)

  past : (m : maps.FinMap R X) (k : K) (v : X) (es : List (K × X)) → AllByRecursion (λ g. eq_by_cmp R g.0 k ≡ false) es → AllByRecursion (λ g. maps.get m g.0 ≡ Some g.1) es → AllByRecursion (λ g. maps.get (maps.insert m k v) g.0 ≡ Some g.1) es
  past m k v [] a all = tt
  past m k v (e ∷ es) a all = (miss m k v e.0 a.0 ∙ all.0, past m k v es a.1 all.1)

  -- each entry of a list whose keys are apart is found in its map
  each_found : (es : List (K × X)) → AreApart R es → AllByRecursion (λ g. maps.get (maps.from_entries {R = R} es) g.0 ≡ Some g.1) es
  each_found [] a = tt
  each_found (e ∷ es) a = (hit (maps.from_entries es) e.0 e.1, past (maps.from_entries es) e.0 e.1 es a.0 (each_found es a.1))

  past_none : (m : maps.FinMap R X) (k : K) (v : X) (es : List (K × X)) → AllByRecursion (λ g. eq_by_cmp R g.0 k ≡ false) es → AllByRecursion (λ g. maps.get m g.0 ≡ None) es → AllByRecursion (λ g. maps.get (maps.insert m k v) g.0 ≡ None) es
  past_none m k v [] a all = tt
  past_none m k v (e ∷ es) a all = (miss m k v e.0 a.0 ∙ all.0, past_none m k v es a.1 all.1)

  new_from : (m : maps.FinMap R X) (es : List (K × X)) → AreApart R es → AllByRecursion (λ g. maps.get m g.0 ≡ None) es → AreNew m es
  new_from m [] a all = tt
  new_from m (e ∷ es) a all = (all.0, new_from (maps.insert m e.0 e.1) es a.1 (past_none m e.0 e.1 es a.0 all.1))

  apart_filtered : (p : K × X → Bool) (es : List (K × X)) → AreApart R es → AreApart R (filter p es)
  apart_filtered p [] a = tt
  apart_filtered p (e ∷ es) a = by (p e) (apart_filtered p es a.1)
    where
      by : (b : Bool) → AreApart R (filter p es) → AreApart R (cond b (e ∷ filter p es) (filter p es))
      by true rest = (all_weaker (λ x h. h.0) (filter p es) (all_filtered (λ g. eq_by_cmp R g.0 e.0 ≡ false) p es a.0), rest)
      by false rest = rest

  none_in_empty : (es : List (K × X)) → AllByRecursion (λ g. maps.get (maps.empty {X = X} {R = R}) g.0 ≡ None) es
  none_in_empty [] = tt
  none_in_empty (e ∷ es) = (maps.get-empty R e.0, none_in_empty es)

  -- a map is another where its entries are the other's, and it has all keys
  same_from : (m w : maps.FinMap R X) → ((q : K) (v : X) → maps.get m q ≡ Some v → maps.get w q ≡ Some v) → ((q : K) → is_some (maps.get m q) ≡ is_some (maps.get w q)) → m ≡ w
  same_from m w below there = maps.same_map o exact m w (λ q. by q (maps.get m q) refl)
    where
      by : (q : K) (x : Option X) → maps.get m q ≡ x → maps.get m q ≡ maps.get w q
      by q (Some v) e = e ∙ sym (below q v e)
      by q None e = e ∙ sym (none_of (maps.get w q) (sym (there q) ∙ ap is_some e))

  nothing_yet : (Q : K → X → Type 0) (q : K) (v : X) → maps.get (maps.empty {X = X} {R = R}) q ≡ Some v → Q q v
  nothing_yet Q q v is = absurd (let e : None ≡ Some v = sym (maps.get-empty R q) ∙ is in cc)

  module _ (es : List (K × X)) (s : IsStrictlySortedBy R (keys_of es)) where
    pub found_each : AllByRecursion (λ g. maps.get (maps.from_entries {R = R} es) g.0 ≡ Some g.1) es
    found_each = each_found es (apart es s)

    -- all entries put into no map
    pub all_new : AreNew (maps.empty {R = R}) es
    all_new = new_from maps.empty es (apart es s) (none_in_empty es)

    pub all_put : put_all (maps.empty {R = R}) es ≡ maps.from_entries es
    all_put = same_from _ _
        (each_put (λ q v. maps.get (maps.from_entries es) q ≡ Some v) maps.empty es (nothing_yet _) (each_found es (apart es s)))
        (λ q. there_put maps.empty es q ∙ ap (λ b. list_any (eq_by_cmp R q) (keys_of es) || is_some b) (maps.get-empty R q) ∙ or-false _ ∙ sym (there_from es q))

    -- those that fail a test of the value, and then those that pass it
    module _ (p : X → Bool) where
      abbrev fails : List (K × X)
      fails = filter (λ e. not (p e.1)) es

      abbrev passes : List (K × X)
      passes = filter (λ e. p e.1) es

      found_failing : AllByRecursion (λ g. (maps.get (maps.from_entries {R = R} es) g.0 ≡ Some g.1) × (not (p g.1) ≡ true)) fails
      found_failing = all_filtered (λ g. maps.get (maps.from_entries {R = R} es) g.0 ≡ Some g.1) (λ e. not (p e.1)) es (each_found es (apart es s))

      found_passing : AllByRecursion (λ g. (maps.get (maps.from_entries {R = R} es) g.0 ≡ Some g.1) × (p g.1 ≡ true)) passes
      found_passing = all_filtered (λ g. maps.get (maps.from_entries {R = R} es) g.0 ≡ Some g.1) (λ e. p e.1) es (each_found es (apart es s))

      before : (q : K) (v : X) → maps.get (put_all (maps.empty {R = R}) fails) q ≡ Some v → (maps.get (maps.from_entries {R = R} es) q ≡ Some v) × (not (p v) ≡ true)
      before = each_put (λ q v. (maps.get (maps.from_entries {R = R} es) q ≡ Some v) × (not (p v) ≡ true)) maps.empty fails (nothing_yet _) found_failing

      not_there : (g : K × X) → (maps.get (maps.from_entries {R = R} es) g.0 ≡ Some g.1) × (p g.1 ≡ true) → maps.get (put_all (maps.empty {R = R}) fails) g.0 ≡ None
      not_there g h = by (maps.get (put_all (maps.empty {R = R}) fails) g.0) refl
        where
          by : (x : Option X) → maps.get (put_all (maps.empty {R = R}) fails) g.0 ≡ x → maps.get (put_all (maps.empty {R = R}) fails) g.0 ≡ None
          by None e = e
          by (Some v) e = let b = before g.0 v e in absurd (not_true (p v) (ap p (both_some (maps.get (maps.from_entries {R = R} es) g.0) v g.1 b.0 h.0) ∙ h.1) b.1)

      pub failing_new : AreNew (maps.empty {R = R}) fails
      failing_new = new_from maps.empty fails (apart_filtered _ es (apart es s)) (none_in_empty fails)

      pub passing_new : AreNew (put_all (maps.empty {R = R}) fails) passes
      passing_new = new_from _ passes (apart_filtered _ es (apart es s)) (all_weaker not_there passes found_passing)

      any_either : (q : K) (gs : List (K × X)) → (list_any (eq_by_cmp R q) (keys_of (filter (λ e. p e.1) gs)) || list_any (eq_by_cmp R q) (keys_of (filter (λ e. not (p e.1)) gs))) ≡ list_any (eq_by_cmp R q) (keys_of gs)
      any_either q [] = refl
      any_either q (g ∷ gs) = by (p g.1) ∙ ap (λ b. eq_by_cmp R q g.0 || b) (any_either q gs)
        where
          by : (b : Bool) → (list_any (eq_by_cmp R q) (keys_of (cond b (g ∷ filter (λ e. p e.1) gs) (filter (λ e. p e.1) gs))) || list_any (eq_by_cmp R q) (keys_of (cond (not b) (g ∷ filter (λ e. not (p e.1)) gs) (filter (λ e. not (p e.1)) gs))))
              ≡ (eq_by_cmp R q g.0 || (list_any (eq_by_cmp R q) (keys_of (filter (λ e. p e.1) gs)) || list_any (eq_by_cmp R q) (keys_of (filter (λ e. not (p e.1)) gs))))
          by true = or_assoc (eq_by_cmp R q g.0) _ _
          by false = or_move' (eq_by_cmp R q g.0) _ _

      pub parts_put : put_all (put_all (maps.empty {R = R}) fails) passes ≡ maps.from_entries es
      parts_put = same_from _ _
          (each_put (λ q v. maps.get (maps.from_entries es) q ≡ Some v) _ passes (λ q v e. (before q v e).0) (all_weaker (λ g h. h.0) passes found_passing))
          (λ q. there_put (put_all maps.empty fails) passes q
          ∙ ap (λ b. list_any (eq_by_cmp R q) (keys_of passes) || b) (there_put maps.empty fails q ∙ ap (λ b. list_any (eq_by_cmp R q) (keys_of fails) || is_some b) (maps.get-empty R q) ∙ or-false _)
          ∙ any_either q es ∙ sym (there_from es q))

-- ---- the same of a set

module _ {K : Type 0} {R : K → K → Ordering} where
  abbrev pub put_each : set.FinSet R → List K → set.FinSet R
  put_each s [] = s
  put_each s (k ∷ ks) = put_each (set.insert s k) ks

  abbrev pub AreNewIn : set.FinSet R → List K → Type 0
  AreNewIn s [] = Unit {0}
  AreNewIn s (k ∷ ks) = (set.contains s k ≡ false) × AreNewIn (set.insert s k) ks

module _ {K : Type 0} {R : K → K → Ordering} (o : IsTotalOrder R) (exact : CmpEqualImpliesEq R) where
  contains_put : (s : set.FinSet R) (ks : List K) (q : K) → set.contains (put_each s ks) q ≡ (list_any (eq_by_cmp R q) ks || set.contains s q)
  contains_put s [] q = refl
  contains_put s (k ∷ ks) q = contains_put (set.insert s k) ks q ∙ ap (λ b. list_any (eq_by_cmp R q) ks || b) (set.contains-insert o s k q) ∙ or_move (eq_by_cmp R q k) (list_any (eq_by_cmp R q) ks) (set.contains s q)

  pub each_put_in : (ks : List K) → put_each (set.empty {R = R}) ks ≡ set.from_list ks
  each_put_in ks = set.same_set o exact _ _ (λ q. contains_put set.empty ks q ∙ ap (λ b. list_any (eq_by_cmp R q) ks || b) (set.contains-empty R q) ∙ or-false _ ∙ sym (set.contains-from_list o ks q))

  still_out : (s : set.FinSet R) (k : K) (ks : List K) → AllByRecursion (λ q. R k q ≡ Less) ks → AllByRecursion (λ q. set.contains s q ≡ false) ks → AllByRecursion (λ q. set.contains (set.insert s k) q ≡ false) ks
  still_out s k [] a all = tt
  still_out s k (q ∷ ks) a all = (set.contains-insert o s k q ∙ (λ i. ((eq_by_cmp_equiv o).symm q k ∙ ap is_eq a.0) i || all.0 i), still_out s k ks a.1 all.1)

  new_in : (s : set.FinSet R) (ks : List K) → IsStrictlySortedBy R ks → AllByRecursion (λ q. set.contains s q ≡ false) ks → AreNewIn s ks
  unfolding IsStrictlySortedBy
  new_in s [] sorted all = tt
  new_in s (k ∷ ks) sorted all = (all.0, new_in (set.insert s k) ks sorted.1 (still_out s k ks sorted.0 all.1))

  none_in_empty_set : (ks : List K) → AllByRecursion (λ q. set.contains (set.empty {R = R}) q ≡ false) ks
  none_in_empty_set [] = tt
  none_in_empty_set (k ∷ ks) = (set.contains-empty R k, none_in_empty_set ks)

  pub each_new_in : (ks : List K) → IsStrictlySortedBy R ks → AreNewIn (set.empty {R = R}) ks
  each_new_in ks sorted = new_in set.empty ks sorted (none_in_empty_set ks)

  or_true : (a : Bool) → (a || true) ≡ true
  or_true true = refl
  or_true false = refl

  pub each_in : (ks : List K) → AllByRecursion (λ q. set.contains (set.from_list {R = R} ks) q ≡ true) ks
  each_in [] = tt
  each_in (k ∷ ks) = (
    set.contains-insert o (set.from_list ks) k k ∙ ap (λ b. b || set.contains (set.from_list {R = R} ks) k) (ap is_eq (tied_itself o k)),
    all_weaker (λ q h. set.contains-insert o (set.from_list ks) k q ∙ ap (λ b. eq_by_cmp R q k || b) h ∙ or_true (eq_by_cmp R q k)) ks (each_in ks),
  )
