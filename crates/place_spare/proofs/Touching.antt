-- What faults touch, and that all else is sound.
use Rattle.std.proofs.Common.{◌≡◌, ◌≢◌, ◌∙◌, ◌⊎◌, ℕ, zero, suc, ◌+◌, ◌-◌, ◌*◌, ◌<◌, ◌||◌, ◌&&◌, not, cond, Bool, true, false, Option, Some, None, List, [], ◌∷◌, ◌++◌, map, length, length-append, nat_lt, unwrap_or, is_some, inl, inr, refl, sym, ap, subst, arith}
use Rattle.std.specs.FinMap as maps
use Rattle.std.specs.FinSet as set
use Rattle.std.specs.{Cmp.tied_itself, List.Contains, List.list_any, Ordering.eq_by_cmp, Ordering.is_eq, declared.cmp.Ordering.Ordering}
use Rattle.std.proofs.lemmas.{Bool.false≢true, Bool.ltb-true, Bool.lt-ltb, Map.Lookups.CmpEqualImpliesEq, Map.Lookups.exact_unsigned}
use Rattle.std.proofs.lemmas.List.{length-map, Elements.Contains-append_left, Elements.Contains-append_right}
use Rattle.std.proofs.lemmas.Map.Views.{tells_apart, Contains-from_any}
use Rattle.machine_shape.specs.declared.Shape.{Shape}
use Rattle.machine_shape.specs.Vocabulary.{Ends, in_order, turned, Meaning, Means, Pin, Line, Port, TablePin, is_table_pin, HasMeanings, IsNumbered, ends_of, table_wire, wires_of, crosses_of, tables_of}
use Rattle.machine_meaning.specs.Vocabulary.{Faults, pair_cmp, stuck_wire, stuck_cross, wrong_cell, stuck_register, is_bridge, Linked, crossed, bridged, here, then, net_of, Shorted, IsSoundWire, IsSoundTable, IsWholeLine}
use Rattle.machine_meaning.proofs.Pairs.{pairs_exact, pairs_total}
use Rattle.machine_faults.specs.Adding.{count_of}

-- ---- keys

module _ {K X : Type 0} {R : K → K → Ordering} (exact : CmpEqualImpliesEq R) where
  key-there : (m : maps.FinMap R X) (q : K) (v : X) → maps.get m q ≡ Some v → Contains (maps.keys m) q
  key-there m q v is = Contains-from_any (tells_apart exact) q (maps.keys m) (sym (maps.contains_key-keys m q) ∙ ap is_some is)

  no-key : (m : maps.FinMap R X) (q : K) → ¬ Contains (maps.keys m) q → maps.get m q ≡ None
  no-key m q never = by (maps.get m q) refl
    where
      by : (o : Option X) → maps.get m q ≡ o → maps.get m q ≡ None
      by None e = e
      by (Some v) e = absurd (never (key-there m q v e))

keys-long : {K X : Type 0} {R : K → K → Ordering} (m : maps.FinMap R X) → length (maps.keys m) ≡ maps.len m
keys-long m = length-map (maps.entries m) (λ e. e.0) ∙ sym (maps.len-entries m)

-- a pair is equal to itself
equal : (p : ℕ × ℕ) → eq_by_cmp pair_cmp p p ≡ true
equal p = ap is_eq (tied_itself pairs_total p)

-- ---- a list of as many, in which each pair of a set stands

record HasItems (s : set.FinSet pair_cmp) (n : ℕ) : Type 0 where
  items : List (ℕ × ℕ)
  count : length items ≡ n
  there : (p : ℕ × ℕ) → set.contains s p ≡ true → Contains items p

listed : (n : ℕ) (s : set.FinSet pair_cmp) → set.len s ≡ n → HasItems s n
listed zero s e = record {
  items = [];
  count = refl;
  there = λ p is. absurd (false≢true (sym (set.contains-empty pair_cmp p) ∙ ap (λ t. set.contains t p) (sym (set.empty_of_len s e)) ∙ is));
}
listed (suc n) s e = by (set.items s) refl (λ t f. listed n t f)
  where
    nothing : set.items s ≡ [] → set.len s ≡ 0
    nothing none = ap set.len (set.same_set pairs_total pairs_exact s set.empty (λ q. set.contains-items s q ∙ ap (list_any (eq_by_cmp pair_cmp q)) none ∙ sym (set.contains-empty pair_cmp q)))
        ∙ set.len-empty pair_cmp

    there : (y : ℕ × ℕ) (r : HasItems (set.remove s y) n) (p : ℕ × ℕ) → set.contains s p ≡ true → (b : Bool) → eq_by_cmp pair_cmp p y ≡ b → Contains (y ∷ r.items) p
    there y r p is true t = Contains-from_any (tells_apart pairs_exact) p (y ∷ r.items) (ap (λ b. b || list_any (eq_by_cmp pair_cmp p) r.items) t)
    there y r p is false f =
        let has = r.there p (set.contains-remove pairs_total s y p ∙ ap (λ b. not b && set.contains s p) f ∙ is) in
        (suc has.0, (let b = has.1 in omega (arith, b)), has.2)

    by : (ps : List (ℕ × ℕ)) → set.items s ≡ ps → ((t : set.FinSet pair_cmp) → set.len t ≡ n → HasItems t n) → HasItems s (suc n)
    by [] none again = absurd (let z = nothing none in let no_ : ⊥ = omega (arith, z, e) in no_)
    by (y ∷ ys) some again =
        let has : set.contains s y ≡ true = set.contains-items s y ∙ ap (list_any (eq_by_cmp pair_cmp y)) some ∙ ap (λ b. b || list_any (eq_by_cmp pair_cmp y) ys) (equal y) in
        let fewer : set.len s - 1 ≡ n = omega (arith, e) in
        let r = again (set.remove s y) (set.len-remove pairs_total s y ∙ ap (λ b. cond b (set.len s - 1) (set.len s)) has ∙ fewer) in
        record { items = y ∷ r.items; count = ap suc r.count; there = λ p is. there y r p is (eq_by_cmp pair_cmp p y) refl }

pairs-in : set.FinSet pair_cmp → List (ℕ × ℕ)
pairs-in s = (listed (set.len s) s refl).items

pairs-long : (s : set.FinSet pair_cmp) → length (pairs-in s) ≡ set.len s
unfolding pairs-in
pairs-long s = (listed (set.len s) s refl).count

pair-there : (s : set.FinSet pair_cmp) (p : ℕ × ℕ) → set.contains s p ≡ true → Contains (pairs-in s) p
unfolding pairs-in
pair-there s p is = (listed (set.len s) s refl).there p is

mapped : {A B : Type 0} (f : A → B) (xs : List A) (x : A) → Contains xs x → Contains (map f xs) (f x)
mapped f [] x has = absurd (let lt = has.1 in omega arith)
mapped f (y ∷ xs) x (zero, lt, e) = (0, omega arith, ap f e)
mapped f (y ∷ xs) x (suc k, lt, e) = let r = mapped f xs x (k, omega arith, e) in (suc r.0, (let b = r.1 in omega arith), r.2)

-- ---- both numbers of each pair

both-of : List (ℕ × ℕ) → List ℕ
both-of [] = []
both-of (p ∷ ps) = p.0 ∷ p.1 ∷ both-of ps

both-long : (ps : List (ℕ × ℕ)) → length (both-of ps) ≡ 2 * length ps
unfolding both-of
both-long [] = refl
both-long (p ∷ ps) = let r = both-long ps in omega arith

later : (x y : ℕ) (xs : List ℕ) → Contains xs x → Contains (y ∷ xs) x
later x y xs has = (suc has.0, (let b = has.1 in omega arith), has.2)

both-there : (ps : List (ℕ × ℕ)) (p : ℕ × ℕ) → Contains ps p → Contains (both-of ps) p.0 × Contains (both-of ps) p.1
unfolding both-of
both-there [] p has = absurd (let lt = has.1 in omega arith)
both-there (q ∷ ps) p (zero, lt, e) = ((0, omega arith, ap (λ r. r.0) e), (1, omega arith, ap (λ r. r.1) e))
both-there (q ∷ ps) p (suc k, lt, e) =
    let r = both-there ps p (k, omega arith, e) in
    (later p.0 q.0 (q.1 ∷ both-of ps) (later p.0 q.1 (both-of ps) r.0), later p.1 q.0 (q.1 ∷ both-of ps) (later p.1 q.1 (both-of ps) r.1))

-- ---- wires

module _ (m : Shape) (f : Faults) where
  -- stuck wires, the ends of stuck crosspoints, and those of bridges
  pub touched : List ℕ
  touched = maps.keys f.wires ++ (both-of (map (ends_of m) (maps.keys f.crosses)) ++ both-of (pairs-in f.bridges))

  pub touched-long : length touched ≡ maps.len f.wires + (2 * maps.len f.crosses + 2 * set.len f.bridges)
  unfolding touched
  touched-long =
      let a = length-append (maps.keys f.wires) (both-of (map (ends_of m) (maps.keys f.crosses)) ++ both-of (pairs-in f.bridges)) in
      let b = length-append (both-of (map (ends_of m) (maps.keys f.crosses))) (both-of (pairs-in f.bridges)) in
      let c = both-long (map (ends_of m) (maps.keys f.crosses)) in
      let d = both-long (pairs-in f.bridges) in
      let e = length-map (maps.keys f.crosses) (ends_of m) in
      let g = keys-long f.crosses in
      let h = pairs-long f.bridges in
      let i = keys-long f.wires in
      omega (arith, a, b, c, d, e, g, h, i)

  stuck-touched : (w : ℕ) → ¬ Contains touched w → stuck_wire f w ≡ None
  unfolding touched
  stuck-touched w never = no-key exact_unsigned f.wires w (λ has. never (Contains-append_left (maps.keys f.wires) _ w has))

  cross-touched : (x : ℕ) (v : Bool) → stuck_cross f x ≡ Some v → Contains touched (ends_of m x).0 × Contains touched (ends_of m x).1
  unfolding touched
  cross-touched x v is =
      let r = both-there (map (ends_of m) (maps.keys f.crosses)) (ends_of m x)
      (mapped (ends_of m) (maps.keys f.crosses) x (key-there exact_unsigned f.crosses x v is)) in
      (to (ends_of m x).0 r.0, to (ends_of m x).1 r.1)
    where
      to : (w : ℕ) → Contains (both-of (map (ends_of m) (maps.keys f.crosses))) w → Contains touched w
      to w has = Contains-append_right (maps.keys f.wires) _ w (Contains-append_left (both-of (map (ends_of m) (maps.keys f.crosses))) _ w has)

  bridge-touched : (p : ℕ × ℕ) → is_bridge f p ≡ true → Contains touched p.0 × Contains touched p.1
  unfolding touched
  bridge-touched p is =
      let r = both-there (pairs-in f.bridges) p (pair-there f.bridges p is) in
      (to p.0 r.0, to p.1 r.1)
    where
      to : (w : ℕ) → Contains (both-of (pairs-in f.bridges)) w → Contains touched w
      to w has = Contains-append_right (maps.keys f.wires) _ w (Contains-append_right (both-of (map (ends_of m) (maps.keys f.crosses))) _ w has)

  by-end : (p : ℕ × ℕ) (a b : ℕ) → Ends p a b → Contains touched p.0 × Contains touched p.1 → Contains touched a
  by-end p a b (in_order s t) has = subst (Contains touched) s has.0
  by-end p a b (turned s t) has = subst (Contains touched) t has.1

  conducting : (x : ℕ) → unwrap_or (stuck_cross f x) false ≡ true → Contains touched (ends_of m x).0 × Contains touched (ends_of m x).1
  conducting x on = by (stuck_cross f x) refl on
    where
      by : (o : Option Bool) → stuck_cross f x ≡ o → unwrap_or o false ≡ true → Contains touched (ends_of m x).0 × Contains touched (ends_of m x).1
      by None e is = absurd (false≢true is)
      by (Some v) e is = cross-touched x v e

  linked-touched : {a b : ℕ} → Linked (net_of m f (λ _. false)) a b → Contains touched a
  linked-touched {a} {b} (crossed x on at) = by-end (ends_of m x) a b at (conducting x on)
  linked-touched {a} {b} (bridged p is at) = by-end p a b at (bridge-touched p is)

  unshorted : (w : ℕ) → ¬ Contains touched w → {u : ℕ} → Shorted m f w u → u ≡ w
  unshorted w never here = refl
  unshorted w never (then j link) = absurd (never (subst (Contains touched) (unshorted w never j) (linked-touched link)))

  pub untouched-sound : (w : ℕ) → ¬ Contains touched w → IsSoundWire m f w
  untouched-sound w never = record { not_stuck = stuck-touched w never; alone = λ u s. unshorted w never s }

  pub untouched-whole : (l : ℕ) → ¬ Contains touched l → IsWholeLine m f l
  untouched-whole l never = record {
    sound = untouched-sound l never;
    crosses = λ x within at. by x at (stuck_cross f x) refl;
  }
    where
      by : (x : ℕ) → (ends_of m x).1 ≡ l → (o : Option Bool) → stuck_cross f x ≡ o → stuck_cross f x ≡ None
      by x at None e = e
      by x at (Some v) e = absurd (never (subst (Contains touched) at (cross-touched x v e).1))

  -- ---- tables

  module _ (meanings : HasMeanings m) (numbered : IsNumbered m) where
    table-in : Meaning → ℕ
    table-in (TablePin t k) = t
    table-in _ = 0

    -- the table of a pin
    table-by : (w : ℕ) (b : Bool) → nat_lt w (wires_of m) ≡ b → ℕ
    table-by w true e = table-in (meanings.some w (ltb-true w (wires_of m) e)).0
    table-by w false e = 0

    table-at : ℕ → ℕ
    table-at w = table-by w (nat_lt w (wires_of m)) refl

    table-found : (w t k : ℕ) → w < wires_of m → Means m w (TablePin t k) → (b : Bool) (e : nat_lt w (wires_of m) ≡ b) → table-by w b e ≡ t
    unfolding table-by table-in
    table-found w t k lt is true e =
        let found = meanings.some w (ltb-true w (wires_of m) e) in ap table-in (meanings.one w found.0 (TablePin t k) found.1 is)
    table-found w t k lt is false e = absurd (false≢true (sym e ∙ lt-ltb w (wires_of m) lt))

    table-is : (t k : ℕ) → t < tables_of m → k < 7 → table-at (table_wire m t k) ≡ t
    unfolding table-at
    table-is t k within b = table-found (table_wire m t k) t k (numbered.tables t k within b) (is_table_pin t k within b refl) _ refl

    -- those of wrong cells and stuck registers, and of touched pins
    pub hit : List ℕ
    hit = map (λ p. p.0) (maps.keys f.cells) ++ (maps.keys f.registers ++ map table-at touched)

    pub hit-long : length hit ≡ maps.len f.cells + (maps.len f.registers + length touched)
    unfolding hit
    hit-long =
        let a = length-append (map (λ p. p.0) (maps.keys f.cells)) (maps.keys f.registers ++ map table-at touched) in
        let b = length-append (maps.keys f.registers) (map table-at touched) in
        let c = length-map (maps.keys f.cells) (λ p. p.0) in
        let d = length-map touched table-at in
        let e = keys-long f.cells in
        let g = keys-long f.registers in
        omega (arith, a, b, c, d, e, g)

    pub untouched-table : (t : ℕ) → t < tables_of m → ¬ Contains hit t → IsSoundTable m f t
    unfolding hit
    untouched-table t within never = record {
      cells = λ a b. no-key pairs_exact f.cells (t, a)
          (λ has. never (Contains-append_left (map (λ p. p.0) (maps.keys f.cells)) _ t (mapped (λ (p : ℕ × ℕ). p.0) (maps.keys f.cells) (t, a) has)));
      register = no-key exact_unsigned f.registers t (λ has. never (right t (Contains-append_left (maps.keys f.registers) _ t has)));
      pins = λ k b. untouched-sound (table_wire m t k) (λ has. never (right t (Contains-append_right (maps.keys f.registers) _ t
          (subst (Contains (map table-at touched)) (table-is t k within b) (mapped table-at touched (table_wire m t k) has)))));
    }
      where
        right : (u : ℕ) → Contains (maps.keys f.registers ++ map table-at touched) u → Contains hit u
        right u has = Contains-append_right (map (λ (p : ℕ × ℕ). p.0) (maps.keys f.cells)) _ u has
