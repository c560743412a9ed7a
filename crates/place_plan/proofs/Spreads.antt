-- A net is put at the end of the lists of the nodes that have a wire inside.
use Rattle.std.proofs.Common.{◌≡◌, ◌≢◌, ℕ, zero, suc, ◌+◌, ◌-◌, ◌<◌, ◌≤◌, Bool, true, false, ◌==◌, ◌&&◌, List, [], ◌∷◌, ◌++◌, length, get_or, set, replicate, Some, if◌then◌else◌, ◌⊎◌, inl, inr, refl, sym, ap, ◌∙◌, subst, arith, eq-eqb, eqb→eq, nat_lt}
use Rattle.place_plan.proofs.Vocabulary.{T, All, Contains, cases_eq, lt-ltb, and_parts, Shape}
use Rattle.std.proofs.lemmas.List.{length-set, get_or-set_same, get_or-set_other, get_or_default, length_push, get_or_push, length-replicate, get_or-replicate}
use Rattle.std.proofs.lemmas.List.Elements.{All-head, All-tail, Contains-push, Contains-append_right, Contains-push_cases, Contains-append_left}
use Rattle.machine_shape.specs.Vocabulary.{wires_of, nodes_of, node_of, parent_of, IsAbove, itself, below, HasParents}
use Rattle.place_plan.specs.Vocabulary.{AreThose, IsInside, HasTerminal, list_at, Touches, is_last, with_last, IsSpread, IsSpreadUp, AreTouched}
use Rattle.place_plan.proofs.Upward.{higher}
use Rattle.place_plan.proofs.Climbs.{above_next, above_root}
use Rattle.place_plan.proofs.Those.{not_in_nil, those_same, those_none, those_push, those_have}

pub at_set : (ts : List (List ℕ)) (a : ℕ) (v : List ℕ) → a < length ts → list_at (set ts a v) a ≡ v
at_set ts a v lt = get_or-set_same ts a v [] lt

pub at_other : (ts : List (List ℕ)) (a n : ℕ) (v : List ℕ) → n ≢ a → list_at (set ts a v) n ≡ list_at ts n
at_other ts a n v ne = get_or-set_other ts a n v [] ne

only_one : (w k : ℕ) → Contains (w ∷ []) k → w ≡ k
only_one w k (zero, lt, e) = e
only_one w k (suc i, lt, e) = absurd (none i lt)
  where
    none : (i : ℕ) → suc i < 1 → ⊥
    none i lt = omega arith

eq_from : (a b : ℕ) → (a == b) ≡ true → a ≡ b
eq_from a b e = eqb→eq a b (subst T (sym e) tt)

pub last_is : (xs : List ℕ) (k : ℕ) → is_last xs k ≡ true → Contains xs k
last_is [] k e = cc
last_is (x ∷ xs) k e =
    let lt : length (x ∷ xs) - 1 < length (x ∷ xs) = omega arith in
    (length (x ∷ xs) - 1, lt, get_or_default (x ∷ xs) (length (x ∷ xs) - 1) k 0 lt ∙ eq_from (get_or (x ∷ xs) (length (x ∷ xs) - 1) 0) k (and_parts (nat_lt 0 (length (x ∷ xs))) (get_or (x ∷ xs) (length (x ∷ xs) - 1) 0 == k) e).1)

pushed_last : (xs : List ℕ) (k : ℕ) → is_last (xs ++ k ∷ []) k ≡ true
pushed_last xs k = and (nat_lt 0 (length (xs ++ k ∷ []))) (get_or (xs ++ k ∷ []) (length (xs ++ k ∷ []) - 1) 0 == k) some (eq-eqb (get_or (xs ++ k ∷ []) (length (xs ++ k ∷ []) - 1) 0) k at)
  where
    and : (a b : Bool) → a ≡ true → b ≡ true → (a && b) ≡ true
    and a b e f = subst (λ z. (z && b) ≡ true) (sym e) f

    some : nat_lt 0 (length (xs ++ k ∷ [])) ≡ true
    some = lt-ltb 0 (length (xs ++ k ∷ [])) (omega (arith, length_push xs k))

    at : get_or (xs ++ k ∷ []) (length (xs ++ k ∷ []) - 1) 0 ≡ k
    at = get_or_push xs k 0 (length (xs ++ k ∷ []) - 1) (omega (arith, length_push xs k))

-- twice is as once
pub with_last_twice : (xs : List ℕ) (k : ℕ) → with_last (with_last xs k) k ≡ with_last xs k
with_last_twice xs k = by (is_last xs k) refl
  where
    by : (b : Bool) → is_last xs k ≡ b → with_last (with_last xs k) k ≡ with_last xs k
    by true e = ap (λ b. with_last (if b then xs else xs ++ k ∷ []) k) e
    by false e = ap (λ b. with_last (if b then xs else xs ++ k ∷ []) k) e ∙ ap (λ b. if b then xs ++ k ∷ [] else (xs ++ k ∷ []) ++ k ∷ []) (pushed_last xs k) ∙ sym (ap (λ b. if b then xs else xs ++ k ∷ []) e)

-- a number that isn't in the list goes to its end
pub with_last_new : (xs : List ℕ) (k : ℕ) → (Contains xs k → ⊥) → with_last xs k ≡ xs ++ k ∷ []
with_last_new xs k never = by (is_last xs k) refl
  where
    by : (b : Bool) → is_last xs k ≡ b → (if is_last xs k then xs else xs ++ k ∷ []) ≡ xs ++ k ∷ []
    by true e = absurd (never (last_is xs k e))
    by false e = ap (λ b. if b then xs else xs ++ k ∷ []) e

module _ (m : Shape) (has : HasParents m) where
  pub above_le : {n k : ℕ} → IsAbove m n k → n ≤ k
  above_le itself = omega arith
  above_le (below {p = p} {k = k} up e) = let a = above_le up in let b : p < k = has.before k p e in omega arith

  -- each node is above another or not
  pub decide_above : (t n h : ℕ) → h < t → h < nodes_of m → IsAbove m n h ⊎ (IsAbove m n h → ⊥)
  decide_above zero n h lt l = absurd (none lt)
    where
      none : h < 0 → ⊥
      none lt = omega arith
  decide_above (suc t) n h lt l = elim (cases_eq n h) [
    | inl e ↦ inl (subst (λ x. IsAbove m n x) e itself)
    | inr ne ↦ elim (cases_eq h 0) [
      | inl z ↦ inr (λ up. above_root m z up ne has.root)
      | inr pos ↦ (let q = has.others h (omega arith) l in
          let b : q.0 < h = has.before h q.0 q.1 in
          elim (decide_above t n q.0 (omega arith) (omega arith)) [ inl up ↦ inl (below up q.1) | inr never ↦ inr (λ up. never (above_next m up ne q.1)) ])
    ]
  ]

  pub decide_inside : (n w : ℕ) → w < wires_of m → IsInside m n w ⊎ (IsInside m n w → ⊥)
  decide_inside n w lt = decide_above (suc (node_of m w)) n (node_of m w) (omega arith) (has.node_within w lt)

  pub spread_begins : (old : List (List ℕ)) (home net : ℕ) → home < length old → IsSpreadUp m home home net old (set old home (with_last (list_at old home) net))
  spread_begins old home net lt = record {
    sized = length-set old home (with_last (list_at old home) net);
    within = lt;
    reached = itself;
    here = λ n l up only. let e : n ≡ home = only up in subst (λ x. list_at (set old home (with_last (list_at old home) net)) x ≡ with_last (list_at old x) net) (sym e) (at_set old home (with_last (list_at old home) net) lt);
    above = λ n l up ne. at_other old home n (with_last (list_at old home) net) ne;
    others = λ n l never. at_other old home n (with_last (list_at old home) net) (λ e. never (subst (λ x. IsAbove m x home) (sym e) itself));
  }

  pub spread_on : (old cur : List (List ℕ)) (home a p net : ℕ) → IsSpreadUp m home a net old cur → parent_of m a ≡ Some p → IsSpreadUp m home p net old (set cur p (with_last (list_at cur p) net))
  spread_on old cur home a p net is e = record {
    sized = length-set cur p v ∙ is.sized;
    within = lp;
    reached = higher m e is.reached;
    here = λ n l up only. elim (cases_eq n p) [
      | inl q ↦ subst (λ x. list_at (set cur p v) x ≡ with_last (list_at old x) net) (sym q) (at_set cur p v lc ∙ ap (λ xs. with_last xs net) (is.above p lp (below itself e) (λ s. differ p a lt s)))
      | inr ne ↦ at_other cur p n v ne ∙ is.here n l up (λ ab. elim (cases_eq n a) [ inl s ↦ s | inr na ↦ absurd (ne (only (above_next m ab na e))) ])
    ];
    above = λ n l up ne. at_other cur p n v ne ∙ is.above n l (below up e) (λ s. let k : n ≤ p = above_le up in low n k s);
    others = λ n l never. at_other cur p n v (λ s. never (subst (λ x. IsAbove m x home) (sym s) (higher m e is.reached))) ∙ is.others n l never;
  }
    where
      v : List ℕ
      v = with_last (list_at cur p) net

      lt : p < a
      lt = has.before a p e

      lp : p < length old
      lp = let l : a < length old = is.within in let k : p < a = has.before a p e in omega arith

      lc : p < length cur
      lc = subst (λ z. p < z) (sym is.sized) lp

      differ : (x y : ℕ) → x < y → x ≡ y → ⊥
      differ x y l s = omega arith

      low : (n : ℕ) → n ≤ p → n ≡ a → ⊥
      low n k s = let l : p < a = has.before a p e in omega arith

  pub spread_ends : (old cur : List (List ℕ)) (w a net : ℕ) → IsSpreadUp m (node_of m w) a net old cur → a ≡ 0 → IsSpread m (w ∷ []) net old cur
  spread_ends old cur w a net is z = record {
    sized = is.sized;
    here = λ n u l c i. is.here n l (subst (λ x. IsAbove m n (node_of m x)) (sym (only_one w u c)) i) (λ up. let k : n ≤ a = above_le up in omega arith);
    others = λ n l never. is.others n l (never w (0, omega arith, refl));
  }

  pub spread_none : (net : ℕ) (old : List (List ℕ)) → IsSpread m [] net old old
  spread_none net old = record { sized = refl; here = λ n w l c i. absurd (not_in_nil w c); others = λ n l never. refl }

  -- one of the wires is inside, or none is
  pub decide_any : (ws : List ℕ) (n : ℕ) → All (λ w. w < wires_of m) ws → ((w : ℕ) × Contains ws w × IsInside m n w) ⊎ ((w : ℕ) → Contains ws w → ¬ IsInside m n w)
  decide_any [] n all = inr (λ w c i. not_in_nil w c)
  decide_any (x ∷ ws) n all = elim (decide_inside n x (All-head (λ w. w < wires_of m) x ws all)) [
    | inl i ↦ inl (x, (0, omega arith, refl), i)
    | inr never ↦ elim (decide_any ws n (All-tail (λ w. w < wires_of m) x ws all)) [
      | inl some ↦ inl (some.0, Contains-append_right (x ∷ []) ws some.0 some.1, some.2)
      | inr none ↦ inr (λ w c i. by w c i never none)
    ]
  ]
    where
      by : (w : ℕ) → Contains (x ∷ ws) w → IsInside m n w → (IsInside m n x → ⊥) → ((w : ℕ) → Contains ws w → ¬ IsInside m n w) → ⊥
      by w (zero, lt, e) i never none = never (subst (λ z. IsAbove m n (node_of m z)) (sym e) i)
      by w (suc k, lt, e) i never none = none w (k, omega arith, e) i

  pub spread_more : (ws : List ℕ) (w net : ℕ) (old cur new : List (List ℕ)) → w < wires_of m → All (λ w. w < wires_of m) ws → IsSpread m ws net old cur → IsSpread m (w ∷ []) net cur new → IsSpread m (ws ++ w ∷ []) net old new
  spread_more ws w net old cur new lt all a b = record {
    sized = b.sized ∙ a.sized;
    here = λ n u l c i. elim (decide_any ws n all) [
      | inl some ↦ elim (decide_inside n w lt) [
        | inl inside ↦ b.here n w (within n l) (0, omega arith, refl) inside ∙ ap (λ xs. with_last xs net) (a.here n some.0 l some.1 some.2) ∙ with_last_twice (list_at old n) net
        | inr never ↦ b.others n (within n l) (λ x q j. never (subst (λ z. IsAbove m n (node_of m z)) (sym (only_one w x q)) j)) ∙ a.here n some.0 l some.1 some.2
      ]
      | inr none ↦ b.here n u (within n l) (the_last u c (none u) i) i ∙ ap (λ xs. with_last xs net) (a.others n l none)
    ];
    others = λ n l never. b.others n (within n l) (λ x q. never x (subst (Contains (ws ++ w ∷ [])) (only_one w x q) (Contains-push ws w))) ∙ a.others n l (λ x q. never x (Contains-append_left ws (w ∷ []) x q));
  }
    where
      within : (n : ℕ) → n < length old → n < length cur
      within n l = subst (λ z. n < z) (sym a.sized) l

      the_last : {n : ℕ} (u : ℕ) → Contains (ws ++ w ∷ []) u → (Contains ws u → ¬ IsInside m n u) → IsInside m n u → Contains (w ∷ []) u
      the_last u c none i = elim (Contains-push_cases ws w u c) [ inl q ↦ absurd (none q i) | inr e ↦ (0, omega arith, e) ]

  pub touched_none : (nets : List (List ℕ)) (count : ℕ) → count ≡ nodes_of m → AreTouched m nets 0 (replicate count [])
  touched_none nets count e = record {
    sized = length-replicate count [] ∙ e;
    those = λ n lt. subst (AreThose (λ k. (k < 0) × Touches m nets n k)) (sym (get_or-replicate count n [] [] (omega arith))) (those_none (λ k. (k < 0) × Touches m nets n k) (λ k p. none k p.0));
  }
    where
      none : (k : ℕ) → k < 0 → ⊥
      none k lt = omega arith

  pub touched_more : (nets : List (List ℕ)) (k : ℕ) (ts new : List (List ℕ)) → All (λ w. w < wires_of m) (list_at nets k) → AreTouched m nets k ts → IsSpread m (list_at nets k) k ts new → AreTouched m nets (k + 1) new
  touched_more nets k ts new all are is = record {
    sized = is.sized ∙ are.sized;
    those = λ n lt. elim (decide_any (list_at nets k) n all) [
      | inl some ↦ subst (AreThose (Q n)) (sym (is.here n some.0 (within n lt) some.1 some.2 ∙ with_last_new (list_at ts n) k (λ c. itself_less (those_have (P n) (list_at ts n) k (are.those n lt) c).0)))
          (those_push (P n) (Q n) (list_at ts n) k (are.those n lt) (λ j p. p.0) (λ j p. more j (p.0) p.1) (omega arith, some) (λ j q. elim (cases_eq j k) [ inl e ↦ inr e | inr ne ↦ inl (omega (arith, q.0), q.1) ]))
      | inr none ↦ subst (AreThose (Q n)) (sym (is.others n (within n lt) none))
          (those_same (P n) (Q n) (list_at ts n) (are.those n lt) (λ j p. more j (p.0) p.1) (λ j q. elim (cases_eq j k) [ inl e ↦ absurd (none q.1.0 (subst (λ z. HasTerminal nets z q.1.0) e q.1.1) q.1.2) | inr ne ↦ (omega (arith, q.0), q.1) ]))
    ];
  }
    where
      P : ℕ → ℕ → Type 0
      P n j = (j < k) × Touches m nets n j

      Q : ℕ → ℕ → Type 0
      Q n j = (j < k + 1) × Touches m nets n j

      within : (n : ℕ) → n < nodes_of m → n < length ts
      within n l = subst (λ z. n < z) (sym are.sized) l

      itself_less : k < k → ⊥
      itself_less l = omega arith

      more : {n : ℕ} (j : ℕ) → j < k → Touches m nets n j → Q n j
      more j l t = (omega arith, t)
