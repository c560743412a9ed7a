-- Which links a net has, crosspoint by crosspoint and bridge by bridge.
use Rattle.std.proofs.Common.{◌≡◌, ◌≢◌, ◌⊎◌, inl, inr, ⊎_elim, ℕ, ◌+◌, ◌<◌, ◌≤◌, Bool, true, false, ◌||◌, ◌&&◌, Option, Some, None, IsSome, List, [], ◌∷◌, map, length, get_or, take, refl, sym, ap, ◌∙◌, subst, arith, eqb, ltb, unwrap_or}
use Rattle.std.specs.FinSet as set
use Rattle.rig_simulated.proofs.Vocabulary.{and-false, or-false, take_more, map-append, get_or-map, length-map, Shape, Cross, Ends}
use Rattle.rig_simulated.proofs.Vocabulary.{in_order, ends_of, crosses_of, HasLink, HaveSameLinks, bridged_net, stuck_net, closed_net}
use Rattle.rig_simulated.proofs.Vocabulary.{is_among}
use Rattle.std.proofs.lemmas.Bool.{false≢true, cases_eq, cases_lt, ne_eqb, or_cases, or_left, or_right, eqb-true, eq-eqb, ltb-true, lt-ltb, le-ltb, and_parts, and_from}
use Rattle.std.proofs.lemmas.{List.Folds.list_any_more, List.Folds.list_any_at, Map.Views.tells_apart}
use Rattle.std.specs.{BTreeMap.is_at, Ordering.eq_by_cmp, Cmp.eq_by_cmp_equiv}
use Rattle.machine_shape.specs.declared.Wire.{Wire}
use Rattle.machine_meaning.specs.Vocabulary.{Faults, AreFaultsOf, stuck_cross, is_bridge, pair_cmp, Net, Linked, crossed, bridged}
use Rattle.machine_faults.specs.Stored.{pair_of}
use Rattle.machine_meaning.proofs.Pairs.{pairs_total, pairs_exact}

abbrev net_by : Shape → (ℕ → Bool) → (ℕ × ℕ → Bool) → Net
net_by m c b = record { shape = m; conducts = c; is_bridge = b }

module _ (m : Shape) (b : ℕ × ℕ → Bool) where
  pub crossed_more : (c d : ℕ → Bool) (x : ℕ) → ((y : ℕ) → c y ≡ true → d y ≡ true) → d x ≡ true → ((y : ℕ) → d y ≡ true → (c y ≡ true) ⊎ (y ≡ x)) → HasLink (net_by m c b) (net_by m d b) (ends_of m x).0 (ends_of m x).1
  crossed_more c d x more here_ only = record { kept = kept; more = crossed x here_ (in_order refl refl); only = back }
    where
      kept : (u v : ℕ) → Linked (net_by m c b) u v → Linked (net_by m d b) u v
      kept u v (crossed y on at) = crossed y (more y on) at
      kept u v (bridged p is at) = bridged p is at

      by_cross : (u v y : ℕ) → Ends (ends_of m y) u v → (c y ≡ true) ⊎ (y ≡ x) → Linked (net_by m c b) u v ⊎ Ends (ends_of m x) u v
      by_cross u v y at (inl on) = inl (crossed y on at)
      by_cross u v y at (inr e) = inr (subst (λ z. Ends (ends_of m z) u v) e at)

      back : (u v : ℕ) → Linked (net_by m d b) u v → Linked (net_by m c b) u v ⊎ Ends ((ends_of m x).0, (ends_of m x).1) u v
      back u v (crossed y on at) = by_cross u v y at (only y on)
      back u v (bridged p is at) = inl (bridged p is at)

  pub same_conducts : (c d : ℕ → Bool) → ((y : ℕ) → c y ≡ d y) → HaveSameLinks (net_by m c b) (net_by m d b)
  same_conducts c d h = record { to = to; from = from }
    where
      to : (u v : ℕ) → Linked (net_by m c b) u v → Linked (net_by m d b) u v
      to u v (crossed y on at) = crossed y (sym (h y) ∙ on) at
      to u v (bridged p is at) = bridged p is at

      from : (u v : ℕ) → Linked (net_by m d b) u v → Linked (net_by m c b) u v
      from u v (crossed y on at) = crossed y (h y ∙ on) at
      from u v (bridged p is at) = bridged p is at

module _ (m : Shape) (pairs : List (Wire × Wire)) where
  pair_or : (i : ℕ) (d : Wire × Wire) → i < length pairs → set.from_list {R = pair_cmp} (map pair_of (take (i + 1) pairs)) ≡ set.insert (set.from_list (map pair_of (take i pairs))) (pair_of (get_or pairs i d))
  pair_or i d h = ap (λ ps. set.from_list {R = pair_cmp} (map pair_of ps)) (take_more pairs i d h) ∙ ap (λ ks. set.from_list {R = pair_cmp} ks) (map-append pair_of (take i pairs) (get_or pairs i d ∷ []))
      ∙ set.from_list_push pairs_total pairs_exact (map pair_of (take i pairs)) (pair_of (get_or pairs i d))

  pub bridged_more : (i : ℕ) (d : Wire × Wire) → i < length pairs → HasLink (bridged_net m (take i pairs)) (bridged_net m (take (i + 1) pairs)) (get_or pairs i d).0.0 (get_or pairs i d).1.0
  bridged_more i d h = record { kept = kept; more = bridged (pair_of (get_or pairs i d)) here_ (in_order refl refl); only = only }
    where
      old : set.FinSet pair_cmp
      old = set.from_list (map pair_of (take i pairs))

      here : ℕ × ℕ
      here = pair_of (get_or pairs i d)

      says : (p : ℕ × ℕ) → set.contains (set.from_list {R = pair_cmp} (map pair_of (take (i + 1) pairs))) p ≡ (eq_by_cmp pair_cmp p here || set.contains old p)
      says p = ap (λ s. set.contains s p) (pair_or i d h) ∙ set.contains-insert pairs_total old here p

      here_ : set.contains (set.from_list {R = pair_cmp} (map pair_of (take (i + 1) pairs))) here ≡ true
      here_ = says here ∙ or_left _ _ ((eq_by_cmp_equiv pairs_total).refl here)

      kept : (u v : ℕ) → Linked (bridged_net m (take i pairs)) u v → Linked (bridged_net m (take (i + 1) pairs)) u v
      kept u v (crossed y on at) = absurd (false≢true on)
      kept u v (bridged p is at) = bridged p (says p ∙ or_right _ _ is) at

      by_pair : (u v : ℕ) (p : ℕ × ℕ) → Ends p u v → (eq_by_cmp pair_cmp p here ≡ true) ⊎ (set.contains old p ≡ true) → Linked (bridged_net m (take i pairs)) u v ⊎ Ends here u v
      by_pair u v p at (inl e) = inr (subst (λ q. Ends q u v) (tells_apart pairs_exact p here e) at)
      by_pair u v p at (inr is) = inl (bridged p is at)

      only : (u v : ℕ) → Linked (bridged_net m (take (i + 1) pairs)) u v → Linked (bridged_net m (take i pairs)) u v ⊎ Ends (here.0, here.1) u v
      only u v (crossed y on at) = absurd (false≢true on)
      only u v (bridged p is at) = by_pair u v p at (or_cases _ _ (sym (says p) ∙ is))

  pub all_bridged : (f : Faults) → set.from_list (map pair_of pairs) ≡ f.bridges → HaveSameLinks (bridged_net m pairs) (stuck_net m f 0)
  all_bridged f e = record { to = to; from = from }
    where
      to : (u v : ℕ) → Linked (bridged_net m pairs) u v → Linked (stuck_net m f 0) u v
      to u v (crossed y on at) = absurd (false≢true on)
      to u v (bridged p is at) = bridged p (subst (λ s. set.contains s p ≡ true) e is) at

      none_below : (y : ℕ) → (ltb y 0 && unwrap_or (stuck_cross f y) false) ≡ true → ⊥
      none_below y on = let l : y < 0 = ltb-true y 0 (and_parts _ _ on).0 in omega arith

      from : (u v : ℕ) → Linked (stuck_net m f 0) u v → Linked (bridged_net m pairs) u v
      from u v (crossed y on at) = absurd (none_below y on)
      from u v (bridged p is at) = bridged p (subst (λ s. set.contains s p ≡ true) (sym e) is) at

  -- the wires of a bridge are wires of the machine
  pub bridge_is : (f : Faults) → set.from_list (map pair_of pairs) ≡ f.bridges → (i : ℕ) (d : Wire × Wire) → i < length pairs → is_bridge f (pair_of (get_or pairs i d)) ≡ true
  bridge_is f e i d h = subst (λ s. set.contains s here ≡ true) e (set.contains-from_list pairs_total (map pair_of pairs) here
      ∙ list_any_at (is_at (pair_cmp here)) (map pair_of pairs) i here (omega (arith, length-map pairs pair_of)) (ap (is_at (pair_cmp here)) (get_or-map pair_of pairs i d here h) ∙ (eq_by_cmp_equiv pairs_total).refl here))
    where
      here : ℕ × ℕ
      here = pair_of (get_or pairs i d)

module _ (m : Shape) (f : Faults) where
  pub stuck_more : (n : ℕ) → unwrap_or (stuck_cross f n) false ≡ true → HasLink (stuck_net m f n) (stuck_net m f (n + 1)) (ends_of m n).0 (ends_of m n).1
  stuck_more n is = crossed_more m (is_bridge f) _ _ n
      (λ y on. let p = and_parts _ _ on in and_from _ _ (lt-ltb y (n + 1) (let l : y < n = ltb-true y n p.0 in omega arith)) p.1)
      (and_from _ _ (lt-ltb n (n + 1) (omega arith)) is)
      (λ y on. let p = and_parts _ _ on in let l : y < n + 1 = ltb-true y (n + 1) p.0 in
      ⊎_elim (λ b. inl (and_from _ _ (lt-ltb y n b) p.1)) (λ b. inr (omega (arith, l, b))) (cases_lt y n))

  pub not_stuck_more : (n : ℕ) → unwrap_or (stuck_cross f n) false ≡ false → HaveSameLinks (stuck_net m f n) (stuck_net m f (n + 1))
  not_stuck_more n is = same_conducts m (is_bridge f) _ _ same
    where
      by_order : (y : ℕ) → (y < n) ⊎ (n ≤ y) → (ltb y n && unwrap_or (stuck_cross f y) false) ≡ (ltb y (n + 1) && unwrap_or (stuck_cross f y) false)
      by_order y (inl b) = rw (lt-ltb y n b, lt-ltb y (n + 1) (omega arith)) refl
      by_order y (inr b) = ⊎_elim
          (λ e. at_n (ltb y n) (ltb y (n + 1)) (ap (λ z. unwrap_or (stuck_cross f z) false) e ∙ is))
          (λ l. rw (le-ltb y n b, le-ltb y (n + 1) l) refl)
          (at_or_above y b)
        where
          at_n : (p q : Bool) {z : Bool} → z ≡ false → (p && z) ≡ (q && z)
          at_n p q e = ap (λ b. p && b) e ∙ and-false p ∙ sym (and-false q) ∙ ap (λ b. q && b) (sym e)

          at_or_above : (y : ℕ) → n ≤ y → (y ≡ n) ⊎ (n + 1 ≤ y)
          at_or_above y b = ⊎_elim (λ l. inl (omega (arith, l, b))) (λ l. inr l) (cases_lt y (n + 1))

      same : (y : ℕ) → (ltb y n && unwrap_or (stuck_cross f y) false) ≡ (ltb y (n + 1) && unwrap_or (stuck_cross f y) false)
      same y = by_order y (cases_lt y n)

  pub all_stuck : AreFaultsOf m f → (n : ℕ) → crosses_of m ≤ n → HaveSameLinks (stuck_net m f n) (closed_net m f [])
  all_stuck are n h = same_conducts m (is_bridge f) _ _ (λ y. by_order y (cases_lt y n))
    where
      none_beyond : (y : ℕ) (o : Option Bool) → (IsSome o → y < crosses_of m) → n ≤ y → unwrap_or o false ≡ false
      none_beyond y None w b = refl
      none_beyond y (Some v) w b = absurd (let l : y < crosses_of m = w refl in omega (arith, l, b, h))

      by_order : (y : ℕ) → (y < n) ⊎ (n ≤ y) → (ltb y n && unwrap_or (stuck_cross f y) false) ≡ unwrap_or (stuck_cross f y) false
      by_order y (inl b) = rw (lt-ltb y n b) refl
      by_order y (inr b) = rw (le-ltb y n b) (sym (none_beyond y (stuck_cross f y) (are.crosses y) b))

  module _ (crosses : List Cross) (i : ℕ) (d : Cross) (h : i < length crosses) where
    among_more : (y : ℕ) → is_among (take (i + 1) crosses) y ≡ (is_among (take i crosses) y || eqb (get_or crosses i d).0 y)
    among_more y = list_any_more (λ c. eqb c.0 y) crosses i d h

    pub closed_more : stuck_cross f (get_or crosses i d).0 ≡ None → HasLink (closed_net m f (take i crosses)) (closed_net m f (take (i + 1) crosses)) (ends_of m (get_or crosses i d).0).0 (ends_of m (get_or crosses i d).0).1
    closed_more free = crossed_more m (is_bridge f) _ _ x more here_ only
      where
        x : ℕ
        x = (get_or crosses i d).0

        more_at : (y : ℕ) (o : Option Bool) → unwrap_or o (is_among (take i crosses) y) ≡ true → unwrap_or o (is_among (take (i + 1) crosses) y) ≡ true
        more_at y None on = among_more y ∙ or_left _ _ on
        more_at y (Some v) on = on

        more : (y : ℕ) → unwrap_or (stuck_cross f y) (is_among (take i crosses) y) ≡ true → unwrap_or (stuck_cross f y) (is_among (take (i + 1) crosses) y) ≡ true
        more y on = more_at y (stuck_cross f y) on

        here_ : unwrap_or (stuck_cross f x) (is_among (take (i + 1) crosses) x) ≡ true
        here_ = rw free (among_more x ∙ or_right _ _ (eq-eqb x x refl))

        only_at : (y : ℕ) (o : Option Bool) → unwrap_or o (is_among (take (i + 1) crosses) y) ≡ true → (unwrap_or o (is_among (take i crosses) y) ≡ true) ⊎ (y ≡ x)
        only_at y None on = ⊎_elim (λ e. inl e) (λ e. inr (sym (eqb-true x y e))) (or_cases _ _ (sym (among_more y) ∙ on))
        only_at y (Some v) on = inl on

        only : (y : ℕ) → unwrap_or (stuck_cross f y) (is_among (take (i + 1) crosses) y) ≡ true → (unwrap_or (stuck_cross f y) (is_among (take i crosses) y) ≡ true) ⊎ (y ≡ x)
        only y on = only_at y (stuck_cross f y) on

    pub stuck_same : (v : Bool) → stuck_cross f (get_or crosses i d).0 ≡ Some v → HaveSameLinks (closed_net m f (take i crosses)) (closed_net m f (take (i + 1) crosses))
    stuck_same v is = same_conducts m (is_bridge f) _ _ same
      where
        x : ℕ
        x = (get_or crosses i d).0

        by_same : (y : ℕ) → (x ≡ y) ⊎ (x ≢ y) → unwrap_or (stuck_cross f y) (is_among (take i crosses) y) ≡ unwrap_or (stuck_cross f y) (is_among (take (i + 1) crosses) y)
        by_same y (inl e) = rw (← e, is) refl
        by_same y (inr n) = ap (unwrap_or (stuck_cross f y)) (sym (among_more y ∙ rw (ne_eqb x y n) (or-false (is_among (take i crosses) y))))

        same : (y : ℕ) → unwrap_or (stuck_cross f y) (is_among (take i crosses) y) ≡ unwrap_or (stuck_cross f y) (is_among (take (i + 1) crosses) y)
        same y = by_same y (cases_eq x y)
