-- What grows on a forest leaves it one.
use Rattle.std.proofs.Common.{◌≡◌, ◌≢◌, ◌⊎◌, inl, inr, ℕ, ◌<◌, Bool, true, false, Some, None, Option, is_some, List, [], ◌∷◌, ◌++◌, length, get_or, set, refl, sym, ap, ◌∙◌, subst, arith, ◌||◌, ◌==◌, map}
use Rattle.std.proofs.lemmas.Bool.{false≢true, or_cases, or_left, or_right}
use Rattle.diag_evidence.proofs.Vocabulary.{nat_tests, list_any-append, Cross, among, LeadsTo, ends, goes, LeadsTo-push, cross_numbers}
use Rattle.std.proofs.lemmas.List.{get_or-set_same, get_or-set_other, length-set, map-append, get_or_past, set-get_or}
use native.Mathlib.Decide.{ℕ_discrete, dec_lt}
use Rattle.machine_shape.specs.Vocabulary.{Ends, in_order, turned, ends_of, pin_wire, pins_of, wires_of, crosses_of, IsNumbered}
use Rattle.diag_evidence.specs.Vocabulary.{Kept, keeps_cross, Trees, HangsOn, pin_of, is_hung, is_laid, IsOfTree, IsLedOver, IsForest, CanLay, KeepsForest, bare, with_planted, with_laid}

some_injective : {a b : ℕ} → ◌≡◌ {A = Option ℕ} (Some a) (Some b) → a ≡ b
some_injective e = cc

pub hung_by : (o : Option ℕ) → is_some o ≡ true → (p : ℕ) × (o ≡ Some p)
hung_by None e = absurd (false≢true e)
hung_by (Some p) e = (p, refl)

-- a wire that hangs has a place
pub within_places : (ps : List (Option ℕ)) (w p : ℕ) → get_or ps w None ≡ Some p → w < length ps
within_places ps w p is = by (dec_lt w (length ps))
  where
    by : Dec (w < length ps) → w < length ps
    by (yes h) = h
    by (no n) = absurd (let e : get_or ps w None ≡ None = get_or_past ps w None (omega arith) in cc)

-- where a wire hangs after one more was hung
hung_after : (ps : List (Option ℕ)) (i w : ℕ) (o : Option ℕ) (p : ℕ) → i < length ps → get_or (set ps i o) w None ≡ Some p → ((w ≡ i) × (o ≡ Some p)) ⊎ (get_or ps w None ≡ Some p)
hung_after ps i w o p below is = by (ℕ_discrete w i)
  where
    by : Dec (w ≡ i) → ((w ≡ i) × (o ≡ Some p)) ⊎ (get_or ps w None ≡ Some p)
    by (yes e) = inl (e, sym (get_or-set_same ps i o None below) ∙ subst (λ j. get_or (set ps i o) j None ≡ Some p) e is)
    by (no n) = inr (sym (get_or-set_other ps i w o None n) ∙ is)

still_hung : (ps : List (Option ℕ)) (i w : ℕ) (o : Option ℕ) (p : ℕ) → w ≢ i → get_or ps w None ≡ Some p → get_or (set ps i o) w None ≡ Some p
still_hung ps i w o p n is = get_or-set_other ps i w o None n ∙ is

-- A pin is planted.
module _ (trees : Trees) (k : ℕ) (laws : IsNumbered trees.shape) (is : IsForest trees) (below : k < pins_of trees.shape) where
  abbrev at : ℕ
  at = pin_wire trees.shape k

  inside : at < length trees.pins
  inside = let law = laws.pins k below in let e = is.wires in omega (arith, law, e)

  planted_still : (w p : ℕ) → HangsOn trees w p → HangsOn (with_planted trees k) w p
  planted_still w p h = by (ℕ_discrete w at)
    where
      by : Dec (w ≡ at) → HangsOn (with_planted trees k) w p
      by (yes e) = ap (λ v. get_or (set trees.pins at (Some k)) v None) e ∙ get_or-set_same trees.pins at (Some k) None inside
          ∙ ap (λ (v : ℕ). Some v) (sym (is.pins k p below (subst (λ v. HangsOn trees v p) e h)))
      by (no n) = still_hung trees.pins at w (Some k) p n h

  pub planted_forest : IsForest (with_planted trees k)
  planted_forest = record {
    wires = length-set trees.pins at (Some k) ∙ is.wires;
    crosses = λ x on. let o = is.crosses x on in record { below = o.below; pin = o.pin; tap = planted_still _ _ o.tap; line = planted_still _ _ o.line };
    led = λ w p h. led w p (hung_after trees.pins at w (Some k) p inside h);
    pins = λ j p less h. own j p less (hung_after trees.pins at (pin_wire trees.shape j) (Some k) p inside h);
  }
    where
      led : (w p : ℕ) → ((w ≡ at) × (Some k ≡ Some p)) ⊎ (HangsOn trees w p) → IsLedOver (with_planted trees k) w p
      led w p (inl e) = subst (λ v. IsLedOver (with_planted trees k) v p) (sym e.0) (subst (λ q. IsLedOver (with_planted trees k) at q) (some_injective e.1) (record {
        below = below;
        crosses = [];
        wires = at ∷ [];
        leads = ends;
        laid = λ x no. absurd (false≢true no);
      }))
      led w p (inr h) = let l = is.led w p h in record { below = l.below; crosses = l.crosses; wires = l.wires; leads = l.leads; laid = l.laid }

      own : (j p : ℕ) → j < pins_of trees.shape → ((pin_wire trees.shape j ≡ at) × (Some k ≡ Some p)) ⊎ (HangsOn trees (pin_wire trees.shape j) p) → p ≡ j
      own j p less (inl e) = sym (some_injective e.1) ∙ sym (laws.pins_apart j k less below e.0)
      own j p less (inr h) = is.pins j p less h

  -- a pin that hangs does so on itself
  pub planted_same : is_hung trees at ≡ true → with_planted trees k ≡ trees
  planted_same hung =
      let p = hung_by (pin_of trees at) hung in
      let own : p.0 ≡ k = is.pins k p.0 below p.1 in
      let e : Some k ≡ pin_of trees at = ap (λ (v : ℕ). Some v) (sym own) ∙ sym p.1 in
      ap (λ ps. record trees { pins = ps }) (ap (set trees.pins at) e ∙ set-get_or trees.pins at None)

-- A crosspoint is laid.
module _ (k : Kept) (trees : Trees) (x : Cross) (from to : ℕ) (is : IsForest trees) (inside : to < wires_of trees.shape) (below : x.0 < crosses_of trees.shape) (can : CanLay k trees x.0 from to) where
  abbrev new : Trees
  new = with_laid trees x from to

  place : to < length trees.pins
  place = let e = is.wires in omega (arith, inside, e)

  laid_still : (w p : ℕ) → HangsOn trees w p → HangsOn new w p
  laid_still w p h = still_hung trees.pins to w (pin_of trees from) p (λ e. let n : pin_of trees w ≡ None = ap (pin_of trees) e ∙ can.loose in cc (n, h)) h

  laid_to : (p : ℕ) → HangsOn trees from p → HangsOn new to p
  laid_to p h = get_or-set_same trees.pins to (pin_of trees from) None place ∙ h

  is_laid_new : (y : ℕ) → is_laid new y ≡ (is_laid trees y || ((x.0 == y) || false))
  is_laid_new y = ap (λ ys. among ys y) (map-append (λ (c : Cross). c.0) trees.crosses (x ∷ [])) ∙ list_any-append (λ z. z == y) (cross_numbers trees.crosses) (x.0 ∷ [])

  was_laid : (y : ℕ) → is_laid new y ≡ true → (is_laid trees y ≡ true) ⊎ (x.0 ≡ y)
  was_laid y on = by (or_cases (is_laid trees y) ((x.0 == y) || false) (sym (is_laid_new y) ∙ on))
    where
      by : (is_laid trees y ≡ true) ⊎ (((x.0 == y) || false) ≡ true) → (is_laid trees y ≡ true) ⊎ (x.0 ≡ y)
      by (inl h) = inl h
      by (inr h) = inr (grind (arith, nat_tests))

  laid_already : (y : ℕ) → is_laid trees y ≡ true → is_laid new y ≡ true
  laid_already y on = is_laid_new y ∙ or_left (is_laid trees y) ((x.0 == y) || false) on

  laid_now : (y : ℕ) → x.0 ≡ y → is_laid new y ≡ true
  laid_now y e = is_laid_new y ∙ or_right (is_laid trees y) ((x.0 == y) || false) (grind (arith, nat_tests))

  from_pin : (p : ℕ) × HangsOn trees from p
  from_pin = hung_by (pin_of trees from) can.hangs

  of_tree : (p : ℕ) → HangsOn new from p → HangsOn new to p → Ends (ends_of trees.shape x.0) from to → IsOfTree new x.0
  of_tree p a b (in_order s t) = record { below = below; pin = p; tap = subst (λ w. HangsOn new w p) (sym s) a; line = subst (λ w. HangsOn new w p) (sym t) b }
  of_tree p a b (turned s t) = record { below = below; pin = p; tap = subst (λ w. HangsOn new w p) (sym s) b; line = subst (λ w. HangsOn new w p) (sym t) a }

  pub laid_forest : IsForest new
  laid_forest = record {
    wires = length-set trees.pins to (pin_of trees from) ∙ is.wires;
    crosses = λ y on. crosses y (was_laid y on);
    led = λ w p h. led w p (hung_after trees.pins to w (pin_of trees from) p place h);
    pins = λ j p less h. own j p less (hung_after trees.pins to (pin_wire trees.shape j) (pin_of trees from) p place h);
  }
    where
      crosses : (y : ℕ) → (is_laid trees y ≡ true) ⊎ (x.0 ≡ y) → IsOfTree new y
      crosses y (inl on) = let o = is.crosses y on in record { below = o.below; pin = o.pin; tap = laid_still _ _ o.tap; line = laid_still _ _ o.line }
      crosses y (inr e) = subst (λ z. IsOfTree new z) e (of_tree from_pin.0 (laid_still from from_pin.0 from_pin.1) (laid_to from_pin.0 from_pin.1) can.ends)

      led : (w p : ℕ) → ((w ≡ to) × (pin_of trees from ≡ Some p)) ⊎ (HangsOn trees w p) → IsLedOver new w p
      led w p (inl e) = subst (λ v. IsLedOver new v p) (sym e.0) (let l = is.led from p e.1 in record {
        below = l.below;
        crosses = l.crosses ++ x.0 ∷ [];
        wires = l.wires ++ to ∷ [];
        leads = LeadsTo-push x.0 below l.leads can.ends;
        laid = λ y on. by_part l.crosses y (or_cases (among l.crosses y) ((x.0 == y) || false) (sym (list_any-append (λ z. z == y) l.crosses (x.0 ∷ [])) ∙ on)) (l.laid y);
      })
        where
          by_part : (xs : List ℕ) (y : ℕ) → (among xs y ≡ true) ⊎ (((x.0 == y) || false) ≡ true) → (among xs y ≡ true → is_laid trees y ≡ true) → is_laid new y ≡ true
          by_part xs y (inl h) was = laid_already y (was h)
          by_part xs y (inr h) was = laid_now y (grind (arith, nat_tests))
      led w p (inr h) = let l = is.led w p h in record { below = l.below; crosses = l.crosses; wires = l.wires; leads = l.leads; laid = λ y on. laid_already y (l.laid y on) }

      own : (j p : ℕ) → j < pins_of trees.shape → ((pin_wire trees.shape j ≡ to) × (pin_of trees from ≡ Some p)) ⊎ (HangsOn trees (pin_wire trees.shape j) p) → p ≡ j
      own j p less (inl e) = absurd (can.no_pin j less e.0)
      own j p less (inr h) = is.pins j p less h

  -- and the proof keeps it
  pub laid_kept : KeepsForest k trees → KeepsForest k new
  laid_kept keeps = record { shape = keeps.shape; crosses = λ y on. by y (was_laid y on) }
    where
      by : (y : ℕ) → (is_laid trees y ≡ true) ⊎ (x.0 ≡ y) → keeps_cross k y ≡ true
      by y (inl on) = keeps.crosses y on
      by y (inr e) = subst (λ z. keeps_cross k z ≡ true) e can.kept
