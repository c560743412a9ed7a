-- Walks that are looked at, one question after the other.
use Rattle.std.proofs.Common.{◌≡◌, ◌≢◌, ◌⊎◌, inl, inr, ℕ, zero, suc, ◌+◌, ◌-◌, ◌<◌, ◌≤◌, Bool, true, false, ◌||◌, Option, Some, None, List, [], ◌∷◌, ◌++◌, length, take, get_or, refl, sym, ap, ◌∙◌, subst, arith, ◌==◌, All, flat_map, is_some, slice_get, slice_set}
use Rattle.diag_sweep.proofs.Vocabulary.{filter, false≢true, or_cases, nat_tests, All-push, filter-append, list_any-append, gets}
use Rattle.diag_sweep.proofs.Vocabulary.{has_number, Shape, Lead, KnownWires, HasWire, IsKnown, known_pair, set_has, set_other, AreLoose}
use Rattle.std.proofs.lemmas.List.{append-nil, take_all, take_more, flat_map_more, get_or_past, length-set}
use native.Mathlib.Decide.{ℕ_discrete, dec_lt}
use Rattle.machine_shape.specs.Shape.{Ends, ends_of, crosses_of, wires_of}
use Rattle.machine_config.specs.Vocabulary.{among, LeadsTo, ends as at_rest}
use Rattle.machine_config.proofs.Grouped.{LeadsTo-push}
use Rattle.diag_tests.proofs.Closings.{more_among}
use Rattle.diag_evidence.specs.Vocabulary.{Kept, keeps_wire, Trees, HangsOn, pin_of, is_hung, IsForest, KnowsForest, IsLead, KnowsLeads, crosses_along, ends_on, is_met, wires_along, wires_of_leads}
use Rattle.diag_sweep.proofs.Footed.{one_more}

-- one number more of a list
pub number_at : (xs : List ℕ) (k x : ℕ) → slice_get xs k ≡ Some x → get_or xs k 0 ≡ x
number_at xs k x here = grind (arith, gets, here)

-- A walk, step by step.
pub walk_first : {m : Shape} (ws xs : List ℕ) → 0 < length ws → LeadsTo m (get_or ws 0 0) (take 0 xs) (take 1 ws) (get_or ws 0 0)
walk_first [] xs some_ = absurd (omega (arith, some_))
walk_first (w ∷ ws) xs some_ = at_rest

pub walk_more : {m : Shape} {first : ℕ} (ws xs : List ℕ) (k x a b : ℕ) → k < length xs → k + 1 < length ws → slice_get xs k ≡ Some x → slice_get ws k ≡ Some a → slice_get ws (k + 1) ≡ Some b → x < crosses_of m → Ends (ends_of m x) a b →
    LeadsTo m first (take k xs) (take (k + 1) ws) (get_or ws k 0) → LeadsTo m first (take (k + 1) xs) (take (k + 1 + 1) ws) (get_or ws (k + 1) 0)
walk_more {m} {first} ws xs k x a b below inside cross from to small at leads =
    rw (one_more xs k x below cross, one_more ws (k + 1) b inside to, number_at ws (k + 1) b to)
    (LeadsTo-push x small leads (subst (λ w. Ends (ends_of m x) w b) (sym (number_at ws k a from)) at))

pub walk_whole : {m : Shape} {first : ℕ} (ws xs : List ℕ) (k : ℕ) → k ≡ length xs → length ws ≡ length xs + 1 → LeadsTo m first (take k xs) (take (k + 1) ws) (get_or ws k 0) → LeadsTo m first xs ws (get_or ws (length xs) 0)
walk_whole {m} {first} ws xs k same len leads =
    subst (λ i. LeadsTo m first xs ws (get_or ws i 0)) same
    (subst (λ us. LeadsTo m first xs us (get_or ws k 0)) (take_all (k + 1) ws (omega (arith, same, len)))
    (subst (λ ys. LeadsTo m first ys (take (k + 1) ws) (get_or ws k 0)) (take_all k xs (omega (arith, same))) leads))

-- The first, those between, and the last.
abbrev tail_of : List ℕ → List ℕ
tail_of [] = []
tail_of (w ∷ ws) = ws

ends_and_between : (ws : List ℕ) (n : ℕ) → length ws ≡ suc (suc n) → ws ≡ get_or ws 0 0 ∷ (take n (tail_of ws) ++ get_or ws (suc n) 0 ∷ [])
ends_and_between [] n len = absurd (omega (arith, len))
ends_and_between (w ∷ ws) n len = ap (λ us. w ∷ us) (sym (take_all (n + 1) ws (omega (arith, len))) ∙ take_more ws n 0 (omega (arith, len)))

record IsAt (ws : List ℕ) (n w : ℕ) : Type 0 where
  place : ℕ
  below : place < n
  at : get_or ws place 0 ≡ w

at_place : (ws : List ℕ) (n w : ℕ) → among (take n ws) w ≡ true → IsAt ws n w
at_place ws zero w on = absurd (false≢true on)
at_place [] (suc n) w on = absurd (false≢true on)
at_place (v ∷ ws) (suc n) w on = by (or_cases (v == w) (among (take n ws) w) on) (at_place ws n w)
  where
    by : ((v == w) ≡ true) ⊎ (among (take n ws) w ≡ true) → (among (take n ws) w ≡ true → IsAt ws n w) → IsAt (v ∷ ws) (suc n) w
    by (inl e) more = record { place = 0; below = omega arith; at = grind (arith, nat_tests, e) }
    by (inr h) more = let p = more h in let b = p.below in record { place = suc p.place; below = omega (arith, b); at = p.at }

behind_first : (ws : List ℕ) (i : ℕ) → get_or (tail_of ws) i 0 ≡ get_or ws (suc i) 0
behind_first [] i = refl
behind_first (w ∷ ws) i = refl

pub is_lead : (trees : Trees) (l : Lead) → 0 < length (crosses_along l) → length (wires_along l) ≡ length (crosses_along l) + 1 →
    LeadsTo trees.shape (get_or (wires_along l) 0 0) (crosses_along l) (wires_along l) (get_or (wires_along l) (length (crosses_along l)) 0) →
    HangsOn trees (get_or (wires_along l) 0 0) l.from → HangsOn trees (get_or (wires_along l) (length (crosses_along l)) 0) l.to → AreLoose trees l → IsLead trees l
is_lead trees l long len leads begins ends_ loose = record {
  first = get_or (wires_along l) 0 0;
  between = take n (tail_of (wires_along l));
  last = get_or (wires_along l) (suc n) 0;
  wires = ends_and_between (wires_along l) n (omega (arith, len, count));
  leads = subst (λ i. LeadsTo trees.shape (get_or (wires_along l) 0 0) (crosses_along l) (wires_along l) (get_or (wires_along l) i 0)) count leads;
  begins = begins;
  ends = subst (λ i. HangsOn trees (get_or (wires_along l) i 0) l.to) count ends_;
  loose = λ w on. between_loose w (at_place (tail_of (wires_along l)) n w on);
}
  where
    n : ℕ
    n = length (crosses_along l) - 1

    count : length (crosses_along l) ≡ suc n
    count = omega (arith, long)

    between_loose : (w : ℕ) → IsAt (tail_of (wires_along l)) n w → pin_of trees w ≡ None
    between_loose w p = let b = p.below in
        subst (λ v. pin_of trees v ≡ None) (sym (behind_first (wires_along l) p.place) ∙ p.at) (loose (suc p.place) (omega arith) (omega (arith, b, count)))

-- no wire beyond the last of the machine hangs
pub hung_past : (trees : Trees) (w : ℕ) → IsForest trees → wires_of trees.shape ≤ w → false ≡ is_hung trees w
hung_past trees w forest past = sym (ap is_some (get_or_past trees.pins w None (let len = forest.wires in omega (arith, past, len))))

none_hung : (trees : Trees) (w : ℕ) → false ≡ is_hung trees w → pin_of trees w ≡ None
none_hung trees w e = by (pin_of trees w) e
  where
    by : (o : Option ℕ) → false ≡ is_some o → o ≡ None
    by None e = refl
    by (Some p) e = absurd (false≢true e)

pub loose_first : (trees : Trees) (l : Lead) (i : ℕ) → 0 < i → i < 1 → pin_of trees (get_or (wires_along l) i 0) ≡ None
loose_first trees l i some_ few = absurd (let b : ⊥ = omega (arith, some_, few) in b)

-- one wire more hangs nowhere
pub loose_more : (trees : Trees) (l : Lead) (k w : ℕ) → slice_get (wires_along l) k ≡ Some w → false ≡ is_hung trees w → ((i : ℕ) → 0 < i → i < k → pin_of trees (get_or (wires_along l) i 0) ≡ None) →
    (i : ℕ) → 0 < i → i < k + 1 → pin_of trees (get_or (wires_along l) i 0) ≡ None
loose_more trees l k w here off each i some_ less = by (dec_lt i k)
  where
    by : Dec (i < k) → pin_of trees (get_or (wires_along l) i 0) ≡ None
    by (yes h) = each i some_ h
    by (no h) = let same : k ≡ i = omega (arith, less, h) in
        subst (λ j. pin_of trees (get_or (wires_along l) j 0) ≡ None) same (subst (λ v. pin_of trees v ≡ None) (sym (number_at (wires_along l) k w here)) (none_hung trees w off))

-- What holds of each number of a list so far holds of one more.
pub each_more : (P : ℕ → Type 0) (xs : List ℕ) (k x : ℕ) → k < length xs → slice_get xs k ≡ Some x → ((y : ℕ) → among (take k xs) y ≡ true → P y) → P x → (y : ℕ) → among (take (k + 1) xs) y ≡ true → P y
each_more P xs k x below here each one y on = by (or_cases (among (take k xs) y) (x == y) (sym (more_among xs k x y below here) ∙ on))
  where
    by : (among (take k xs) y ≡ true) ⊎ ((x == y) ≡ true) → P y
    by (inl h) = each y h
    by (inr e) = subst P (let s : x ≡ y = grind (arith, nat_tests, e) in s) one

pub each_whole : (P : ℕ → Type 0) (xs : List ℕ) (k : ℕ) → length xs ≤ k → ((y : ℕ) → among (take k xs) y ≡ true → P y) → (y : ℕ) → among xs y ≡ true → P y
each_whole P xs k whole each y on = each y (ap (λ us. among us y) (take_all k xs whole) ∙ on)

-- One walk more of a list.
module _ (ls : List Lead) (k : ℕ) (l : Lead) (below : k < length ls) (at : l ≡ get_or ls k l) where
  lead_more : take (k + 1) ls ≡ take k ls ++ l ∷ []
  lead_more = take_more ls k l below ∙ ap (λ (m : Lead). take k ls ++ m ∷ []) (sym at)

  pub all_next : (P : Lead → Type 0) → All P (take k ls) → P l → All P (take (k + 1) ls)
  all_next P all is = subst (All P) (sym lead_more) (All-push P (take k ls) l all is)

  pub part_next : (part : Lead → List ℕ) → flat_map part (take (k + 1) ls) ≡ flat_map part (take k ls) ++ part l
  part_next part = ap (flat_map part) lead_more ∙ sym (flat_map_more part [] (take k ls) l)

  pub each_next : (part : Lead → List ℕ) (P : ℕ → Type 0) → ((y : ℕ) → among (flat_map part (take k ls)) y ≡ true → P y) → ((y : ℕ) → among (part l) y ≡ true → P y) → (y : ℕ) → among (flat_map part (take (k + 1) ls)) y ≡ true → P y
  each_next part P each more y on = by (or_cases (among (flat_map part (take k ls)) y) (among (part l) y)
      (sym (ap (λ us. among us y) (part_next part) ∙ list_any-append (λ z. z == y) (flat_map part (take k ls)) (part l)) ∙ on))
    where
      by : (among (flat_map part (take k ls)) y ≡ true) ⊎ (among (part l) y ≡ true) → P y
      by (inl h) = each y h
      by (inr h) = more y h

pub each_all : (part : Lead → List ℕ) (P : ℕ → Type 0) (ls : List Lead) (k : ℕ) → length ls ≤ k → ((y : ℕ) → among (flat_map part (take k ls)) y ≡ true → P y) → (y : ℕ) → among (flat_map part ls) y ≡ true → P y
each_all part P ls k whole each y on = each y (ap (λ (ms : List Lead). among (flat_map part ms) y) (take_all k ls whole) ∙ on)

-- One wire more of a walk: it is among those that hang nowhere, or hangs.
module _ (p : ℕ → Bool) (xs : List ℕ) (k x : ℕ) (below : k < length xs) (here : slice_get xs k ≡ Some x) where
  filter_more : filter p (take (k + 1) xs) ≡ filter p (take k xs) ++ filter p (x ∷ [])
  filter_more = ap (filter p) (one_more xs k x below here) ∙ filter-append p (take k xs) (x ∷ [])

  alone : (t : Bool) → p x ≡ t → filter p (x ∷ []) ≡ filter (λ _. t) (x ∷ [])
  alone true e = rw e refl
  alone false e = rw e refl

  pub filter_on : p x ≡ true → filter p (take (k + 1) xs) ≡ filter p (take k xs) ++ x ∷ []
  filter_on e = filter_more ∙ ap (λ us. filter p (take k xs) ++ us) (alone true e)

  pub filter_off : p x ≡ false → filter p (take (k + 1) xs) ≡ filter p (take k xs)
  filter_off e = filter_more ∙ ap (λ us. filter p (take k xs) ++ us) (alone false e) ∙ append-nil (filter p (take k xs))

-- what was put into a set stays in it
pub stays_in : (set : List Bool) (n m : ℕ) → n < length set → has_number set m ≡ true → has_number (slice_set set n true) m ≡ true
stays_in set n m within on = by (ℕ_discrete m n)
  where
    by : Dec (m ≡ n) → has_number (slice_set set n true) m ≡ true
    by (yes e) = subst (λ i. has_number (slice_set set n true) i ≡ true) (sym e) (set_has set n within)
    by (no d) = set_other set n m d ∙ on

-- a set stays as long
pub still_within : (was mid : List Bool) (a b : ℕ) → mid ≡ slice_set was a true → b < length was → b < length mid
still_within was mid a b put in_b = let len : length mid ≡ length was = ap length put ∙ length-set was a true in omega (arith, in_b, len)

-- two numbers are put in, one after the other
module _ (was mid is : List Bool) (a b : ℕ) (first : mid ≡ slice_set was a true) (second : is ≡ slice_set mid b true) (in_a : a < length was) (in_b : b < length was) where
  within : b < length mid
  within = still_within was mid a b first in_b

  pub stays_both : (p : ℕ) → has_number was p ≡ true → has_number is p ≡ true
  stays_both p on = subst (λ set. has_number set p ≡ true) (sym second) (stays_in mid b p within (subst (λ set. has_number set p ≡ true) (sym first) (stays_in was a p in_a on)))

  pub has_both : (has_number is a ≡ true) × (has_number is b ≡ true)
  has_both = (
    subst (λ set. has_number set a ≡ true) (sym second) (stays_in mid b a within (subst (λ set. has_number set a ≡ true) (sym first) (set_has was a in_a))),
    subst (λ set. has_number set b ≡ true) (sym second) (set_has mid b within),
  )

-- Each of so many first walks ends on a pin that isn't its first one, and on which no end of an earlier one hangs. The pins of all are met.
pub record AreInOrder (met : List Bool) (ls : List Lead) (k : ℕ) : Type 0 where
  pub own : (j : ℕ) (d : Lead) → j < k → (get_or ls j d).to ≢ (get_or ls j d).from
  pub later : (i j : ℕ) (d : Lead) → i < j → j < k → ends_on (get_or ls i d) (get_or ls j d) ≡ false
  pub both : (i : ℕ) (d : Lead) → i < k → (has_number met (get_or ls i d).from ≡ true) × (has_number met (get_or ls i d).to ≡ true)

pub order_first : (met : List Bool) (ls : List Lead) → AreInOrder met ls 0
order_first met ls = record {
  own = λ j d none. absurd (let b : ⊥ = omega (arith, none) in b);
  later = λ i j d less none. absurd (let b : ⊥ = omega (arith, none) in b);
  both = λ i d none. absurd (let b : ⊥ = omega (arith, none) in b);
}

same_at : (ls : List Lead) (k : ℕ) (d e : Lead) → k < length ls → get_or ls k d ≡ get_or ls k e
same_at [] k d e below = absurd (omega (arith, below))
same_at (l ∷ ls) zero d e below = refl
same_at (l ∷ ls) (suc k) d e below = same_at ls k d e (omega (arith, below))

neither : (a b : Bool) → a ≡ false → b ≡ false → (a || b) ≡ false
neither true b e f = e
neither false b e f = f

-- a pin that isn't met is none of those that are
unmet : (met : List Bool) (p q : ℕ) → has_number met p ≡ false → has_number met q ≡ true → (p == q) ≡ false
unmet met p q off on = by (ℕ_discrete p q)
  where
    by : Dec (p ≡ q) → (p == q) ≡ false
    by (yes e) = absurd (false≢true (sym off ∙ ap (has_number met) e ∙ on))
    by (no n) = grind (arith, nat_tests, n)

pub order_more : {was is : List Bool} {ls : List Lead} {k : ℕ} {l : Lead} → k < length ls → l ≡ get_or ls k l → AreInOrder was ls k → l.to ≢ l.from → has_number was l.to ≡ false → ((p : ℕ) → has_number was p ≡ true → has_number is p ≡ true) →
    (has_number is l.from ≡ true) × (has_number is l.to ≡ true) → AreInOrder is ls (k + 1)
order_more {was} {is} {ls} {k} {l} below at order own anew stays both = record {
  own = λ j d less. own_by j d less (dec_lt j k);
  later = λ i j d lower less. later_by i j d lower less (dec_lt j k);
  both = λ i d less. both_by i d less (dec_lt i k);
}
  where
    here : (d : Lead) → l ≡ get_or ls k d
    here d = at ∙ same_at ls k l d below

    own_by : (j : ℕ) (d : Lead) → j < k + 1 → Dec (j < k) → (get_or ls j d).to ≢ (get_or ls j d).from
    own_by j d less (yes h) = order.own j d h
    own_by j d less (no h) = let same : k ≡ j = omega (arith, less, h) in subst (λ i. (get_or ls i d).to ≢ (get_or ls i d).from) same (subst (λ (m : Lead). m.to ≢ m.from) (here d) own)

    later_by : (i j : ℕ) (d : Lead) → i < j → j < k + 1 → Dec (j < k) → ends_on (get_or ls i d) (get_or ls j d) ≡ false
    later_by i j d lower less (yes h) = order.later i j d lower h
    later_by i j d lower less (no h) =
        let same : k ≡ j = omega (arith, less, h) in
        let two = order.both i d (omega (arith, lower, less, h)) in
        let e : (l.to == (get_or ls i d).from) ≡ false = unmet was l.to (get_or ls i d).from anew two.0 in
        let f : (l.to == (get_or ls i d).to) ≡ false = unmet was l.to (get_or ls i d).to anew two.1 in
        subst (λ n. ends_on (get_or ls i d) (get_or ls n d) ≡ false) same (subst (λ (m : Lead). ends_on (get_or ls i d) m ≡ false) (here d) (neither (l.to == (get_or ls i d).from) (l.to == (get_or ls i d).to) e f))

    both_by : (i : ℕ) (d : Lead) → i < k + 1 → Dec (i < k) → (has_number is (get_or ls i d).from ≡ true) × (has_number is (get_or ls i d).to ≡ true)
    both_by i d less (yes h) = let two = order.both i d h in (stays (get_or ls i d).from two.0, stays (get_or ls i d).to two.1)
    both_by i d less (no h) = let same : k ≡ i = omega (arith, less, h) in
        subst (λ n. (has_number is (get_or ls n d).from ≡ true) × (has_number is (get_or ls n d).to ≡ true)) same
        (subst (λ (m : Lead). (has_number is m.from ≡ true) × (has_number is m.to ≡ true)) (here d) both)

-- all wires that hang and all wires of the walks are known
pub knows_leads : {k : Kept} {known : KnownWires} {trees : Trees} {ls : List Lead} → IsKnown k known → KnowsForest k trees → ((w : ℕ) → is_hung trees w ≡ true → HasWire known.steps w) → ((w : ℕ) → among (wires_of_leads ls) w ≡ true → HasWire known.steps w) →
    KnowsLeads k trees ls
knows_leads {k} {known} {trees} {ls} is knows hung along = record {
  keeps = knows.keeps;
  wires = λ w on. kept w (met w on);
  pairs = λ w u on also differ. known_pair is u w (met u also) (met w on) differ;
}
  where
    met : (w : ℕ) → is_met trees ls w ≡ true → HasWire known.steps w
    met w on = by (or_cases (is_hung trees w) (among (wires_of_leads ls) w) on)
      where
        by : (is_hung trees w ≡ true) ⊎ (among (wires_of_leads ls) w ≡ true) → HasWire known.steps w
        by (inl h) = hung w h
        by (inr h) = along w h

    kept : (w : ℕ) → HasWire known.steps w → keeps_wire k w ≡ true
    kept w has = subst (λ i. keeps_wire k i ≡ true) has.at.wire (is.steps has.place has.at.step has.at.here).kept
