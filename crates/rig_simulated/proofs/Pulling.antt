-- The tables that pull each class are counted.
use Rattle.std.proofs.Common.{◌≡◌, ◌≢◌, ◌⊎◌, inl, inr, ⊎_elim, ℕ, zero, suc, ◌+◌, ◌<◌, ◌≤◌, Bool, true, false, not, ◌&&◌, cond, nat_lt, None, List, [], length, get_or, set, take, replicate, refl, sym, ap, ◌∙◌, subst, arith, add-one}
use Rattle.std.proofs.{Math.Dec.eqb, lemmas.Bool.Decides.eqb_tells}
use Rattle.rig_simulated.proofs.Vocabulary.{beq, and-false, Gate, pulls_to, AreCounted, giving, HasGiven}
use Rattle.std.specs.List.{count_by, All}
use Rattle.std.proofs.lemmas.Bool.{false≢true, cases_eq, cases_lt, cases_Bool, eq-eqb, eqb-true, leb-true, le-leb, and_parts, not-true}
use Rattle.std.proofs.lemmas.List.{get_or-set_other, get_or-set_same, length-set, get_or_default, get_or_past, get_or-replicate, length-replicate, set-get_or, take_all, length-take-le}
use Rattle.std.proofs.lemmas.List.Sums.{sum_by-set, sum_by-take-le, count_by-le-length, count_by_more_no, count_by_more_yes}
use Rattle.rig_simulated.specs.Gates.{is_low, IsClear, IsPulledBy, IsOutputOf, AreMarkedToo}
use Rattle.rig_simulated.proofs.Levels.{no_gate}

-- what a read beyond the list would give
abbrev pub plain : Gate
plain = record { table = record { 0 = 0 }; setting = record { cells = 0; latched = false; init = false }; held = None; ins = []; out = 0; output = false }

abbrev counted : Bool → ℕ
counted b = cond b 1 0

pub pulls_yes : (r : ℕ) (x : Gate) → x.out ≡ r → x.output ≡ false → pulls_to r x ≡ true
pulls_yes r x e low = ap (λ b. b && not x.output) (eq-eqb x.out r e) ∙ ap not low

pub pulls_no : (r : ℕ) (x : Gate) → x.output ≡ true → pulls_to r x ≡ false
pulls_no r x high = ap (λ b. eqb x.out r && not b) high ∙ and-false (eqb x.out r)

pub pulls_other : (r : ℕ) (x : Gate) → (r ≡ x.out → ⊥) → pulls_to r x ≡ false
pulls_other r x other = ⊎_elim (λ t. absurd (other (sym t.1))) (λ t. ap (λ b. b && not x.output) t.0) (eqb_tells x.out r)

pub pulls_from : (r : ℕ) (x : Gate) → pulls_to r x ≡ true → (x.out ≡ r) × (x.output ≡ false)
pulls_from r x e = let t = and_parts (eqb x.out r) (not x.output) e in (eqb-true x.out r t.0, not-true x.output t.1)

module _ (gates : List Gate) (r : ℕ) where
  -- where some are counted one pulls
  some_pulls : (n : ℕ) → n ≤ length gates → 0 < count_by (pulls_to r) (take n gates) → IsPulledBy gates n r
  some_pulls zero h pos = absurd (omega (arith, pos))
  some_pulls (suc n) h pos = by (some_pulls n (omega (arith, h))) (cases_Bool (pulls_to r (get_or gates n no_gate)))
    where
      l : n < length gates
      l = omega (arith, h)

      by : (0 < count_by (pulls_to r) (take n gates) → IsPulledBy gates n r) → (pulls_to r (get_or gates n no_gate) ≡ true) ⊎ (pulls_to r (get_or gates n no_gate) ≡ false) → IsPulledBy gates (suc n) r
      by more (inl is) =
          let f = pulls_from r (get_or gates n no_gate) is in
          record {
            place = n;
            below = omega arith;
            out = λ d. ap (λ (x : Gate). x.out) (get_or_default gates n d no_gate l) ∙ f.0;
            low = λ d. ap (λ (x : Gate). x.output) (get_or_default gates n d no_gate l) ∙ f.1;
          }
      by more (inr isnt) =
          let less : count_by (pulls_to r) (take (suc n) gates) ≡ count_by (pulls_to r) (take n gates) =
          ap (λ m. count_by (pulls_to r) (take m gates)) (sym (add-one n)) ∙ count_by_more_no (pulls_to r) gates n no_gate l isnt in
          let p = more (omega (arith, pos, less)) in
          record { place = p.place; below = (let b = p.below in omega (arith, b)); out = p.out; low = p.low }

  pub pulled_if_counted : 0 < count_by (pulls_to r) gates → IsPulledBy gates (length gates) r
  pulled_if_counted pos = some_pulls (length gates) (omega arith) (subst (λ gs. 0 < count_by (pulls_to r) gs) (sym (take_all (length gates) gates (omega arith))) pos)

  -- where one pulls some are counted
  pub counted_if_pulled : (n : ℕ) → n ≤ length gates → IsPulledBy gates n r → 0 < count_by (pulls_to r) gates
  counted_if_pulled n h p =
      let l : p.place < length gates = (let b = p.below in omega (arith, b, h)) in
      let one = count_by_more_yes (pulls_to r) gates p.place no_gate l (pulls_yes r (get_or gates p.place no_gate) (p.out no_gate) (p.low no_gate)) in
      let le = sum_by-take-le (λ (x : Gate). counted (pulls_to r x)) gates (p.place + 1) in
      omega (arith, one, le)

module _ (gates : List Gate) (pulls : List ℕ) (low : List Bool) (are : AreCounted gates pulls low) where
  counted_low : (r : ℕ) → is_low low r ≡ true → IsPulledBy gates (length gates) r
  counted_low r e = by (cases_lt r (length low))
    where
      by : (r < length low) ⊎ (length low ≤ r) → IsPulledBy gates (length gates) r
      by (inl l) =
          let h : r < length pulls = omega (arith, l, are.len) in
          pulled_if_counted gates r (subst (λ n. 0 < n) (are.counts r h) (leb-true 1 (get_or pulls r 0) (sym (are.marks r h) ∙ e)))
      by (inr l) = absurd (false≢true (sym (get_or_past low r false l) ∙ e))

  low_counted : All (λ (x : Gate). x.out < length low) gates → (r : ℕ) → IsPulledBy gates (length gates) r → is_low low r ≡ true
  low_counted outs r p =
      let o = outs p.place no_gate p.below in
      let h : r < length pulls = (let e = p.out no_gate in omega (arith, o, e, are.len)) in
      let c = counted_if_pulled gates r (length gates) (omega arith) p in
      are.marks r h ∙ le-leb 1 (get_or pulls r 0) (let s = are.counts r h in omega (arith, c, s))

  no_marks : List Bool
  no_marks = replicate (length low) false

  pub clear_before : IsClear (replicate (length low) false)
  clear_before r = ⊎_elim (λ l. get_or-replicate (length low) r false false l) (λ l. get_or_past (replicate (length low) false) r false (let e = length-replicate (length low) false in omega (arith, l, e))) (cases_lt r (length low))

  -- the marks are those of the classes that tables pull
  pub marked_by_counts : All (λ (x : Gate). x.out < length low) gates → AreMarkedToo (replicate (length low) false) low (IsPulledBy gates (length gates))
  marked_by_counts outs = record {
    len = sym (length-replicate (length low) false);
    kept = λ r e. absurd (false≢true (sym (clear_before r) ∙ e));
    more = low_counted outs;
    only = λ r e. inr (counted_low r e);
  }

  -- each class that is marked or counted is a table's
  pub marks_of_outputs : (r : ℕ) → is_low low r ≡ true → IsOutputOf gates 0 r
  marks_of_outputs r e = let p = counted_low r e in record { place = p.place; from = omega arith; within = p.below; out = p.out }

  pub counts_of_outputs : (r : ℕ) → 0 < get_or pulls r 0 → IsOutputOf gates 0 r
  counts_of_outputs r e = by (cases_lt r (length pulls))
    where
      by : (r < length pulls) ⊎ (length pulls ≤ r) → IsOutputOf gates 0 r
      by (inl h) = marks_of_outputs r (are.marks r h ∙ le-leb 1 (get_or pulls r 0) e)
      by (inr l) = absurd (let z = get_or_past pulls r 0 l in omega (arith, e, z))

-- a table gives the other level
module _ (gates : List Gate) (place : ℕ) (h : place < length gates) (d : Gate) (o : Bool) where
  abbrev x : Gate
  x = get_or gates place d

  abbrev y : Gate
  y = giving o (get_or gates place d)

  sums : (r : ℕ) → count_by (pulls_to r) (set gates place y) + counted (pulls_to r x) ≡ count_by (pulls_to r) gates + counted (pulls_to r y)
  sums r = sum_by-set (λ (z : Gate). counted (pulls_to r z)) gates place y d h

  counted_other : (r : ℕ) → (r ≡ x.out → ⊥) → count_by (pulls_to r) (set gates place y) ≡ count_by (pulls_to r) gates
  counted_other r other =
      let s = sums r in
      let a : counted (pulls_to r x) ≡ 0 = ap counted (pulls_other r x other) in
      let b : counted (pulls_to r y) ≡ 0 = ap counted (pulls_other r y other) in
      omega (arith, s, a, b)

  counted_less : o ≡ true → x.output ≡ false → count_by (pulls_to x.out) (set gates place y) + 1 ≡ count_by (pulls_to x.out) gates
  counted_less e was =
      let s = sums x.out in
      let a : counted (pulls_to x.out x) ≡ 1 = ap counted (pulls_yes x.out x refl was) in
      let b : counted (pulls_to x.out y) ≡ 0 = ap counted (pulls_no x.out y e) in
      omega (arith, s, a, b)

  counted_more : o ≡ false → x.output ≡ true → count_by (pulls_to x.out) (set gates place y) ≡ count_by (pulls_to x.out) gates + 1
  counted_more e was =
      let s = sums x.out in
      let a : counted (pulls_to x.out x) ≡ 0 = ap counted (pulls_no x.out x was) in
      let b : counted (pulls_to x.out y) ≡ 1 = ap counted (pulls_yes x.out y refl e) in
      omega (arith, s, a, b)

  module _ (pulls : List ℕ) (low : List Bool) (are : AreCounted gates pulls low) (outs : All (λ (z : Gate). z.out < length low) gates) (differs : x.output ≡ not o) where
    out_within : x.out < length pulls
    out_within = let w = outs place d h in let l = are.len in omega (arith, w, l)

    pub may_let_go : o ≡ true → 0 < get_or pulls x.out 0
    may_let_go e = let s = counted_less e (differs ∙ ap not e) in let c = are.counts x.out out_within in omega (arith, s, c)

    pub few_pull : o ≡ false → get_or pulls x.out 0 + 1 ≤ length gates
    few_pull e =
        let s = counted_more e (differs ∙ ap not e) in
        let c = are.counts x.out out_within in
        let l = count_by-le-length (pulls_to x.out) (set gates place y) in
        let z = length-set gates place y in
        omega (arith, s, c, l, z)

    pub counted_now : (count : ℕ) → (o ≡ true → count + 1 ≡ get_or pulls x.out 0) → (o ≡ false → count ≡ get_or pulls x.out 0 + 1) → AreCounted (set gates place y) (set pulls x.out count) (set low x.out (nat_lt 0 count))
    counted_now count lets_go pulled = record {
      len = length-set low x.out (nat_lt 0 count) ∙ are.len ∙ sym (length-set pulls x.out count);
      counts = λ r l. counts r (omega (arith, l, length-set pulls x.out count)) (cases_eq r x.out);
      marks = λ r l. marks r (omega (arith, l, length-set pulls x.out count)) (cases_eq r x.out);
    }
      where
        count_is : count ≡ count_by (pulls_to x.out) (set gates place y)
        count_is = ⊎_elim
            (λ e. let s = counted_less e (differs ∙ ap not e) in let c = are.counts x.out out_within in let g = lets_go e in omega (arith, s, c, g))
            (λ e. let s = counted_more e (differs ∙ ap not e) in let c = are.counts x.out out_within in let g = pulled e in omega (arith, s, c, g))
            (cases_Bool o)

        counts : (r : ℕ) → r < length pulls → (r ≡ x.out) ⊎ (r ≡ x.out → ⊥) → get_or (set pulls x.out count) r 0 ≡ count_by (pulls_to r) (set gates place y)
        counts r l (inl same) = ap (λ j. get_or (set pulls x.out count) j 0) same ∙ get_or-set_same pulls x.out count 0 out_within ∙ count_is ∙ ap (λ j. count_by (pulls_to j) (set gates place y)) (sym same)
        counts r l (inr other) = get_or-set_other pulls x.out r count 0 other ∙ are.counts r l ∙ sym (counted_other r other)

        marks : (r : ℕ) → r < length pulls → (r ≡ x.out) ⊎ (r ≡ x.out → ⊥) → is_low (set low x.out (nat_lt 0 count)) r ≡ nat_lt 0 (get_or (set pulls x.out count) r 0)
        marks r l (inl same) =
            ap (is_low (set low x.out (nat_lt 0 count))) same ∙ get_or-set_same low x.out (nat_lt 0 count) false (outs place d h)
            ∙ ap (nat_lt 0) (sym (ap (λ j. get_or (set pulls x.out count) j 0) same ∙ get_or-set_same pulls x.out count 0 out_within))
        marks r l (inr other) = get_or-set_other low x.out r (nat_lt 0 count) false other ∙ are.marks r l ∙ ap (nat_lt 0) (sym (get_or-set_other pulls x.out r count 0 other))

-- a table that gives what it gave
pub given_same : (gates : List Gate) (place : ℕ) (x : Gate) (o : Bool) → place < length gates → x ≡ get_or gates place x → x.output ≡ o → HasGiven place o gates gates
given_same gates place x o h is e d =
    let s : get_or gates place d ≡ x = sym (is ∙ get_or_default gates place x d h) in
    sym (ap (λ (z : Gate). set gates place (giving o z)) s ∙ ap (λ b. set gates place (giving b x)) (sym e) ∙ ap (set gates place) (sym s) ∙ set-get_or gates place d)

pub differs_if : (a b : Bool) → beq a b ≡ false → a ≡ not b
differs_if true true e = absurd (false≢true (sym e))
differs_if false false e = absurd (false≢true (sym e))
differs_if true false e = refl
differs_if false true e = refl

-- one table more is counted
module _ (gates : List Gate) (pulls : List ℕ) (low : List Bool) (i : ℕ) (are : AreCounted (take i gates) pulls low) (h : i < length gates) (d : Gate) where
  abbrev z : Gate
  z = get_or gates i d

  pub few_counted : (r : ℕ) → r < length pulls → get_or pulls r 0 + 1 ≤ length gates
  few_counted r l =
      let c = are.counts r l in
      let m = count_by-le-length (pulls_to r) (take i gates) in
      let t = length-take-le i gates (omega (arith, h)) in
      omega (arith, c, m, t, h)

  pub counted_skip : z.output ≡ true → AreCounted (take (i + 1) gates) pulls low
  counted_skip high = record { len = are.len; counts = λ r l. are.counts r l ∙ sym (count_by_more_no (pulls_to r) gates i d h (pulls_no r z high)); marks = are.marks }

  pub counted_next : (c : ℕ) → z.output ≡ false → z.out < length low → c ≡ get_or pulls z.out 0 → AreCounted (take (i + 1) gates) (set pulls z.out (c + 1)) (set low z.out true)
  counted_next c pulled w is = record {
    len = length-set low z.out true ∙ are.len ∙ sym (length-set pulls z.out (c + 1));
    counts = λ r l. counts r (omega (arith, l, length-set pulls z.out (c + 1))) (cases_eq r z.out);
    marks = λ r l. marks r (omega (arith, l, length-set pulls z.out (c + 1))) (cases_eq r z.out);
  }
    where
      within : z.out < length pulls
      within = let l = are.len in omega (arith, w, l)

      counts : (r : ℕ) → r < length pulls → (r ≡ z.out) ⊎ (r ≡ z.out → ⊥) → get_or (set pulls z.out (c + 1)) r 0 ≡ count_by (pulls_to r) (take (i + 1) gates)
      counts r l (inl same) =
          ap (λ j. get_or (set pulls z.out (c + 1)) j 0) same ∙ get_or-set_same pulls z.out (c + 1) 0 within ∙ ap (λ n. n + 1) (is ∙ are.counts z.out within)
          ∙ sym (count_by_more_yes (pulls_to z.out) gates i d h (pulls_yes z.out z refl pulled)) ∙ ap (λ j. count_by (pulls_to j) (take (i + 1) gates)) (sym same)
      counts r l (inr other) = get_or-set_other pulls z.out r (c + 1) 0 other ∙ are.counts r l ∙ sym (count_by_more_no (pulls_to r) gates i d h (pulls_other r z other))

      marks : (r : ℕ) → r < length pulls → (r ≡ z.out) ⊎ (r ≡ z.out → ⊥) → is_low (set low z.out true) r ≡ nat_lt 0 (get_or (set pulls z.out (c + 1)) r 0)
      marks r l (inl same) =
          ap (is_low (set low z.out true)) same ∙ get_or-set_same low z.out true false w
          ∙ sym (ap (λ j. nat_lt 0 (get_or (set pulls z.out (c + 1)) j 0)) same ∙ ap (nat_lt 0) (get_or-set_same pulls z.out (c + 1) 0 within) ∙ le-leb 1 (c + 1) (omega arith))
      marks r l (inr other) = get_or-set_other low z.out r true false other ∙ are.marks r l ∙ ap (nat_lt 0) (sym (get_or-set_other pulls z.out r (c + 1) 0 other))
