-- What is kept and marked of tables, one after the other.
use Rattle.std.proofs.Common.{◌≡◌, ℕ, zero, suc, ◌<◌, ◌+◌, Bool, true, false, not, ◌&&◌, ◌||◌, Some, List, length, take, refl, sym, ap, ◌∙◌, subst, arith, ◌==◌, nat_lt, slice_get, slice_set}
use Rattle.diag_evidence.proofs.Vocabulary.{nat_tests, has_number, Table, Pins, Setting}
use native.Mathlib.Decide.{ℕ_discrete}
use Rattle.diag_evidence.specs.Vocabulary.{Trees, Kept, Gain, Gains, nothing, one_register, keeps_cross, keeps_wire, is_apart, in_row, keeps_cell, keeps_register, right_cells, is_one_of, is_right_before, is_right_in, output_pin, right_parts}
use Rattle.diag_evidence.proofs.KeptLemmas.{mark_set}
use Rattle.diag_evidence.proofs.Settings.{one_more}

-- the third gain is the first and then the second
pub record IsBoth (g h k : Gain) : Type 0 where
  pub crosses : (x : ℕ) → k.crosses x ≡ (h.crosses x || g.crosses x)
  pub wires : (w : ℕ) → k.wires w ≡ (h.wires w || g.wires w)
  pub apart : (w : ℕ) → k.apart w ≡ (h.apart w || g.apart w)
  pub row : (w : ℕ) → k.row w ≡ (h.row w || g.row w)
  pub cells : (t a : ℕ) → k.cells t a ≡ (h.cells t a || g.cells t a)
  pub registers : (t : ℕ) → k.registers t ≡ (h.registers t || g.registers t)

joined : {n k b : Bool} (h g a : Bool) → n ≡ (h || b) → b ≡ (g || a) → k ≡ (h || g) → n ≡ (k || a)
joined h g a p q r = p ∙ ap (λ x. h || x) q ∙ assoc h g a ∙ ap (λ x. x || a) (sym r)
  where
    assoc : (x y z : Bool) → (x || (y || z)) ≡ ((x || y) || z)
    assoc true y z = refl
    assoc false y z = refl

pub both_gained : {g h k : Gain} {a b c : Kept} → IsBoth g h k → Gains g a b → Gains h b c → Gains k a c
both_gained {g} {h} {a = old} i p q = record {
  shape = q.shape ∙ p.shape;
  crosses = λ x. joined (h.crosses x) (g.crosses x) (keeps_cross old x) (q.crosses x) (p.crosses x) (i.crosses x);
  wires = λ w. joined (h.wires w) (g.wires w) (keeps_wire old w) (q.wires w) (p.wires w) (i.wires w);
  apart = λ w. joined (h.apart w) (g.apart w) (is_apart old w) (q.apart w) (p.apart w) (i.apart w);
  trial = q.trial ∙ p.trial;
  row = λ w. joined (h.row w) (g.row w) (in_row old w) (q.row w) (p.row w) (i.row w);
  cells = λ t a. joined (h.cells t a) (g.cells t a) (keeps_cell old t a) (q.cells t a) (p.cells t a) (i.cells t a);
  registers = λ t. joined (h.registers t) (g.registers t) (keeps_register old t) (q.registers t) (p.registers t) (i.registers t);
}

pub none_gained : (a : Kept) → Gains nothing a a
none_gained a = record { shape = refl; crosses = λ x. refl; wires = λ w. refl; apart = λ w. refl; trial = refl; row = λ w. refl; cells = λ t a. refl; registers = λ t. refl }

-- tables, one after the other
module _ (ts : List Table) (k : ℕ) (t : Table) (below : k < length ts) (at : slice_get ts k ≡ Some t) where
  pub more_of : (F : ℕ → Bool) (u : ℕ) → (is_one_of (take (k + 1) ts) u && F u) ≡ (((t.0 == u) && F t.0) || (is_one_of (take k ts) u && F u))
  more_of F u = ap (λ b. b && F u) (one_more ts k t below at u) ∙ by (t.0 == u) refl (is_one_of (take k ts) u)
    where
      absorb : (p f : Bool) → ((p || true) && f) ≡ (f || (p && f))
      absorb true true = refl
      absorb true false = refl
      absorb false true = refl
      absorb false false = refl

      plain : (p f : Bool) → ((p || false) && f) ≡ (p && f)
      plain true f = refl
      plain false f = refl

      by : (q : Bool) → (t.0 == u) ≡ q → (p : Bool) → ((p || q) && F u) ≡ ((q && F t.0) || (p && F u))
      by true e p = absorb p (F u) ∙ ap (λ v. F v || (p && F u)) (let d : u ≡ t.0 = grind (arith, nat_tests, e) in d)
      by false e p = plain p (F u)

  module _ (s : Setting) (reads opposite : List Pins) (trees : Trees) where
    abbrev of_table : ℕ → ℕ → Bool
    of_table u n = is_right_in s reads opposite (output_pin trees u) n

    pub table_kept : {a b c d : Kept} → of_table t.0 0 ≡ true → Gains (right_parts trees (take k ts) s reads opposite) a b → Gains (one_register t.0) b c →
        Gains (right_cells t.0 s reads opposite (output_pin trees t.0) 64) c d → Gains (right_parts trees (take (k + 1) ts) s reads opposite) a d
    table_kept {a} {b} {c} {d} on p q r = both_gained {h = both} (record {
      crosses = λ x. refl;
      wires = λ w. refl;
      apart = λ w. refl;
      row = λ w. refl;
      cells = λ u a. more_of (λ v. nat_lt a 64 && (of_table v 0 && of_table v (suc a))) u
          ∙ ap (λ x. ((t.0 == u) && (nat_lt a 64 && (x && of_table t.0 (suc a)))) || (is_one_of (take k ts) u && (nat_lt a 64 && (of_table u 0 && of_table u (suc a))))) on
          ∙ ap (λ x. x || (is_one_of (take k ts) u && (nat_lt a 64 && (of_table u 0 && of_table u (suc a))))) (or_false _);
      registers = λ u. more_of (λ v. of_table v 0) u ∙ ap (λ x. ((t.0 == u) && x) || (is_one_of (take k ts) u && of_table u 0)) on ∙ ap (λ x. x || (is_one_of (take k ts) u && of_table u 0)) (and_on (t.0 == u));
    }) p (both_gained {k = both} (record {
      crosses = λ x. refl;
      wires = λ w. refl;
      apart = λ w. refl;
      row = λ w. refl;
      cells = λ u a. refl;
      registers = λ u. refl;
    }) q r)
      where
        or_false : (x : Bool) → x ≡ (x || false)
        or_false true = refl
        or_false false = refl

        and_on : (x : Bool) → (x && true) ≡ x
        and_on true = refl
        and_on false = refl

        both : Gain
        both = record nothing {
          cells = λ u a. ((t.0 == u) && (nat_lt a 64 && of_table t.0 (suc a))) || false;
          registers = λ u. t.0 == u;
        }

    and_off : (x y : Bool) → (x && (y && false)) ≡ false
    and_off true true = refl
    and_off true false = refl
    and_off false y = refl

    pub table_left : {a b : Kept} → of_table t.0 0 ≡ false → Gains (right_parts trees (take k ts) s reads opposite) a b → Gains (right_parts trees (take (k + 1) ts) s reads opposite) a b
    table_left {a} {b} off p = both_gained (record {
      crosses = λ x. refl;
      wires = λ w. refl;
      apart = λ w. refl;
      row = λ w. refl;
      cells = λ u a. more_of (λ v. nat_lt a 64 && (of_table v 0 && of_table v (suc a))) u
          ∙ ap (λ x. ((t.0 == u) && (nat_lt a 64 && (x && of_table t.0 (suc a)))) || (is_one_of (take k ts) u && (nat_lt a 64 && (of_table u 0 && of_table u (suc a))))) off
          ∙ ap (λ x. x || (is_one_of (take k ts) u && (nat_lt a 64 && (of_table u 0 && of_table u (suc a))))) (and_off (t.0 == u) (nat_lt a 64));
      registers = λ u. more_of (λ v. of_table v 0) u ∙ ap (λ x. ((t.0 == u) && x) || (is_one_of (take k ts) u && of_table u 0)) off ∙ ap (λ x. x || (is_one_of (take k ts) u && of_table u 0)) (and_none (t.0 == u));
    }) p (none_gained b)
      where
        and_none : (x : Bool) → (x && false) ≡ false
        and_none true = refl
        and_none false = refl

  module _ (F : ℕ → Bool) (now was : List Bool) (marks : (u : ℕ) → has_number now u ≡ ((is_one_of (take k ts) u && not (F u)) || has_number was u)) where
    pub mark_left : F t.0 ≡ true → (u : ℕ) → has_number now u ≡ ((is_one_of (take (k + 1) ts) u && not (F u)) || has_number was u)
    mark_left right u = marks u ∙ ap (λ x. x || has_number was u) (sym (more_of (λ v. not (F v)) u ∙ ap (λ x. ((t.0 == u) && not x) || (is_one_of (take k ts) u && not (F u))) right ∙ off (t.0 == u) _))
      where
        off : (x y : Bool) → ((x && false) || y) ≡ y
        off true y = refl
        off false y = refl

    pub mark_made : F t.0 ≡ false → t.0 < length now → (u : ℕ) → has_number (slice_set now t.0 true) u ≡ ((is_one_of (take (k + 1) ts) u && not (F u)) || has_number was u)
    mark_made wrong room u =
        mark_set now t.0 u room ∙ ap (λ x. (t.0 == u) || x) (marks u) ∙ assoc (t.0 == u) _ (has_number was u)
        ∙ ap (λ x. x || has_number was u) (sym (more_of (λ v. not (F v)) u ∙ ap (λ x. ((t.0 == u) && not x) || (is_one_of (take k ts) u && not (F u))) wrong ∙ on (t.0 == u) _))
      where
        assoc : (x y z : Bool) → (x || (y || z)) ≡ ((x || y) || z)
        assoc true y z = refl
        assoc false y z = refl

        on : (x y : Bool) → ((x && true) || y) ≡ (x || y)
        on true y = refl
        on false y = refl

-- one cycle in which a pin isn't right
pub wrong_before : (s : Setting) (reads opposite : List Pins) (pin n m : ℕ) → n < m → is_right_in s reads opposite pin n ≡ false → is_right_before s reads opposite pin m ≡ false
unfolding is_right_before
wrong_before s reads opposite pin n zero h e = absurd (omega (arith, h))
wrong_before s reads opposite pin n (suc m) h e = by (wrong_before s reads opposite pin n m) (ℕ_discrete n m)
  where
    and_left : (a b : Bool) → a ≡ false → (a && b) ≡ false
    and_left a b e = rw e refl

    and_right : (a b : Bool) → b ≡ false → (a && b) ≡ false
    and_right true b e = e
    and_right false b e = refl

    by : (n < m → is_right_in s reads opposite pin n ≡ false → is_right_before s reads opposite pin m ≡ false) → Dec (n ≡ m) → is_right_before s reads opposite pin (suc m) ≡ false
    by earlier (yes d) = and_right _ _ (subst (λ k. is_right_in s reads opposite pin k ≡ false) d e)
    by earlier (no d) = and_left _ _ (earlier (omega (arith, h, d)) e)

pub right_none : (s : Setting) (reads opposite : List Pins) (pin : ℕ) → is_right_before s reads opposite pin 0 ≡ true
unfolding is_right_before
right_none s reads opposite pin = refl

and_true : (a b : Bool) → a ≡ true → b ≡ true → (a && b) ≡ true
and_true a b p q = rw (p, q) refl

right_next : (s : Setting) (reads opposite : List Pins) (pin n : ℕ) → is_right_before s reads opposite pin n ≡ true → is_right_in s reads opposite pin n ≡ true → is_right_before s reads opposite pin (suc n) ≡ true
unfolding is_right_before
right_next s reads opposite pin n p q = and_true (is_right_before s reads opposite pin n) (is_right_in s reads opposite pin n) p q

pub right_more : (s : Setting) (reads opposite : List Pins) (pin n : ℕ) → is_right_before s reads opposite pin n ≡ true → is_right_in s reads opposite pin n ≡ true → is_right_before s reads opposite pin (n + 1) ≡ true
right_more s reads opposite pin n p q = subst (λ m. is_right_before s reads opposite pin m ≡ true) (let e : suc n ≡ n + 1 = omega arith in e) (right_next s reads opposite pin n p q)
