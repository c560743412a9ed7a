-- Settings of tables, one table after the other, and what they are in a load.
use Rattle.std.proofs.Common.{◌≡◌, ◌≢◌, ◌⊎◌, inl, inr, ℕ, ◌<◌, ◌≤◌, ◌+◌, ◌%◌, Bool, true, false, not, ◌||◌, Some, None, Option, List, length, get_or, take, set, refl, sym, ap, ◌∙◌, subst, arith, ◌==◌, bit_xor, All, slice_get, slice_set, replicate}
use Rattle.diag_evidence.proofs.Vocabulary.{bit_at, nat_cmp, contains-empty, false≢true, or_cases, nat_tests, list_any_more, list_any_at}
use Rattle.diag_evidence.proofs.Vocabulary.{gets, Table, tables_of, Setting, Configuration, cleared, is_closed, with_setting, Closes}
use Rattle.diag_evidence.proofs.Vocabulary.{cross_numbers, Trees, is_laid, SwitchesOn, AreOpposite, IsTableConfig, is_one_of}
use Rattle.std.proofs.lemmas.List.{get_or-set_same, get_or-set_other, get_or-replicate, get_or_past, length-replicate}
use Rattle.std.proofs.lemmas.Nat.Bits.{bit_at_xor, bit_at_ones, bit_at-lt}
use native.Mathlib.Decide.{ℕ_discrete, dec_lt}

turned_bit : (n : ℕ) → n < 2 → ((n + 1) % 2 == 1) ≡ not (n == 1)
turned_bit n h = by (n == 1) refl
  where
    by : (b : Bool) → (n == 1) ≡ b → ((n + 1) % 2 == 1) ≡ not b
    by true e = let s : n ≡ 1 = grind (arith, nat_tests, e) in let z : (n + 1) % 2 ≡ 0 = omega (arith, s) in grind (arith, nat_tests, z)
    by false e = let s : n ≢ 1 = (λ s. (let no : ⊥ = grind (arith, nat_tests, e, s) in no)) in let z : (n + 1) % 2 ≡ 1 = omega (arith, s, h) in grind (arith, nat_tests, z)

-- each cell is the other one
pub opposed : (s : Setting) → AreOpposite s (record { cells = bit_xor s.cells 18446744073709551615; latched = s.latched; init = not s.init })
opposed s = record {
  latched = refl;
  init = refl;
  cells = λ a b. ap (λ n. n == 1) (bit_at_xor s.cells 18446744073709551615 a ∙ ap (λ m. (bit_at s.cells a + m) % 2) (bit_at_ones 64 a b)) ∙ turned_bit (bit_at s.cells a) (bit_at-lt s.cells a);
}

-- one table more
pub one_more : (ts : List Table) (k : ℕ) (t : Table) → k < length ts → slice_get ts k ≡ Some t → (u : ℕ) → is_one_of (take (k + 1) ts) u ≡ (is_one_of (take k ts) u || (t.0 == u))
one_more ts k t below at u =
    let value : get_or ts k t ≡ t = grind (arith, gets, at) in
    list_any_more (λ (v : Table). v.0 == u) ts k t below ∙ ap (λ (v : Table). is_one_of (take k ts) u || (v.0 == u)) value

pub is_one_at : (ts : List Table) (k : ℕ) (t : Table) → k < length ts → slice_get ts k ≡ Some t → is_one_of ts t.0 ≡ true
is_one_at ts k t below at =
    let value : get_or ts k t ≡ t = grind (arith, gets, at) in
    list_any_at (λ (v : Table). v.0 == t.0) ts k t below (ap (λ (v : Table). v.0 == t.0) value ∙ (let e : (t.0 == t.0) ≡ true = grind (arith, nat_tests) in e))

pub within_at : (n : ℕ) (ts : List Table) (k : ℕ) (t : Table) → All (λ (t : Table). t.0 < n) ts → k < length ts → slice_get ts k ≡ Some t → t.0 < n
within_at n ts k t all below at =
    let value : get_or ts k t ≡ t = grind (arith, gets, at) in
    subst (λ (v : Table). v.0 < n) value (all k t below)

pub switches_more : (ts : List Table) (k : ℕ) (t : Table) (s : Setting) (g h : Configuration) → k < length ts → slice_get ts k ≡ Some t → t.0 < length h.tables → SwitchesOn (take k ts) s g h → SwitchesOn (take (k + 1) ts) s g (with_setting h t.0 (Some s))
switches_more ts k t s g h below at room p = record {
  on = λ u is. by_on u (ℕ_discrete u t.0) (or_cases (is_one_of (take k ts) u) (t.0 == u) (sym (one_more ts k t below at u) ∙ is));
  others = λ u out. get_or-set_other h.tables t.0 u (Some s) None (other_than u (or_none _ _ (sym (one_more ts k t below at u) ∙ out)).1) ∙ p.others u (or_none _ _ (sym (one_more ts k t below at u) ∙ out)).0;
  closed = p.closed;
  shape = p.shape;
  ticks = p.ticks;
}
  where
    or_none : (a b : Bool) → (a || b) ≡ false → (a ≡ false) × (b ≡ false)
    or_none true b e = absurd (false≢true (sym e))
    or_none false b e = (refl, e)

    other_than : (u : ℕ) → (t.0 == u) ≡ false → u ≢ t.0
    other_than u e d = false≢true (sym e ∙ (let q : (t.0 == u) ≡ true = grind (arith, nat_tests, d) in q))

    here : (u : ℕ) → u ≡ t.0 → get_or (set h.tables t.0 (Some s)) u None ≡ Some s
    here u e = subst (λ v. get_or (set h.tables t.0 (Some s)) v None ≡ Some s) (sym e) (get_or-set_same h.tables t.0 (Some s) None room)

    by_on : (u : ℕ) → Dec (u ≡ t.0) → (is_one_of (take k ts) u ≡ true) ⊎ ((t.0 == u) ≡ true) → get_or (set h.tables t.0 (Some s)) u None ≡ Some s
    by_on u (yes e) either = here u e
    by_on u (no n) (inl is) = get_or-set_other h.tables t.0 u (Some s) None n ∙ p.on u is
    by_on u (no n) (inr is) = absurd (n (let e : u ≡ t.0 = grind (arith, nat_tests, is) in e))

-- the configuration of a load: a forest that is closed, and the tables on
pub laid_tables : (trees : Trees) (ts : List Table) (s : Setting) (g h i : Configuration) → g ≡ cleared trees.shape → Closes (cross_numbers trees.crosses) g h → SwitchesOn ts s h i → IsTableConfig trees ts s i
laid_tables trees ts s g h i e p q = record {
  shape = q.shape ∙ p.shape ∙ ap (λ (c : Configuration). c.shape) e;
  closed = λ x. ap (λ set. is_closed (record i { closed = set }) x) q.closed ∙ p.closed x ∙ by (is_laid trees x) (ap (λ c. is_closed c x) e ∙ contains-empty nat_cmp x);
  on = q.on;
  off = λ t out. q.others t out ∙ ap (λ ts. get_or ts t None) (p.tables ∙ ap (λ (c : Configuration). c.tables) e) ∙ all_off t;
  one = q.ticks ∙ p.ticks ∙ ap (λ (c : Configuration). c.ticks) e;
}
  where
    by : (a : Bool) {b : Bool} → b ≡ false → (a || b) ≡ a
    by true n = refl
    by false n = n

    all_off : (t : ℕ) → get_or {A = Option Setting} (replicate (tables_of trees.shape) None) t None ≡ None
    all_off t = by_place (dec_lt t (tables_of trees.shape))
      where
        by_place : Dec (t < tables_of trees.shape) → get_or {A = Option Setting} (replicate (tables_of trees.shape) None) t None ≡ None
        by_place (yes h) = get_or-replicate (tables_of trees.shape) t None None h
        by_place (no h) = let past : tables_of trees.shape ≤ t = omega (arith, h) in get_or_past (replicate (tables_of trees.shape) None) t None (rw length-replicate past)

-- and with another setting
pub laid_again : (trees : Trees) (ts : List Table) (s z : Setting) (g h : Configuration) → IsTableConfig trees ts s g → SwitchesOn ts z g h → IsTableConfig trees ts z h
laid_again trees ts s z g h p q = record {
  shape = q.shape ∙ p.shape;
  closed = λ x. ap (λ set. is_closed (record h { closed = set }) x) q.closed ∙ p.closed x;
  on = q.on;
  off = λ t out. q.others t out ∙ p.off t out;
  one = q.ticks ∙ p.one;
}
