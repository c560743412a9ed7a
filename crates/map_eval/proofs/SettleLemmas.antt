-- Combinational tables that are evaluated.
use Rattle.std.proofs.Common.{◌≡◌, ◌⊎◌, Bool, ℕ, ◌+◌, ◌*◌, ◌/◌, ◌%◌, ◌<◌, ◌≤◌, ◌&&◌, ◌||◌, ◌==◌, List, true, false, length, get_or, refl, sym, ap, subst, ◌∙◌, inl, inr, arith, bit_and, bit_or, nat_eq, not}
use Rattle.map_eval.proofs.Vocabulary.{cases_eq, eqb-true, get_or_default, le_or_l, le_or_r, Source, Input, Table, Network, table_at}
use Rattle.map_eval.proofs.Vocabulary.{no_table, IsCombinational, IsLatched, cell_at, Reads, cell_and, Plan, State, source_at, number_at}
use Rattle.map_eval.proofs.Vocabulary.{is_marked, value_in, IsLower, IsOrdered, AreGates, IsPlan, differs_in, IsEvaluated, AreGivenBefore}

no_both : true ≡ false → ⊥
no_both e = cc

-- a table isn't of both kinds
pub both_kinds : (n : Network) (t : ℕ) → IsCombinational n t → IsLatched n t → ⊥
both_kinds n t c l = no_both (sym l.latched ∙ c.latched)

pub evaluated_before : (n : Network) (table : ℕ) (old new : State) → IsCombinational n table → IsEvaluated n table old new → AreGivenBefore n old new
evaluated_before n table old new c e = record {
  inputs = e.inputs;
  latched = λ t l. e.values t (λ s. both_kinds n table c (subst (IsLatched n) s l));
}

-- a table doesn't read those behind it, nor itself
not_read : (n : Network) (t table : ℕ) → IsOrdered n → IsCombinational n t → IsCombinational n table → t ≤ table → Reads n t table → ⊥
not_read n t table ordered c d le r =
    by (subst (IsLower n t) (get_or_default (table_at n t).ins r.at.0 (Input 0) (Table table) r.at.1 ∙ r.at.2) (ordered t r.at.0 c r.at.1))
  where
    by : IsLower n t (Table table) → ⊥
    by (inl l) = let no : ⊥ = omega arith in no
    by (inr l) = both_kinds n table d l

pub evaluated_this : (n : Network) (table : ℕ) (old new : State) → IsOrdered n → IsCombinational n table → IsEvaluated n table old new → differs_in new table ≡ false
evaluated_this n table old new ordered c e = e.this (not_read n table table ordered c c (omega arith))

pub evaluated_lower : (n : Network) (table : ℕ) (old new : State) → IsOrdered n → IsCombinational n table → IsEvaluated n table old new → (t : ℕ) → t < table → IsCombinational n t → differs_in old t ≡ false → differs_in new t ≡ false
evaluated_lower n table old new ordered c e t lt d f = e.others t (λ s. (let no : ⊥ = omega (arith, s) in no)) (not_read n t table ordered d c (omega arith)) ∙ f

-- a bit of a word of gates is a combinational table
pub gate_at : (plan : Plan) (word bit mark gate : ℕ) → IsPlan plan → word < length plan.gates.items → bit < 64 → gate ≡ get_or plan.gates.items word gate → cell_at (bit_and mark gate) bit ≡ true → IsCombinational plan.network (64 * word + bit)
gate_at plan word bit mark gate is lw lb gate_is e = is.gates.only (64 * word + bit) (
    ap (λ r. cell_at (number_at plan.gates.items r) ((64 * word + bit) % 64)) row
    ∙ ap (cell_at (number_at plan.gates.items word)) col
    ∙ ap (λ g. cell_at g bit) (sym (gate_is ∙ get_or_default plan.gates.items word gate 0 lw))
    ∙ second (cell_at mark bit) (cell_at gate bit) (sym (cell_and mark gate bit) ∙ e))
  where
    row : (64 * word + bit) / 64 ≡ word
    row = omega arith

    col : (64 * word + bit) % 64 ≡ bit
    col = omega arith

    second : (a b : Bool) → (a && b) ≡ true → b ≡ true
    second true b f = f
    second false b f = absurd (no_both (sym f))

-- words without marks of gates
pub clear_more : (gates marks : List ℕ) (m found gate : ℕ) → m < length gates → gate ≡ get_or gates m gate → (found ≡ 0 → (w : ℕ) → w < m → bit_and (number_at marks w) (number_at gates w) ≡ 0) → bit_or found (bit_and (number_at marks m) gate) ≡ 0 → (w : ℕ) → w < m + 1 → bit_and (number_at marks w) (number_at gates w) ≡ 0
clear_more gates marks m found gate lm gate_is old e w lw = elim (cases_eq w m) [
  | inl s ↦ ap (λ x. bit_and (number_at marks x) (number_at gates x)) s ∙ ap (bit_and (number_at marks m)) (sym (gate_is ∙ get_or_default gates m gate 0 lm)) ∙ (let r = le_or_r found (bit_and (number_at marks m) gate) in omega (arith, e))
  | inr d ↦ old (let l = le_or_l found (bit_and (number_at marks m) gate) in omega (arith, e)) w (omega (arith, d))
]

pub zero_of : (found : ℕ) → not (nat_eq found 0) ≡ false → found ≡ 0
zero_of found e = eqb-true found 0 (by (nat_eq found 0) e)
  where
    by : (b : Bool) → not b ≡ false → b ≡ true
    by true f = refl
    by false f = absurd (no_both f)

-- one more table
pub gates_more : (n : Network) (m : ℕ) (gates gates' : List ℕ) (bit : ℕ) (latched : Bool) → m < length n.tables → latched ≡ (table_at n m).latched → length gates' ≡ length gates → (latched ≡ false → bit ≡ 1) → (latched ≡ true → bit ≡ 0) → is_marked gates' m ≡ (is_marked gates m || (bit == 1)) → ((t : ℕ) → (t ≡ m → ⊥) → is_marked gates' t ≡ is_marked gates t) → AreGates n m gates → AreGates n (m + 1) gates'
gates_more n m gates gates' bit latched lm is len one none this others old = record {
  size = len ∙ old.size;
  all = λ t lt c. elim (cases_eq t m) [
    | inl e ↦ ap (is_marked gates') e ∙ this ∙ ap (λ b. is_marked gates m || (b == 1)) (one (is ∙ subst (λ x. (table_at n x).latched ≡ false) e c.latched)) ∙ or_true (is_marked gates m)
    | inr d ↦ others t d ∙ old.all t (omega (arith, d)) c
  ];
  only = λ t f. elim (cases_eq t m) [
    | inl e ↦ subst (IsCombinational n) (sym e) (at (sym this ∙ ap (is_marked gates') (sym e) ∙ f) latched refl)
    | inr d ↦ old.only t (sym (others t d) ∙ f)
  ];
}
  where
    or_true : (b : Bool) → (b || true) ≡ true
    or_true true = refl
    or_true false = refl

    or_no : (b : Bool) → (b || false) ≡ b
    or_no true = refl
    or_no false = refl

    at : (is_marked gates m || (bit == 1)) ≡ true → (l : Bool) → latched ≡ l → IsCombinational n m
    at f false e = record { within = lm; latched = sym is ∙ e }
    at f true e = old.only m (sym (or_no (is_marked gates m)) ∙ sym (ap (λ b. is_marked gates m || (b == 1)) (none e)) ∙ f)
