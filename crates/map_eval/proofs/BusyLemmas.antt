-- Cycles in which all tables are evaluated, in order.
use Rattle.std.proofs.Common.{◌≡◌, ◌⊎◌, Bool, ℕ, zero, suc, ◌+◌, ◌*◌, ◌<◌, ◌≤◌, List, [], ◌∷◌, ◌++◌, true, false, length, map, get_or, set, nat_lt, refl, sym, ap, subst, ◌∙◌, inl, inr, arith, slice_index_or, if◌then◌else◌}
use Rattle.map_eval.proofs.Vocabulary.{range_with_len, Contains, cases_eq, cases_lt, Source, Input, Table, NetTable, Network, Plan, State}
use Rattle.map_eval.proofs.Vocabulary.{signal_of, source_at, AreInRange, number_at, value_in, pin_bit, IsLower, IsOrdered, IsPlan, IsKept}
use Rattle.std.proofs.lemmas.{Bool.Decides.nat_tests, List.FromFn.get_or-map-range_with_len, List.FromFn.length-map-range_with_len}
use Rattle.std.proofs.lemmas.List.{ext_get_or, get_or-map, get_or_default, get_or_past, get_or-set_same, get_or-set_other, get_or_append_left, get_or_push, length-map, length_push, length-set}
use Rattle.map_network.specs.Vocabulary.{no_table, table_at, IsSourceOf, IsCombinational, IsLatched, bit_of, cell_at, number_of, pins_of, truth, outputs_in, next_state, RowsFrom, IsNetworkValuation}
use Rattle.map_eval.specs.Wires.{wire_at, one_of, ArePushed, AreWires, bits_at, HaveInputs, AreTrueTo, AreLatchedSame, AreTablesIn, HaveTakenTo, IsShaped}
use Rattle.map_eval.proofs.PinLemmas.{signal_low}
use Rattle.map_eval.proofs.RunLemmas.{same_rows}
use Rattle.map_eval.proofs.SettleLemmas.{both_kinds}

-- ---- the signals of pins

lt_true : (p q : ℕ) → p < q → nat_lt p q ≡ true
lt_true p q l = grind (arith, nat_tests)

lt_false : (p q : ℕ) → q ≤ p → nat_lt p q ≡ false
lt_false p q l = grind (arith, nat_tests)

wire_in : (tables one : ℕ) (ins : List Source) (p : ℕ) → p < length ins → wire_at tables one ins p ≡ signal_of tables (slice_index_or ins p (Input 0))
wire_in tables one ins p l = ap (λ b. if b then signal_of tables (slice_index_or ins p (Input 0)) else one) (lt_true p (length ins) l)

wire_out : (tables one : ℕ) (ins : List Source) (p : ℕ) → length ins ≤ p → wire_at tables one ins p ≡ one
wire_out tables one ins p l = ap (λ b. if b then signal_of tables (slice_index_or ins p (Input 0)) else one) (lt_false p (length ins) l)

pub pushed_first : (tables one : ℕ) (ins : List Source) (old : List ℕ) → ArePushed tables one ins 0 old old
pushed_first tables one ins old = record {
  len = omega arith;
  before = λ i li. refl;
  behind = λ p lp. absurd (let no : ⊥ = omega arith in no);
}

pub pushed_more : (tables one : ℕ) (ins : List Source) (m x : ℕ) (old cur : List ℕ) → x ≡ wire_at tables one ins m → ArePushed tables one ins m old cur → ArePushed tables one ins (m + 1) old (cur ++ x ∷ [])
pushed_more tables one ins m x old cur e is = record {
  len = (let l = length_push cur x in let k = is.len in omega arith);
  before = λ i li. get_or_append_left cur (x ∷ []) 0 i (let k = is.len in omega arith) ∙ is.before i li;
  behind = λ p lp. elim (cases_eq p m) [
    | inl s ↦ get_or_push cur x 0 (length old + p) (let k = is.len in omega (arith, s)) ∙ e ∙ ap (wire_at tables one ins) (sym s)
    | inr d ↦ get_or_append_left cur (x ∷ []) 0 (length old + p) (let k = is.len in omega (arith, d)) ∙ is.behind p (omega (arith, d))
  ];
}

pub wires_more : (n : Network) (m tables one : ℕ) (ins : List Source) (old new : List ℕ) → tables ≡ length n.tables → one ≡ one_of n → ins ≡ (table_at n m).ins → ArePushed tables one ins 6 old new → AreWires n m old → AreWires n (m + 1) new
wires_more n m tables one ins old new et eo ei is are = record {
  len = (let l = is.len in let k = are.len in omega arith);
  each = λ t p lt lp. elim (cases_eq t m) [
    | inl s ↦ ap (λ x. number_at new (x + p)) (let k = are.len in let e : 6 * t ≡ length old = omega (arith, s) in e) ∙ is.behind p lp ∙ ap (λ x. wire_at x one ins p) et ∙ ap (λ x. wire_at (length n.tables) x ins p) eo ∙ ap (λ xs. wire_at (length n.tables) (one_of n) xs p) ei ∙ ap (λ x. wire_at (length n.tables) (one_of n) (table_at n x).ins p) (sym s)
    | inr d ↦ is.before (6 * t + p) (let k = are.len in omega (arith, d)) ∙ are.each t p (omega (arith, d)) lp
  ];
}

module _ (n : Network) (wires : List ℕ) (range : AreInRange n) (are : AreWires n (length n.tables) wires) where
  wire_is : (t p : ℕ) → t < length n.tables → p < 6 → (p < length (table_at n t).ins) ⊎ (length (table_at n t).ins ≤ p) → number_at wires (6 * t + p) < one_of n + 1
  wire_is t p lt lp (inl l) = (
      let e = are.each t p lt lp ∙ wire_in (length n.tables) (one_of n) (table_at n t).ins p l in
      let s = signal_low n (source_at n t p) (range.sources t p lt l) in
      omega (arith, e, s))
  wire_is t p lt lp (inr g) = (let e = are.each t p lt lp ∙ wire_out (length n.tables) (one_of n) (table_at n t).ins p g in omega (arith, e))

  pub wire_low : (t p : ℕ) → t < length n.tables → p < 6 → number_at wires (6 * t + p) < one_of n + 1
  wire_low t p lt lp = wire_is t p lt lp (cases_lt p (length (table_at n t).ins))

  module _ (inputs bits : List Bool) (have : HaveInputs n inputs bits) where
    signal_bit : (s : Source) → IsSourceOf n s → value_in bits (signal_of (length n.tables) s) ≡ bit_of inputs (value_in bits) s
    signal_bit (Input k) of = have.given k of
    signal_bit (Table j) of = refl

    wire_bit : (t p : ℕ) → t < length n.tables → p < 6 → (p < length (table_at n t).ins) ⊎ (length (table_at n t).ins ≤ p) → value_in bits (number_at wires (6 * t + p)) ≡ pin_bit n inputs bits t p
    wire_bit t p lt lp (inl l) =
        ap (value_in bits) (are.each t p lt lp ∙ wire_in (length n.tables) (one_of n) (table_at n t).ins p l)
        ∙ signal_bit (source_at n t p) (range.sources t p lt l)
        ∙ sym (get_or-map (bit_of inputs (value_in bits)) (table_at n t).ins p (Input 0) true l)
    wire_bit t p lt lp (inr g) =
        ap (value_in bits) (are.each t p lt lp ∙ wire_out (length n.tables) (one_of n) (table_at n t).ins p g)
        ∙ have.one
        ∙ sym (get_or_past (map (bit_of inputs (value_in bits)) (table_at n t).ins) p true (omega (arith, length-map (table_at n t).ins (bit_of inputs (value_in bits)))))

    bits_are : (t : ℕ) → t < length n.tables → bits_at wires t bits ≡ pins_of inputs (value_in bits) (table_at n t).ins
    bits_are t lt = ext_get_or false (bits_at wires t bits) (pins_of inputs (value_in bits) (table_at n t).ins) refl (λ i li.
        get_or-map-range_with_len (λ p. value_in bits (number_at wires (6 * t + p))) 0 6 i i false li (omega arith)
        ∙ wire_bit t i lt li (cases_lt i (length (table_at n t).ins))
        ∙ sym (get_or-map-range_with_len (λ k. slice_index_or (map (bit_of inputs (value_in bits)) (table_at n t).ins) k true) 0 6 i i false li (omega arith)))

    pub gives_truth_of : (t cells : ℕ) (x : Bool) → t < length n.tables → cells ≡ (table_at n t).cells → x ≡ cell_at cells (number_of (bits_at wires t bits)) → x ≡ truth inputs (value_in bits) (table_at n t)
    gives_truth_of t cells x lt e f = f ∙ ap (λ c. cell_at c (number_of (bits_at wires t bits))) e ∙ ap (λ bs. cell_at (table_at n t).cells (number_of bs)) (bits_are t lt)

-- a table that is read from the slice of all
pub table_read : (n : Network) (t : ℕ) (tables : List NetTable) (x : NetTable) → x ≡ get_or tables t x → tables ≡ n.tables → t < length n.tables → x ≡ table_at n t
table_read n t tables x is e lt = is ∙ ap (λ ts. get_or ts t x) e ∙ get_or_default n.tables t x no_table lt

-- ---- tables, one after the other

-- what a table gives hangs on what it reads alone
pub same_truth : (n : Network) (inputs : List Bool) (f g : ℕ → Bool) (t : ℕ) → ((p : ℕ) → p < length (table_at n t).ins → bit_of inputs f (source_at n t p) ≡ bit_of inputs g (source_at n t p)) → truth inputs f (table_at n t) ≡ truth inputs g (table_at n t)
same_truth n inputs f g t h = ap (λ bits. cell_at (table_at n t).cells (number_of (map (λ x. slice_index_or bits x true) (range_with_len 0 6)))) same
  where
    same : map (bit_of inputs f) (table_at n t).ins ≡ map (bit_of inputs g) (table_at n t).ins
    same = ext_get_or true (map (bit_of inputs f) (table_at n t).ins) (map (bit_of inputs g) (table_at n t).ins) (length-map (table_at n t).ins (bit_of inputs f) ∙ sym (length-map (table_at n t).ins (bit_of inputs g))) (λ i li. (let l : i < length (table_at n t).ins = omega (arith, length-map (table_at n t).ins (bit_of inputs f)) in
        get_or-map (bit_of inputs f) (table_at n t).ins i (Input 0) true l ∙ h i l ∙ sym (get_or-map (bit_of inputs g) (table_at n t).ins i (Input 0) true l)))

module _ (n : Network) (bits : List Bool) (t : ℕ) (x : Bool) (lt : t < length n.tables) where
  pub inputs_kept : (inputs : List Bool) → HaveInputs n inputs bits → HaveInputs n inputs (set bits t x)
  inputs_kept inputs have = record {
    len = length-set bits t x ∙ have.len;
    given = λ k lk. get_or-set_other bits t (length n.tables + k) x false (λ e. (let no : ⊥ = omega (arith, e) in no)) ∙ have.given k lk;
    one = get_or-set_other bits t (one_of n) x false (λ e. (let no : ⊥ = omega (arith, e) in no)) ∙ have.one;
  }

  module _ (c : IsCombinational n t) where
    pub latched_kept : AreLatchedSame n bits (set bits t x)
    latched_kept j l = get_or-set_other bits t j x false (λ e. both_kinds n t c (subst (IsLatched n) e l))

    -- a table up to this one doesn't read it
    not_it : (inputs : List Bool) (j : ℕ) (s : Source) → IsOrdered n → j ≤ t → IsLower n j s → bit_of inputs (value_in (set bits t x)) s ≡ bit_of inputs (value_in bits) s
    not_it inputs j (Input k) ordered le lower = refl
    not_it inputs j (Table i) ordered le (inl l) = get_or-set_other bits t i x false (λ e. (let no : ⊥ = omega (arith, e) in no))
    not_it inputs j (Table i) ordered le (inr l) = get_or-set_other bits t i x false (λ e. both_kinds n t c (subst (IsLatched n) e l))

    pub true_more : (inputs : List Bool) → IsOrdered n → t < length bits → x ≡ truth inputs (value_in bits) (table_at n t) → AreTrueTo n t inputs bits → AreTrueTo n (t + 1) inputs (set bits t x)
    true_more inputs ordered lb e old j lj cj = by (cases_eq j t)
      where
        same : j ≤ t → truth inputs (value_in (set bits t x)) (table_at n j) ≡ truth inputs (value_in bits) (table_at n j)
        same le = same_truth n inputs (value_in (set bits t x)) (value_in bits) j (λ p lp. not_it inputs j (source_at n j p) ordered le (ordered j p cj lp))

        by : (j ≡ t) ⊎ (j ≡ t → ⊥) → value_in (set bits t x) j ≡ truth inputs (value_in (set bits t x)) (table_at n j)
        by (inl s) = ap (value_in (set bits t x)) s ∙ get_or-set_same bits t x false lb ∙ e ∙ ap (λ y. truth inputs (value_in bits) (table_at n y)) (sym s) ∙ sym (same (omega (arith, s)))
        by (inr d) = get_or-set_other bits t j x false d ∙ old j (omega (arith, d)) cj ∙ sym (same (omega arith))

pub true_skip : (n : Network) (inputs bits : List Bool) (t : ℕ) → IsLatched n t → AreTrueTo n t inputs bits → AreTrueTo n (t + 1) inputs bits
true_skip n inputs bits t l old j lj cj = elim (cases_eq j t) [
  | inl s ↦ absurd (both_kinds n t (subst (IsCombinational n) s cj) l)
  | inr d ↦ old j (omega (arith, d)) cj
]

pub taken_one_more : (n : Network) (inputs bits values : List Bool) (t : ℕ) (x : Bool) → t < length values → x ≡ truth inputs (value_in bits) (table_at n t) → HaveTakenTo n t inputs bits values → HaveTakenTo n (t + 1) inputs bits (set values t x)
taken_one_more n inputs bits values t x lt e old = record {
  taken = λ j lj l. elim (cases_eq j t) [
    | inl s ↦ ap (value_in (set values t x)) s ∙ get_or-set_same values t x false lt ∙ e ∙ ap (λ y. truth inputs (value_in bits) (table_at n y)) (sym s)
    | inr d ↦ get_or-set_other values t j x false d ∙ old.taken j (omega (arith, d)) l
  ];
}

pub taken_skip : (n : Network) (inputs bits values : List Bool) (t : ℕ) → IsCombinational n t → HaveTakenTo n t inputs bits values → HaveTakenTo n (t + 1) inputs bits values
taken_skip n inputs bits values t c old = record {
  taken = λ j lj l. elim (cases_eq j t) [
    | inl s ↦ absurd (both_kinds n t c (subst (IsLatched n) s l))
    | inr d ↦ old.taken j (omega (arith, d)) l
  ];
}

-- ---- loading

-- bits of tables, and then the vector's
module _ (n : Network) (values before one two vector : List Bool) (e : length values ≡ length n.tables) where
  pub loaded : length two ≡ length one → length one ≡ length before → length before ≡ one_of n + 1 → length vector ≡ n.inputs → value_in before (one_of n) ≡ true → ((s : ℕ) → length values ≤ s → value_in one s ≡ value_in before s) → ((k : ℕ) → k < length vector → value_in two (length values + k) ≡ value_in vector k) → ((s : ℕ) → length values + length vector ≤ s → value_in two s ≡ value_in one s) → HaveInputs n vector two
  loaded l2 l1 l0 inputs is rest put behind = record {
    len = l2 ∙ l1 ∙ l0;
    given = λ k lk. ap (λ (m : ℕ). value_in two (m + k)) (sym e) ∙ put k (omega (arith, inputs)) ∙ get_or_default vector k false true (omega (arith, inputs));
    one = behind (one_of n) (omega (arith, inputs, e)) ∙ rest (one_of n) (omega (arith, e)) ∙ is;
  }

  pub latched_loaded : (three : List Bool) → AreTablesIn (length values) values one → ((s : ℕ) → s < length values → value_in two s ≡ value_in one s) → AreLatchedSame n two three → AreLatchedSame n values three
  latched_loaded three at before same t l = (
      let w = l.within in
      let lt : t < length values = omega (arith, w, e) in
      same t l ∙ before t lt ∙ at t lt)

-- inputs and values are written anew
pub shaped_by : (plan : Plan) (old new : State) → IsShaped plan old → length new.inputs.items ≡ plan.network.inputs → length new.values.items ≡ length old.values.items → new.masks ≡ old.masks → new.addresses ≡ old.addresses → new.marks ≡ old.marks → IsShaped plan new
shaped_by plan old new is inputs values masks addresses marks = record {
  inputs = inputs;
  values = values ∙ is.values;
  masks = ap (λ v. length v.items) masks ∙ is.masks;
  addresses = ap (λ v. length v.items) addresses ∙ is.addresses;
  marks = ap (λ v. length v.items) marks ∙ is.marks;
}

pub kept_shaped : (plan : Plan) (state : State) → IsKept plan state → IsShaped plan state
kept_shaped plan state kept = record {
  inputs = kept.sized.inputs;
  values = kept.sized.values;
  masks = kept.sized.masks.len;
  addresses = kept.sized.pins.len;
  marks = kept.sized.marks;
}

-- ---- a cycle

module _ (n : Network) (range : AreInRange n) (vector bits before values new : List Bool) (row : List Bool) (len : length vector ≡ n.inputs) (have : HaveInputs n vector bits) (latched : (t : ℕ) → IsLatched n t → value_in bits t ≡ value_in before t) (settled : AreTrueTo n (length n.tables) vector bits) (stored : AreTablesIn (length n.tables) values bits) (shown : row ≡ outputs_in n vector (value_in values)) (taken : HaveTakenTo n (length n.tables) vector bits new) where
  source_same : (s : Source) → IsSourceOf n s → bit_of vector (value_in bits) s ≡ bit_of vector (value_in values) s
  source_same (Input k) of = refl
  source_same (Table j) of = stored j of

  truth_as : (t : ℕ) → t < length n.tables → truth vector (value_in bits) (table_at n t) ≡ truth vector (value_in values) (table_at n t)
  truth_as t lt = same_truth n vector (value_in bits) (value_in values) t (λ p lp. source_same (source_at n t p) (range.sources t p lt lp))

  pub busy_cycle : (vectors rows : List (List Bool)) → RowsFrom n (value_in new) vectors rows → RowsFrom n (value_in before) (vector ∷ vectors) (row ∷ rows)
  busy_cycle vectors rows h = (
    value_in values,
    record {
      inputs = len;
      latched = λ t l. sym (stored t l.within) ∙ latched t l;
      combinational = λ t c. sym (stored t c.within) ∙ settled t c.within c ∙ truth_as t c.within;
    },
    shown,
    same_rows n vectors rows (value_in new) (next_state n vector (value_in values)) (λ t l. taken.taken t l.within l ∙ truth_as t l.within) h,
  )
