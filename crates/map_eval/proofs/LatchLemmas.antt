-- Latched tables that take what they read.
use Rattle.std.proofs.Common.{◌≡◌, ◌⊎◌, Bool, ℕ, zero, suc, ◌+◌, ◌*◌, ◌/◌, ◌%◌, ◌-◌, ◌<◌, ◌≤◌, ◌&&◌, List, true, false, length, get_or, set, refl, sym, ap, subst, ◌∙◌, inl, inr, arith, bit_and, not}
use Rattle.map_eval.proofs.Vocabulary.{cases_eq, cases_lt, get_or-set_same, get_or-set_other, get_or_past, Network, cell_and, cell_not}
use Rattle.map_eval.proofs.Vocabulary.{cell_zero, Plan, State, number_at, is_marked, differs, value_in, IsPlan, IsKept, differs_in}
use Rattle.map_eval.proofs.Vocabulary.{IsTurnedAt, AreDueIn, AreDue, AreTurnedBy, HaveTaken}
use Rattle.map_network.specs.Vocabulary.{table_at, IsCombinational, IsLatched, cell_at, flip}

-- of the bits that are due, those that aren't left had their tables turned
pub record IsTurning (plan : Plan) (old state : State) (word due left : ℕ) : Type 0 where
  pub kept : IsKept plan state
  pub inputs : state.inputs.items ≡ old.inputs.items
  pub within : (bit : ℕ) → bit < 64 → cell_at left bit ≡ true → cell_at due bit ≡ true
  pub turned : (bit : ℕ) → bit < 64 → value_in state.values.items (64 * word + bit) ≡ flip (cell_at due bit && not (cell_at left bit)) (value_in old.values.items (64 * word + bit))
  pub others : (t : ℕ) → ((bit : ℕ) → bit < 64 → t ≡ 64 * word + bit → ⊥) → value_in state.values.items t ≡ value_in old.values.items t

-- the tables of the words before this were turned where they are due
pub record AreTakenTo (plan : Plan) (old state : State) (word : ℕ) (due : List ℕ) : Type 0 where
  pub kept : IsKept plan state
  pub inputs : state.inputs.items ≡ old.inputs.items
  pub done : (t : ℕ) → t / 64 < word → value_in state.values.items t ≡ flip (is_marked due t) (value_in old.values.items t)
  pub rest : (t : ℕ) → word ≤ t / 64 → value_in state.values.items t ≡ value_in old.values.items t

no_both : true ≡ false → ⊥
no_both e = cc

bool_or : (b : Bool) → (b ≡ true) ⊎ (b ≡ false)
bool_or true = inl refl
bool_or false = inr refl

-- ---- which tables are due

-- marked tables that are no gates are the latched ones that differ
module _ (plan : Plan) (state : State) (word : ℕ) (is : IsPlan plan) (kept : IsKept plan state) (gate : ℕ) (gate_is : gate ≡ number_at plan.gates.items word) (fits : gate < 18446744073709551616) (mark : ℕ) (mark_is : mark ≡ number_at state.marks.items word) where
  abbrev t : ℕ → ℕ
  t bit = 64 * word + bit

  abbrev start : ℕ
  start = bit_and mark (18446744073709551615 - gate)

  row : (bit : ℕ) → bit < 64 → t bit / 64 ≡ word
  row bit lb = omega arith

  col : (bit : ℕ) → bit < 64 → t bit % 64 ≡ bit
  col bit lb = omega arith

  mark_of : (words : List ℕ) (bit : ℕ) → bit < 64 → is_marked words (t bit) ≡ cell_at (number_at words word) bit
  mark_of words bit lb = ap (λ r. cell_at (number_at words r) (t bit % 64)) (row bit lb) ∙ ap (cell_at (number_at words word)) (col bit lb)

  start_is : (bit : ℕ) → bit < 64 → cell_at start bit ≡ (is_marked state.marks.items (t bit) && not (is_marked plan.gates.items (t bit)))
  start_is bit lb =
      cell_and mark (18446744073709551615 - gate) bit
      ∙ ap (λ b. cell_at mark bit && b) (cell_not gate bit fits lb)
      ∙ ap (λ m. cell_at m bit && not (cell_at gate bit)) mark_is
      ∙ ap (λ b. b && not (cell_at gate bit)) (sym (mark_of state.marks.items bit lb))
      ∙ ap (λ g. is_marked state.marks.items (t bit) && not (cell_at g bit)) gate_is
      ∙ ap (λ b. is_marked state.marks.items (t bit) && not b) (sym (mark_of plan.gates.items bit lb))

  and_first : (a b : Bool) → (a && not b) ≡ true → b ≡ false
  and_first true true e = cc
  and_first true false e = refl
  and_first false b e = absurd (no_both (sym e))

  latched_of : (bit : ℕ) → bit < 64 → cell_at start bit ≡ true → t bit < length plan.network.tables → IsLatched plan.network (t bit)
  latched_of bit lb e lt = record { within = lt; latched = by (bool_or (table_at plan.network (t bit)).latched) }
    where
      by : ((table_at plan.network (t bit)).latched ≡ true) ⊎ ((table_at plan.network (t bit)).latched ≡ false) → (table_at plan.network (t bit)).latched ≡ true
      by (inl f) = f
      by (inr f) = absurd (no_both (sym (is.gates.all (t bit) lt (record { within = lt; latched = f })) ∙ and_first (is_marked state.marks.items (t bit)) (is_marked plan.gates.items (t bit)) (sym (start_is bit lb) ∙ e)))

  not_gate : (bit : ℕ) → IsLatched plan.network (t bit) → is_marked plan.gates.items (t bit) ≡ false
  not_gate bit l = by (bool_or (is_marked plan.gates.items (t bit)))
    where
      by : (is_marked plan.gates.items (t bit) ≡ true) ⊎ (is_marked plan.gates.items (t bit) ≡ false) → is_marked plan.gates.items (t bit) ≡ false
      by (inr f) = f
      by (inl f) = absurd (no_both (sym l.latched ∙ (is.gates.only (t bit) f).latched))

  -- a table that differs is there
  there : (bit : ℕ) → differs_in state (t bit) ≡ true → t bit < length plan.network.tables
  there bit d = elim (cases_lt (t bit) (length plan.network.tables)) [
    | inl l ↦ l
    | inr g ↦ absurd (no_both (sym d ∙ ap (λ m. cell_at m (number_at state.addresses.items (t bit))) (get_or_past state.masks.items (t bit) 0 (let e = kept.sized.masks.len in omega arith)) ∙ cell_zero (number_at state.addresses.items (t bit))))
  ]

  first_of : (a b : Bool) → (a && b) ≡ true → a ≡ true
  first_of true b e = refl
  first_of false b e = e

  and_all : (b : Bool) → (b && not false) ≡ b
  and_all true = refl
  and_all false = refl

  pub due_of : AreDueIn plan state word start
  due_of = record {
    latched = λ bit lb l. start_is bit lb ∙ ap (λ b. is_marked state.marks.items (t bit) && not b) (not_gate bit l) ∙ and_all (is_marked state.marks.items (t bit)) ∙ kept.marked (t bit);
    within = λ bit lb e. latched_of bit lb e (there bit (sym (kept.marked (t bit)) ∙ first_of (is_marked state.marks.items (t bit)) (not (is_marked plan.gates.items (t bit))) (sym (start_is bit lb) ∙ e)));
  }

pub due_more : (plan : Plan) (state : State) (word : ℕ) (due : List ℕ) (x : ℕ) → word < length due → AreDue plan state word due → AreDueIn plan state word x → AreDue plan state (word + 1) (set due word x)
due_more plan state word due x lw old this w l = by (cases_eq w word)
  where
    by : (w ≡ word) ⊎ (w ≡ word → ⊥) → AreDueIn plan state w (number_at (set due word x) w)
    by (inl e) = subst (λ y. AreDueIn plan state y (number_at (set due word x) y)) (sym e) (subst (AreDueIn plan state word) (sym (get_or-set_same due word x 0 lw)) this)
    by (inr d) = subst (AreDueIn plan state w) (sym (get_or-set_other due word w x 0 d)) (old w (omega (arith, d)))

-- ---- tables that are turned

and_not : (b : Bool) → (b && not b) ≡ false
and_not true = refl
and_not false = refl

pub turning_first : (plan : Plan) (old : State) (word due : ℕ) → IsKept plan old → IsTurning plan old old word due due
turning_first plan old word due kept = record {
  kept = kept;
  inputs = refl;
  within = λ bit lb e. e;
  turned = λ bit lb. sym (ap (λ b. flip b (value_in old.values.items (64 * word + bit))) (and_not (cell_at due bit)));
  others = λ t h. refl;
}

not_twice : (b v : Bool) → not (flip b v) ≡ flip (not b) v
not_twice true true = refl
not_twice true false = refl
not_twice false true = refl
not_twice false false = refl

pub turning_more : (plan : Plan) (old cur new : State) (word due left left' bit : ℕ) → bit < 64 → 64 * word + bit < length plan.network.tables → cell_at left bit ≡ true → IsTurning plan old cur word due left → cell_at left' bit ≡ false → ((k : ℕ) → k < 64 → (k ≡ bit → ⊥) → cell_at left' k ≡ cell_at left k) → IsKept plan new → IsTurnedAt plan.network (64 * word + bit) cur new → IsTurning plan old new word due left'
turning_more plan old cur new word due left left' bit lb lt e was gone rest kept at = record {
  kept = kept;
  inputs = at.inputs ∙ was.inputs;
  within = λ k lk f. elim (cases_eq k bit) [
    | inl s ↦ absurd (no_both (sym f ∙ ap (cell_at left') s ∙ gone))
    | inr a ↦ was.within k lk (sym (rest k lk a) ∙ f)
  ];
  turned = λ k lk. by k lk (cases_eq k bit);
  others = λ t h. other t (λ s. h bit lb s) ∙ was.others t h;
}
  where
    this : value_in new.values.items (64 * word + bit) ≡ not (value_in cur.values.items (64 * word + bit))
    this = ap (λ vs. value_in vs (64 * word + bit)) at.values ∙ get_or-set_same cur.values.items (64 * word + bit) (not (value_in cur.values.items (64 * word + bit))) false (let l = was.kept.sized.values in omega arith)

    other : (t : ℕ) → (t ≡ 64 * word + bit → ⊥) → value_in new.values.items t ≡ value_in cur.values.items t
    other t d = ap (λ vs. value_in vs t) at.values ∙ get_or-set_other cur.values.items (64 * word + bit) t (not (value_in cur.values.items (64 * word + bit))) false d

    before : (cell_at due bit && not (cell_at left bit)) ≡ false
    before = ap (λ b. cell_at due bit && not b) e ∙ ap (λ b. b && not true) (was.within bit lb e)

    after : (cell_at due bit && not (cell_at left' bit)) ≡ true
    after = ap (λ b. cell_at due bit && not b) gone ∙ ap (λ b. b && not false) (was.within bit lb e)

    by : (k : ℕ) → k < 64 → (k ≡ bit) ⊎ (k ≡ bit → ⊥) → value_in new.values.items (64 * word + k) ≡ flip (cell_at due k && not (cell_at left' k)) (value_in old.values.items (64 * word + k))
    by k lk (inl s) =
        ap (λ x. value_in new.values.items (64 * word + x)) s
        ∙ this
        ∙ ap not (was.turned bit lb)
        ∙ ap (λ b. not (flip b (value_in old.values.items (64 * word + bit)))) before
        ∙ sym (ap (λ b. flip b (value_in old.values.items (64 * word + bit))) after)
        ∙ sym (ap (λ x. flip (cell_at due x && not (cell_at left' x)) (value_in old.values.items (64 * word + x))) s)
    by k lk (inr a) =
        other (64 * word + k) (λ f. a (omega (arith, f)))
        ∙ was.turned k lk
        ∙ ap (λ b. flip (cell_at due k && not b) (value_in old.values.items (64 * word + k))) (sym (rest k lk a))

and_yes : (b : Bool) → (b && not false) ≡ b
and_yes true = refl
and_yes false = refl

pub turning_done : (plan : Plan) (old new : State) (word due left : ℕ) → left ≡ 0 → IsTurning plan old new word due left → AreTurnedBy word due old new
turning_done plan old new word due left none is = record {
  inputs = is.inputs;
  turned = λ bit lb. is.turned bit lb ∙ ap (λ b. flip b (value_in old.values.items (64 * word + bit))) (ap (λ x. cell_at due bit && not (cell_at x bit)) none ∙ ap (λ b. cell_at due bit && not b) (cell_zero bit) ∙ and_yes (cell_at due bit));
  others = is.others;
}

-- ---- word by word

pub taken_first : (plan : Plan) (old : State) (due : List ℕ) → IsKept plan old → AreTakenTo plan old old 0 due
taken_first plan old due kept = record {
  kept = kept;
  inputs = refl;
  done = λ t l. absurd (let no : ⊥ = omega arith in no);
  rest = λ t l. refl;
}

pub taken_more : (plan : Plan) (old cur new : State) (word : ℕ) (due : List ℕ) → AreTakenTo plan old cur word due → IsKept plan new → AreTurnedBy word (number_at due word) cur new → AreTakenTo plan old new (word + 1) due
taken_more plan old cur new word due was kept by = record {
  kept = kept;
  inputs = by.inputs ∙ was.inputs;
  done = λ t l. elim (cases_eq (t / 64) word) [
    | inl e ↦ this t e
    | inr d ↦ by.others t (λ bit lb f. d (omega (arith, f))) ∙ was.done t (omega (arith, d))
  ];
  rest = λ t l. by.others t (λ bit lb f. (let no : ⊥ = omega (arith, f) in no)) ∙ was.rest t (omega arith);
}
  where
    this : (t : ℕ) → t / 64 ≡ word → value_in new.values.items t ≡ flip (is_marked due t) (value_in old.values.items t)
    this t e =
        let f : 64 * word + t % 64 ≡ t = omega (arith, e) in
        ap (value_in new.values.items) (sym f)
        ∙ by.turned (t % 64) (omega arith)
        ∙ ap (λ x. flip (cell_at (number_at due word) (t % 64)) (value_in cur.values.items x)) f
        ∙ ap (λ r. flip (cell_at (number_at due r) (t % 64)) (value_in cur.values.items t)) (sym e)
        ∙ ap (flip (is_marked due t)) (was.rest t (omega (arith, e)))

pub taken_all : (plan : Plan) (old new : State) (word : ℕ) (due : List ℕ) → IsPlan plan → length plan.gates.items ≤ word → AreDue plan old (length plan.gates.items) due → AreTakenTo plan old new word due → HaveTaken plan.network old new
taken_all plan old new word due is all are taken = record {
  inputs = taken.inputs;
  latched = λ t l. (
      let size = is.gates.size in
      let lt = l.within in
      let lw : t / 64 < length plan.gates.items = omega arith in
      let e : 64 * (t / 64) + t % 64 ≡ t = omega arith in
      taken.done t (omega arith) ∙ ap (λ b. flip b (value_in old.values.items t)) ((are (t / 64) lw).latched (t % 64) (omega arith) (subst (IsLatched plan.network) (sym e) l) ∙ ap (differs_in old) e));
}
