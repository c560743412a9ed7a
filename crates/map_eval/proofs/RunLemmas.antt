-- One cycle, and the rows that follow.
use Rattle.std.proofs.Common.{◌≡◌, ◌⊎◌, Bool, ℕ, zero, suc, ◌+◌, ◌*◌, ◌/◌, ◌%◌, ◌<◌, ◌≤◌, ◌&&◌, List, [], ◌∷◌, true, false, length, map, get_or, set, refl, sym, ap, subst, ◌∙◌, inl, inr, arith, bit_and, slice_index_or}
use Rattle.map_eval.proofs.Vocabulary.{range_with_len, All, cases_eq, cases_lt, ext_get_or, get_or-map, get_or_default, get_or_past}
use Rattle.map_eval.proofs.Vocabulary.{length-map, Source, Input, Table, NetTable, Network, cell_and, cell_zero, Plan, State, source_at}
use Rattle.map_eval.proofs.Vocabulary.{AreInRange, number_at, is_marked, value_in, IsLower, IsOrdered, IsPlan, IsKept, differs_in}
use Rattle.map_eval.proofs.Vocabulary.{AreGivenBefore, AreSettled, AreClear, HaveTaken, IsPlaced, IsStandIn, NetworkState, IsFirst}
use Rattle.map_eval.proofs.Vocabulary.{first_values}
use Rattle.map_network.specs.Vocabulary.{no_table, table_at, IsSourceOf, IsCombinational, IsLatched, IsNetwork, number_of, cell_at, bit_of, truth, IsNetworkValuation, outputs_in, next_state, first_state, RowsFrom, AreRows, flip, named_by, renamed, renamed_table}
use Rattle.map_eval.proofs.StateLemmas.{gives_truth, takes_truth}
use Rattle.map_network.proofs.CompactLemmas.{rows_between}

-- rows go on alike from states that latched tables can't tell apart
module _ (n : Network) where
  pub same_rows : (vectors rows : List (List Bool)) (f g : ℕ → Bool) → ((j : ℕ) → IsLatched n j → f j ≡ g j) → RowsFrom n f vectors rows → RowsFrom n g vectors rows
  same_rows [] [] f g same h = tt
  same_rows [] (row ∷ rows) f g same h = absurd h
  same_rows (v ∷ vs) [] f g same h = absurd h
  same_rows (v ∷ vs) (row ∷ rows) f g same h = (
    h.0,
    record { inputs = h.1.inputs; latched = λ j l. h.1.latched j l ∙ same j l; combinational = h.1.combinational },
    h.2,
    h.3,
  )

-- inputs have the vector, combinational tables were settled, and then latched ones took what they read
pub one_cycle : (plan : Plan) (old at new : State) (vector row : List Bool) → IsKept plan at → length vector ≡ plan.network.inputs → at.inputs.items ≡ vector → ((t : ℕ) → IsLatched plan.network t → value_in at.values.items t ≡ value_in old.values.items t) → AreSettled plan.network at → row ≡ outputs_in plan.network at.inputs.items (value_in at.values.items) → HaveTaken plan.network at new
    → (vectors rows : List (List Bool)) → RowsFrom plan.network (value_in new.values.items) vectors rows → RowsFrom plan.network (value_in old.values.items) (vector ∷ vectors) (row ∷ rows)
one_cycle plan old at new vector row kept len inputs latched settled shown taken vectors rows h = (
  value_in at.values.items,
  record {
    inputs = len;
    latched = latched;
    combinational = λ t c. (
        gives_truth plan.network at.inputs.items at.values.items at.addresses.items at.masks.items kept.sized.pins kept.sized.masks t c.within (settled t c)
        ∙ ap (λ v. truth v (value_in at.values.items) (table_at plan.network t)) inputs);
  },
  shown ∙ ap (λ v. outputs_in plan.network v (value_in at.values.items)) inputs,
  same_rows plan.network vectors rows (value_in new.values.items) (next_state plan.network vector (value_in at.values.items)) (λ t l.
      taken.latched t l
      ∙ takes_truth plan.network at.inputs.items at.values.items at.addresses.items at.masks.items kept.sized.pins kept.sized.masks t l.within
      ∙ ap (λ v. truth v (value_in at.values.items) (table_at plan.network t)) inputs) h,
)

-- at first
pub first_rows : (n : Network) (values : List Bool) → values ≡ first_values n.tables → (vectors rows : List (List Bool)) → RowsFrom n (value_in values) vectors rows → AreRows n vectors rows
first_rows n values e vectors rows h = same_rows n vectors rows (value_in values) (first_state n) (λ j l. ap (λ vs. value_in vs j) e ∙ get_or-map (λ (t : NetTable). t.init) n.tables j no_table false l.within) h

-- a network that stands in for the first, with its initial bits
pub first_of : (n m : Network) (e : NetworkState) → IsStandIn n m → e.network ≡ m → e.given ≡ first_values e.network.tables → IsFirst n e
first_of n m e is at given = record {
  inputs = ap (λ (x : Network). x.inputs) at ∙ is.inputs;
  outputs = ap (λ (x : Network). length x.outputs) at ∙ is.outputs;
  rows = λ vs rs h. is.rows vs rs (first_rows m e.given (given ∙ ap (λ (x : Network). first_values x.tables) at) vs rs (subst (λ (x : Network). RowsFrom x (value_in e.given) vs rs) at h));
}

-- ---- a network numbered anew

module _ (n m : Network) (is : IsNetwork n) (placed : IsPlaced n m) where
  abbrev f : ℕ → ℕ
  f = named_by placed.places

  module _ (vector : List Bool) (given : ℕ → Bool) where
    abbrev before : ℕ → Bool
    before j = given (f j)

    bit_same : (s : Source) → bit_of vector given (renamed f s) ≡ bit_of vector before s
    bit_same (Input k) = refl
    bit_same (Table j) = refl

    bits_same : (ss : List Source) → map (bit_of vector given) (map (renamed f) ss) ≡ map (bit_of vector before) ss
    bits_same [] = refl
    bits_same (s ∷ ss) = ap (λ xs. bit_of vector given (renamed f s) ∷ xs) (bits_same ss) ∙ ap (λ x. x ∷ map (bit_of vector before) ss) (bit_same s)

    truth_same : (j : ℕ) → j < length n.tables → truth vector given (table_at m (f j)) ≡ truth vector before (table_at n j)
    truth_same j lj =
        ap (truth vector given) (placed.tables j lj).1
        ∙ ap (λ bits. cell_at (table_at n j).cells (number_of (map (λ x. slice_index_or bits x true) (range_with_len 0 6)))) (bits_same (table_at n j).ins)

    outputs_same : outputs_in m vector given ≡ outputs_in n vector before
    outputs_same = ap (map (bit_of vector given)) placed.outputs ∙ bits_same n.outputs

    latched_at : (j : ℕ) → IsLatched n j → IsLatched m (f j)
    latched_at j l = record { within = (placed.tables j l.within).0; latched = ap (λ t. t.latched) (placed.tables j l.within).1 ∙ l.latched }

    combinational_at : (j : ℕ) → IsCombinational n j → IsCombinational m (f j)
    combinational_at j c = record { within = (placed.tables j c.within).0; latched = ap (λ t. t.latched) (placed.tables j c.within).1 ∙ c.latched }

    right_before : (state less : ℕ → Bool) → ((j : ℕ) → j < length n.tables → less j ≡ state (f j)) → IsNetworkValuation m state vector given → IsNetworkValuation n less vector before
    right_before state less same p = record {
      inputs = p.inputs ∙ placed.inputs;
      latched = λ j l. p.latched (f j) (latched_at j l) ∙ sym (same j l.within);
      combinational = λ j c. p.combinational (f j) (combinational_at j c) ∙ truth_same j c.within;
    }

  pub placed_rows : (vectors rows : List (List Bool)) → AreRows m vectors rows → AreRows n vectors rows
  placed_rows vectors rows p =
      rows_between m n before (λ state less. (j : ℕ) → j < length n.tables → less j ≡ state (f j)) right_before outputs_same (λ v given j lj. sym (truth_same v given j lj)) vectors rows
      (first_state m) (first_state n) (λ j lj. sym (ap (λ (t : NetTable). t.init) (placed.tables j lj).1)) p

  pub stands_in : AreInRange m → IsOrdered m → IsStandIn n m
  stands_in range ordered = record {
    count = placed.count;
    inputs = placed.inputs;
    outputs = ap length placed.outputs ∙ length-map n.outputs (renamed f);
    rows = placed_rows;
    range = range;
    ordered = ordered;
  }

-- the network itself
pub range_of : (n : Network) → IsNetwork n → AreInRange n
range_of n is = record {
  few = λ t lt. is.narrow t no_table lt;
  sources = λ t p lt lp. is.sources t no_table lt p (Input 0) lp;
}

pub own_stand_in : (n m : Network) → IsNetwork n → m ≡ n → IsOrdered n → IsStandIn n m
own_stand_in n m is e ordered = subst (IsStandIn n) (sym e) (record {
  count = refl;
  inputs = refl;
  outputs = refl;
  rows = λ vs rs h. h;
  range = range_of n is;
  ordered = ordered;
})

-- ---- sweeps

pub same_before : (n : Network) (s : State) → AreGivenBefore n s s
same_before n s = record { inputs = refl; latched = λ t l. refl }

pub before_then : (n : Network) (a b c : State) → AreGivenBefore n a b → AreGivenBefore n b c → AreGivenBefore n a c
before_then n a b c p q = record { inputs = q.inputs ∙ p.inputs; latched = λ t l. q.latched t l ∙ p.latched t l }

no_both : true ≡ false → ⊥
no_both e = cc

and_true : (a b : Bool) → (a && b) ≡ false → b ≡ true → a ≡ false
and_true true b e f = absurd (no_both (sym f ∙ e))
and_true false b e f = refl

-- no word has a mark of a gate
pub clear_all : (gates marks : List ℕ) (m : ℕ) → length marks ≤ m → ((w : ℕ) → w < m → bit_and (number_at marks w) (number_at gates w) ≡ 0) → AreClear gates marks
clear_all gates marks m all none t gate = elim (cases_lt (t / 64) m) [
  | inl l ↦ and_true (is_marked marks t) (is_marked gates t) (sym (cell_and (number_at marks (t / 64)) (number_at gates (t / 64)) (t % 64)) ∙ ap (λ w. cell_at w (t % 64)) (none (t / 64) l) ∙ cell_zero (t % 64)) gate
  | inr g ↦ ap (λ w. cell_at w (t % 64)) (get_or_past marks (t / 64) 0 (omega arith)) ∙ cell_zero (t % 64)
]

pub clear_settled : (plan : Plan) (s : State) → IsPlan plan → IsKept plan s → AreClear plan.gates.items s.marks.items → AreSettled plan.network s
clear_settled plan s is kept clear t c = sym (kept.marked t) ∙ clear t (is.gates.all t c.within c)
