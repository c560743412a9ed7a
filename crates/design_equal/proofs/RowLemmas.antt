-- A design that is labelled by a graph has the graph's rows.
use Rattle.std.proofs.Common.{◌≡◌, ◌⊎◌, ℕ, suc, ◌+◌, ◌<◌, ◌≤◌, ◌==◌, Bool, false, List, [], ◌∷◌, length, map, replicate, get_or, refl, sym, ap, subst, ◌∙◌, inl, inr, arith, ◌↔◌}
use Rattle.design_equal.proofs.Vocabulary.{cases_lt, Graph, IsValued, first_latch, literal_in}
use Rattle.std.proofs.lemmas.List.{get_or-map, length-map, length-replicate, get_or_past}
use Rattle.design_netlist.specs.declared.netlist_data.{NetlistData.NetlistData, LatchDef.LatchDef, PortDef.PortDef}
use Rattle.design_netlist.specs.Vocabulary.{IsChecked, word, signal_at, IsDriven, IsRightValuation, RowsFrom, AreRows, outputs_in, next_state, first_state}
use Rattle.design_netlist.proofs.RightLemmas.{map_each, map_is, right_agrees}
use Rattle.design_equal.specs.declared.graph.GraphLatch.{GraphLatch}
use Rattle.design_equal.specs.Labels.{label_at, signal_bits, IsLatchAt, IsConstantLatch, IsLatchOf, IsLabelled, DoAgree, output_labels}
use Rattle.design_equal.proofs.GraphLemmas.{bit_of, even_literal, constant_literal, node_bits, bits_valued, input_bit, latch_bit}

map_twice : (f : ℕ → Bool) (labels : List ℕ) (ps : List PortDef) → map (λ p. f (label_at labels p.signal)) ps ≡ map f (map (λ p. label_at labels p.signal) ps)
map_twice f labels [] = refl
map_twice f labels (p ∷ ps) = ap (λ bs. f (label_at labels p.signal) ∷ bs) (map_twice f labels ps)

abbrev no_latch : LatchDef
no_latch = record { from = 0; out = 0; init = false; line = 0 }

abbrev no_graph_latch : GraphLatch
no_graph_latch = record { next = 0; init = false }

-- what a graph does: a row for each vector, the bits of some literals, and the next state of its latches
abbrev next_of : Graph → (ℕ → Bool) → List Bool
next_of g bits = map (λ x. literal_in bits x.next) g.latches

abbrev first_of_graph : Graph → List Bool
first_of_graph g = map (λ x. x.init) g.latches

abbrev GraphRows : Graph → List ℕ → List Bool → List (List Bool) → List (List Bool) → Type 0
GraphRows g outs state [] [] = Unit {0}
GraphRows g outs state [] (row ∷ rows) = ⊥
GraphRows g outs state (vector ∷ vectors) [] = ⊥
GraphRows g outs state (vector ∷ vectors) (row ∷ rows) =
    (length vector ≡ g.inputs) × (row ≡ map (literal_in (bit_of (node_bits g state vector))) outs)
    × GraphRows g outs (next_of g (bit_of (node_bits g state vector))) vectors rows

module _ (g : Graph) (d : NetlistData) (labels : List ℕ) (is : IsLabelled g d labels) where
  -- the latches' bits in a state of the graph's latches
  abbrev held : List Bool → LatchDef → Bool
  held state l = literal_in (bit_of (node_bits g state (replicate g.inputs false))) (label_at labels l.out)

  abbrev state_of : List Bool → List Bool
  state_of state = map (held state) d.latches

  module _ (state vector : List Bool) (sized : length state ≡ length g.latches) (wide : length vector ≡ g.inputs) where
    abbrev f : ℕ → Bool
    f = bit_of (node_bits g state vector)

    valued : IsValued g f
    valued = bits_valued g state vector sized wide is.graph

    out_bit : (l : LatchDef) → IsLatchOf g labels l → (b : Bool)
        → ((k : ℕ) → IsLatchAt g labels l k → b ≡ get_or state k false) → (IsConstantLatch labels l → b ≡ (label_at labels l.out == 1))
        → literal_in f (label_at labels l.out) ≡ b
    out_bit l (inl (k, at)) b kept constant =
        even_literal f (label_at labels l.out) (first_latch g + k) at.out ∙ latch_bit g state vector sized wide k (omega (arith, at.within, sized)) ∙ sym (kept k at)
    out_bit l (inr at) b kept constant = constant_literal f (label_at labels l.out) valued.zero at.out ∙ sym (constant at)

  wide_zeros : length (replicate g.inputs false) ≡ g.inputs
  wide_zeros = length-replicate g.inputs false

  -- an output of a latch has its bit in the state, whatever the vector
  held_bit : (state vector : List Bool) → length state ≡ length g.latches → length vector ≡ g.inputs → (l : LatchDef) → IsLatchOf g labels l
      → literal_in (bit_of (node_bits g state vector)) (label_at labels l.out) ≡ held state l
  held_bit state vector sized wide l of =
      out_bit state vector sized wide l of (held state l)
      (λ k at. even_literal (bit_of (node_bits g state (replicate g.inputs false))) (label_at labels l.out) (first_latch g + k) at.out ∙ latch_bit g state (replicate g.inputs false) sized wide_zeros k (omega (arith, at.within, sized)))
      (λ at. constant_literal (bit_of (node_bits g state (replicate g.inputs false))) (label_at labels l.out) (bits_valued g state (replicate g.inputs false) sized wide_zeros is.graph).zero at.out)

  first_is : first_state d ≡ state_of (first_of_graph g)
  first_is = map_each (λ (l : LatchDef). l.init) (held (first_of_graph g)) no_latch d.latches (λ k lk.
      sym (out_bit (first_of_graph g) (replicate g.inputs false) sized wide_zeros (get_or d.latches k no_latch) (is.latches k lk) (get_or d.latches k no_latch).init
      (λ j at. sym (get_or-map (λ (x : GraphLatch). x.init) g.latches j no_graph_latch false at.within ∙ at.init))
      (λ at. at.init)))
    where
      sized : length (first_of_graph g) ≡ length g.latches
      sized = length-map g.latches (λ (x : GraphLatch). x.init)

  module _ (state vector : List Bool) (sized : length state ≡ length g.latches) (wide : length vector ≡ g.inputs) where
    sized_next : length (next_of g (f state vector sized wide)) ≡ length g.latches
    sized_next = length-map g.latches (λ (x : GraphLatch). literal_in (f state vector sized wide) x.next)

    next_is : map (λ l. literal_in (f state vector sized wide) (label_at labels l.from)) d.latches ≡ state_of (next_of g (f state vector sized wide))
    next_is = map_each (λ (l : LatchDef). literal_in (f state vector sized wide) (label_at labels l.from)) (held (next_of g (f state vector sized wide))) no_latch d.latches (λ k lk.
        sym (out_bit (next_of g (f state vector sized wide)) (replicate g.inputs false) sized_next wide_zeros (get_or d.latches k no_latch) (is.latches k lk)
        (literal_in (f state vector sized wide) (label_at labels (get_or d.latches k no_latch).from))
        (λ j at. sym (get_or-map (λ (x : GraphLatch). literal_in (f state vector sized wide) x.next) g.latches j no_graph_latch false at.within ∙ ap (literal_in (f state vector sized wide)) at.from))
        (λ at. ap (literal_in (f state vector sized wide)) at.from ∙ constant_literal (f state vector sized wide) (label_at labels (get_or d.latches k no_latch).out) (valued state vector sized wide).zero at.out)))

    undriven : (s : ℕ) → (IsDriven d s → ⊥) → label_at labels s ≡ 0
    undriven s none = by (cases_lt s (length d.names))
      where
        by : (s < length d.names) ⊎ (length d.names ≤ s) → label_at labels s ≡ 0
        by (inl l) = is.others s l none
        by (inr l) = get_or_past labels s 0 (omega (arith, is.count))

    pub labels_right : IsRightValuation d (state_of state) vector (signal_bits (f state vector sized wide) labels)
    labels_right = record {
      inputs = map_is (λ (p : PortDef). signal_bits (f state vector sized wide) labels p.signal) (word 0 0) d.inputs vector (wide ∙ is.ports) (λ k lk.
          even_literal (f state vector sized wide) (label_at labels (signal_at d.inputs k)) (1 + k) (is.inputs k lk) ∙ input_bit g state vector sized wide k (omega (arith, wide, is.ports)));
      latches = map_each (λ (l : LatchDef). signal_bits (f state vector sized wide) labels l.out) (held state) no_latch d.latches (λ k lk. held_bit state vector sized wide (get_or d.latches k no_latch) (is.latches k lk));
      truths = λ i li. is.truths i li (f state vector sized wide) (valued state vector sized wide);
      others = λ s none. ap (literal_in (f state vector sized wide)) (undriven s none) ∙ (valued state vector sized wide).zero;
    }

  rows_are : (vectors rows : List (List Bool)) (state : List Bool) → length state ≡ length g.latches → GraphRows g (output_labels d labels) state vectors rows → RowsFrom d (state_of state) vectors rows
  rows_are [] [] state sized t = t
  rows_are [] (row ∷ rows) state sized t = absurd t
  rows_are (vector ∷ vectors) [] state sized t = absurd t
  rows_are (vector ∷ vectors) (row ∷ rows) state sized (wide, e, rest) = (
    signal_bits (f state vector sized wide) labels,
    labels_right state vector sized wide,
    e ∙ sym (map_twice (literal_in (f state vector sized wide)) labels d.outputs),
    subst (λ s. RowsFrom d s vectors rows) (sym (next_is state vector sized wide))
        (rows_are vectors rows (next_of g (f state vector sized wide)) (sized_next state vector sized wide) rest),
  )

  module _ (checked : IsChecked d) where
    wide_as : (state vector : List Bool) (given : ℕ → Bool) → IsRightValuation d state vector given → length vector ≡ g.inputs
    wide_as state vector given right = ap (λ (bs : List Bool). length bs) (sym right.inputs) ∙ length-map d.inputs (λ (p : PortDef). given p.signal) ∙ sym is.ports

    graph_rows : (vectors rows : List (List Bool)) (state : List Bool) → length state ≡ length g.latches → RowsFrom d (state_of state) vectors rows → GraphRows g (output_labels d labels) state vectors rows
    graph_rows [] [] state sized t = t
    graph_rows [] (row ∷ rows) state sized t = absurd t
    graph_rows (vector ∷ vectors) [] state sized t = absurd t
    graph_rows (vector ∷ vectors) (row ∷ rows) state sized (given, right, e, rest) =
        let wide : length vector ≡ g.inputs = wide_as (state_of state) vector given right in
        let mine : ℕ → Bool = signal_bits (f state vector sized wide) labels in
        let same : (s : ℕ) → given s ≡ mine s = right_agrees d checked (state_of state) vector given mine right (labels_right state vector sized wide) in
        let equal : given ≡ mine = (λ i s. same s i) in (
          wide,
          e ∙ ap (λ (h : ℕ → Bool). outputs_in d h) equal ∙ map_twice (literal_in (f state vector sized wide)) labels d.outputs,
          graph_rows vectors rows (next_of g (f state vector sized wide)) (sized_next state vector sized wide)
              (subst (λ s. RowsFrom d s vectors rows) (ap (λ (h : ℕ → Bool). next_state d h) equal ∙ next_is state vector sized wide) rest),
        )

    pub rows_both : (vectors rows : List (List Bool)) → AreRows d vectors rows ↔ GraphRows g (output_labels d labels) (first_of_graph g) vectors rows
    rows_both vectors rows = (
      (λ r. graph_rows vectors rows (first_of_graph g) (length-map g.latches (λ (x : GraphLatch). x.init)) (subst (λ s. RowsFrom d s vectors rows) first_is r)),
      (λ r. subst (λ s. RowsFrom d s vectors rows) (sym first_is) (rows_are vectors rows (first_of_graph g) (length-map g.latches (λ (x : GraphLatch). x.init)) r)),
    )

pub alike : (g : Graph) (a b : NetlistData) (first second : List ℕ) (vectors rows : List (List Bool)) → IsChecked a → IsChecked b → DoAgree g a first b second → AreRows a vectors rows ↔ AreRows b vectors rows
alike g a b first second vectors rows ca cb both =
    let one : AreRows a vectors rows ↔ GraphRows g (output_labels a first) (first_of_graph g) vectors rows = rows_both g a first both.first_is ca vectors rows in
    let other : AreRows b vectors rows ↔ GraphRows g (output_labels b second) (first_of_graph g) vectors rows = rows_both g b second both.second_is cb vectors rows in (
      (λ r. other.1 (subst (λ outs. GraphRows g outs (first_of_graph g) vectors rows) both.outputs (one.0 r))),
      (λ r. one.1 (subst (λ outs. GraphRows g outs (first_of_graph g) vectors rows) (sym both.outputs) (other.0 r))),
    )
