-- The rows of a plain network are those of its netlist.
use Rattle.std.proofs.Common.{◌≡◌, ◌⊎◌, ℕ, zero, suc, ◌+◌, ◌<◌, ◌||◌, Bool, true, false, List, [], ◌∷◌, length, get_or, map, refl, sym, ap, subst, ◌∙◌, inl, inr, arith, sum_by, if◌then◌else◌, slice_index_or, ◌==◌}
use Rattle.map_network.proofs.Vocabulary.{cases_eq, All, get_or-map, ext_get_or, length-map, NetlistData, LatchDef, PortDef, Input, Network}
use Rattle.design_netlist.specs.Covers as cover
use Rattle.design_netlist.specs.Vocabulary.{cover_at, word, signal_at, drive_words, IsDriven, IsChecked}
use Rattle.design_netlist.specs.Rows as netlist
use Rattle.design_netlist.proofs.ValuationLemmas as valuation
use Rattle.design_netlist.proofs.RightLemmas as right
use Rattle.map_network.specs.Vocabulary.{bit_of, pins_of, truth, IsNetworkValuation, outputs_in, next_state, first_state, RowsFrom, AreRows, HasRowsOf, cover_size, latch_table, source_of, plain_network, is_among, latch_at, no_latch}
use Rattle.map_network.proofs.CellLemmas.{gives_of}
use Rattle.map_network.proofs.NameLemmas.{among_same, among_other, no_both}
use Rattle.map_network.proofs.PlainLemmas.{true_or, length-cover}
use Rattle.map_network.proofs.ValueLemmas.{cover_value, pin_at, length-pins}
use Rattle.map_network.proofs.OriginLemmas.{start_of, rows_are, input_source, cover_source, latch_source, output_driven, latch_driven, input_driven, input_drives, cover_drives, latch_drives}
use Rattle.map_network.proofs.NetworkLemmas.{outputs_are, inputs_are, cover_table, latch_table_is, is_latched, cover_combinational, length_tables, network}
use Rattle.map_network.proofs.ValuationLemmas.{one_rows}

among_one : (xs : List ℕ) (k : ℕ) → k < length xs → is_among xs (get_or xs k 0) ≡ true
among_one [] k lk = absurd (omega arith)
among_one (x ∷ xs) zero lk = among_same x x xs refl
among_one (x ∷ xs) (suc k) lk = ap (λ b. (x == get_or xs k 0) || b) (among_one xs k (omega arith)) ∙ or_true (x == get_or xs k 0)
  where
    or_true : (b : Bool) → (b || true) ≡ true
    or_true true = refl
    or_true false = refl

among_place : (xs : List ℕ) (s : ℕ) → is_among xs s ≡ true → (k : ℕ) × (k < length xs) × (get_or xs k 0 ≡ s)
among_place [] s e = absurd (no_both (sym e))
among_place (x ∷ xs) s e = elim (cases_eq x s) [
  | inl f ↦ (0, omega arith, f)
  | inr d ↦ (let r = among_place xs s (sym (among_other x s xs d) ∙ e) in (suc r.0, omega (arith, r.1), r.2))
]

module _ (d : NetlistData) (is : IsChecked d) where
  is_driven : ℕ → Bool
  is_driven s = is_among (map (λ (w : PortDef). w.signal) (drive_words d)) s

  when_driven : (s : ℕ) → IsDriven d s → is_driven s ≡ true
  unfolding is_driven
  when_driven s p = subst (λ x. is_among (map (λ (w : PortDef). w.signal) (drive_words d)) x ≡ true) (get_or-map (λ (w : PortDef). w.signal) (drive_words d) p.0 (word 0 0) 0 p.1 ∙ p.2) (among_one (map (λ (w : PortDef). w.signal) (drive_words d)) p.0 (omega (arith, p.1, length-map (drive_words d) (λ (w : PortDef). w.signal))))

  when_not : (s : ℕ) → (IsDriven d s → ⊥) → is_driven s ≡ false
  unfolding is_driven
  when_not s none = by (true_or (is_among (map (λ (w : PortDef). w.signal) (drive_words d)) s))
    where
      by : (is_among (map (λ (w : PortDef). w.signal) (drive_words d)) s ≡ true) ⊎ (is_among (map (λ (w : PortDef). w.signal) (drive_words d)) s ≡ false) → is_among (map (λ (w : PortDef). w.signal) (drive_words d)) s ≡ false
      by (inr e) = e
      by (inl e) =
          let p = among_place (map (λ (w : PortDef). w.signal) (drive_words d)) s e in
          let l : p.0 < length (drive_words d) = omega (arith, p.1, length-map (drive_words d) (λ (w : PortDef). w.signal)) in
          absurd (none (p.0, l, sym (get_or-map (λ (w : PortDef). w.signal) (drive_words d) p.0 (word 0 0) 0 l) ∙ p.2))

  module _ (vector : List Bool) (h : ℕ → Bool) where
    -- the bits of the signals, by what the tables give
    value : ℕ → Bool
    value s = if is_driven s then bit_of vector h (source_of d s) else false

    value_is : (s : ℕ) → IsDriven d s → value s ≡ bit_of vector h (source_of d s)
    unfolding value
    value_is s p = ap (λ b. if b then bit_of vector h (source_of d s) else false) (when_driven s p)

    value_none : (s : ℕ) → (IsDriven d s → ⊥) → value s ≡ false
    unfolding value
    value_none s none = ap (λ b. if b then bit_of vector h (source_of d s) else false) (when_not s none)

    module _ (state : ℕ → Bool) (st : List Bool) (len : length st ≡ length d.latches) (same : (l : ℕ) → l < length d.latches → get_or st l false ≡ state (sum_by cover_size d.covers + l)) (p : IsNetworkValuation (plain_network d) state vector h) where
      inputs_right : map (λ (w : PortDef). value w.signal) d.inputs ≡ vector
      inputs_right = ext_get_or true _ _ (length-map d.inputs (λ (w : PortDef). value w.signal) ∙ sym (p.inputs ∙ inputs_are d is)) (λ k lk. (let l : k < length d.inputs = omega (arith, length-map d.inputs (λ (w : PortDef). value w.signal)) in
          get_or-map (λ (w : PortDef). value w.signal) d.inputs k (word 0 0) true l
          ∙ value_is (signal_at d.inputs k) (input_drives d is k l)
          ∙ ap (bit_of vector h) (input_source d is k l)))

      latches_right : map (λ (l : LatchDef). value l.out) d.latches ≡ st
      latches_right = ext_get_or false _ _ (length-map d.latches (λ (l : LatchDef). value l.out) ∙ sym len) (λ l ll. (let m : l < length d.latches = omega (arith, length-map d.latches (λ (x : LatchDef). value x.out)) in
          get_or-map (λ (x : LatchDef). value x.out) d.latches l no_latch false m
          ∙ value_is (latch_at d.latches l).out (latch_drives d is l m)
          ∙ ap (bit_of vector h) (latch_source d is l m)
          ∙ p.latched (sum_by cover_size d.covers + l) (record { within = omega (arith, length_tables d is); latched = is_latched d is l m })
          ∙ sym (same l m)))

      truths_right : (i : ℕ) → i < length d.covers → value (cover_at d.covers i).out ≡ cover.truth value (cover_at d.covers i)
      truths_right i li =
          value_is (cover_at d.covers i).out (cover_drives d is i li)
          ∙ ap (bit_of vector h) (cover_source d is i li)
          ∙ cover_value vector h (source_of d) (start_of d.covers i) (cover_at d.covers i) (rows_are d is i li) (λ k lk. (let l : k < cover_size (cover_at d.covers i) = omega (arith, length-cover (source_of d) (start_of d.covers i) (cover_at d.covers i) (rows_are d is i li)) in
          p.combinational (start_of d.covers i + k) (cover_combinational d is i k li l) ∙ ap (λ t. truth vector h t) (cover_table d is i k li l)))
          ∙ valuation.same_truth (λ s. bit_of vector h (source_of d s)) value (cover_at d.covers i) (λ k lk. sym (value_is (slice_index_or (cover_at d.covers i).ins k 0) (input_driven d is i k li lk)))

      right_too : netlist.IsRightValuation d st vector value
      right_too = record { inputs = inputs_right; latches = latches_right; truths = truths_right; others = value_none }

    outputs_too : outputs_in (plain_network d) vector h ≡ netlist.outputs_in d value
    outputs_too =
        ap (λ os. map (bit_of vector h) os) (outputs_are d is)
        ∙ ext_get_or true _ _ (length-map (map (λ (w : PortDef). source_of d w.signal) d.outputs) (bit_of vector h) ∙ length-map d.outputs (λ (w : PortDef). source_of d w.signal) ∙ sym (length-map d.outputs (λ (w : PortDef). value w.signal))) (λ k lk. (let l : k < length d.outputs = omega (arith, length-map (map (λ (w : PortDef). source_of d w.signal) d.outputs) (bit_of vector h), length-map d.outputs (λ (w : PortDef). source_of d w.signal)) in
        get_or-map (bit_of vector h) (map (λ (w : PortDef). source_of d w.signal) d.outputs) k (Input 0) true (omega (arith, length-map d.outputs (λ (w : PortDef). source_of d w.signal)))
        ∙ ap (bit_of vector h) (get_or-map (λ (w : PortDef). source_of d w.signal) d.outputs k (word 0 0) (Input 0) l)
        ∙ sym (value_is (signal_at d.outputs k) (output_driven d is k l))
        ∙ sym (get_or-map (λ (w : PortDef). value w.signal) d.outputs k (word 0 0) true l)))

    latch_value : (l : LatchDef) → truth vector h (latch_table (source_of d) l) ≡ bit_of vector h (source_of d l.from)
    unfolding latch_table
    latch_value l = gives_of (λ pins. get_or pins 0 true) (pins_of vector h (source_of d l.from ∷ [])) (length-pins vector h (source_of d l.from ∷ [])) ∙ pin_at vector h (source_of d l.from ∷ []) 0 (Input 0) (omega arith) (omega arith)

    state_too : (l : ℕ) → l < length d.latches → get_or (netlist.next_state d value) l false ≡ next_state (plain_network d) vector h (sum_by cover_size d.covers + l)
    state_too l ll =
        get_or-map (λ (x : LatchDef). value x.from) d.latches l no_latch false ll
        ∙ value_is (latch_at d.latches l).from (latch_driven d is l ll)
        ∙ sym (latch_value (latch_at d.latches l))
        ∙ ap (λ t. truth vector h t) (sym (latch_table_is d is l ll))

  -- from states that agree, the network's rows are the netlist's
  rows_too : (vectors rows : List (List Bool)) (state : ℕ → Bool) (st : List Bool) → length st ≡ length d.latches → ((l : ℕ) → l < length d.latches → get_or st l false ≡ state (sum_by cover_size d.covers + l)) → RowsFrom (plain_network d) state vectors rows → netlist.RowsFrom d st vectors rows
  rows_too [] [] state st len same p = tt
  rows_too [] (row ∷ rows) state st len same p = absurd p
  rows_too (v ∷ vs) [] state st len same p = absurd p
  rows_too (v ∷ vs) (row ∷ rows) state st len same p = (
    value v p.0,
    right_too v p.0 state st len same p.1,
    p.2 ∙ outputs_too v p.0,
    rows_too vs rows (next_state (plain_network d) v p.0) (netlist.next_state d (value v p.0)) (length-map d.latches (λ (x : LatchDef). value v p.0 x.from)) (λ l ll. state_too v p.0 l ll) p.3,
  )

  latch_init : (l : LatchDef) → (latch_table (source_of d) l).init ≡ l.init
  unfolding latch_table
  latch_init l = refl

  pub onward_rows : (vectors rows : List (List Bool)) → AreRows (plain_network d) vectors rows → netlist.AreRows d vectors rows
  onward_rows vectors rows p =
      rows_too vectors rows (first_state (plain_network d)) (netlist.first_state d) (length-map d.latches (λ (x : LatchDef). x.init)) (λ l ll.
      get_or-map (λ (x : LatchDef). x.init) d.latches l no_latch false ll
      ∙ sym (latch_init (latch_at d.latches l))
      ∙ ap (λ t. t.init) (sym (latch_table_is d is l ll))) p

  lengths : (st : List Bool) (vectors rows : List (List Bool)) → netlist.RowsFrom d st vectors rows → All (λ v. length v ≡ length d.inputs) vectors
  lengths st [] rows p = λ k e lk. absurd (let no : ⊥ = omega arith in no)
  lengths st (v ∷ vs) [] p = absurd p
  lengths st (v ∷ vs) (row ∷ rows) p = both (sym (ap length p.1.inputs) ∙ length-map d.inputs (λ (w : PortDef). p.0 w.signal)) (lengths (netlist.next_state d p.0) vs rows p.3)
    where
      both : length v ≡ length d.inputs → All (λ u. length u ≡ length d.inputs) vs → All (λ u. length u ≡ length d.inputs) (v ∷ vs)
      both e rest zero x lk = e
      both e rest (suc k) x lk = rest k x (omega arith)

  pub back_rows : (vectors rows : List (List Bool)) → netlist.AreRows d vectors rows → AreRows (plain_network d) vectors rows
  back_rows vectors rows p =
      let all = lengths (netlist.first_state d) vectors rows p in
      let some = one_rows (plain_network d) (network d is) vectors (subst (λ n. All (λ v. length v ≡ n) vectors) (sym (inputs_are d is)) all) in
      let one = right.one_rows d is (netlist.first_state d) vectors (length-map d.latches (λ (x : LatchDef). x.init)) all in
      let e : some.0 ≡ rows = one.2 some.0 (onward_rows vectors some.0 some.1) ∙ sym (one.2 rows p) in
      subst (λ r. AreRows (plain_network d) vectors r) e some.1

  pub has_rows : (n : Network) → n ≡ plain_network d → HasRowsOf n d
  has_rows n e = subst (λ x. HasRowsOf x d) (sym e) (λ vectors rows. (back_rows vectors rows, onward_rows vectors rows))
