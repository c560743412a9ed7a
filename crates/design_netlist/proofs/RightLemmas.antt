-- A checked design has exactly one right valuation for each state and vector, and so exactly one list of rows.
use Rattle.std.proofs.Common.{◌≡◌, ◌⊎◌, ℕ, zero, suc, ◌+◌, ◌-◌, ◌<◌, ◌≤◌, Bool, false, cond, List, [], ◌∷◌, ◌++◌, length, get_or, map, refl, sym, ap, subst, ◌∙◌, inl, inr, arith}
use Rattle.design_netlist.proofs.Vocabulary.{All, Contains, eqb, cases_lt, eq-eqb, Cover, NetlistData, LatchDef, PortDef}
use Rattle.std.proofs.lemmas.List.{get_or-map, get_or_append_left, get_or-append-add, length-map, length-append}
use Rattle.design_netlist.specs.Vocabulary.{cover_at, word, signal_at, cover_drive, latch_drive, drive_words, IsDriven, IsSettled, IsChecked, IsRightValuation, HasOneRight, RowsFrom, outputs_in, next_state}
use Rattle.design_netlist.proofs.ListLemmas.{not_equal, stands_or}
use Rattle.design_netlist.proofs.CheckLemmas.{cover_place, cover_signal, outs_apart}
use Rattle.design_netlist.proofs.ValuationLemmas.{one_valuation}

pub map_each : {X : Type 0} (f g : X → Bool) (d : X) (xs : List X) → ((k : ℕ) → k < length xs → f (get_or xs k d) ≡ g (get_or xs k d)) → map f xs ≡ map g xs
map_each f g d [] h = refl
map_each f g d (x ∷ xs) h = ap (λ b. b ∷ map f xs) (h 0 (omega arith)) ∙ ap (λ bs. g x ∷ bs) (map_each f g d xs (λ k lk. h (suc k) (omega arith)))

pub map_is : {X : Type 0} (f : X → Bool) (d : X) (xs : List X) (bs : List Bool) → length bs ≡ length xs → ((k : ℕ) → k < length xs → f (get_or xs k d) ≡ get_or bs k false) → map f xs ≡ bs
map_is f d [] [] e h = refl
map_is f d [] (b ∷ bs) e h = absurd (omega arith)
map_is f d (x ∷ xs) [] e h = absurd (omega arith)
map_is f d (x ∷ xs) (b ∷ bs) e h = ap (λ c. c ∷ map f xs) (h 0 (omega arith)) ∙ ap (λ cs. b ∷ cs) (map_is f d xs bs (omega arith) (λ k lk. h (suc k) (omega arith)))

at_map : {X : Type 0} (f : X → Bool) (d : X) (xs : List X) (bs : List Bool) (k : ℕ) → map f xs ≡ bs → k < length xs → f (get_or xs k d) ≡ get_or bs k false
at_map f d xs bs k e lk = sym (get_or-map f xs k d false lk) ∙ ap (λ cs. get_or cs k false) e

abbrev no_port : PortDef
no_port = word 0 0

abbrev no_latch : LatchDef
no_latch = record { from = 0; out = 0; init = false; line = 0 }

-- the bit that stands at the first place of a number
first_bit : List ℕ → List Bool → ℕ → Bool
first_bit [] bs s = false
first_bit (x ∷ xs) [] s = false
first_bit (x ∷ xs) (b ∷ bs) s = cond (eqb x s) b (first_bit xs bs s)

first_bit_at : (xs : List ℕ) (bs : List Bool) (k : ℕ) → k < length xs → length bs ≡ length xs → ((j : ℕ) → j < k → get_or xs j 0 ≡ get_or xs k 0 → ⊥) → first_bit xs bs (get_or xs k 0) ≡ get_or bs k false
unfolding first_bit
first_bit_at [] bs k lk e h = absurd (omega arith)
first_bit_at (x ∷ xs) [] k lk e h = absurd (omega arith)
first_bit_at (x ∷ xs) (b ∷ bs) zero lk e h = ap (λ c. cond c b (first_bit xs bs x)) (eq-eqb x x refl)
first_bit_at (x ∷ xs) (b ∷ bs) (suc k) lk e h =
    ap (λ c. cond c b (first_bit xs bs (get_or xs k 0))) (not_equal x (get_or xs k 0) (h 0 (omega arith))) ∙ first_bit_at xs bs k (omega arith) (omega arith) (λ j lj. h (suc j) (omega arith))

first_bit_none : (xs : List ℕ) (bs : List Bool) (s : ℕ) → ((k : ℕ) → k < length xs → get_or xs k 0 ≡ s → ⊥) → first_bit xs bs s ≡ false
unfolding first_bit
first_bit_none [] bs s h = refl
first_bit_none (x ∷ xs) [] s h = refl
first_bit_none (x ∷ xs) (b ∷ bs) s h = ap (λ c. cond c b (first_bit xs bs s)) (not_equal x s (h 0 (omega arith))) ∙ first_bit_none xs bs s (λ k lk. h (suc k) (omega arith))

module _ (d : NetlistData) where
  inputs_covers : List PortDef
  inputs_covers = d.inputs ++ map cover_drive d.covers

  length_drives : length (drive_words d) ≡ length d.inputs + length d.covers + length d.latches
  length_drives = omega (arith, length-append (d.inputs ++ map cover_drive d.covers) (map latch_drive d.latches), length-append d.inputs (map cover_drive d.covers), length-map d.covers cover_drive, length-map d.latches latch_drive)

  input_signal : (k : ℕ) → k < length d.inputs → signal_at (drive_words d) k ≡ (get_or d.inputs k no_port).signal
  input_signal k lk =
      ap (λ (w : PortDef). w.signal)
      (get_or_append_left (d.inputs ++ map cover_drive d.covers) (map latch_drive d.latches) no_port k (omega (arith, length-append d.inputs (map cover_drive d.covers)))
      ∙ get_or_append_left d.inputs (map cover_drive d.covers) no_port k lk)

  latch_signal : (k : ℕ) → k < length d.latches → signal_at (drive_words d) (length d.inputs + length d.covers + k) ≡ (get_or d.latches k no_latch).out
  latch_signal k lk =
      let n : length d.inputs + length d.covers ≡ length (d.inputs ++ map cover_drive d.covers) = omega (arith, length-append d.inputs (map cover_drive d.covers), length-map d.covers cover_drive) in
      ap (λ (w : PortDef). w.signal)
      (ap (λ m. get_or (drive_words d) (m + k) no_port) n
      ∙ get_or-append-add (d.inputs ++ map cover_drive d.covers) (map latch_drive d.latches) k no_port
      ∙ get_or-map latch_drive d.latches k no_latch no_port lk)

  module _ (is : IsChecked d) where
    -- no cover drives an input, or the output of a latch
    not_input : (k : ℕ) → k < length d.inputs → (i : ℕ) → i < length d.covers → (cover_at d.covers i).out ≡ (get_or d.inputs k no_port).signal → ⊥
    not_input k lk i li e = is.once k (length d.inputs + i) (omega arith) (cover_place d i li) (input_signal k lk ∙ sym e ∙ sym (cover_signal d i li))

    not_latch : (k : ℕ) → k < length d.latches → (i : ℕ) → i < length d.covers → (cover_at d.covers i).out ≡ (get_or d.latches k no_latch).out → ⊥
    not_latch k lk i li e = is.once (length d.inputs + i) (length d.inputs + length d.covers + k) (omega arith) (omega (arith, length_drives)) (cover_signal d i li ∙ e ∙ sym (latch_signal k lk))

    -- covers that are settled over the vector, the state and 0 are right
    pub settled_is_right : (state vector : List Bool) (base given : ℕ → Bool) → map (λ p. base p.signal) d.inputs ≡ vector → map (λ l. base l.out) d.latches ≡ state → ((s : ℕ) → (IsDriven d s → ⊥) → base s ≡ false) → IsSettled d.covers base given → IsRightValuation d state vector given
    settled_is_right state vector base given inputs latches others settled = record {
      inputs = map_each (λ (p : PortDef). given p.signal) (λ (p : PortDef). base p.signal) no_port d.inputs (λ k lk. settled.others (get_or d.inputs k no_port).signal (not_input k lk)) ∙ inputs;
      latches = map_each (λ (l : LatchDef). given l.out) (λ (l : LatchDef). base l.out) no_latch d.latches (λ k lk. settled.others (get_or d.latches k no_latch).out (not_latch k lk)) ∙ latches;
      truths = settled.truths;
      others = λ s none. settled.others s (λ i li e. none (length d.inputs + i, cover_place d i li, cover_signal d i li ∙ e)) ∙ others s none;
    }

    -- who drives a signal
    data Source (s : ℕ) : Type 0 where
      nobody : (IsDriven d s → ⊥) → Source s
      input : (k : ℕ) → k < length d.inputs → (get_or d.inputs k no_port).signal ≡ s → Source s
      cover : (i : ℕ) → i < length d.covers → (cover_at d.covers i).out ≡ s → Source s
      latch : (k : ℕ) → k < length d.latches → (get_or d.latches k no_latch).out ≡ s → Source s

    signals : List ℕ
    signals = map (λ (w : PortDef). w.signal) (drive_words d)

    signal_is : (k e : ℕ) → k < length (drive_words d) → get_or signals k e ≡ signal_at (drive_words d) k
    unfolding signals
    signal_is k e lk = get_or-map (λ (w : PortDef). w.signal) (drive_words d) k no_port e lk

    length_signals : length signals ≡ length (drive_words d)
    unfolding signals
    length_signals = length-map (drive_words d) (λ (w : PortDef). w.signal)

    place : (k s : ℕ) → k < length (drive_words d) → signal_at (drive_words d) k ≡ s → Source s
    place k s lk e = by (cases_lt k (length d.inputs)) (cases_lt k (length d.inputs + length d.covers))
      where
        by : (k < length d.inputs) ⊎ (length d.inputs ≤ k) → (k < length d.inputs + length d.covers) ⊎ (length d.inputs + length d.covers ≤ k) → Source s
        by (inl l) o = input k l (sym (input_signal k l) ∙ e)
        by (inr g) (inl l) =
            let i : ℕ = k - length d.inputs in
            let at : length d.inputs + i ≡ k = omega arith in
            cover i (omega arith) (sym (cover_signal d i (omega arith)) ∙ ap (λ x. signal_at (drive_words d) x) at ∙ e)
        by (inr g) (inr h) =
            let i : ℕ = k - (length d.inputs + length d.covers) in
            let at : length d.inputs + length d.covers + i ≡ k = omega arith in
            let li : i < length d.latches = omega (arith, length_drives) in
            latch i li (sym (latch_signal i li) ∙ ap (λ x. signal_at (drive_words d) x) at ∙ e)

    source : (s : ℕ) → Source s
    source s = by (stands_or signals s)
      where
        by : Contains signals s ⊎ (Contains signals s → ⊥) → Source s
        by (inl c) = let lk : c.0 < length (drive_words d) = omega (arith, c.1, length_signals) in place c.0 s lk (sym (signal_is c.0 s lk) ∙ c.2)
        by (inr n) = nobody (λ driven. n (driven.0, omega (arith, driven.1, length_signals), signal_is driven.0 s driven.1 ∙ driven.2))

    -- a right valuation is settled over another one
    settled_over : (state vector : List Bool) (x y : ℕ → Bool) → IsRightValuation d state vector x → IsRightValuation d state vector y → IsSettled d.covers x y
    settled_over state vector x y p q = record { truths = q.truths; others = λ s none. by s none (source s) }
      where
        by : (s : ℕ) → ((i : ℕ) → i < length d.covers → (cover_at d.covers i).out ≡ s → ⊥) → Source s → y s ≡ x s
        by s none (nobody n) = q.others s n ∙ sym (p.others s n)
        by s none (input k lk e) = subst (λ z. y z ≡ x z) e (at_map (λ (p : PortDef). y p.signal) no_port d.inputs vector k q.inputs lk ∙ sym (at_map (λ (p : PortDef). x p.signal) no_port d.inputs vector k p.inputs lk))
        by s none (cover i li e) = absurd (none i li e)
        by s none (latch k lk e) = subst (λ z. y z ≡ x z) e (at_map (λ (l : LatchDef). y l.out) no_latch d.latches state k q.latches lk ∙ sym (at_map (λ (l : LatchDef). x l.out) no_latch d.latches state k p.latches lk))

    pub right_agrees : (state vector : List Bool) (x y : ℕ → Bool) → IsRightValuation d state vector x → IsRightValuation d state vector y → (s : ℕ) → x s ≡ y s
    right_agrees state vector x y p q s =
        let one = one_valuation d.covers (outs_apart d is.once) is.acyclic x in
        one.2 x (settled_over state vector x x p p) s ∙ sym (one.2 y (settled_over state vector x y p q) s)

    module _ (state vector : List Bool) (len_vector : length vector ≡ length d.inputs) (len_state : length state ≡ length d.latches) where
      bits : List Bool
      bits = vector ++ map (λ (c : Cover). false) d.covers ++ state

      length_bits : length bits ≡ length (drive_words d)
      unfolding bits
      length_bits = omega (arith, length_drives, len_vector, len_state, length-append (vector ++ map (λ (c : Cover). false) d.covers) state, length-append vector (map (λ (c : Cover). false) d.covers), length-map d.covers (λ (c : Cover). false))

      input_bit : (k : ℕ) → k < length d.inputs → get_or bits k false ≡ get_or vector k false
      unfolding bits
      input_bit k lk = get_or_append_left (vector ++ map (λ (c : Cover). false) d.covers) state false k (omega (arith, len_vector, length-append vector (map (λ (c : Cover). false) d.covers))) ∙ get_or_append_left vector (map (λ (c : Cover). false) d.covers) false k (omega (arith, len_vector))

      latch_bit : (k : ℕ) → k < length d.latches → get_or bits (length d.inputs + length d.covers + k) false ≡ get_or state k false
      unfolding bits
      latch_bit k lk =
          let n : length d.inputs + length d.covers ≡ length (vector ++ map (λ (c : Cover). false) d.covers) = omega (arith, len_vector, length-append vector (map (λ (c : Cover). false) d.covers), length-map d.covers (λ (c : Cover). false)) in
          ap (λ m. get_or (vector ++ map (λ (c : Cover). false) d.covers ++ state) (m + k) false) n ∙ get_or-append-add (vector ++ map (λ (c : Cover). false) d.covers) state k false

      base : ℕ → Bool
      base s = first_bit signals bits s

      base_at : (k : ℕ) → k < length (drive_words d) → base (signal_at (drive_words d) k) ≡ get_or bits k false
      unfolding base
      base_at k lk =
          ap (λ s. first_bit signals bits s) (sym (signal_is k 0 lk)) ∙ first_bit_at signals bits k (omega (arith, length_signals)) (omega (arith, length_bits, length_signals)) (λ j lj e. is.once j k lj lk (sym (signal_is j 0 (omega arith)) ∙ e ∙ signal_is k 0 lk))

      base_none : (s : ℕ) → (IsDriven d s → ⊥) → base s ≡ false
      unfolding base
      base_none s none = first_bit_none signals bits s (λ k lk e. none (k, omega (arith, length_signals), sym (signal_is k 0 (omega (arith, length_signals))) ∙ e))

      pub one_right : HasOneRight d state vector
      one_right =
          let one = one_valuation d.covers (outs_apart d is.once) is.acyclic base in
          let right = settled_is_right state vector base one.0
          (map_is (λ (p : PortDef). base p.signal) no_port d.inputs vector len_vector (λ k lk. ap (λ s. base s) (sym (input_signal k lk)) ∙ base_at k (omega (arith, length_drives)) ∙ input_bit k lk))
          (map_is (λ (l : LatchDef). base l.out) no_latch d.latches state len_state (λ k lk. ap (λ s. base s) (sym (latch_signal k lk)) ∙ base_at (length d.inputs + length d.covers + k) (omega (arith, length_drives)) ∙ latch_bit k lk))
          base_none one.1 in
          (one.0, right, λ other q s. right_agrees state vector other one.0 q right s)

    -- the rows from a state on
    pub one_rows : (state : List Bool) (vectors : List (List Bool)) → length state ≡ length d.latches → All (λ v. length v ≡ length d.inputs) vectors → (rows : List (List Bool)) × RowsFrom d state vectors rows × ((other : List (List Bool)) → RowsFrom d state vectors other → other ≡ rows)
    one_rows state [] len all = ([], tt, only)
      where
        only : (other : List (List Bool)) → RowsFrom d state [] other → other ≡ []
        only [] h = refl
        only (row ∷ rows) h = absurd h
    one_rows state (vector ∷ vectors) len all =
        let one = one_right state vector (all 0 [] (omega arith)) len in
        let rest = one_rows (next_state d one.0) vectors (length-map d.latches (λ (l : LatchDef). one.0 l.from)) (λ k e lk. all (suc k) e (omega arith)) in
        (outputs_in d one.0 ∷ rest.0, (one.0, one.1, refl, rest.1), λ other h. only one.0 one.2 rest.0 rest.2 other h)
      where
        only : (given : ℕ → Bool) → ((other : ℕ → Bool) → IsRightValuation d state vector other → (s : ℕ) → other s ≡ given s) → (rows : List (List Bool)) → ((other : List (List Bool)) → RowsFrom d (next_state d given) vectors other → other ≡ rows) → (other : List (List Bool)) → RowsFrom d state (vector ∷ vectors) other → other ≡ outputs_in d given ∷ rows
        only given same rows unique [] h = absurd h
        only given same rows unique (row ∷ others) h =
            let outs : row ≡ outputs_in d given = h.2 ∙ map_each (λ (p : PortDef). h.0 p.signal) (λ (p : PortDef). given p.signal) no_port d.outputs (λ k lk. same h.0 h.1 (get_or d.outputs k no_port).signal) in
            let next : next_state d h.0 ≡ next_state d given = map_each (λ (l : LatchDef). h.0 l.from) (λ (l : LatchDef). given l.from) no_latch d.latches (λ k lk. same h.0 h.1 (get_or d.latches k no_latch).from) in
            let later : others ≡ rows = unique others (subst (λ st. RowsFrom d st vectors others) next h.3) in
            ap (λ r. r ∷ others) outs ∙ ap (λ rs. outputs_in d given ∷ rs) later
