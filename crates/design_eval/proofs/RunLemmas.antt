-- A vector and a state, written and settled, give a right valuation.
use Rattle.std.proofs.Common.{◌≡◌, ◌⊎◌, ℕ, ◌+◌, ◌<◌, ◌≤◌, Bool, true, false, List, ◌++◌, length, take, get_or, map, sym, ap, subst, ◌∙◌, inl, inr, arith, replicate}
use Rattle.design_eval.proofs.Vocabulary.{take-append_seam, cases_lt, flat_map, map-map, Cover, NetlistData, LatchDef, PortDef, map_same}
use Rattle.design_eval.proofs.Vocabulary.{Turn, AreQuick, AreTurns, places, AreListed, AreReaders, AreFree, HaveBits}
use Rattle.std.proofs.lemmas.List.{length-append, length-map, length-replicate, map-append, get_or-map, get_or_append_left, get_or-append-add, get_or-replicate, get_or_past}
use Rattle.design_netlist.specs.Vocabulary.{no_cover, cover_at, IsCoverOver, word, signal_at, cover_drive, latch_drive, cover_reads, latch_read, drive_words, reads_of, IsDriven, number_at, bit_at, IsOrder, IsSettled, IsChecked, IsRightValuation}
use Rattle.design_netlist.proofs.ListLemmas.{few_numbers}
use Rattle.design_netlist.proofs.RightLemmas.{settled_is_right}
use Rattle.design_eval.specs.{declared.plan.Plan.Plan, Bits.bits_put, Bits.AreApart, Bits.AreBelow, Bits.AreReady, Bits.IsWiring}
use Rattle.design_eval.specs.{Plans.IsPlan, Plans.IsMarked, Plans.IsHeld, Evals.IsStep}
use Rattle.design_eval.proofs.TurnLemmas.{turns-size}
use Rattle.design_eval.proofs.MarkLemmas.{fresh-kept}
use Rattle.design_eval.proofs.LatchLemmas.{bits-put}
use Rattle.design_eval.proofs.BitLemmas.{length-put, put-other, put-read, apart-left, apart-right, apart-both, below-left, below-right}

abbrev pub signals : List PortDef → List ℕ
signals words = map (λ (w : PortDef). w.signal) words

abbrev pub outs : List LatchDef → List ℕ
outs latches = map (λ (l : LatchDef). l.out) latches

abbrev pub froms : List LatchDef → List ℕ
froms latches = map (λ (l : LatchDef). l.from) latches

abbrev front : NetlistData → List ℕ
front d = signals d.inputs ++ map (λ (c : Cover). c.out) d.covers

drive-signals : (d : NetlistData) → signals (drive_words d) ≡ front d ++ outs d.latches
drive-signals d =
    map-append (λ (w : PortDef). w.signal) (d.inputs ++ map cover_drive d.covers) (map latch_drive d.latches) ∙
    ap (λ (xs : List ℕ). xs ++ signals (map latch_drive d.latches)) (map-append (λ (w : PortDef). w.signal) d.inputs (map cover_drive d.covers) ∙ ap (λ (xs : List ℕ). signals d.inputs ++ xs) (map-map (λ (w : PortDef). w.signal) cover_drive d.covers)) ∙
    ap (λ (xs : List ℕ). front d ++ xs) (map-map (λ (w : PortDef). w.signal) latch_drive d.latches)

read-signals : (d : NetlistData) → signals (reads_of d) ≡ (signals d.outputs ++ signals (flat_map cover_reads d.covers)) ++ froms d.latches
read-signals d =
    map-append (λ (w : PortDef). w.signal) (d.outputs ++ flat_map cover_reads d.covers) (map latch_read d.latches) ∙
    ap (λ (xs : List ℕ). xs ++ signals (map latch_read d.latches)) (map-append (λ (w : PortDef). w.signal) d.outputs (flat_map cover_reads d.covers)) ∙
    ap (λ (xs : List ℕ). (signals d.outputs ++ signals (flat_map cover_reads d.covers)) ++ xs) (map-map (λ (w : PortDef). w.signal) latch_read d.latches)

module _ (d : NetlistData) (is : IsChecked d) where
  drive-at : (k : ℕ) → k < length (signals (drive_words d)) → get_or (signals (drive_words d)) k 0 ≡ signal_at (drive_words d) k
  drive-at k lk = get_or-map (λ (w : PortDef). w.signal) (drive_words d) k (word 0 0) 0 (omega (arith, length-map (drive_words d) (λ (w : PortDef). w.signal)))

  drives-apart : AreApart (front d ++ outs d.latches)
  drives-apart = subst AreApart (drive-signals d) (λ j k jk lk e. is.once j k jk (omega (arith, length-map (drive_words d) (λ (w : PortDef). w.signal))) (sym (drive-at j (omega arith)) ∙ e ∙ drive-at k lk))

  drives-below : AreBelow (length d.names) (front d ++ outs d.latches)
  drives-below = subst (AreBelow (length d.names)) (drive-signals d) (λ k lk. omega (arith, drive-at k lk, is.made.drives k (omega (arith, length-map (drive_words d) (λ (w : PortDef). w.signal)))))

  reads-below : AreBelow (length d.names) ((signals d.outputs ++ signals (flat_map cover_reads d.covers)) ++ froms d.latches)
  reads-below = subst (AreBelow (length d.names)) (read-signals d) (λ k lk. (let n = length-map (reads_of d) (λ (w : PortDef). w.signal) in omega (arith, get_or-map (λ (w : PortDef). w.signal) (reads_of d) k (word 0 0) 0 (omega (arith, n)), is.made.reads k (omega (arith, n)))))

  pub inputs-below : AreBelow (length d.names) (signals d.inputs)
  inputs-below = below-left (length d.names) (signals d.inputs) (map (λ (c : Cover). c.out) d.covers) (below-left (length d.names) (front d) (outs d.latches) drives-below)

  pub latches-below : AreBelow (length d.names) (outs d.latches)
  latches-below = below-right (length d.names) (front d) (outs d.latches) drives-below

  pub outputs-below : AreBelow (length d.names) (signals d.outputs)
  outputs-below = below-left (length d.names) (signals d.outputs) (signals (flat_map cover_reads d.covers)) (below-left (length d.names) (signals d.outputs ++ signals (flat_map cover_reads d.covers)) (froms d.latches) reads-below)

  pub froms-below : AreBelow (length d.names) (froms d.latches)
  froms-below = below-right (length d.names) (signals d.outputs ++ signals (flat_map cover_reads d.covers)) (froms d.latches) reads-below

  -- a signal of these lists is driven
  driven : (s k : ℕ) → k < length (front d ++ outs d.latches) → get_or (front d ++ outs d.latches) k 0 ≡ s → IsDriven d s
  driven s k lk e =
      let size = ap (λ (xs : List ℕ). length xs) (drive-signals d) in
      let lk' : k < length (signals (drive_words d)) = omega (arith, size) in
      (k, omega (arith, size, length-map (drive_words d) (λ (w : PortDef). w.signal)), sym (drive-at k lk') ∙ ap (λ (xs : List ℕ). get_or xs k 0) (drive-signals d) ∙ e)

  pub input-driven : (s k : ℕ) → k < length (signals d.inputs) → get_or (signals d.inputs) k 0 ≡ s → IsDriven d s
  input-driven s k lk e =
      driven s k (omega (arith, length-append (front d) (outs d.latches), length-append (signals d.inputs) (map (λ (c : Cover). c.out) d.covers)))
      (get_or_append_left (front d) (outs d.latches) 0 k (omega (arith, length-append (signals d.inputs) (map (λ (c : Cover). c.out) d.covers))) ∙ get_or_append_left (signals d.inputs) (map (λ (c : Cover). c.out) d.covers) 0 k lk ∙ e)

  latch-driven : (s k : ℕ) → k < length (outs d.latches) → get_or (outs d.latches) k 0 ≡ s → IsDriven d s
  latch-driven s k lk e = driven s (length (front d) + k) (omega (arith, length-append (front d) (outs d.latches))) (get_or-append-add (front d) (outs d.latches) k 0 ∙ e)

  -- no cover drives an input or what a latch drives
  pub inputs-free : (order : List ℕ) → ((k : ℕ) → k < length order → number_at order k < length d.covers) → AreFree d.covers order (signals d.inputs)
  inputs-free order within k i lk li e =
      apart-both (signals d.inputs) (map (λ (c : Cover). c.out) d.covers) (apart-left (front d) (outs d.latches) drives-apart) i (number_at order k) li
      (omega (arith, within k lk, length-map d.covers (λ (c : Cover). c.out))) (e ∙ sym (get_or-map (λ (c : Cover). c.out) d.covers (number_at order k) no_cover 0 (within k lk)))

  pub latches-free : (order : List ℕ) → ((k : ℕ) → k < length order → number_at order k < length d.covers) → AreFree d.covers order (outs d.latches)
  latches-free order within k i lk li e =
      apart-both (front d) (outs d.latches) drives-apart (length (signals d.inputs) + number_at order k) i
      (omega (arith, within k lk, length-map d.covers (λ (c : Cover). c.out), length-append (signals d.inputs) (map (λ (c : Cover). c.out) d.covers))) li
      (get_or-append-add (signals d.inputs) (map (λ (c : Cover). c.out) d.covers) (number_at order k) 0 ∙
      get_or-map (λ (c : Cover). c.out) d.covers (number_at order k) no_cover 0 (within k lk) ∙ sym e)

  -- covers and latches drive different signals, so together they are no more than the signals
  pub room-is : (order : List ℕ) → IsOrder d.covers order → length order + length d.latches ≤ 65535
  room-is order o =
      omega (
        arith,
        few_numbers (length d.names) (front d ++ outs d.latches) drives-below drives-apart,
        few_numbers (length d.covers) order o.within (λ i j lt lj e. o.once i j lt lj (ap (λ (x : ℕ). (cover_at d.covers x).out) e)),
        length-append (front d) (outs d.latches),
        length-append (signals d.inputs) (map (λ (c : Cover). c.out) d.covers),
        length-map d.covers (λ (c : Cover). c.out),
        length-map d.latches (λ (l : LatchDef). l.out),
        is.made.names,
      )

  latches-apart : AreApart (outs d.latches)
  latches-apart = apart-right (front d) (outs d.latches) drives-apart

  pub drives-apart-at : (drives : List ℕ) → drives ≡ outs d.latches → AreApart drives
  drives-apart-at drives e = subst AreApart (sym e) latches-apart

  -- what latches were given they have
  pub given-put : (drives used : List ℕ) (values new state : List Bool) → drives ≡ outs d.latches → used ≡ drives → new ≡ bits_put values used state → length values ≡ length d.names → length state ≡ length d.latches → HaveBits drives state new
  given-put drives used values new state o u e v s =
      subst (HaveBits drives state) (sym (e ∙ ap (λ (ss : List ℕ). bits_put values ss state) u))
      (bits-put drives state values (drives-apart-at drives o) (rw (o, v) latches-below)
      (omega (arith, s, length-map d.latches (λ (l : LatchDef). l.out), ap (λ (xs : List ℕ). length xs) o)))

  -- what latches drive keeps its bits where inputs are given theirs
  pub given-inputs : (ins drives : List ℕ) (last values vector new : List Bool) → ins ≡ signals d.inputs → drives ≡ outs d.latches → new ≡ bits_put values ins vector → HaveBits drives last values → HaveBits drives last new
  given-inputs ins drives last values vector new i o e h k lk =
      ap (λ (vs : List Bool). bit_at vs (number_at drives k)) e ∙
      put-other values ins vector (number_at drives k)
      (λ j lj f. apart-both (front d) (outs d.latches) drives-apart j k
      (omega (arith, length-append (signals d.inputs) (map (λ (c : Cover). c.out) d.covers), lj, ap (λ (xs : List ℕ). length xs) i)) (omega (arith, lk, ap (λ (xs : List ℕ). length xs) o))
      (get_or_append_left (signals d.inputs) (map (λ (c : Cover). c.out) d.covers) 0 j (omega (arith, lj, ap (λ (xs : List ℕ). length xs) i)) ∙
      sym (ap (λ (xs : List ℕ). number_at xs j) i) ∙ f ∙ ap (λ (xs : List ℕ). number_at xs k) o)) ∙
      h k lk

  -- and where covers are settled
  pub given-settled : (drives : List ℕ) (covers : List Cover) (last base new : List Bool) → drives ≡ outs d.latches → covers ≡ d.covers → IsSettled covers (bit_at base) (bit_at new) → HaveBits drives last base → HaveBits drives last new
  given-settled drives covers last base new o c s h k lk =
      s.others (number_at drives k) (λ i li e. (let lo : i < length d.covers = omega (arith, li, ap (λ (xs : List Cover). length xs) c) in
      apart-both (front d) (outs d.latches) drives-apart (length (signals d.inputs) + i) k
      (omega (arith, lo, length-map d.covers (λ (c : Cover). c.out), length-append (signals d.inputs) (map (λ (c : Cover). c.out) d.covers))) (omega (arith, lk, ap (λ (xs : List ℕ). length xs) o))
      (get_or-append-add (signals d.inputs) (map (λ (c : Cover). c.out) d.covers) i 0 ∙
      get_or-map (λ (c : Cover). c.out) d.covers i no_cover 0 lo ∙
      ap (λ (cs : List Cover). (cover_at cs i).out) (sym c) ∙ e ∙ ap (λ (xs : List ℕ). number_at xs k) o))) ∙
      h k lk

  module _ (values state vector : List Bool) (ready : AreReady d values state) (size : length vector ≡ length d.inputs) where
    abbrev pub given_inputs : List Bool
    given_inputs = bits_put values (signals d.inputs) vector

    abbrev pub given_all : List Bool
    given_all = bits_put given_inputs (outs d.latches) state

    pub all-size : length given_all ≡ length d.names
    all-size = length-put given_inputs (outs d.latches) state ∙ length-put values (signals d.inputs) vector ∙ ready.signals

    inputs-given : map (λ (p : PortDef). bit_at given_all p.signal) d.inputs ≡ vector
    inputs-given =
        sym (map-map (bit_at given_all) (λ (p : PortDef). p.signal) d.inputs) ∙
        map_same (bit_at given_all) (bit_at given_inputs) (signals d.inputs) (λ k lk. put-other given_inputs (outs d.latches) state (get_or (signals d.inputs) k 0)
        (λ j lj e. apart-both (front d) (outs d.latches) drives-apart k j (omega (arith, length-append (signals d.inputs) (map (λ (c : Cover). c.out) d.covers))) lj
        (get_or_append_left (signals d.inputs) (map (λ (c : Cover). c.out) d.covers) 0 k lk ∙ sym e))) ∙
        put-read values (signals d.inputs) vector (apart-left (signals d.inputs) (map (λ (c : Cover). c.out) d.covers) (apart-left (front d) (outs d.latches) drives-apart))
        (λ k lk. omega (arith, inputs-below k lk, ready.signals)) (omega (arith, size, length-map d.inputs (λ (p : PortDef). p.signal)))

    latches-given : map (λ (l : LatchDef). bit_at given_all l.out) d.latches ≡ state
    latches-given =
        sym (map-map (bit_at given_all) (λ (l : LatchDef). l.out) d.latches) ∙
        put-read given_inputs (outs d.latches) state (apart-right (front d) (outs d.latches) drives-apart)
        (λ k lk. omega (arith, latches-below k lk, ready.signals, length-put values (signals d.inputs) vector)) (omega (arith, ready.latches, length-map d.latches (λ (l : LatchDef). l.out)))

    others-given : (s : ℕ) → (IsDriven d s → ⊥) → bit_at given_all s ≡ false
    others-given s none =
        put-other given_inputs (outs d.latches) state s (λ k lk e. none (latch-driven s k lk e)) ∙
        put-other values (signals d.inputs) vector s (λ k lk e. none (input-driven s k lk e)) ∙
        ready.others s none

    -- covers that are settled over what was written are settled over the vector and the state
    pub settled-as : (ins drives : List ℕ) (first second new : List Bool) (covers : List Cover) → ins ≡ signals d.inputs → drives ≡ outs d.latches → first ≡ bits_put values ins vector → second ≡ bits_put first drives state → covers ≡ d.covers → IsSettled covers (bit_at second) (bit_at new) → IsSettled d.covers (bit_at given_all) (bit_at new)
    settled-as ins drives first second new covers i o a b e h =
        let at : second ≡ given_all = b ∙ ap (λ (ss : List ℕ). bits_put first ss state) o ∙ ap (λ (vs : List Bool). bits_put vs (outs d.latches) state) (a ∙ ap (λ (ss : List ℕ). bits_put values ss vector) i) in
        subst (λ (vs : List Bool). IsSettled d.covers (bit_at vs) (bit_at new)) at (subst (λ (cs : List Cover). IsSettled cs (bit_at second) (bit_at new)) e h)

    module _ (settled : List Bool) (s : IsSettled d.covers (bit_at given_all) (bit_at settled)) where
      right : IsRightValuation d state vector (bit_at settled)
      right = settled_is_right d is state vector (bit_at given_all) (bit_at settled) inputs-given latches-given others-given s

      pub step-is : (row next : List Bool) → row ≡ map (bit_at settled) (signals d.outputs) → next ≡ map (bit_at settled) (froms d.latches) → IsStep (record { netlist = d; state = state }) vector row (record { netlist = d; state = next })
      step-is row next r n = record {
        given = bit_at settled;
        right = right;
        outputs = r ∙ map-map (bit_at settled) (λ (p : PortDef). p.signal) d.outputs;
        next = ap (λ (t : List Bool). record { netlist = d; state = t }) (n ∙ map-map (bit_at settled) (λ (l : LatchDef). l.from) d.latches);
      }

      pub ready-is : (next : List Bool) → length settled ≡ length d.names → next ≡ map (bit_at settled) (froms d.latches) → AreReady d settled next
      ready-is next size n = record {
        signals = size;
        latches = ap (λ (t : List Bool). length t) n ∙ length-map (froms d.latches) (bit_at settled) ∙ length-map d.latches (λ (l : LatchDef). l.from);
        others = right.others;
      }

-- the same at an equal list and an equal number
pub below-at : (m n : ℕ) (xs ys : List ℕ) → xs ≡ ys → m ≡ n → AreBelow n ys → AreBelow m xs
below-at m n xs ys e f h = rw (e, f) h

pub covers-made : (d : NetlistData) (covers : List Cover) (n : ℕ) → IsChecked d → covers ≡ d.covers → n ≡ length d.names → (i : ℕ) → i < length covers → IsCoverOver (cover_at covers i) n
covers-made d covers n is e f = rw (e, f) is.made.covers

-- a slice that was written back over a vector
pub taken : {A : Type 0} → (n : ℕ) (new rest : List A) → length new ≡ n → take n (new ++ rest) ≡ new
taken n new rest e = subst (λ (m : ℕ). take m (new ++ rest) ≡ new) e (take-append_seam new rest)

pub words-size : (n word : ℕ) (words : List ℕ) → words ≡ replicate n word → length words ≡ n
words-size n word words e = ap (λ (xs : List ℕ). length xs) e ∙ length-replicate n word

-- at first nothing was given, and all is marked
pub held-first : (p : Plan) (hints : List ℕ) (word n : ℕ) (marks last values state : List Bool) (m : ℕ) → length p.turns.items + length p.wiring.reads.items ≤ 65535 → hints ≡ replicate 1024 word → marks ≡ replicate 65536 true → last ≡ replicate n false → values ≡ replicate m false → length state ≡ n → IsHeld p hints marks last state values
held-first p hints word n marks last values state m room h e l v s = record {
  hints_len = words-size 1024 word hints h;
  last_len = ap (λ (xs : List Bool). length xs) l ∙ length-replicate n false ∙ sym s;
  given = λ k lk. ap (λ (xs : List Bool). bit_at xs (number_at p.wiring.drives.items k)) v ∙ zero m (number_at p.wiring.drives.items k) ∙ sym (ap (λ (xs : List Bool). bit_at xs k) l ∙ zero n k);
  taken =
      λ k lk f. absurd (let t : bit_at marks (length p.turns.items + k) ≡ true =
      ap (λ (xs : List Bool). bit_at xs (length p.turns.items + k)) e ∙ get_or-replicate 65536 (length p.turns.items + k) true false (omega (arith, room, lk)) in
      let no : true ≡ false = sym t ∙ f in cc);
}
  where
    zero : (n k : ℕ) → bit_at (replicate n false) k ≡ false
    zero n k = elim (cases_lt k n) [ inl lt ↦ get_or-replicate n k false false lt | inr ge ↦ get_or_past (replicate n false) k false (omega (arith, ge, length-replicate n false)) ]

pub plan-is : (d draft : NetlistData) (covers : List Cover) (p : Plan) (turns : List Turn) (reads : List ℕ) (n : ℕ) → draft ≡ d → covers ≡ draft.covers → turns ≡ p.turns.items → reads ≡ p.wiring.reads.items → n ≡ length draft.names → IsWiring draft p.wiring → AreTurns covers p.turns.items → length turns + length reads ≤ 65535 → AreReaders covers (places turns) n p.readers → AreListed p.readers (length turns) reads → AreQuick covers p.turns.items p.quicks.items → IsPlan d p
plan-is d draft covers p turns reads n e f t i m w a few r l q =
    subst (λ (x : NetlistData). IsPlan x p) e (record {
      wiring = w;
      turns = subst (λ (cs : List Cover). AreTurns cs p.turns.items) f a;
      quicks = subst (λ (cs : List Cover). AreQuick cs p.turns.items p.quicks.items) f q;
      few = omega (arith, few, ap (λ (ts : List Turn). length ts) t);
      readers =
          subst (λ (k : ℕ). AreReaders draft.covers (places p.turns.items) k p.readers) m
          (subst (λ (ts : List Turn). AreReaders draft.covers (places ts) n p.readers) t (subst (λ (cs : List Cover). AreReaders cs (places turns) n p.readers) f r));
      latches = subst (AreListed p.readers (length p.turns.items)) i (subst (λ (ts : List Turn). AreListed p.readers (length ts) reads) t l);
      room = omega (arith, few, ap (λ (ts : List Turn). length ts) t, ap (λ (xs : List ℕ). length xs) i);
    })

-- nothing was evaluated yet
pub ready-first : (d draft : NetlistData) (latches : List LatchDef) (values state : List Bool) (n : ℕ) → draft ≡ d → n ≡ length draft.names → values ≡ replicate n false → latches ≡ draft.latches → state ≡ map (λ (l : LatchDef). l.init) latches → AreReady d values state
ready-first d draft latches values state n e size v at s =
    subst (λ (x : NetlistData). AreReady x values state) e (record {
      signals = ap (λ (xs : List Bool). length xs) v ∙ length-replicate n false ∙ size;
      latches = ap (λ (xs : List Bool). length xs) s ∙ length-map latches (λ (l : LatchDef). l.init) ∙ ap (λ (xs : List LatchDef). length xs) at;
      others = λ k none. ap (λ (xs : List Bool). bit_at xs k) v ∙ by k (cases_lt k n);
    })
  where
    by : (k : ℕ) → (k < n) ⊎ (n ≤ k) → bit_at (replicate n false) k ≡ false
    by k (inl lt) = get_or-replicate n k false false lt
    by k (inr ge) = get_or_past (replicate n false) k false (omega (arith, ge, length-replicate n false))

pub marked-first : (d : NetlistData) (p : Plan) (marks values : List Bool) (n : ℕ) → IsPlan d p → n ≡ 65536 → marks ≡ replicate n true → IsMarked d p marks values
marked-first d p marks values n plan size e = record {
  size = ap (λ (xs : List Bool). length xs) e ∙ length-replicate n true ∙ size;
  kept = fresh-kept d.covers (places p.turns.items) marks values n (omega (arith, size, plan.few, turns-size p.turns.items)) e;
}
