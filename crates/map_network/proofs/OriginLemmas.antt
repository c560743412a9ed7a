-- Where the tables of a plain network stand, and what gives each signal.
use Rattle.std.proofs.Common.{◌≡◌, ◌⊎◌, ℕ, zero, suc, ◌+◌, ◌-◌, ◌<◌, ◌≤◌, List, [], ◌∷◌, ◌++◌, length, take, map, get_or, refl, sym, ap, subst, ◌∙◌, inl, inr, arith, sum_by, slice_index_or}
use Rattle.map_network.proofs.Vocabulary.{range_with_len, Contains, flat_map, cases_lt, sum_by-cons, sum_by_more, sum_by-take-le}
use Rattle.map_network.proofs.Vocabulary.{Contains-append_left, Contains-append_right, Cover, NetlistData, PortDef, Source, Input, Table}
use Rattle.std.proofs.lemmas.List.{length-append, length-map, get_or-map, get_or_default, get_or_append_left, get_or-append-add}
use Rattle.std.proofs.lemmas.List.FromFn.{get_or-map-range_with_len, length-map-range_with_len}
use Rattle.design_netlist.specs.Vocabulary.{cover_at, no_cover, word, word_at, signal_at, cover_drive, latch_drive, drive_words, cover_reads, latch_read, reads_of, IsDriven, IsChecked}
use Rattle.design_netlist.proofs.CheckLemmas.{cover_place, cover_signal}
use Rattle.map_network.specs.Vocabulary.{cover_tables, covers_tables, cover_size, cover_ends, sources_of, source_of, Drive, all_drives, latch_at, no_latch}
use Rattle.map_network.proofs.PlainLemmas.{AreRowsOf, length-cover}
use Rattle.map_network.proofs.BlockLemmas.{table_in, at_left, at_right}
use Rattle.map_network.proofs.DriveLemmas.{pick, pick_here, pick_later, signals_in, source_list, sources_are, source_is, AreApart, drives_apart, length_drives, signal_here, length_words}

abbrev pub start_of : List Cover → ℕ → ℕ
start_of cs i = sum_by cover_size (take i cs)

abbrev pub AreAllRows : List Cover → Type 0
AreAllRows cs = (i : ℕ) → i < length cs → AreRowsOf (cover_at cs i)

start_cons : (c : Cover) (cs : List Cover) (i : ℕ) → start_of (c ∷ cs) (suc i) ≡ cover_size c + start_of cs i
start_cons c cs i = sum_by-cons cover_size c (take i cs)

pub start_end : (cs : List Cover) (i : ℕ) → i < length cs → start_of cs i + cover_size (cover_at cs i) ≤ sum_by cover_size cs
start_end cs i li = let m = sum_by_more cover_size cs i no_cover li in let l = sum_by-take-le cover_size cs (i + 1) in omega arith

pub end_at : (first : ℕ) (cs : List Cover) (i : ℕ) → i < length cs → get_or (cover_ends first cs) i (Input 0) ≡ Table (first + start_of cs i + cover_size (cover_at cs i) - 1)
unfolding cover_ends
end_at first [] i li = absurd (omega arith)
end_at first (c ∷ cs) zero li = ap (λ n. Table n) (let e : first + cover_size c - 1 ≡ first + 0 + cover_size c - 1 = omega arith in e)
end_at first (c ∷ cs) (suc i) li = end_at (first + cover_size c) cs i (omega arith) ∙ ap (λ n. Table n) (let s = start_cons c cs i in let e : first + cover_size c + start_of cs i + cover_size (cover_at cs i) - 1 ≡ first + start_of (c ∷ cs) (suc i) + cover_size (cover_at cs i) - 1 = omega arith in e)

length-ends_of : (first : ℕ) (cs : List Cover) → length (cover_ends first cs) ≡ length cs
unfolding cover_ends
length-ends_of first [] = refl
length-ends_of first (c ∷ cs) = ap suc (length-ends_of (first + cover_size c) cs)

pub length-covers : (source : ℕ → Source) (first : ℕ) (cs : List Cover) → AreAllRows cs → length (covers_tables source first cs) ≡ sum_by cover_size cs
unfolding covers_tables
length-covers source first [] h = refl
length-covers source first (c ∷ cs) h =
    length-append (cover_tables source first c) (covers_tables source (first + cover_size c) cs)
    ∙ ap (λ n. n + length (covers_tables source (first + cover_size c) cs)) (length-cover source first c (h 0 (omega arith)))
    ∙ ap (λ n. cover_size c + n) (length-covers source (first + cover_size c) cs (λ i li. h (suc i) (omega arith)))
    ∙ sym (sum_by-cons cover_size c cs)

pub covers_at : (source : ℕ → Source) (first : ℕ) (cs : List Cover) (i k : ℕ) → AreAllRows cs → i < length cs → k < cover_size (cover_at cs i) → table_in (covers_tables source first cs) (start_of cs i + k) ≡ table_in (cover_tables source (first + start_of cs i) (cover_at cs i)) k
unfolding covers_tables
covers_at source first [] i k h li lk = absurd (omega arith)
covers_at source first (c ∷ cs) zero k h li lk =
    ap (λ m. table_in (cover_tables source first c ++ covers_tables source (first + cover_size c) cs) m) (let e : 0 + k ≡ k = omega arith in e)
    ∙ at_left (cover_tables source first c) (covers_tables source (first + cover_size c) cs) k (omega (arith, length-cover source first c (h 0 (omega arith))))
    ∙ ap (λ m. table_in (cover_tables source m c) k) (let e : first ≡ first + 0 = omega arith in e)
covers_at source first (c ∷ cs) (suc i) k h li lk =
    let n = length-cover source first c (h 0 (omega arith)) in
    let s = start_cons c cs i in
    at_right (cover_tables source first c) (covers_tables source (first + cover_size c) cs) (start_of (c ∷ cs) (suc i) + k) (omega arith)
    ∙ ap (λ m. table_in (covers_tables source (first + cover_size c) cs) m) (let e : start_of (c ∷ cs) (suc i) + k - length (cover_tables source first c) ≡ start_of cs i + k = omega arith in e)
    ∙ covers_at source (first + cover_size c) cs i k (λ j lj. h (suc j) (omega arith)) (omega arith) lk
    ∙ ap (λ m. table_in (cover_tables source m (cover_at cs i)) k) (let e : first + cover_size c + start_of cs i ≡ first + start_of (c ∷ cs) (suc i) = omega arith in e)

-- the cover of a table, and the table's place in it
pub place : (cs : List Cover) (j : ℕ) → j < sum_by cover_size cs → (i : ℕ) × (k : ℕ) × (i < length cs) × (k < cover_size (cover_at cs i)) × (j ≡ start_of cs i + k)
place [] j lj = absurd (omega arith)
place (c ∷ cs) j lj = elim (cases_lt j (cover_size c)) [
  | inl l ↦ (0, j, omega arith, l, omega arith)
  | inr g ↦ (let r = place cs (j - cover_size c) (omega (arith, sum_by-cons cover_size c cs)) in (suc r.0, r.1, omega (arith, r.2), r.3, omega (arith, r.4, start_cons c cs r.0)))
]

pick_at : (ds : List Drive) (m : ℕ) (other : Source) → AreApart (signals_in ds) → m < length ds → pick ds (get_or (signals_in ds) m 0) other ≡ get_or (source_list ds) m (Input 0)
pick_at [] m other apart lm = absurd (omega arith)
pick_at (x ∷ ds) zero other apart lm = pick_here x ds x.signal other refl
pick_at (x ∷ ds) (suc m) other apart lm =
    pick_later x ds (get_or (signals_in ds) m 0) other (λ e. apart 0 (suc m) (omega arith) (omega (arith, length-map ds (λ (y : Drive). y.signal))) e)
    ∙ pick_at ds m other (λ j k lt lk e. apart (suc j) (suc k) (omega arith) (omega arith) e) (omega arith)

among_reads : (cs : List Cover) (i k : ℕ) → i < length cs → k < length (cover_at cs i).ins → Contains (flat_map cover_reads cs) (word (cover_at cs i).line (slice_index_or (cover_at cs i).ins k 0))
among_reads [] i k li lk = absurd (omega arith)
among_reads (c ∷ cs) zero k li lk = Contains-append_left (cover_reads c) (flat_map cover_reads cs) (word c.line (slice_index_or c.ins k 0)) (k, omega (arith, length-map c.ins (word c.line)), get_or-map (word c.line) c.ins k 0 (word c.line (slice_index_or c.ins k 0)) lk)
among_reads (c ∷ cs) (suc i) k li lk = Contains-append_right (cover_reads c) (flat_map cover_reads cs) (word (cover_at cs i).line (slice_index_or (cover_at cs i).ins k 0)) (among_reads cs i k (omega arith) lk)

module _ (d : NetlistData) (is : IsChecked d) where
  pub rows_are : AreAllRows d.covers
  rows_are i li = (is.made.covers i li).rows

  -- the source of a word that drives
  word_source : (m : ℕ) → m < length (drive_words d) → source_of d (signal_at (drive_words d) m) ≡ get_or (sources_of d) m (Input 0)
  word_source m lm =
      let n : length (all_drives d) ≡ length (drive_words d) = sym (length-map (all_drives d) (λ (x : Drive). x.signal)) ∙ length_drives d is in
      source_is d (signal_at (drive_words d) m)
      ∙ ap (λ s. pick (all_drives d) s (Input 0)) (sym (signal_here d is m lm))
      ∙ pick_at (all_drives d) m (Input 0) (drives_apart d is) (omega arith)
      ∙ ap (λ xs. get_or xs m (Input 0)) (sources_are d)

  length_front : length (map Input (range_with_len 0 (length d.inputs))) ≡ length d.inputs
  length_front = length-map-range_with_len Input 0 (length d.inputs)

  length_middle : length (map Input (range_with_len 0 (length d.inputs)) ++ cover_ends 0 d.covers) ≡ length d.inputs + length d.covers
  length_middle = length-append (map Input (range_with_len 0 (length d.inputs))) (cover_ends 0 d.covers) ∙ ap (λ n. n + length (cover_ends 0 d.covers)) length_front ∙ ap (λ n. length d.inputs + n) (length-ends_of 0 d.covers)

  input_word : (k : ℕ) → k < length d.inputs → word_at (drive_words d) k ≡ word_at d.inputs k
  input_word k lk = get_or_append_left (d.inputs ++ map cover_drive d.covers) (map latch_drive d.latches) (word 0 0) k (omega (arith, length-append d.inputs (map cover_drive d.covers))) ∙ get_or_append_left d.inputs (map cover_drive d.covers) (word 0 0) k lk

  pub input_source : (k : ℕ) → k < length d.inputs → source_of d (signal_at d.inputs k) ≡ Input k
  unfolding sources_of
  input_source k lk =
      ap (λ (w : PortDef). source_of d w.signal) (sym (input_word k lk))
      ∙ word_source k (omega (arith, length_words d is))
      ∙ get_or_append_left (map Input (range_with_len 0 (length d.inputs)) ++ cover_ends 0 d.covers) (map Table (range_with_len (sum_by cover_size d.covers) (length d.latches))) (Input 0) k (omega (arith, length_middle))
      ∙ get_or_append_left (map Input (range_with_len 0 (length d.inputs))) (cover_ends 0 d.covers) (Input 0) k (omega (arith, length_front))
      ∙ get_or-map-range_with_len Input 0 (length d.inputs) k k (Input 0) lk (omega arith)

  pub cover_source : (i : ℕ) → i < length d.covers → source_of d (cover_at d.covers i).out ≡ Table (start_of d.covers i + cover_size (cover_at d.covers i) - 1)
  unfolding sources_of
  cover_source i li =
      ap (source_of d) (sym (cover_signal d i li))
      ∙ word_source (length d.inputs + i) (cover_place d i li)
      ∙ get_or_append_left (map Input (range_with_len 0 (length d.inputs)) ++ cover_ends 0 d.covers) (map Table (range_with_len (sum_by cover_size d.covers) (length d.latches))) (Input 0) (length d.inputs + i) (omega (arith, length_middle))
      ∙ ap (λ m. get_or (map Input (range_with_len 0 (length d.inputs)) ++ cover_ends 0 d.covers) (m + i) (Input 0)) (sym length_front)
      ∙ get_or-append-add (map Input (range_with_len 0 (length d.inputs))) (cover_ends 0 d.covers) i (Input 0)
      ∙ end_at 0 d.covers i li
      ∙ ap (λ n. Table n) (let e : 0 + start_of d.covers i + cover_size (cover_at d.covers i) - 1 ≡ start_of d.covers i + cover_size (cover_at d.covers i) - 1 = omega arith in e)

  length_firsts : length (d.inputs ++ map cover_drive d.covers) ≡ length d.inputs + length d.covers
  length_firsts = length-append d.inputs (map cover_drive d.covers) ∙ ap (λ n. length d.inputs + n) (length-map d.covers cover_drive)

  latch_word : (l : ℕ) → l < length d.latches → word_at (drive_words d) (length d.inputs + length d.covers + l) ≡ latch_drive (latch_at d.latches l)
  latch_word l ll =
      ap (λ m. word_at (drive_words d) (m + l)) (sym length_firsts)
      ∙ get_or-append-add (d.inputs ++ map cover_drive d.covers) (map latch_drive d.latches) l (word 0 0)
      ∙ get_or-map latch_drive d.latches l no_latch (word 0 0) ll

  pub latch_source : (l : ℕ) → l < length d.latches → source_of d (latch_at d.latches l).out ≡ Table (sum_by cover_size d.covers + l)
  unfolding sources_of
  latch_source l ll =
      ap (λ (w : PortDef). source_of d w.signal) (sym (latch_word l ll))
      ∙ word_source (length d.inputs + length d.covers + l) (omega (arith, length_words d is))
      ∙ ap (λ m. get_or (map Input (range_with_len 0 (length d.inputs)) ++ cover_ends 0 d.covers ++ map Table (range_with_len (sum_by cover_size d.covers) (length d.latches))) (m + l) (Input 0)) (sym length_middle)
      ∙ get_or-append-add (map Input (range_with_len 0 (length d.inputs)) ++ cover_ends 0 d.covers) (map Table (range_with_len (sum_by cover_size d.covers) (length d.latches))) l (Input 0)
      ∙ get_or-map-range_with_len Table (sum_by cover_size d.covers) (length d.latches) l (sum_by cover_size d.covers + l) (Input 0) ll refl

  pub input_drives : (k : ℕ) → k < length d.inputs → IsDriven d (signal_at d.inputs k)
  input_drives k lk = (k, omega (arith, length_words d is), ap (λ (w : PortDef). w.signal) (input_word k lk))

  pub cover_drives : (i : ℕ) → i < length d.covers → IsDriven d (cover_at d.covers i).out
  cover_drives i li = (length d.inputs + i, cover_place d i li, cover_signal d i li)

  pub latch_drives : (l : ℕ) → l < length d.latches → IsDriven d (latch_at d.latches l).out
  latch_drives l ll = (length d.inputs + length d.covers + l, omega (arith, length_words d is), ap (λ (w : PortDef). w.signal) (latch_word l ll))

  -- what gives a signal that is driven
  pub data Origin (s : ℕ) : Type 0 where
    from_input : (k : ℕ) → k < length d.inputs → signal_at d.inputs k ≡ s → Origin s
    from_cover : (i : ℕ) → i < length d.covers → (cover_at d.covers i).out ≡ s → Origin s
    from_latch : (l : ℕ) → l < length d.latches → (latch_at d.latches l).out ≡ s → Origin s

  pub origin : (s : ℕ) → IsDriven d s → Origin s
  origin s driven = by driven.0 driven.1 driven.2 (cases_lt driven.0 (length d.inputs)) (cases_lt driven.0 (length d.inputs + length d.covers))
    where
      by : (m : ℕ) → m < length (drive_words d) → signal_at (drive_words d) m ≡ s → (m < length d.inputs) ⊎ (length d.inputs ≤ m) → (m < length d.inputs + length d.covers) ⊎ (length d.inputs + length d.covers ≤ m) → Origin s
      by m lm e (inl l) o = from_input m l (ap (λ (w : PortDef). w.signal) (sym (input_word m l)) ∙ e)
      by m lm e (inr g) (inl l) =
          let i : ℕ = m - length d.inputs in
          let at : length d.inputs + i ≡ m = omega arith in
          from_cover i (omega arith) (sym (cover_signal d i (omega arith)) ∙ ap (λ x. signal_at (drive_words d) x) at ∙ e)
      by m lm e (inr g) (inr o) =
          let l : ℕ = m - (length d.inputs + length d.covers) in
          let at : length d.inputs + length d.covers + l ≡ m = omega arith in
          let ll : l < length d.latches = omega (arith, length_words d is) in
          from_latch l ll (ap (λ (w : PortDef). w.signal) (sym (latch_word l ll)) ∙ ap (λ x. signal_at (drive_words d) x) at ∙ e)

  -- what is read is driven

  pub output_driven : (k : ℕ) → k < length d.outputs → IsDriven d (signal_at d.outputs k)
  output_driven k lk =
      subst (λ (w : PortDef). IsDriven d w.signal)
      (get_or_append_left (d.outputs ++ flat_map cover_reads d.covers) (map latch_read d.latches) (word 0 0) k (omega (arith, length-append d.outputs (flat_map cover_reads d.covers))) ∙ get_or_append_left d.outputs (flat_map cover_reads d.covers) (word 0 0) k lk)
      (is.driven k (omega (arith, length-append (d.outputs ++ flat_map cover_reads d.covers) (map latch_read d.latches), length-append d.outputs (flat_map cover_reads d.covers))))

  read_driven : (w : PortDef) → Contains (reads_of d) w → IsDriven d w.signal
  read_driven w c = subst (λ (x : PortDef). IsDriven d x.signal) (get_or_default (reads_of d) c.0 (word 0 0) w c.1 ∙ c.2) (is.driven c.0 c.1)

  pub latch_driven : (l : ℕ) → l < length d.latches → IsDriven d (latch_at d.latches l).from
  latch_driven l ll =
      read_driven (latch_read (latch_at d.latches l)) (Contains-append_right (d.outputs ++ flat_map cover_reads d.covers) (map latch_read d.latches) (latch_read (latch_at d.latches l))
      (l, omega (arith, length-map d.latches latch_read), get_or-map latch_read d.latches l no_latch (latch_read (latch_at d.latches l)) ll))

  pub input_driven : (i k : ℕ) → i < length d.covers → k < length (cover_at d.covers i).ins → IsDriven d (slice_index_or (cover_at d.covers i).ins k 0)
  input_driven i k li lk =
      read_driven (word (cover_at d.covers i).line (slice_index_or (cover_at d.covers i).ins k 0)) (Contains-append_left (d.outputs ++ flat_map cover_reads d.covers) (map latch_read d.latches) (word (cover_at d.covers i).line (slice_index_or (cover_at d.covers i).ins k 0))
      (Contains-append_right d.outputs (flat_map cover_reads d.covers) (word (cover_at d.covers i).line (slice_index_or (cover_at d.covers i).ins k 0)) (among_reads d.covers i k li lk)))
