-- What gives each signal of a checked design.
use Rattle.std.proofs.Common.{◌≡◌, ◌⊎◌, ℕ, suc, ◌+◌, ◌*◌, ◌-◌, ◌<◌, ◌≤◌, List, [], ◌∷◌, ◌++◌, length, drop, map, get_or, refl, sym, ap, subst, ◌∙◌, inl, inr, arith, sum_by, replicate, get_or-set_same, get_or-set_other, if◌then◌else◌, slice_set, ◌==◌}
use Rattle.map_network.proofs.Vocabulary.{range_with_len, sum_by-cons, Cover, NetlistData, LatchDef, PortDef, Source, Input, Table}
use Rattle.std.proofs.lemmas.Bool.{cases_lt, cases_eq}
use Rattle.std.proofs.lemmas.List.{length-append, length-map, length-set, length-replicate, get_or-replicate, get_or_past, map-append, get_or-map}
use Rattle.design_netlist.specs.Vocabulary.{cover_at, word, signal_at, cover_drive, latch_drive, drive_words, cover_characters, IsChecked}
use Rattle.design_netlist.proofs.ListLemmas.{few_numbers}
use Rattle.design_netlist.proofs.MadeLemmas as made
use Rattle.map_network.specs.Vocabulary.{cover_size, cover_ends, sources_of, source_among, source_of, Drive, input_drives, cover_drives, latch_drives, all_drives, written, source_in, AreCovers, AreLatches, ArePorts}
use Rattle.map_network.proofs.CellLemmas.{eqb_true, eqb_false}
use Rattle.map_network.proofs.PlainLemmas.{AreRowsOf, size_few}

abbrev pub no_drive : Drive
no_drive = record { signal = 0; source = Input 0 }

-- writing

pub length-written : (xs : List Source) (ds : List Drive) → length (written xs ds) ≡ length xs
length-written xs [] = refl
length-written xs (x ∷ ds) = length-written (slice_set xs x.signal x.source) ds ∙ length-set xs x.signal x.source

pub written_on : (xs : List Source) (cs bs : List Drive) → written (written xs cs) bs ≡ written xs (cs ++ bs)
written_on xs [] bs = refl
written_on xs (x ∷ ds) bs = written_on (slice_set xs x.signal x.source) ds bs

-- the source of the first drive of the signal, or else another
abbrev pub pick : List Drive → ℕ → Source → Source
pick [] s other = other
pick (x ∷ ds) s other = if x.signal == s then x.source else pick ds s other

abbrev pub signals_in : List Drive → List ℕ
signals_in ds = map (λ (x : Drive). x.signal) ds

abbrev pub AreApart : List ℕ → Type 0
AreApart xs = (j k : ℕ) → j < k → k < length xs → get_or xs j 0 ≡ get_or xs k 0 → ⊥

pub pick_here : (x : Drive) (ds : List Drive) (s : ℕ) (other : Source) → x.signal ≡ s → pick (x ∷ ds) s other ≡ x.source
pick_here x ds s other e = ap (λ b. if b then x.source else pick ds s other) (eqb_true x.signal s e)

pub pick_later : (x : Drive) (ds : List Drive) (s : ℕ) (other : Source) → (x.signal ≡ s → ⊥) → pick (x ∷ ds) s other ≡ pick ds s other
pick_later x ds s other d = ap (λ b. if b then x.source else pick ds s other) (eqb_false x.signal s d)

pick_none : (ds : List Drive) (s : ℕ) (other : Source) → ((k : ℕ) → k < length (signals_in ds) → get_or (signals_in ds) k 0 ≡ s → ⊥) → pick ds s other ≡ other
pick_none [] s other h = refl
pick_none (x ∷ ds) s other h = pick_later x ds s other (h 0 (omega arith)) ∙ pick_none ds s other (λ k lk. h (suc k) (omega arith))

pub written_at : (xs : List Source) (ds : List Drive) (s : ℕ) → AreApart (signals_in ds) → ((k : ℕ) → k < length (signals_in ds) → get_or (signals_in ds) k 0 < length xs) → source_in (written xs ds) s ≡ pick ds s (source_in xs s)
written_at xs [] s apart within = refl
written_at xs (x ∷ ds) s apart within =
    written_at (slice_set xs x.signal x.source) ds s (λ j k lt lk e. apart (suc j) (suc k) (omega arith) (omega arith) e) (λ k lk. subst (λ n. get_or (signals_in ds) k 0 < n) (sym (length-set xs x.signal x.source)) (within (suc k) (omega arith)))
    ∙ by (cases_eq x.signal s)
  where
    by : (x.signal ≡ s) ⊎ (x.signal ≡ s → ⊥) → pick ds s (source_in (slice_set xs x.signal x.source) s) ≡ pick (x ∷ ds) s (source_in xs s)
    by (inl e) =
        pick_none ds s (source_in (slice_set xs x.signal x.source) s) (λ k lk f. apart 0 (suc k) (omega arith) (omega arith) (e ∙ sym f))
        ∙ ap (λ i. source_in (slice_set xs x.signal x.source) i) (sym e)
        ∙ get_or-set_same xs x.signal x.source (Input 0) (within 0 (omega arith))
        ∙ sym (pick_here x ds s (source_in xs s) e)
    by (inr d) = ap (λ y. pick ds s y) (get_or-set_other xs x.signal s x.source (Input 0) (λ f. d (sym f))) ∙ sym (pick_later x ds s (source_in xs s) d)

-- the drives of a design are its words

input_signals : (k : ℕ) (ps : List PortDef) → signals_in (input_drives k ps) ≡ map (λ (p : PortDef). p.signal) ps
input_signals k [] = refl
input_signals k (p ∷ ps) = ap (λ xs. p.signal ∷ xs) (input_signals (k + 1) ps)

cover_signals : (first : ℕ) (cs : List Cover) → signals_in (cover_drives first cs) ≡ map (λ (p : PortDef). p.signal) (map cover_drive cs)
cover_signals first [] = refl
cover_signals first (c ∷ cs) = ap (λ xs. c.out ∷ xs) (cover_signals (first + cover_size c) cs)

latch_signals : (first : ℕ) (ls : List LatchDef) → signals_in (latch_drives first ls) ≡ map (λ (p : PortDef). p.signal) (map latch_drive ls)
latch_signals first [] = refl
latch_signals first (l ∷ ls) = ap (λ xs. l.out ∷ xs) (latch_signals (first + 1) ls)

abbrev pub source_list : List Drive → List Source
source_list ds = map (λ (x : Drive). x.source) ds

input_sources : (k : ℕ) (ps : List PortDef) → source_list (input_drives k ps) ≡ map Input (range_with_len k (length ps))
input_sources k [] = refl
input_sources k (p ∷ ps) = ap (λ xs. Input k ∷ xs) (input_sources (k + 1) ps)

cover_sources : (first : ℕ) (cs : List Cover) → source_list (cover_drives first cs) ≡ cover_ends first cs
unfolding cover_ends
cover_sources first [] = refl
cover_sources first (c ∷ cs) = ap (λ xs. Table (first + cover_size c - 1) ∷ xs) (cover_sources (first + cover_size c) cs)

latch_sources : (first : ℕ) (ls : List LatchDef) → source_list (latch_drives first ls) ≡ map Table (range_with_len first (length ls))
latch_sources first [] = refl
latch_sources first (l ∷ ls) = ap (λ xs. Table first ∷ xs) (latch_sources (first + 1) ls)

pub signals_are : (d : NetlistData) → signals_in (all_drives d) ≡ map (λ (p : PortDef). p.signal) (drive_words d)
signals_are d =
    map-append (λ (x : Drive). x.signal) (input_drives 0 d.inputs ++ cover_drives 0 d.covers) (latch_drives (sum_by cover_size d.covers) d.latches)
    ∙ ap (λ xs. xs ++ signals_in (latch_drives (sum_by cover_size d.covers) d.latches)) (map-append (λ (x : Drive). x.signal) (input_drives 0 d.inputs) (cover_drives 0 d.covers))
    ∙ ap (λ xs. xs ++ signals_in (cover_drives 0 d.covers) ++ signals_in (latch_drives (sum_by cover_size d.covers) d.latches)) (input_signals 0 d.inputs)
    ∙ ap (λ xs. map (λ (p : PortDef). p.signal) d.inputs ++ xs ++ signals_in (latch_drives (sum_by cover_size d.covers) d.latches)) (cover_signals 0 d.covers)
    ∙ ap (λ xs. map (λ (p : PortDef). p.signal) d.inputs ++ map (λ (p : PortDef). p.signal) (map cover_drive d.covers) ++ xs) (latch_signals (sum_by cover_size d.covers) d.latches)
    ∙ ap (λ xs. xs ++ map (λ (p : PortDef). p.signal) (map latch_drive d.latches)) (sym (map-append (λ (p : PortDef). p.signal) d.inputs (map cover_drive d.covers)))
    ∙ sym (map-append (λ (p : PortDef). p.signal) (d.inputs ++ map cover_drive d.covers) (map latch_drive d.latches))

pub sources_are : (d : NetlistData) → source_list (all_drives d) ≡ sources_of d
unfolding sources_of
sources_are d =
    map-append (λ (x : Drive). x.source) (input_drives 0 d.inputs ++ cover_drives 0 d.covers) (latch_drives (sum_by cover_size d.covers) d.latches)
    ∙ ap (λ xs. xs ++ source_list (latch_drives (sum_by cover_size d.covers) d.latches)) (map-append (λ (x : Drive). x.source) (input_drives 0 d.inputs) (cover_drives 0 d.covers))
    ∙ ap (λ xs. xs ++ source_list (cover_drives 0 d.covers) ++ source_list (latch_drives (sum_by cover_size d.covers) d.latches)) (input_sources 0 d.inputs)
    ∙ ap (λ xs. map Input (range_with_len 0 (length d.inputs)) ++ xs ++ source_list (latch_drives (sum_by cover_size d.covers) d.latches)) (cover_sources 0 d.covers)
    ∙ ap (λ xs. map Input (range_with_len 0 (length d.inputs)) ++ cover_ends 0 d.covers ++ xs) (latch_sources (sum_by cover_size d.covers) d.latches)

among_is : (ws : List PortDef) (ds : List Drive) (s : ℕ) → map (λ (p : PortDef). p.signal) ws ≡ signals_in ds → source_among ws (source_list ds) s ≡ pick ds s (Input 0)
unfolding source_among
among_is [] [] s e = refl
among_is [] (x ∷ ds) s e = absurd (let n = ap length e in omega arith)
among_is (w ∷ ws) [] s e = absurd (let n = ap length e in omega arith)
among_is (w ∷ ws) (x ∷ ds) s e =
    let head : w.signal ≡ x.signal = ap (λ xs. get_or xs 0 0) e in
    let rest : map (λ (p : PortDef). p.signal) ws ≡ signals_in ds = ap (λ xs. drop 1 xs) e in
    ap (λ n. if n == s then x.source else source_among ws (source_list ds) s) head ∙ ap (λ y. if x.signal == s then x.source else y) (among_is ws ds s rest)

pub source_is : (d : NetlistData) (s : ℕ) → source_of d s ≡ pick (all_drives d) s (Input 0)
source_is d s = ap (λ xs. source_among (drive_words d) xs s) (sym (sources_are d)) ∙ among_is (drive_words d) (all_drives d) s (sym (signals_are d))

module _ (d : NetlistData) (is : IsChecked d) where
  pub signal_here : (k : ℕ) → k < length (drive_words d) → get_or (signals_in (all_drives d)) k 0 ≡ signal_at (drive_words d) k
  signal_here k lk = ap (λ xs. get_or xs k 0) (signals_are d) ∙ get_or-map (λ (p : PortDef). p.signal) (drive_words d) k (word 0 0) 0 lk

  pub length_drives : length (signals_in (all_drives d)) ≡ length (drive_words d)
  length_drives = ap length (signals_are d) ∙ length-map (drive_words d) (λ (p : PortDef). p.signal)

  pub drives_apart : AreApart (signals_in (all_drives d))
  drives_apart j k lt lk e = let l : k < length (drive_words d) = omega (arith, length_drives) in is.once j k lt l (sym (signal_here j (omega arith)) ∙ e ∙ signal_here k l)

  drives_within : (k : ℕ) → k < length (signals_in (all_drives d)) → get_or (signals_in (all_drives d)) k 0 < length d.names
  drives_within k lk = let l : k < length (drive_words d) = omega (arith, length_drives) in subst (λ n. n < length d.names) (sym (signal_here k l)) (is.made.drives k l)

  pub few_drives : length (drive_words d) ≤ length d.names
  few_drives = let l : length (signals_in (all_drives d)) ≤ length d.names = few_numbers (length d.names) (signals_in (all_drives d)) drives_within drives_apart in omega (arith, length_drives)

  pub length_words : length (drive_words d) ≡ length d.inputs + length d.covers + length d.latches
  length_words = length-append (d.inputs ++ map cover_drive d.covers) (map latch_drive d.latches) ∙ ap (λ n. n + length (map latch_drive d.latches)) (length-append d.inputs (map cover_drive d.covers)) ∙ ap (λ n. length d.inputs + n + length (map latch_drive d.latches)) (length-map d.covers cover_drive) ∙ ap (λ n. length d.inputs + length d.covers + n) (length-map d.latches latch_drive)

  -- the list that is written has the source of each signal
  pub sources_written : (xs : List Source) (s : ℕ) → xs ≡ written (replicate (length d.names) (Input 0)) (all_drives d) → source_in xs s ≡ source_of d s
  sources_written xs s e =
      ap (λ ys. source_in ys s) e
      ∙ written_at (replicate (length d.names) (Input 0)) (all_drives d) s drives_apart (λ k lk. subst (λ n. get_or (signals_in (all_drives d)) k 0 < n) (sym (length-replicate (length d.names) (Input 0))) (drives_within k lk))
      ∙ ap (λ x. pick (all_drives d) s x) (blank (cases_lt s (length d.names)))
      ∙ sym (source_is d s)
    where
      blank : (s < length d.names) ⊎ (length d.names ≤ s) → source_in (replicate (length d.names) (Input 0)) s ≡ Input 0
      blank (inl l) = get_or-replicate (length d.names) s (Input 0) (Input 0) l
      blank (inr g) = get_or_past (replicate (length d.names) (Input 0)) s (Input 0) (omega (arith, length-replicate (length d.names) (Input 0)))

  sizes_few : (cs : List Cover) → ((i : ℕ) → i < length cs → AreRowsOf (cover_at cs i)) → sum_by cover_size cs ≤ 2 * sum_by cover_characters cs + length cs
  sizes_few [] h = omega arith
  sizes_few (c ∷ cs) h =
      let r = sizes_few cs (λ i li. h (suc i) (omega arith)) in
      let s = size_few c (h 0 (omega arith)) in
      let e = sum_by-cons cover_size c cs in
      let f = sum_by-cons cover_characters c cs in
      omega arith

  pub covers_are : AreCovers d.covers (length d.names)
  covers_are = record {
    made = is.made.covers;
    characters = is.made.characters;
    tables = (let r = sizes_few d.covers (λ i li. (is.made.covers i li).rows) in let n = is.made.names in let c = is.made.characters in omega (arith, few_drives, length_words));
  }

  pub all_tables : sum_by cover_size d.covers + length d.latches < 4294967296
  all_tables = let r = sizes_few d.covers (λ i li. (is.made.covers i li).rows) in let n = is.made.names in let c = is.made.characters in omega (arith, few_drives, length_words)

  pub few_inputs : length d.inputs ≤ 65535
  few_inputs = let n = is.made.names in omega (arith, few_drives, length_words)

  pub inputs_are : ArePorts d.inputs (length d.names)
  inputs_are = made.inputs_of d is.made

  pub outputs_are : ArePorts d.outputs (length d.names)
  outputs_are = made.outputs_of d is.made

  pub latches_are : AreLatches d.latches (length d.names)
  latches_are = record { outs = λ k lk. (made.latches_of d is.made k lk).0; froms = λ k lk. (made.latches_of d is.made k lk).1 }

  -- the list as it is written
  module _ (xs a b e : List Source) (count : ℕ) (ex : xs ≡ replicate (length d.names) (Input 0)) (ea : a ≡ written xs (input_drives 0 d.inputs)) where
    pub length_blank : length xs ≡ length d.names
    length_blank = ap length ex ∙ length-replicate (length d.names) (Input 0)

    pub length_inputs : length a ≡ length d.names
    length_inputs = ap length ea ∙ length-written xs (input_drives 0 d.inputs) ∙ length_blank

    module _ (eb : b ≡ written a (cover_drives 0 d.covers)) where
      pub length_covers : length b ≡ length d.names
      length_covers = ap length eb ∙ length-written a (cover_drives 0 d.covers) ∙ length_inputs

      module _ (ec : count ≡ sum_by cover_size d.covers) (ee : e ≡ written b (latch_drives count d.latches)) where
        pub length_latches : length e ≡ length d.names
        length_latches = ap length ee ∙ length-written b (latch_drives count d.latches) ∙ length_covers

        pub all_written : (s : ℕ) → source_in e s ≡ source_of d s
        all_written s = sources_written e s (
            ee
            ∙ ap (λ n. written b (latch_drives n d.latches)) ec
            ∙ ap (λ ys. written ys (latch_drives (sum_by cover_size d.covers) d.latches)) (eb ∙ ap (λ ys. written ys (cover_drives 0 d.covers)) (ea ∙ ap (λ ys. written ys (input_drives 0 d.inputs)) ex) ∙ written_on (replicate (length d.names) (Input 0)) (input_drives 0 d.inputs) (cover_drives 0 d.covers))
            ∙ written_on (replicate (length d.names) (Input 0)) (input_drives 0 d.inputs ++ cover_drives 0 d.covers) (latch_drives (sum_by cover_size d.covers) d.latches))
