-- A plain network is a network: what it reads is in range, and its paths are short.
use Rattle.std.proofs.Common.{◌≡◌, ◌⊎◌, ℕ, zero, suc, ◌+◌, ◌*◌, ◌-◌, ◌<◌, ◌≤◌, [], ◌∷◌, ◌++◌, true, false, length, map, get_or, refl, sym, ap, subst, ◌∙◌, inl, inr, arith, sum_by, slice_index_or}
use Rattle.map_network.proofs.Vocabulary.{Contains, cases_lt, suc-mul, NetlistData, LatchDef, PortDef, Source, Input, Table, NetTable}
use Rattle.std.proofs.lemmas.List.{length-append, length-map, get_or-map, get_or_default, get_or_append_left, get_or-append-add}
use Rattle.std.proofs.lemmas.List.Elements.{Contains-get_or}
use Rattle.design_netlist.specs.Vocabulary.{cover_at, Reads, word, signal_at, IsDriven, IsChecked}
use Rattle.design_netlist.proofs.WalkLemmas.{IsLow, low_all}
use Rattle.map_network.specs.Vocabulary.{no_table, table_at, IsSourceOf, IsCombinational, IsPath, alone, onward, IsDeepest, IsNetwork, cover_tables, covers_tables, cover_size, latch_table, source_of, plain_network, latch_at, no_latch}
use Rattle.map_network.proofs.PathLemmas.{last_is}
use Rattle.map_network.proofs.BlockLemmas.{table_in, Block, block_cover}
use Rattle.map_network.proofs.PlainLemmas.{length-cover, size_some}
use Rattle.map_network.proofs.DriveLemmas.{all_tables}
use Rattle.map_network.proofs.OriginLemmas.{start_of, start_end, length-covers, covers_at, place, rows_are, cover_source, latch_source, input_source, Origin, from_input, from_cover, from_latch, origin, output_driven, latch_driven, input_driven}

no_both : true ≡ false → ⊥
no_both e = cc

times : (n m : ℕ) → 1 ≤ n → n * m ≡ (n - 1) * m + m
times zero m h = absurd (omega arith)
times (suc n) m h = let e : suc n - 1 ≡ n = omega arith in suc-mul n m ∙ ap (λ x. x * m + m) (sym e)

module _ (d : NetlistData) (is : IsChecked d) where
  pub tables_are : (plain_network d).tables ≡ covers_tables (source_of d) 0 d.covers ++ map (latch_table (source_of d)) d.latches
  unfolding plain_network
  tables_are = refl

  pub outputs_are : (plain_network d).outputs ≡ map (λ p. source_of d p.signal) d.outputs
  unfolding plain_network
  outputs_are = refl

  pub inputs_are : (plain_network d).inputs ≡ length d.inputs
  unfolding plain_network
  inputs_are = refl

  length_first : length (covers_tables (source_of d) 0 d.covers) ≡ sum_by cover_size d.covers
  length_first = length-covers (source_of d) 0 d.covers (rows_are d is)

  pub length_tables : length (plain_network d).tables ≡ sum_by cover_size d.covers + length d.latches
  length_tables = ap length tables_are ∙ length-append (covers_tables (source_of d) 0 d.covers) (map (latch_table (source_of d)) d.latches) ∙ ap (λ n. n + length (map (latch_table (source_of d)) d.latches)) length_first ∙ ap (λ n. sum_by cover_size d.covers + n) (length-map d.latches (latch_table (source_of d)))

  -- the k-th table of the i-th cover
  pub cover_table : (i k : ℕ) → i < length d.covers → k < cover_size (cover_at d.covers i) → table_at (plain_network d) (start_of d.covers i + k) ≡ table_in (cover_tables (source_of d) (start_of d.covers i) (cover_at d.covers i)) k
  cover_table i k li lk =
      ap (λ ts. table_in ts (start_of d.covers i + k)) tables_are
      ∙ get_or_append_left (covers_tables (source_of d) 0 d.covers) (map (latch_table (source_of d)) d.latches) no_table (start_of d.covers i + k) (omega (arith, length_first, start_end d.covers i li))
      ∙ covers_at (source_of d) 0 d.covers i k (rows_are d is) li lk
      ∙ ap (λ m. table_in (cover_tables (source_of d) m (cover_at d.covers i)) k) (let e : 0 + start_of d.covers i ≡ start_of d.covers i = omega arith in e)

  -- the table of the l-th latch
  pub latch_table_is : (l : ℕ) → l < length d.latches → table_at (plain_network d) (sum_by cover_size d.covers + l) ≡ latch_table (source_of d) (latch_at d.latches l)
  latch_table_is l ll =
      ap (λ ts. table_in ts (sum_by cover_size d.covers + l)) tables_are
      ∙ ap (λ m. table_in (covers_tables (source_of d) 0 d.covers ++ map (latch_table (source_of d)) d.latches) (m + l)) (sym length_first)
      ∙ get_or-append-add (covers_tables (source_of d) 0 d.covers) (map (latch_table (source_of d)) d.latches) l no_table
      ∙ get_or-map (latch_table (source_of d)) d.latches l no_latch no_table ll

  latch_latched : (l : LatchDef) → (latch_table (source_of d) l).latched ≡ true
  unfolding latch_table
  latch_latched l = refl

  latch_ins : (l : LatchDef) → (latch_table (source_of d) l).ins ≡ source_of d l.from ∷ []
  unfolding latch_table
  latch_ins l = refl

  pub is_latched : (l : ℕ) → l < length d.latches → (table_at (plain_network d) (sum_by cover_size d.covers + l)).latched ≡ true
  is_latched l ll = ap (λ t. t.latched) (latch_table_is l ll) ∙ latch_latched (latch_at d.latches l)

  -- what the tables of a cover read
  abbrev IsReadBy : ℕ → Source → Type 0
  IsReadBy i s = (m : ℕ) × (m < length (cover_at d.covers i).ins) × (s ≡ source_of d (slice_index_or (cover_at d.covers i).ins m 0))

  block : (i : ℕ) → Block (IsReadBy i) (start_of d.covers i) (cover_tables (source_of d) (start_of d.covers i) (cover_at d.covers i))
  block i = block_cover (IsReadBy i) (source_of d) (start_of d.covers i) (cover_at d.covers i) (λ k lk. (k, lk, refl))

  size_is : (i : ℕ) → i < length d.covers → length (cover_tables (source_of d) (start_of d.covers i) (cover_at d.covers i)) ≡ cover_size (cover_at d.covers i)
  size_is i li = length-cover (source_of d) (start_of d.covers i) (cover_at d.covers i) (rows_are d is i li)

  pub cover_combinational : (i k : ℕ) → i < length d.covers → k < cover_size (cover_at d.covers i) → IsCombinational (plain_network d) (start_of d.covers i + k)
  cover_combinational i k li lk = record {
    within = omega (arith, length_tables, start_end d.covers i li);
    latched = ap (λ t. t.latched) (cover_table i k li lk) ∙ (block i).combinational k (omega (arith, size_is i li));
  }

  -- a combinational table is one of a cover
  low_place : (j : ℕ) → IsCombinational (plain_network d) j → j < sum_by cover_size d.covers
  low_place j c = by (cases_lt j (sum_by cover_size d.covers))
    where
      by : (j < sum_by cover_size d.covers) ⊎ (sum_by cover_size d.covers ≤ j) → j < sum_by cover_size d.covers
      by (inl l) = l
      by (inr g) =
          let w = c.within in
          let l : ℕ = j - sum_by cover_size d.covers in
          let ll : l < length d.latches = omega (arith, length_tables) in
          let e : sum_by cover_size d.covers + l ≡ j = omega arith in
          absurd (no_both (sym (subst (λ m. (table_at (plain_network d) m).latched ≡ true) e (is_latched l ll)) ∙ c.latched))

  -- what gives a signal that is driven, if it is a combinational table
  comes_from : (s j : ℕ) → IsDriven d s → IsCombinational (plain_network d) j → source_of d s ≡ Table j → (v : ℕ) × (v < length d.covers) × ((cover_at d.covers v).out ≡ s) × (j ≡ start_of d.covers v + cover_size (cover_at d.covers v) - 1)
  comes_from s j driven c e = by (origin d is s driven)
    where
      input_table : (k : ℕ) → Input k ≡ Table j → ⊥
      input_table k f = cc

      same : (k : ℕ) → Table k ≡ Table j → j ≡ k
      same k f = cc

      by : Origin d is s → (v : ℕ) × (v < length d.covers) × ((cover_at d.covers v).out ≡ s) × (j ≡ start_of d.covers v + cover_size (cover_at d.covers v) - 1)
      by (from_input k lk f) = absurd (input_table k (sym (input_source d is k lk) ∙ ap (source_of d) f ∙ e))
      by (from_cover v lv f) = (v, lv, f, same (start_of d.covers v + cover_size (cover_at d.covers v) - 1) (sym (cover_source d is v lv) ∙ ap (source_of d) f ∙ e))
      by (from_latch l ll f) =
          let at : j ≡ sum_by cover_size d.covers + l = same (sum_by cover_size d.covers + l) (sym (latch_source d is l ll) ∙ ap (source_of d) f ∙ e) in
          let low = low_place j c in
          absurd (omega arith)

  table_name : (a b : ℕ) → Table a ≡ Table b → a ≡ b
  table_name a b e = cc

  -- a path to a table is short where walks from its cover are
  short : {j n : ℕ} → IsPath (plain_network d) j n → (i k : ℕ) → i < length d.covers → k < cover_size (cover_at d.covers i) → j ≡ start_of d.covers i + k → (t : ℕ) → IsLow d.covers (suc t) i → n ≤ t * sum_by cover_size d.covers + (k + 1)
  short (alone c) i k li lk e t low = omega arith
  short (onward {i = j'} {k = n} p c at) i k li lk e t low =
      by ((block i).reads k (omega (arith, size_is i li)) (Table j') (subst (λ x. Contains x.ins (Table j')) (ap (λ m. table_at (plain_network d) m) e ∙ cover_table i k li lk) at)) (λ a b la lb f u lu. short p a b la lb f u lu)
    where
      by : IsReadBy i (Table j') ⊎ ((b : ℕ) × (b < k) × (Table j' ≡ Table (start_of d.covers i + b))) → ((a b : ℕ) → a < length d.covers → b < cover_size (cover_at d.covers a) → j' ≡ start_of d.covers a + b → (u : ℕ) → IsLow d.covers (suc u) a → n ≤ u * sum_by cover_size d.covers + (b + 1)) → suc n ≤ t * sum_by cover_size d.covers + (k + 1)
      by (inr r) again = let h = again i r.0 li (omega (arith, r.1)) (table_name j' (start_of d.covers i + r.0) r.2) t low in omega (arith, r.1)
      by (inl r) again =
          let driven = input_driven d is i r.0 li r.1 in
          let from = comes_from (slice_index_or (cover_at d.covers i).ins r.0 0) j' driven (last_is p) (sym r.2) in
          let some : 1 ≤ cover_size (cover_at d.covers from.0) = size_some (cover_at d.covers from.0) (rows_are d is from.0 from.1) in
          let reads : Reads d.covers i from.0 = record { reader = li; driver = from.1; input = (r.0, r.1, get_or_default (cover_at d.covers i).ins r.0 (cover_at d.covers from.0).out 0 r.1 ∙ sym from.2) } in
          deeper t from.0 from.1 some (low from.0 reads) (again from.0 (cover_size (cover_at d.covers from.0) - 1) from.1 (omega arith) (omega (arith, from.3)))
        where
          deeper : (t v : ℕ) → v < length d.covers → 1 ≤ cover_size (cover_at d.covers v) → IsLow d.covers t v → ((u : ℕ) → IsLow d.covers (suc u) v → n ≤ u * sum_by cover_size d.covers + (cover_size (cover_at d.covers v) - 1 + 1)) → suc n ≤ t * sum_by cover_size d.covers + (k + 1)
          deeper zero v lv some low h = absurd low
          deeper (suc u) v lv some low h =
              let m : suc u * sum_by cover_size d.covers ≡ u * sum_by cover_size d.covers + sum_by cover_size d.covers = suc-mul u (sum_by cover_size d.covers) in
              let l = h u low in
              let s = start_end d.covers v lv in
              omega arith

  pub acyclic : (depth : ℕ) × IsDeepest (plain_network d) depth
  acyclic = (length d.covers * sum_by cover_size d.covers, λ j n p. bounded j n p (place d.covers j (low_place j (last_is p))))
    where
      bounded : (j n : ℕ) → IsPath (plain_network d) j n → (i : ℕ) × (k : ℕ) × (i < length d.covers) × (k < cover_size (cover_at d.covers i)) × (j ≡ start_of d.covers i + k) → n ≤ length d.covers * sum_by cover_size d.covers
      bounded j n p at =
          let low : IsLow d.covers (length d.covers) at.0 = low_all d.covers is.acyclic at.0 at.2 in
          let f : suc (length d.covers - 1) ≡ length d.covers = omega (arith, at.2) in
          let h = short p at.0 at.1 at.2 at.3 at.4 (length d.covers - 1) (subst (λ t. IsLow d.covers t at.0) (sym f) low) in
          let m : length d.covers * sum_by cover_size d.covers ≡ (length d.covers - 1) * sum_by cover_size d.covers + sum_by cover_size d.covers = times (length d.covers) (sum_by cover_size d.covers) (omega (arith, at.2)) in
          let s = start_end d.covers at.0 at.2 in
          omega (arith, at.3)

  -- in range

  pub source_in_range : (s : ℕ) → IsDriven d s → IsSourceOf (plain_network d) (source_of d s)
  source_in_range s driven = by (origin d is s driven)
    where
      by : Origin d is s → IsSourceOf (plain_network d) (source_of d s)
      by (from_input k lk f) = subst (IsSourceOf (plain_network d)) (sym (input_source d is k lk) ∙ ap (source_of d) f) (subst (λ n. k < n) (sym inputs_are) lk)
      by (from_cover v lv f) =
          let some = size_some (cover_at d.covers v) (rows_are d is v lv) in
          let l : start_of d.covers v + cover_size (cover_at d.covers v) - 1 < length (plain_network d).tables = omega (arith, length_tables, start_end d.covers v lv) in
          subst (IsSourceOf (plain_network d)) (sym (cover_source d is v lv) ∙ ap (source_of d) f) l
      by (from_latch l ll f) =
          let low : sum_by cover_size d.covers + l < length (plain_network d).tables = omega (arith, length_tables) in
          subst (IsSourceOf (plain_network d)) (sym (latch_source d is l ll) ∙ ap (source_of d) f) low

  -- a table of the network is one of a cover or of a latch
  either : (P : NetTable → Type 0) → ((i k : ℕ) → i < length d.covers → k < cover_size (cover_at d.covers i) → P (table_in (cover_tables (source_of d) (start_of d.covers i) (cover_at d.covers i)) k)) → ((l : ℕ) → l < length d.latches → P (latch_table (source_of d) (latch_at d.latches l))) → (j : ℕ) → j < length (plain_network d).tables → P (table_at (plain_network d) j)
  either P covers latches j lj = elim (cases_lt j (sum_by cover_size d.covers)) [
    | inl l ↦ (let at = place d.covers j l in subst (λ m. P (table_at (plain_network d) m)) (sym at.4) (subst P (sym (cover_table at.0 at.1 at.2 at.3)) (covers at.0 at.1 at.2 at.3)))
    | inr g ↦ (let ll : j - sum_by cover_size d.covers < length d.latches = omega (arith, length_tables) in let e : sum_by cover_size d.covers + (j - sum_by cover_size d.covers) ≡ j = omega arith in subst (λ m. P (table_at (plain_network d) m)) e (subst P (sym (latch_table_is (j - sum_by cover_size d.covers) ll)) (latches (j - sum_by cover_size d.covers) ll)))
  ]

  cover_reads : (i k : ℕ) → i < length d.covers → k < cover_size (cover_at d.covers i) → (s : Source) → Contains (table_in (cover_tables (source_of d) (start_of d.covers i) (cover_at d.covers i)) k).ins s → IsSourceOf (plain_network d) s
  cover_reads i k li lk s c = by ((block i).reads k (omega (arith, size_is i li)) s c)
    where
      by : IsReadBy i s ⊎ ((b : ℕ) × (b < k) × (s ≡ Table (start_of d.covers i + b))) → IsSourceOf (plain_network d) s
      by (inl r) = subst (IsSourceOf (plain_network d)) (sym r.2) (source_in_range (slice_index_or (cover_at d.covers i).ins r.0 0) (input_driven d is i r.0 li r.1))
      by (inr r) = let l : start_of d.covers i + r.0 < length (plain_network d).tables = omega (arith, r.1, length_tables, start_end d.covers i li) in subst (IsSourceOf (plain_network d)) (sym r.2) l

  abbrev ReadsIn : NetTable → Type 0
  ReadsIn t = (length t.ins ≤ 6) × ((k : ℕ) → k < length t.ins → IsSourceOf (plain_network d) (get_or t.ins k (Input 0)))

  table_reads : (j : ℕ) → j < length (plain_network d).tables → ReadsIn (table_at (plain_network d) j)
  table_reads j lj = either ReadsIn
      (λ i k li lk. ((block i).narrow k (omega (arith, size_is i li)), λ m lm. cover_reads i k li lk (get_or (table_in (cover_tables (source_of d) (start_of d.covers i) (cover_at d.covers i)) k).ins m (Input 0)) (Contains-get_or (table_in (cover_tables (source_of d) (start_of d.covers i) (cover_at d.covers i)) k).ins m (Input 0) lm)))
      (λ l ll. (omega (arith, ap length (latch_ins (latch_at d.latches l))), λ m lm. latch_reads l ll m (omega (arith, lm, ap length (latch_ins (latch_at d.latches l))))))
      j lj
    where
      latch_reads : (l : ℕ) → l < length d.latches → (m : ℕ) → m < 1 → IsSourceOf (plain_network d) (get_or (latch_table (source_of d) (latch_at d.latches l)).ins m (Input 0))
      latch_reads l ll m lm =
          let e : m ≡ 0 = omega arith in
          subst (IsSourceOf (plain_network d)) (sym (ap (λ i. get_or (latch_table (source_of d) (latch_at d.latches l)).ins i (Input 0)) e ∙ ap (λ xs. get_or xs 0 (Input 0)) (latch_ins (latch_at d.latches l)))) (source_in_range (latch_at d.latches l).from (latch_driven d is l ll))

  pub network : IsNetwork (plain_network d)
  network = record {
    few = omega (arith, length_tables, all_tables d is);
    narrow = λ j t lj. subst (λ x. length x.ins ≤ 6) (get_or_default (plain_network d).tables j no_table t lj) (table_reads j lj).0;
    sources = λ j t lj. subst (λ x. (k : ℕ) (s : Source) → k < length x.ins → IsSourceOf (plain_network d) (get_or x.ins k s)) (get_or_default (plain_network d).tables j no_table t lj) (λ k s lk. subst (IsSourceOf (plain_network d)) (get_or_default (table_at (plain_network d) j).ins k (Input 0) s lk) ((table_reads j lj).1 k lk));
    outputs = λ k s lk. out_reads k s lk;
    acyclic = acyclic;
  }
    where
      out_reads : (k : ℕ) (s : Source) → k < length (plain_network d).outputs → IsSourceOf (plain_network d) (get_or (plain_network d).outputs k s)
      out_reads k s lk =
          let l : k < length d.outputs = omega (arith, lk, ap length outputs_are, length-map d.outputs (λ (p : PortDef). source_of d p.signal)) in
          subst (IsSourceOf (plain_network d)) (sym (ap (λ xs. get_or xs k s) outputs_are ∙ get_or-map (λ (p : PortDef). source_of d p.signal) d.outputs k (word 0 0) s l)) (source_in_range (signal_at d.outputs k) (output_driven d is k l))
