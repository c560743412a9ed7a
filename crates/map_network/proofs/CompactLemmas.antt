-- A network without the tables that nothing reads has the same rows.
use Rattle.std.proofs.Common.{◌≡◌, Bool, ℕ, zero, suc, ◌+◌, ◌<◌, ◌≤◌, List, [], ◌∷◌, ◌++◌, true, false, length, map, get_or, set, drop, replicate, refl, sym, ap, subst, ◌∙◌, inl, inr, arith, slice_index_or, if◌then◌else◌}
use Rattle.std.specs.List.{range_with_len, Contains, All}
use Rattle.std.proofs.lemmas.List.{get_or-map, ext_get_or, length-map, get_or_default, length_push, drop_more, get_or_push, get_or_append_left, get_or-set_same, get_or-set_other, get_or-replicate, length-replicate, length-set, get_or_past}
use Rattle.map_network.proofs.Vocabulary.{cases_eq, cases_lt, Contains-get_or, Source, Input, Table, NetTable, Network}
use Rattle.map_network.specs.Vocabulary.{no_table, table_at, IsSourceOf, IsCombinational, IsLatched, IsPath, alone, onward, IsNetwork, number_of, cell_at, bit_of, truth, IsNetworkValuation, outputs_in, next_state, first_state, RowsFrom, AreRows, is_dropped, rank, renamed, renamed_table, kept_tables, compacted, named_by, AreRanks, AreKept, IsKept, IsClosed, IsCompacted, DoesSame, IsReduced, IsUnread, Reads, AllLead, LeadsToOutput, is_read, is_shown}
use Rattle.map_network.proofs.ValuationLemmas.{one_rows}

-- rows are those of another network too, if each of its valuations gives one of the other's, with the same outputs and a next state that goes with its own
pub rows_between : (m n : Network) (back : List Bool → (ℕ → Bool) → ℕ → Bool) (With : (ℕ → Bool) → (ℕ → Bool) → Type 0)
    → ((vector : List Bool) (given state less : ℕ → Bool) → With state less → IsNetworkValuation m state vector given → IsNetworkValuation n less vector (back vector given))
    → ((vector : List Bool) (given : ℕ → Bool) → outputs_in m vector given ≡ outputs_in n vector (back vector given))
    → ((vector : List Bool) (given : ℕ → Bool) → With (next_state m vector given) (next_state n vector (back vector given)))
    → (vectors rows : List (List Bool)) (state less : ℕ → Bool) → With state less → RowsFrom m state vectors rows → RowsFrom n less vectors rows
rows_between m n back With right shown next [] [] state less start p = tt
rows_between m n back With right shown next [] (row ∷ rows) state less start p = absurd p
rows_between m n back With right shown next (v ∷ vs) [] state less start p = absurd p
rows_between m n back With right shown next (v ∷ vs) (row ∷ rows) state less start p = (
  back v p.0,
  right v p.0 state less start p.1,
  p.2 ∙ shown v p.0,
  rows_between m n back With right shown next vs rows (next_state m v p.0) (next_state n v (back v p.0)) (next v p.0) p.3,
)

-- a network does the same as itself, and one after the other what the first does
pub same_none : (n : Network) → IsNetwork n → DoesSame n n
same_none n is = record {
  network = is;
  rows = λ vs rs. (λ q. q, λ q. q);
  fewer = omega arith;
  shallow = λ depth deep. deep;
  inputs = refl;
  outputs = refl;
}

pub same_then : (n m k : Network) → DoesSame n m → DoesSame m k → DoesSame n k
same_then n m k a b = record {
  network = b.network;
  rows = λ vs rs. (let f = a.rows vs rs in let g = b.rows vs rs in (λ q. g.0 (f.0 q), λ q. f.1 (g.1 q)));
  fewer = (let l = a.fewer in let e = b.fewer in omega arith);
  shallow = λ depth deep. b.shallow depth (a.shallow depth deep);
  inputs = b.inputs ∙ a.inputs;
  outputs = b.outputs ∙ a.outputs;
}

pub reduced_same : (n m : Network) → IsReduced n m → DoesSame n m
reduced_same n m r = record {
  network = r.network;
  rows = r.rows;
  fewer = (let l = r.less in omega arith);
  shallow = r.shallow;
  inputs = r.inputs;
  outputs = r.outputs;
}

-- one more of the loops

pub ranks_none : (dropped : List Bool) (ranks : List ℕ) → ranks ≡ [] → AreRanks dropped 0 ranks
ranks_none dropped ranks e = record { len = ap length e; each = λ j lj. absurd (let no : ⊥ = omega arith in no) }

pub ranks_more : (dropped : List Bool) (m count : ℕ) (old new : List ℕ) → AreRanks dropped m old → count ≡ rank dropped m → new ≡ old ++ count ∷ [] → AreRanks dropped (m + 1) new
ranks_more dropped m count old new h e f = record {
  len = ap length f ∙ length_push old count ∙ ap (λ n. n + 1) h.len;
  each = λ j lj. ap (λ xs. get_or xs j 0) f ∙ elim (cases_eq j m) [
    | inl s ↦ get_or_push old count 0 j (h.len ∙ sym s) ∙ e ∙ ap (rank dropped) (sym s)
    | inr d ↦ (let l : j < length old = omega (arith, h.len) in get_or_append_left old (count ∷ []) 0 j l ∙ h.each j (omega arith))
  ];
}

kept_cut : (f : ℕ → ℕ) (ds : List Bool) (ts : List NetTable) (j : ℕ) → j < length ds → j < length ts → kept_tables f (drop j ds) (drop j ts) ≡ kept_tables f (get_or ds j false ∷ drop (j + 1) ds) (get_or ts j no_table ∷ drop (j + 1) ts)
kept_cut f ds ts j ld lt = ap (λ xs. kept_tables f xs (drop j ts)) (drop_more ds j false ld) ∙ ap (kept_tables f (get_or ds j false ∷ drop (j + 1) ds)) (drop_more ts j no_table lt)

pub kept_skip : (f : ℕ → ℕ) (ds : List Bool) (ts : List NetTable) (j : ℕ) → j < length ds → j < length ts → is_dropped ds j ≡ true → kept_tables f (drop j ds) (drop j ts) ≡ kept_tables f (drop (j + 1) ds) (drop (j + 1) ts)
kept_skip f ds ts j ld lt e = kept_cut f ds ts j ld lt ∙ ap (λ b. kept_tables f (b ∷ drop (j + 1) ds) (get_or ts j no_table ∷ drop (j + 1) ts)) e

pub kept_more : (f : ℕ → ℕ) (ds : List Bool) (ts : List NetTable) (j : ℕ) → j < length ds → j < length ts → is_dropped ds j ≡ false → kept_tables f (drop j ds) (drop j ts) ≡ renamed_table f (get_or ts j no_table) ∷ kept_tables f (drop (j + 1) ds) (drop (j + 1) ts)
kept_more f ds ts j ld lt e = kept_cut f ds ts j ld lt ∙ ap (λ b. kept_tables f (b ∷ drop (j + 1) ds) (get_or ts j no_table ∷ drop (j + 1) ts)) e

-- only one that nothing reads
pub one_dropped : (n : Network) (j : ℕ) (blank : List Bool) → blank ≡ replicate (length n.tables) false → j < length n.tables → IsUnread n j → IsClosed (set blank j true) n.tables n.outputs × (is_dropped (set blank j true) j ≡ true)
one_dropped n j blank e lj u = (
  record {
    len = len;
    tables = λ i li d k lk. kept (get_or (table_at n i).ins k (Input 0)) (λ f. u.tables i (record { within = li; at = subst (Contains (table_at n i).ins) f (Contains-get_or (table_at n i).ins k (Input 0) lk) }));
    outputs = λ k lk. kept (get_or n.outputs k (Input 0)) (λ f. u.outputs (subst (Contains n.outputs) f (Contains-get_or n.outputs k (Input 0) lk)));
  },
  get_or-set_same blank j true false (omega (arith, count, lj)),
)
  where
    count : length blank ≡ length n.tables
    count = ap length e ∙ length-replicate (length n.tables) false

    len : length (set blank j true) ≡ length n.tables
    len = length-set blank j true ∙ count

    all_false : (xs : ℕ) (i : ℕ) → get_or (replicate xs false) i false ≡ false
    all_false xs i = elim (cases_lt i xs) [
      | inl l ↦ get_or-replicate xs i false false l
      | inr g ↦ get_or_past (replicate xs false) i false (omega (arith, length-replicate xs false))
    ]

    kept : (s : Source) → (s ≡ Table j → ⊥) → IsKept (set blank j true) s
    kept (Input k) d = tt
    kept (Table i) d = get_or-set_other blank j i true false (λ f. d (ap Table f)) ∙ ap (λ xs. get_or xs i false) e ∙ all_false (length n.tables) i

no_both : true ≡ false → ⊥
no_both e = cc

pub rank_zero : (ds : List Bool) → rank ds zero ≡ 0
rank_zero [] = refl
rank_zero (d ∷ ds) = refl

rank_suc : (ds : List Bool) (k : ℕ) → k < length ds → rank ds (suc k) ≡ rank ds k + (if get_or ds k false then 0 else 1)
rank_suc [] k lk = absurd (omega arith)
rank_suc (true ∷ ds) zero lk = rank_zero ds
rank_suc (false ∷ ds) zero lk = ap suc (rank_zero ds)
rank_suc (true ∷ ds) (suc k) lk = rank_suc ds k (omega arith)
rank_suc (false ∷ ds) (suc k) lk = let h = rank_suc ds k (omega arith) in omega arith

pub rank_step : (ds : List Bool) (k : ℕ) → k < length ds → rank ds (k + 1) ≡ rank ds k + (if get_or ds k false then 0 else 1)
rank_step ds k lk = let e : k + 1 ≡ suc k = omega arith in ap (rank ds) e ∙ rank_suc ds k lk

pub one_unless_le : (b : Bool) → (if b then 0 else 1) ≤ 1
one_unless_le true = omega arith
one_unless_le false = omega arith

-- how many are kept
abbrev pub kept_in : List Bool → ℕ
kept_in ds = rank ds (length ds)

-- where the k-th one stood that is kept
pub place : List Bool → ℕ → ℕ
place [] k = 0
place (true ∷ ds) k = suc (place ds k)
place (false ∷ ds) zero = 0
place (false ∷ ds) (suc k) = suc (place ds k)

place_rank : (ds : List Bool) (j : ℕ) → j < length ds → is_dropped ds j ≡ false → place ds (rank ds j) ≡ j
unfolding place
place_rank [] j lj e = absurd (omega arith)
place_rank (true ∷ ds) zero lj e = absurd (no_both e)
place_rank (false ∷ ds) zero lj e = refl
place_rank (true ∷ ds) (suc j) lj e = ap suc (place_rank ds j (omega arith) e)
place_rank (false ∷ ds) (suc j) lj e = ap suc (place_rank ds j (omega arith) e)

rank_low : (ds : List Bool) (j : ℕ) → j < length ds → is_dropped ds j ≡ false → rank ds j < kept_in ds
rank_low [] j lj e = absurd (omega arith)
rank_low (true ∷ ds) zero lj e = absurd (no_both e)
rank_low (false ∷ ds) zero lj e = omega arith
rank_low (true ∷ ds) (suc j) lj e = rank_low ds j (omega arith) e
rank_low (false ∷ ds) (suc j) lj e = let h = rank_low ds j (omega arith) e in omega arith

place_low : (ds : List Bool) (k : ℕ) → k < kept_in ds → (place ds k < length ds) × (is_dropped ds (place ds k) ≡ false)
unfolding place
place_low [] k lk = absurd (omega arith)
place_low (true ∷ ds) k lk = let h = place_low ds k lk in (omega (arith, h.0), h.1)
place_low (false ∷ ds) zero lk = (omega arith, refl)
place_low (false ∷ ds) (suc k) lk = let h = place_low ds k (omega arith) in (omega (arith, h.0), h.1)

at_place : (f : ℕ → ℕ) (ds : List Bool) (ts : List NetTable) (k : ℕ) → length ds ≡ length ts → k < kept_in ds → get_or (kept_tables f ds ts) k no_table ≡ renamed_table f (get_or ts (place ds k) no_table)
unfolding place
at_place f [] ts k len lk = absurd (omega arith)
at_place f (d ∷ ds) [] k len lk = absurd (omega arith)
at_place f (true ∷ ds) (t ∷ ts) k len lk = at_place f ds ts k (omega arith) lk
at_place f (false ∷ ds) (t ∷ ts) zero len lk = refl
at_place f (false ∷ ds) (t ∷ ts) (suc k) len lk = at_place f ds ts k (omega arith) (omega arith)

kept_length : (f : ℕ → ℕ) (ds : List Bool) (ts : List NetTable) → length ds ≡ length ts → length (kept_tables f ds ts) ≡ kept_in ds
kept_length f [] ts len = refl
kept_length f (d ∷ ds) [] len = absurd (omega arith)
kept_length f (true ∷ ds) (t ∷ ts) len = kept_length f ds ts (omega arith)
kept_length f (false ∷ ds) (t ∷ ts) len = ap suc (kept_length f ds ts (omega arith))

kept_le : (ds : List Bool) → kept_in ds ≤ length ds
kept_le [] = omega arith
kept_le (true ∷ ds) = let h = kept_le ds in omega arith
kept_le (false ∷ ds) = let h = kept_le ds in omega arith

kept_less : (ds : List Bool) (j : ℕ) → j < length ds → is_dropped ds j ≡ true → kept_in ds < length ds
kept_less [] j lj e = absurd (omega arith)
kept_less (true ∷ ds) zero lj e = let h = kept_le ds in omega arith
kept_less (false ∷ ds) zero lj e = absurd (no_both (sym e))
kept_less (true ∷ ds) (suc j) lj e = let h = kept_less ds j (omega arith) e in omega arith
kept_less (false ∷ ds) (suc j) lj e = let h = kept_less ds j (omega arith) e in omega arith

rank_place : (ds : List Bool) (k : ℕ) → k < kept_in ds → rank ds (place ds k) ≡ k
unfolding place
rank_place [] k lk = absurd (omega arith)
rank_place (true ∷ ds) k lk = rank_place ds k lk
rank_place (false ∷ ds) zero lk = refl
rank_place (false ∷ ds) (suc k) lk = ap suc (rank_place ds k (omega arith))

pub kept_of : (gone : List Bool) (ss : List Source) (x : ℕ) → AreKept gone ss → Contains ss (Table x) → is_dropped gone x ≡ false
kept_of gone ss x are c = subst (IsKept gone) (get_or_default ss c.0 (Input 0) (Table x) c.1 ∙ c.2) (are c.0 c.1)

module _ (n : Network) (is : IsNetwork n) (dropped : List Bool) (closed : IsClosed dropped n.tables n.outputs) (f : ℕ → ℕ) (ranks : (j : ℕ) → j < length dropped → f j ≡ rank dropped j) where
  -- the smaller network
  abbrev small : Network
  small = compacted f dropped n

  count : length small.tables ≡ kept_in dropped
  count = kept_length f dropped n.tables closed.len

  at_new : (k : ℕ) → k < length small.tables → table_at small k ≡ renamed_table f (table_at n (place dropped k))
  at_new k lk = at_place f dropped n.tables k closed.len (omega (arith, count))

  placed : (k : ℕ) → k < length small.tables → (place dropped k < length n.tables) × (is_dropped dropped (place dropped k) ≡ false)
  placed k lk = let h = place_low dropped k (omega (arith, count)) in (omega (arith, h.0, closed.len), h.1)

  back : (j : ℕ) → j < length n.tables → is_dropped dropped j ≡ false → place dropped (f j) ≡ j
  back j lj e = let l : j < length dropped = omega (arith, closed.len) in ap (place dropped) (ranks j l) ∙ place_rank dropped j l e

  low : (j : ℕ) → j < length n.tables → is_dropped dropped j ≡ false → f j < length small.tables
  low j lj e = let l : j < length dropped = omega (arith, closed.len) in omega (arith, ranks j l, rank_low dropped j l e, count)

  -- what the table reads that stood there
  source_of : (k x : ℕ) → k < length small.tables → x < length (table_at n (place dropped k)).ins → IsSourceOf n (get_or (table_at n (place dropped k)).ins x (Input 0)) × IsKept dropped (get_or (table_at n (place dropped k)).ins x (Input 0))
  source_of k x lk lx = let p = placed k lk in (is.sources (place dropped k) no_table p.0 x (Input 0) lx, closed.tables (place dropped k) p.0 p.1 x lx)

  module _ (vector : List Bool) (given : ℕ → Bool) where
    abbrev fewer : ℕ → Bool
    fewer k = given (place dropped k)

    bit_same : (s : Source) → IsSourceOf n s → IsKept dropped s → bit_of vector fewer (renamed f s) ≡ bit_of vector given s
    bit_same (Input k) of kept = refl
    bit_same (Table j) of kept = ap given (back j of kept)

    bits_same : (ss : List Source) → ((x : ℕ) → x < length ss → IsSourceOf n (get_or ss x (Input 0)) × IsKept dropped (get_or ss x (Input 0))) → map (bit_of vector fewer) (map (renamed f) ss) ≡ map (bit_of vector given) ss
    bits_same ss each = ext_get_or true _ _ (length-map (map (renamed f) ss) (bit_of vector fewer) ∙ length-map ss (renamed f) ∙ sym (length-map ss (bit_of vector given))) (λ x lx. (let l : x < length ss = omega (arith, length-map (map (renamed f) ss) (bit_of vector fewer), length-map ss (renamed f)) in
        get_or-map (bit_of vector fewer) (map (renamed f) ss) x (Input 0) true (omega (arith, length-map ss (renamed f)))
        ∙ ap (bit_of vector fewer) (get_or-map (renamed f) ss x (Input 0) (Input 0) l)
        ∙ bit_same (get_or ss x (Input 0)) (each x l).0 (each x l).1
        ∙ sym (get_or-map (bit_of vector given) ss x (Input 0) true l)))

    truth_same : (k : ℕ) → k < length small.tables → truth vector fewer (table_at small k) ≡ truth vector given (table_at n (place dropped k))
    truth_same k lk =
        ap (truth vector fewer) (at_new k lk)
        ∙ ap (λ bits. cell_at (table_at n (place dropped k)).cells (number_of (map (λ x. slice_index_or bits x true) (range_with_len 0 6)))) (bits_same (table_at n (place dropped k)).ins (λ x lx. source_of k x lk lx))

    outputs_same : outputs_in small vector fewer ≡ outputs_in n vector given
    outputs_same = bits_same n.outputs (λ x lx. (is.outputs x (Input 0) lx, closed.outputs x lx))

    was_latched : (k : ℕ) → IsLatched small k → IsLatched n (place dropped k)
    was_latched k c = record { within = (placed k c.within).0; latched = sym (ap (λ t. t.latched) (at_new k c.within)) ∙ c.latched }

    was_combinational : (k : ℕ) → IsCombinational small k → IsCombinational n (place dropped k)
    was_combinational k c = record { within = (placed k c.within).0; latched = sym (ap (λ t. t.latched) (at_new k c.within)) ∙ c.latched }

    small_right : (state less : ℕ → Bool) → ((k : ℕ) → k < length small.tables → less k ≡ state (place dropped k)) → IsNetworkValuation n state vector given → IsNetworkValuation small less vector fewer
    small_right state less same p = record {
      inputs = p.inputs;
      latched = λ k c. p.latched (place dropped k) (was_latched k c) ∙ sym (same k c.within);
      combinational = λ k c. p.combinational (place dropped k) (was_combinational k c) ∙ sym (truth_same k c.within);
    }

  small_rows : (vectors rows : List (List Bool)) → AreRows n vectors rows → AreRows small vectors rows
  small_rows vectors rows p =
      rows_between n small fewer (λ state less. (k : ℕ) → k < length small.tables → less k ≡ state (place dropped k)) small_right (λ v given. sym (outputs_same v given)) truth_same vectors rows
      (first_state n) (first_state small) (λ k lk. ap (λ t. t.init) (at_new k lk)) p

  table_name : (a b : ℕ) → Table a ≡ Table b → a ≡ b
  table_name a b e = cc

  input_table : (a b : ℕ) → Input a ≡ Table b → ⊥
  input_table a b e = cc

  named : (s : Source) (i : ℕ) → IsSourceOf n s → IsKept dropped s → renamed f s ≡ Table i → s ≡ Table (place dropped i)
  named (Input k) i of kept e = absurd (input_table k i e)
  named (Table j) i of kept e = ap Table (sym (back j of kept) ∙ ap (place dropped) (table_name (f j) i e))

  was_read : (k i : ℕ) → k < length small.tables → Contains (table_at small k).ins (Table i) → Contains (table_at n (place dropped k)).ins (Table (place dropped i))
  was_read k i lk c = by (subst (λ (t : NetTable). Contains t.ins (Table i)) (at_new k lk) c)
    where
      by : Contains (map (renamed f) (table_at n (place dropped k)).ins) (Table i) → Contains (table_at n (place dropped k)).ins (Table (place dropped i))
      by c =
          let lx : c.0 < length (table_at n (place dropped k)).ins = omega (arith, c.1, length-map (table_at n (place dropped k)).ins (renamed f)) in
          let s = source_of k c.0 lk lx in
          (c.0, lx, get_or_default (table_at n (place dropped k)).ins c.0 (Table (place dropped i)) (Input 0) lx ∙ named (get_or (table_at n (place dropped k)).ins c.0 (Input 0)) i s.0 s.1 (sym (get_or-map (renamed f) (table_at n (place dropped k)).ins c.0 (Input 0) (Table i) lx) ∙ c.2))

  was_comb : (k : ℕ) → IsCombinational small k → IsCombinational n (place dropped k)
  was_comb k c = record { within = (placed k c.within).0; latched = sym (ap (λ t. t.latched) (at_new k c.within)) ∙ c.latched }

  was_path : {k d : ℕ} → IsPath small k d → IsPath n (place dropped k) d
  was_path (alone {j = k} c) = alone (was_comb k c)
  was_path (onward {i = i} {j = k} q c at) = onward (was_path q) (was_comb k c) (was_read k i c.within at)

  in_range : (s : Source) → IsSourceOf n s → IsKept dropped s → IsSourceOf small (renamed f s)
  in_range (Input k) of kept = of
  in_range (Table j) of kept = low j of kept

  all_in_range : (ss : List Source) → ((x : ℕ) → x < length ss → IsSourceOf n (get_or ss x (Input 0)) × IsKept dropped (get_or ss x (Input 0))) → All (IsSourceOf small) (map (renamed f) ss)
  all_in_range ss each x d lx =
      let l : x < length ss = omega (arith, length-map ss (renamed f)) in
      subst (IsSourceOf small) (sym (get_or-map (renamed f) ss x (Input 0) d l)) (in_range (get_or ss x (Input 0)) (each x l).0 (each x l).1)

  of_all : (P : NetTable → Type 0) → ((k : ℕ) → k < length small.tables → P (renamed_table f (table_at n (place dropped k)))) → All P small.tables
  of_all P each k d lk = subst P (sym (get_or_default small.tables k d no_table lk ∙ at_new k lk)) (each k lk)

  small_network : IsNetwork small
  small_network = record {
    few = let a = is.few in let b = kept_le dropped in omega (arith, count, closed.len);
    narrow = of_all (λ t. length t.ins ≤ 6) (λ k lk. (let a = is.narrow (place dropped k) no_table (placed k lk).0 in omega (arith, length-map (table_at n (place dropped k)).ins (renamed f))));
    sources = of_all (λ t. All (IsSourceOf small) t.ins) (λ k lk. all_in_range (table_at n (place dropped k)).ins (λ x lx. source_of k x lk lx));
    outputs = all_in_range n.outputs (λ x lx. (is.outputs x (Input 0) lx, closed.outputs x lx));
    acyclic = (is.acyclic.0, λ k d q. is.acyclic.1 (place dropped k) d (was_path q));
  }

  lengths : (state : ℕ → Bool) (vectors rows : List (List Bool)) → RowsFrom small state vectors rows → All (λ v. length v ≡ n.inputs) vectors
  lengths state [] rows p = λ k e lk. absurd (let no : ⊥ = omega arith in no)
  lengths state (v ∷ vs) [] p = absurd p
  lengths state (v ∷ vs) (row ∷ rows) p = both p.1.inputs (lengths (next_state small v p.0) vs rows p.3)
    where
      both : length v ≡ n.inputs → All (λ u. length u ≡ n.inputs) vs → All (λ u. length u ≡ n.inputs) (v ∷ vs)
      both e rest zero x lk = e
      both e rest (suc k) x lk = rest k x (omega arith)

  small_back : (vectors rows : List (List Bool)) → AreRows small vectors rows → AreRows n vectors rows
  small_back vectors rows p =
      let all = lengths (first_state small) vectors rows p in
      let some = one_rows n is vectors all in
      let one = one_rows small small_network vectors all in
      let e : some.0 ≡ rows = one.2 some.0 (small_rows vectors some.0 some.1) ∙ sym (one.2 rows p) in
      subst (λ r. AreRows n vectors r) e some.1

  small_reduced : (j : ℕ) → j < length n.tables → is_dropped dropped j ≡ true → IsReduced n small
  small_reduced j lj e = record {
    network = small_network;
    rows = λ vectors rows. (small_rows vectors rows, small_back vectors rows);
    inputs = refl;
    outputs = length-map n.outputs (renamed f);
    less = let h = kept_less dropped j (omega (arith, closed.len)) e in omega (arith, count, closed.len);
    shallow = λ depth deep k d q. deep (place dropped k) d (was_path q);
  }

  -- what leads to an output is kept
  kept_lead : {x : ℕ} → LeadsToOutput n x → is_dropped dropped x ≡ false
  kept_lead (is_shown {j = x} c) = kept_of dropped n.outputs x closed.outputs c
  kept_lead (is_read {i = i} {j = x} q l) = kept_of dropped (table_at n i).ins x (closed.tables i q.within (kept_lead l)) q.at

  renamed_in : (ss : List Source) (x : ℕ) → Contains ss (Table x) → Contains (map (renamed f) ss) (Table (f x))
  renamed_in ss x c = (c.0, omega (arith, c.1, length-map ss (renamed f)), get_or-map (renamed f) ss c.0 (Table x) (Table (f x)) c.1 ∙ ap (renamed f) c.2)

  reads_small : (i x : ℕ) → is_dropped dropped i ≡ false → Reads n i x → Reads small (f i) (f x)
  reads_small i x kept q = record {
    within = low i q.within kept;
    at = subst (λ (t : NetTable). Contains t.ins (Table (f x))) (sym (at_new (f i) (low i q.within kept) ∙ ap (λ k. renamed_table f (table_at n k)) (back i q.within kept))) (renamed_in (table_at n i).ins x q.at);
  }

  -- and leads to it then
  lead_small : {x : ℕ} → LeadsToOutput n x → LeadsToOutput small (f x)
  lead_small (is_shown {j = x} c) = is_shown (renamed_in n.outputs x c)
  lead_small (is_read {i = i} {j = x} q l) = is_read (reads_small i x (kept_lead l) q) (lead_small l)

  new_name : (k : ℕ) → k < length small.tables → f (place dropped k) ≡ k
  new_name k lk = let p = placed k lk in ranks (place dropped k) (omega (arith, p.0, closed.len)) ∙ rank_place dropped k (omega (arith, count))

  all_lead_small : ((j : ℕ) → j < length n.tables → is_dropped dropped j ≡ false → LeadsToOutput n j) → AllLead small
  all_lead_small each k lk = let p = placed k lk in subst (LeadsToOutput small) (new_name k lk) (lead_small (each (place dropped k) p.0 p.1))

pub compacted_reduced : (n m : Network) (dropped : List Bool) → IsNetwork n → IsClosed dropped n.tables n.outputs → IsCompacted n dropped m → (j : ℕ) → j < length n.tables → is_dropped dropped j ≡ true → IsReduced n m
compacted_reduced n m dropped is closed c j lj e = subst (IsReduced n) (sym c.is) (small_reduced n is dropped closed (named_by c.ranks) c.are.each j lj e)

pub compacted_leads : (n m : Network) (dropped : List Bool) → IsNetwork n → IsClosed dropped n.tables n.outputs → IsCompacted n dropped m → ((j : ℕ) → j < length n.tables → is_dropped dropped j ≡ false → LeadsToOutput n j) → AllLead m
compacted_leads n m dropped is closed c each = subst AllLead (sym c.is) (all_lead_small n is dropped closed (named_by c.ranks) c.are.each each)
