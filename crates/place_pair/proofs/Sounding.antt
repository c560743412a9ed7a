-- The joint network of two networks is a network.
use Rattle.std.proofs.Common.{◌≡◌, ◌⊎◌, ℕ, suc, ◌+◌, ◌-◌, ◌<◌, ◌≤◌, false, length, get_or, map, sym, ap, ◌∙◌, subst, inl, inr, arith}
use Rattle.place_pair.proofs.Vocabulary.{All, Contains, cases_lt, get_or-map, get_or_append_left, get_or-append-add, length-append}
use Rattle.place_pair.proofs.Vocabulary.{length-map, Source, Input, Table, NetTable, Network, moved, moved_table, joint_network}
use Rattle.map_network.specs.Networks.{no_table, table_at, IsCombinational, IsSourceOf, IsPath, alone, onward, IsDeepest, IsNetwork}
use Rattle.place_pair.proofs.Lists.{all_append, all_map, contains_unmap, all_has}

module _ (n o : Network) where
  pub long_tables : length (joint_network n o).tables ≡ length n.tables + length o.tables
  long_tables = length-append n.tables (map (moved_table n.inputs (length n.tables)) o.tables) ∙ ap (λ k. length n.tables + k) (length-map o.tables (moved_table n.inputs (length n.tables)))

  pub long_outputs : length (joint_network n o).outputs ≡ length n.outputs + length o.outputs
  long_outputs = length-append n.outputs (map (moved n.inputs (length n.tables)) o.outputs) ∙ ap (λ k. length n.outputs + k) (length-map o.outputs (moved n.inputs (length n.tables)))

  pub first_table : (j : ℕ) → j < length n.tables → table_at (joint_network n o) j ≡ table_at n j
  first_table j h = get_or_append_left n.tables (map (moved_table n.inputs (length n.tables)) o.tables) no_table j h

  pub second_table : (j : ℕ) → j < length o.tables → table_at (joint_network n o) (length n.tables + j) ≡ moved_table n.inputs (length n.tables) (table_at o j)
  second_table j h = get_or-append-add n.tables (map (moved_table n.inputs (length n.tables)) o.tables) j no_table ∙ get_or-map (moved_table n.inputs (length n.tables)) o.tables j no_table no_table h

  first_source : (x : Source) → IsSourceOf n x → IsSourceOf (joint_network n o) x
  first_source (Input k) h = omega (arith, h)
  first_source (Table j) h = let e = long_tables in omega (arith, h, e)

  second_source : (x : Source) → IsSourceOf o x → IsSourceOf (joint_network n o) (moved n.inputs (length n.tables) x)
  second_source (Input k) h = omega (arith, h)
  second_source (Table j) h = let e = long_tables in omega (arith, h, e)

  module _ (first : IsNetwork n) (second : IsNetwork o) where
    -- a source that a table of the second has is not one of the first's tables
    read_before : (j i : ℕ) → j < length n.tables → Contains (table_at (joint_network n o) j).ins (Table i) → (i < length n.tables) × Contains (table_at n j).ins (Table i)
    read_before j i h has =
        let at = subst (λ (t : NetTable). Contains t.ins (Table i)) (first_table j h) has in
        (all_has (IsSourceOf n) (table_at n j).ins (Table i) (first.sources j no_table h) at, at)

    read_behind : (j i : ℕ) → j < length o.tables → Contains (table_at (joint_network n o) (length n.tables + j)).ins (Table i) → (k : ℕ) × (i ≡ length n.tables + k) × Contains (table_at o j).ins (Table k)
    read_behind j i h has =
        let at = subst (λ (t : NetTable). Contains t.ins (Table i)) (second_table j h) has in
        let r = contains_unmap (moved n.inputs (length n.tables)) (table_at o j).ins (Table i) at in
        by r.0 r.1 r.2
      where
        by : (x : Source) → Contains (table_at o j).ins x → moved n.inputs (length n.tables) x ≡ Table i → (k : ℕ) × (i ≡ length n.tables + k) × Contains (table_at o j).ins (Table k)
        by (Input k) at e = absurd cc
        by (Table k) at e = (k, number e, at)
          where
            number : {a b : ℕ} → Table a ≡ Table b → b ≡ a
            number e = cc

    -- a path stays in one of the two
    abbrev Stays : ℕ → ℕ → Type 0
    Stays j k = ((j < length n.tables) × IsPath n j k) ⊎ ((i : ℕ) × (j ≡ length n.tables + i) × IsPath o i k)

    here_first : (j : ℕ) → j < length n.tables → IsCombinational (joint_network n o) j → IsCombinational n j
    here_first j h is = record { within = h; latched = ap (λ (t : NetTable). t.latched) (sym (first_table j h)) ∙ is.latched }

    here_second : (j i : ℕ) → j ≡ length n.tables + i → IsCombinational (joint_network n o) j → IsCombinational o i
    here_second j i e is =
        let h : i < length o.tables = let l = long_tables in let w = is.within in omega (arith, l, w, e) in
        record { within = h; latched = ap (λ (t : NetTable). t.latched) (sym (second_table i h)) ∙ subst (λ z. (table_at (joint_network n o) z).latched ≡ false) e is.latched }

    side : (j : ℕ) → (j < length n.tables) ⊎ ((i : ℕ) × (j ≡ length n.tables + i))
    side j = by (cases_lt j (length n.tables))
      where
        by : (j < length n.tables) ⊎ (length n.tables ≤ j) → (j < length n.tables) ⊎ ((i : ℕ) × (j ≡ length n.tables + i))
        by (inl h) = inl h
        by (inr h) = inr (j - length n.tables, omega (arith, h))

    path_stays : {j k : ℕ} → IsPath (joint_network n o) j k → Stays j k
    path_stays (alone {j} is) = by (side j)
      where
        by : (j < length n.tables) ⊎ ((i : ℕ) × (j ≡ length n.tables + i)) → Stays j 1
        by (inl h) = inl (h, alone (here_first j h is))
        by (inr r) = inr (r.0, r.1, alone (here_second j r.0 r.1 is))
    path_stays (onward {i} {j} {k} path is at) = by (side j) (path_stays path)
      where
        by : (j < length n.tables) ⊎ ((a : ℕ) × (j ≡ length n.tables + a)) → Stays i k → Stays j (suc k)
        by (inl h) (inl p) = inl (h, onward p.1 (here_first j h is) (read_before j i h at).1)
        by (inl h) (inr p) = let l = (read_before j i h at).0 in absurd (let no : ⊥ = omega (arith, l, p.1) in no)
        by (inr r) s =
            let c = here_second j r.0 r.1 is in
            let b = read_behind r.0 i c.within (subst (λ z. Contains (table_at (joint_network n o) z).ins (Table i)) r.1 at) in
            on c b s
          where
            on : IsCombinational o r.0 → (q : ℕ) × (i ≡ length n.tables + q) × Contains (table_at o r.0).ins (Table q) → Stays i k → Stays j (suc k)
            on c b (inl p) = absurd (let l = p.0 in let e = b.1 in let no : ⊥ = omega (arith, l, e) in no)
            on c b (inr p) = inr (r.0, r.1, onward p.2 c (subst (λ z. Contains (table_at o r.0).ins (Table z)) (let e = b.1 in let f = p.1 in let g : b.0 ≡ p.0 = omega (arith, e, f) in g) b.2))

    deep : IsDeepest (joint_network n o) (first.acyclic.0 + second.acyclic.0)
    deep j k path = by (path_stays path)
      where
        by : Stays j k → k ≤ first.acyclic.0 + second.acyclic.0
        by (inl p) = let l = first.acyclic.1 j k p.1 in omega (arith, l)
        by (inr p) = let l = second.acyclic.1 p.0 k p.2 in omega (arith, l)

    few_ins : (t : NetTable) → length t.ins ≤ 6 → length (moved_table n.inputs (length n.tables) t).ins ≤ 6
    few_ins t h = let e = length-map t.ins (moved n.inputs (length n.tables)) in omega (arith, h, e)

    pub joint_sound : length n.tables + length o.tables < 4294967296 → IsNetwork (joint_network n o)
    joint_sound few = record {
      few = (let e = long_tables in omega (arith, few, e));
      narrow = all_append (λ (t : NetTable). length t.ins ≤ 6) n.tables (map (moved_table n.inputs (length n.tables)) o.tables) first.narrow
          (all_map (moved_table n.inputs (length n.tables)) (λ (t : NetTable). length t.ins ≤ 6) (λ (t : NetTable). length t.ins ≤ 6) few_ins o.tables second.narrow);
      sources = all_append (λ (t : NetTable). All (IsSourceOf (joint_network n o)) t.ins) n.tables (map (moved_table n.inputs (length n.tables)) o.tables)
          (λ j d l k e m. first_source (get_or (get_or n.tables j d).ins k e) (first.sources j d l k e m))
          (all_map (moved_table n.inputs (length n.tables)) (λ (t : NetTable). All (IsSourceOf o) t.ins) (λ (t : NetTable). All (IsSourceOf (joint_network n o)) t.ins)
          (λ t all. all_map (moved n.inputs (length n.tables)) (IsSourceOf o) (IsSourceOf (joint_network n o)) second_source t.ins all) o.tables second.sources);
      outputs = all_append (IsSourceOf (joint_network n o)) n.outputs (map (moved n.inputs (length n.tables)) o.outputs)
          (λ k d l. first_source (get_or n.outputs k d) (first.outputs k d l))
          (all_map (moved n.inputs (length n.tables)) (IsSourceOf o) (IsSourceOf (joint_network n o)) second_source o.outputs second.outputs);
      acyclic = (first.acyclic.0 + second.acyclic.0, deep);
    }
