-- A network does in a joint one what it does alone.
use Rattle.std.proofs.Common.{◌≡◌, ℕ, suc, ◌+◌, ◌<◌, Bool, true, List, [], ◌∷◌, length, get_or, map, refl, sym, ap, ◌∙◌, subst, arith}
use Rattle.std.specs.List.{All, Contains, range_with_len}
use Rattle.place_pair.proofs.Vocabulary.{get_or-map, Source, Input, Table, NetTable, Network, Site, part, moved, moved_table, StandsIn}
use Rattle.map_network.specs.Vocabulary.{no_table, table_at, IsCombinational, IsLatched, IsSourceOf, IsPath, alone, onward, IsDeepest, IsNetwork, number_of, cell_at, bit_of, truth, IsNetworkValuation, outputs_in, next_state, first_state, RowsFrom, AreRows}
use Rattle.place_pair.proofs.Lists.{nth_part, length_part, map_part, contains_map}

module _ (s : Site) (n joint : Network) (stands : StandsIn s n joint) (net : IsNetwork n) where
  pub table_there : (j : ℕ) → j < length n.tables → table_at joint (s.table + j) ≡ moved_table s.input s.table (table_at n j)
  table_there j h =
      sym (nth_part s.table (length n.tables) joint.tables j no_table h) ∙ ap (λ ts. get_or ts j no_table) stands.tables
      ∙ get_or-map (moved_table s.input s.table) n.tables j no_table no_table h

  pub within_there : (j : ℕ) → j < length n.tables → s.table + j < length joint.tables
  within_there j h = let l = stands.tables_within in omega (arith, h, l)

  combinational_there : (j : ℕ) → IsCombinational n j → IsCombinational joint (s.table + j)
  combinational_there j is = record { within = within_there j is.within; latched = ap (λ (t : NetTable). t.latched) (table_there j is.within) ∙ is.latched }

  latched_there : (j : ℕ) → IsLatched n j → IsLatched joint (s.table + j)
  latched_there j is = record { within = within_there j is.within; latched = ap (λ (t : NetTable). t.latched) (table_there j is.within) ∙ is.latched }

  -- its paths are paths there
  path_there : {j k : ℕ} → IsPath n j k → IsPath joint (s.table + j) k
  path_there (alone is) = alone (combinational_there _ is)
  path_there (onward {i} {j} {k} path is at) =
      onward (path_there path) (combinational_there j is) (subst (λ (t : NetTable). Contains t.ins (Table (s.table + i))) (sym (table_there j is.within)) (contains_map (moved s.input s.table) (table_at n j).ins (Table i) at))

  pub deep_there : (depth : ℕ) → IsDeepest joint depth → IsDeepest n depth
  deep_there depth deep j k path = deep (s.table + j) k (path_there path)

  abbrev vector_of : List Bool → List Bool
  vector_of v = part s.input n.inputs v

  abbrev row_of : List Bool → List Bool
  row_of row = part s.output (length n.outputs) row

  abbrev own : (ℕ → Bool) → ℕ → Bool
  own given j = given (s.table + j)

  module _ (v : List Bool) (given : ℕ → Bool) where
    bit : (x : Source) → IsSourceOf n x → bit_of v given (moved s.input s.table x) ≡ bit_of (vector_of v) (own given) x
    bit (Input k) h = sym (nth_part s.input n.inputs v k true h)
    bit (Table j) h = refl

    bits : (xs : List Source) → All (IsSourceOf n) xs → map (bit_of v given) (map (moved s.input s.table) xs) ≡ map (bit_of (vector_of v) (own given)) xs
    bits [] all = refl
    bits (x ∷ xs) all =
        ap (λ b. b ∷ map (bit_of v given) (map (moved s.input s.table) xs)) (bit x (all 0 x (omega arith)))
        ∙ ap (λ bs. bit_of (vector_of v) (own given) x ∷ bs) (bits xs (λ k d l. all (suc k) d (omega (arith, l))))

    truth_there : (j : ℕ) → j < length n.tables → truth v given (table_at joint (s.table + j)) ≡ truth (vector_of v) (own given) (table_at n j)
    truth_there j h =
        ap (truth v given) (table_there j h)
        ∙ ap (λ bs. cell_at (table_at n j).cells (number_of (map (λ k. get_or bs k true) (range_with_len 0 6)))) (bits (table_at n j).ins (net.sources j no_table h))

    right_there : (state own_state : ℕ → Bool) → ((j : ℕ) → j < length n.tables → own_state j ≡ state (s.table + j)) → IsNetworkValuation joint state v given → IsNetworkValuation n own_state (vector_of v) (own given)
    right_there state own_state same right = record {
      inputs = length_part s.input n.inputs v (let l = right.inputs in let e = stands.inputs in omega (arith, l, e));
      latched = λ j is. right.latched (s.table + j) (latched_there j is) ∙ sym (same j is.within);
      combinational = λ j is. right.combinational (s.table + j) (combinational_there j is) ∙ truth_there j is.within;
    }

    row_there : row_of (outputs_in joint v given) ≡ outputs_in n (vector_of v) (own given)
    row_there = map_part (bit_of v given) s.output (length n.outputs) joint.outputs ∙ ap (map (bit_of v given)) stands.outputs ∙ bits n.outputs net.outputs

  rows_there : (vectors rows : List (List Bool)) (state own_state : ℕ → Bool) → ((j : ℕ) → j < length n.tables → own_state j ≡ state (s.table + j)) → RowsFrom joint state vectors rows → RowsFrom n own_state (map (part s.input n.inputs) vectors) (map (part s.output (length n.outputs)) rows)
  rows_there [] [] state own_state same p = tt
  rows_there [] (row ∷ rows) state own_state same p = absurd p
  rows_there (v ∷ vs) [] state own_state same p = absurd p
  rows_there (v ∷ vs) (row ∷ rows) state own_state same p = (
    own p.0,
    right_there v p.0 state own_state same p.1,
    ap row_of p.2 ∙ row_there v p.0,
    rows_there vs rows (next_state joint v p.0) (next_state n (vector_of v) (own p.0)) (λ j h. sym (truth_there v p.0 j h)) p.3,
  )

  -- the network's rows are its part of the joint network's
  pub rows_of : (vectors rows : List (List Bool)) → AreRows joint vectors rows → AreRows n (map (part s.input n.inputs) vectors) (map (part s.output (length n.outputs)) rows)
  rows_of vectors rows p = rows_there vectors rows (first_state joint) (first_state n) (λ j h. ap (λ (t : NetTable). t.init) (sym (table_there j h))) p
