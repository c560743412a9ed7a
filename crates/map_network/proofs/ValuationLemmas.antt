-- A network has exactly one right valuation for each state and vector, and so exactly one list of rows.
use Rattle.std.proofs.Common.{◌≡◌, ◌⊎◌, ℕ, zero, suc, ◌<◌, ◌≤◌, Bool, true, false, List, [], ◌∷◌, length, get_or, map, refl, sym, ap, ◌∙◌, inl, inr, arith, if◌then◌else◌}
use Rattle.map_network.proofs.Vocabulary.{range_with_len, Contains, All, Contains-get_or, Source, Input, Table, Network}
use Rattle.std.proofs.lemmas.List.{get_or-map, ext_get_or, length-map}
use Rattle.map_network.specs.Vocabulary.{no_table, table_at, IsSourceOf, IsCombinational, IsLatched, IsPath, alone, onward, IsDeepest, IsNetwork, number_of, cell_at, bit_of, truth, IsNetworkValuation, outputs_in, next_state, first_state, RowsFrom, AreRows, HasOneRows}
use Rattle.map_network.proofs.PlainLemmas.{true_or}

module _ (n : Network) (net : IsNetwork n) where
  -- sources with the same bits give the same truth
  pub same_truth : (vector : List Bool) (x y : ℕ → Bool) (j : ℕ) → j < length n.tables → ((i : ℕ) → i < length n.tables → Contains (table_at n j).ins (Table i) → x i ≡ y i) → truth vector x (table_at n j) ≡ truth vector y (table_at n j)
  same_truth vector x y j h same = ap (λ bits. cell_at (table_at n j).cells (number_of (map (λ k. get_or bits k true) (range_with_len 0 6)))) (ext_get_or true _ _ (length-map (table_at n j).ins _ ∙ sym (length-map (table_at n j).ins _)) one)
    where
      bit : (s : Source) → Contains (table_at n j).ins s → IsSourceOf n s → bit_of vector x s ≡ bit_of vector y s
      bit (Input i) at of = refl
      bit (Table i) at of = same i of at

      one : (k : ℕ) → k < length (map (bit_of vector x) (table_at n j).ins) → get_or (map (bit_of vector x) (table_at n j).ins) k true ≡ get_or (map (bit_of vector y) (table_at n j).ins) k true
      one k l =
          let h' : k < length (table_at n j).ins = rw length-map at l in
          get_or-map (bit_of vector x) (table_at n j).ins k (Input 0) true h'
          ∙ bit (get_or (table_at n j).ins k (Input 0)) (Contains-get_or (table_at n j).ins k (Input 0) h') (net.sources j no_table h k (Input 0) h')
          ∙ sym (get_or-map (bit_of vector y) (table_at n j).ins k (Input 0) true h')

  module _ (depth : ℕ) (deep : IsDeepest n depth) (state : ℕ → Bool) (vector : List Bool) where
    -- two right valuations are one, on paths of at most t tables
    one_value_to : {x y : ℕ → Bool} {old : ℕ → Bool} → IsNetworkValuation n state vector x → IsNetworkValuation n old vector y → ((j : ℕ) → j < length n.tables → state j ≡ old j) → (t j : ℕ) → j < length n.tables → ((k : ℕ) → IsPath n j k → k ≤ t) → x j ≡ y j
    one_value_to {x} {y} p q alike zero j h low = by (true_or (table_at n j).latched)
      where
        by : ((table_at n j).latched ≡ true) ⊎ ((table_at n j).latched ≡ false) → x j ≡ y j
        by (inl e) = p.latched j (record { within = h; latched = e }) ∙ alike j h ∙ sym (q.latched j (record { within = h; latched = e }))
        by (inr e) = absurd (let l : 1 ≤ 0 = low 1 (alone (record { within = h; latched = e })) in omega arith)
    one_value_to {x} {y} p q alike (suc t) j h low = by (true_or (table_at n j).latched) (λ i l d. one_value_to p q alike t i l d)
      where
        by : ((table_at n j).latched ≡ true) ⊎ ((table_at n j).latched ≡ false) → ((i : ℕ) → i < length n.tables → ((k : ℕ) → IsPath n i k → k ≤ t) → x i ≡ y i) → x j ≡ y j
        by (inl e) before = p.latched j (record { within = h; latched = e }) ∙ alike j h ∙ sym (q.latched j (record { within = h; latched = e }))
        by (inr e) before =
            let is : IsCombinational n j = record { within = h; latched = e } in
            p.combinational j is ∙ same_truth vector x y j h (λ i l at. before i l (λ k path. let d : suc k ≤ suc t = low (suc k) (onward path is at) in omega arith)) ∙ sym (q.combinational j is)

    -- a right valuation, step by step
    step : (ℕ → Bool) → ℕ → Bool
    step given j = if (table_at n j).latched then state j else truth vector given (table_at n j)

    after : ℕ → ℕ → Bool
    after zero = state
    after (suc t) = step (after t)

    step_latched : (x : ℕ → Bool) (j : ℕ) → IsLatched n j → step x j ≡ state j
    unfolding step
    step_latched x j is = rw is.latched refl

    step_combinational : (x : ℕ → Bool) (j : ℕ) → IsCombinational n j → step x j ≡ truth vector x (table_at n j)
    unfolding step
    step_combinational x j is = rw is.latched refl

    settled : (t j : ℕ) → j < length n.tables → ((k : ℕ) → IsPath n j k → k ≤ t) → after (suc t) j ≡ after t j
    unfolding after
    settled zero j h low = by (true_or (table_at n j).latched)
      where
        by : ((table_at n j).latched ≡ true) ⊎ ((table_at n j).latched ≡ false) → step state j ≡ state j
        by (inl e) = step_latched state j (record { within = h; latched = e })
        by (inr e) = absurd (let l : 1 ≤ 0 = low 1 (alone (record { within = h; latched = e })) in omega arith)
    settled (suc t) j h low = by (true_or (table_at n j).latched) (λ i l d. settled t i l d)
      where
        by : ((table_at n j).latched ≡ true) ⊎ ((table_at n j).latched ≡ false) → ((i : ℕ) → i < length n.tables → ((k : ℕ) → IsPath n i k → k ≤ t) → step (after t) i ≡ after t i) → step (step (after t)) j ≡ step (after t) j
        by (inl e) before = step_latched _ j (record { within = h; latched = e }) ∙ sym (step_latched _ j (record { within = h; latched = e }))
        by (inr e) before =
            let is : IsCombinational n j = record { within = h; latched = e } in
            step_combinational _ j is ∙ same_truth vector (step (after t)) (after t) j h (λ i l at. before i l (λ k path. let d : suc k ≤ suc t = low (suc k) (onward path is at) in omega arith)) ∙ sym (step_combinational _ j is)

    -- the first state is that of latched tables alone, so one step more
    right_exists : length vector ≡ n.inputs → (given : ℕ → Bool) × IsNetworkValuation n state vector given
    unfolding after
    right_exists len = (step (after depth), record { inputs = len; latched = λ j is. step_latched (after depth) j is; combinational = λ j is. at_combinational j is })
      where
        at_combinational : (j : ℕ) → IsCombinational n j → step (after depth) j ≡ truth vector (step (after depth)) (table_at n j)
        at_combinational j is =
            step_combinational (after depth) j is
            ∙ same_truth vector (after depth) (step (after depth)) j is.within (λ i l at. sym (settled depth i l (λ k path. deep i k path)))

  -- two right valuations for states that agree
  pub one_value : {state old x y : ℕ → Bool} {vector : List Bool} → IsNetworkValuation n state vector x → IsNetworkValuation n old vector y → ((j : ℕ) → j < length n.tables → state j ≡ old j) → (j : ℕ) → j < length n.tables → x j ≡ y j
  one_value {state} {old} {x} {y} {vector} p q alike j h = one_value_to net.acyclic.0 net.acyclic.1 state vector p q alike net.acyclic.0 j h (λ k path. net.acyclic.1 j k path)

  same_row : (vector : List Bool) (x y : ℕ → Bool) → ((j : ℕ) → j < length n.tables → x j ≡ y j) → outputs_in n vector x ≡ outputs_in n vector y
  same_row vector x y same = ext_get_or true _ _ (length-map n.outputs _ ∙ sym (length-map n.outputs _)) one
    where
      bit : (s : Source) → IsSourceOf n s → bit_of vector x s ≡ bit_of vector y s
      bit (Input i) of = refl
      bit (Table i) of = same i of

      one : (k : ℕ) → k < length (map (bit_of vector x) n.outputs) → get_or (map (bit_of vector x) n.outputs) k true ≡ get_or (map (bit_of vector y) n.outputs) k true
      one k l =
          let h : k < length n.outputs = rw length-map at l in
          get_or-map (bit_of vector x) n.outputs k (Input 0) true h ∙ bit (get_or n.outputs k (Input 0)) (net.outputs k (Input 0) h) ∙ sym (get_or-map (bit_of vector y) n.outputs k (Input 0) true h)

  rows_alike : (state old : ℕ → Bool) (vectors xs ys : List (List Bool)) → ((j : ℕ) → j < length n.tables → state j ≡ old j) → RowsFrom n state vectors xs → RowsFrom n old vectors ys → xs ≡ ys
  rows_alike state old [] [] [] alike p q = refl
  rows_alike state old [] (x ∷ xs) ys alike p q = absurd p
  rows_alike state old [] [] (y ∷ ys) alike p q = absurd q
  rows_alike state old (v ∷ vs) [] ys alike p q = absurd p
  rows_alike state old (v ∷ vs) (x ∷ xs) [] alike p q = absurd q
  rows_alike state old (v ∷ vs) (x ∷ xs) (y ∷ ys) alike p q =
      let same = one_value p.1 q.1 alike in
      ap (λ r. r ∷ xs) (p.2 ∙ same_row v p.0 q.0 same ∙ sym q.2)
      ∙ ap (λ rs. y ∷ rs) (rows_alike (next_state n v p.0) (next_state n v q.0) vs xs ys (λ j h. same_truth v p.0 q.0 j h (λ i l at. same i l)) p.3 q.3)

  -- the rows are determined
  pub rows_unique : (vectors xs ys : List (List Bool)) → AreRows n vectors xs → AreRows n vectors ys → xs ≡ ys
  rows_unique vectors xs ys p q = rows_alike (first_state n) (first_state n) vectors xs ys (λ j h. refl) p q

  rows_from_exist : (state : ℕ → Bool) (vectors : List (List Bool)) → All (λ v. length v ≡ n.inputs) vectors → (rows : List (List Bool)) × RowsFrom n state vectors rows
  rows_from_exist state [] all = ([], tt)
  rows_from_exist state (v ∷ vs) all =
      let right = right_exists net.acyclic.0 net.acyclic.1 state v (all 0 [] (omega arith)) in
      let more = rows_from_exist (next_state n v right.0) vs (λ k e lk. all (suc k) e (omega arith)) in
      (outputs_in n v right.0 ∷ more.0, (right.0, right.1, refl, more.1))

  -- there is exactly one list of rows
  pub one_rows : (vectors : List (List Bool)) → All (λ v. length v ≡ n.inputs) vectors → HasOneRows n vectors
  one_rows vectors all = let some = rows_from_exist (first_state n) vectors all in (some.0, some.1, λ other p. rows_unique vectors other some.0 p some.1)
