-- What the last table of a cover gives: the cover's truth.
use Rattle.std.proofs.Common.{◌≡◌, ◌⊎◌, Bool, ℕ, zero, suc, ◌+◌, ◌*◌, ◌-◌, ◌/◌, ◌<◌, ◌≤◌, ◌&&◌, ◌||◌, List, [], ◌∷◌, ◌++◌, true, false, length, drop, take, map, get_or, refl, sym, ap, subst, ◌∙◌, inl, inr, arith, if◌then◌else◌, slice_index_or}
use Rattle.map_network.proofs.Vocabulary.{cases_lt, cases_eq, get_or-map-range_with_len, length-map-range_with_len, Cover, Lit, Zero, One}
use Rattle.map_network.proofs.Vocabulary.{Any, fits, matches, some_matches, Source, Input, Want, Gate, NetTable}
use Rattle.std.proofs.lemmas.List.{length-append, length-map, length-drop, length-take, get_or-map, ext_get_or, take-append-drop, map-append}
use Rattle.std.proofs.Math.Bool.{and_assoc, or_assoc}
use native.Mathlib.Numerals.{unary_clauses}
use Rattle.design_netlist.specs.Covers as cover
use Rattle.design_netlist.proofs.ValuationLemmas.{same_truth}
use Rattle.map_network.specs.declared.want.Gate.TheVariants as gate
use Rattle.map_network.specs.Vocabulary.{no_table, bit_of, pins_of, truth, flip, every, any, together, met, groups, sixes, want_table, wants_from, gate_table, levels, tree, trees, tree_ends, row_wants, rows_wants, wide_tables, narrow_table, is_narrow, cover_tables, cover_size, distinct, pin_named, is_among}
use Rattle.map_network.proofs.CellLemmas.{gives_of, eqb_true, eqb_false, if_or}
use Rattle.map_network.proofs.NameLemmas.{among_distinct, among_other, no_both}
use Rattle.map_network.proofs.TreeLemmas.{length-groups, length-wants_from, levels_low, levels_high, levels_some, tree_size_some, nat_lt_true}
use Rattle.map_network.proofs.PlainLemmas.{AreRowsOf, narrow_tables, wide_are, true_or, narrow_size, length-cover}
use Rattle.map_network.proofs.BlockLemmas.{table_in, at_left, at_right, group_at}

-- together

join : Gate → Bool → Bool → Bool
join gate.All a b = a && b
join gate.Some a b = a || b

together_cons : (g : Gate) (b : Bool) (bs : List Bool) → together g (b ∷ bs) ≡ join g b (together g bs)
unfolding join
together_cons gate.All b bs = refl
together_cons gate.Some b bs = refl

together_append : (g : Gate) (xs ys : List Bool) → together g (xs ++ ys) ≡ join g (together g xs) (together g ys)
unfolding join
together_append gate.All [] ys = refl
together_append gate.Some [] ys = refl
together_append gate.All (x ∷ xs) ys = ap (λ b. x && b) (together_append gate.All xs ys) ∙ sym (and_assoc x (every xs) (every ys))
together_append gate.Some (x ∷ xs) ys = ap (λ b. x || b) (together_append gate.Some xs ys) ∙ sym (or_assoc x (any xs) (any ys))

together_groups : (f : Want → Bool) (g : Gate) (k : ℕ) (xs : List Want) → length xs ≤ 6 * k → together g (map (λ ys. together g (map f ys)) (groups k xs)) ≡ together g (map f xs)
together_groups f g zero [] h = refl
together_groups f g zero (x ∷ xs) h = absurd (omega arith)
together_groups f g (suc k) xs h =
    let m : 6 * suc k ≡ 6 + 6 * k = simp unary_clauses (omega arith) in
    together_cons g (together g (map f (take 6 xs))) (map (λ ys. together g (map f ys)) (groups k (drop 6 xs)))
    ∙ ap (λ b. join g (together g (map f (take 6 xs))) b) (together_groups f g k (drop 6 xs) (omega (arith, length-drop 6 xs)))
    ∙ sym (together_append g (map f (take 6 xs)) (map f (drop 6 xs)))
    ∙ ap (λ bs. together g bs) (sym (map-append f (take 6 xs) (drop 6 xs)) ∙ ap (map f) (take-append-drop 6 xs))

module _ (vector : List Bool) (h : ℕ → Bool) where
  abbrev holds : Want → Bool
  holds w = fits w.lit (bit_of vector h w.source)

  -- each table gives what its pins address
  abbrev pub Obeys : ℕ → List NetTable → Type 0
  Obeys first tables = (k : ℕ) → k < length tables → h (first + k) ≡ truth vector h (table_in tables k)

  obeys_left : (first : ℕ) (xs ys : List NetTable) → Obeys first (xs ++ ys) → Obeys first xs
  obeys_left first xs ys o k lk = o k (omega (arith, length-append xs ys)) ∙ ap (λ t. truth vector h t) (at_left xs ys k lk)

  obeys_right : (first : ℕ) (xs ys : List NetTable) → Obeys first (xs ++ ys) → Obeys (first + length xs) ys
  obeys_right first xs ys o k lk =
      ap h (let e : first + length xs + k ≡ first + (length xs + k) = omega arith in e)
      ∙ o (length xs + k) (omega (arith, length-append xs ys))
      ∙ ap (λ t. truth vector h t) (at_right xs ys (length xs + k) (omega arith) ∙ ap (λ m. table_in ys m) (let e : length xs + k - length xs ≡ k = omega arith in e))

  pub pin_at : (ins : List Source) (k : ℕ) (d : Source) → length ins ≤ 6 → k < length ins → get_or (pins_of vector h ins) k true ≡ bit_of vector h (get_or ins k d)
  pin_at ins k d few lk =
      get_or-map-range_with_len (λ j. slice_index_or (map (bit_of vector h) ins) j true) 0 6 k k true (omega arith) (omega arith)
      ∙ get_or-map (bit_of vector h) ins k d true lk

  pub length-pins : (ins : List Source) → length (pins_of vector h ins) ≡ 6
  length-pins ins = length-map-range_with_len (λ j. slice_index_or (map (bit_of vector h) ins) j true) 0 6

  met_is : (ws : List Want) (bits : List Bool) → length ws ≤ length bits → ((k : ℕ) → k < length ws → get_or bits k true ≡ bit_of vector h (get_or ws k (record { source = Input 0; lit = Any })).source) → met ws bits ≡ map holds ws
  met_is [] bits le each = refl
  met_is (w ∷ ws) [] le each = absurd (omega arith)
  met_is (w ∷ ws) (b ∷ bs) le each = ap (λ x. fits w.lit x ∷ met ws bs) (each 0 (omega arith)) ∙ ap (λ xs. holds w ∷ xs) (met_is ws bs (omega arith) (λ k lk. each (suc k) (omega arith)))

  gate_value : (g : Gate) (off : Bool) (ws : List Want) → length ws ≤ 6 → truth vector h (gate_table g off ws) ≡ flip off (together g (map holds ws))
  gate_value g off ws few =
      let n : length (map (λ (w : Want). w.source) ws) ≡ length ws = length-map ws (λ (w : Want). w.source) in
      gives_of (λ pins. flip off (together g (met ws pins))) (pins_of vector h (map (λ (w : Want). w.source) ws)) (length-pins (map (λ (w : Want). w.source) ws))
      ∙ ap (λ bs. flip off (together g bs)) (met_is ws (pins_of vector h (map (λ (w : Want). w.source) ws)) (omega (arith, length-pins (map (λ (w : Want). w.source) ws))) (λ k lk. pin_at (map (λ (w : Want). w.source) ws) k (Input 0) (omega arith) (omega arith) ∙ ap (bit_of vector h) (get_or-map (λ (w : Want). w.source) ws k (record { source = Input 0; lit = Any }) (Input 0) lk)))

  -- the level that follows has what the groups give
  next_level : (g : Gate) (first : ℕ) (ws : List Want) → Obeys first (map (gate_table g false) (sixes ws)) → map holds (wants_from first (length (sixes ws))) ≡ map (λ ys. together g (map holds ys)) (sixes ws)
  next_level g first ws o = ext_get_or true _ _ (length-map (wants_from first (length (sixes ws))) holds ∙ length-wants_from first (length (sixes ws)) ∙ sym (length-map (sixes ws) (λ ys. together g (map holds ys)))) one
    where
      one : (k : ℕ) → k < length (map holds (wants_from first (length (sixes ws)))) → get_or (map holds (wants_from first (length (sixes ws)))) k true ≡ get_or (map (λ ys. together g (map holds ys)) (sixes ws)) k true
      one k lk =
          let l : k < length (sixes ws) = omega (arith, length-map (wants_from first (length (sixes ws))) holds, length-wants_from first (length (sixes ws))) in
          let six : length (take 6 (drop (6 * k) ws)) ≤ 6 = omega (arith, length-take 6 (drop (6 * k) ws)) in
          let at : get_or (sixes ws) k [] ≡ take 6 (drop (6 * k) ws) = group_at ((length ws + 5) / 6) k ws (omega (arith, length-groups ((length ws + 5) / 6) ws)) in
          get_or-map holds (wants_from first (length (sixes ws))) k (record { source = Input 0; lit = Any }) true (omega (arith, length-wants_from first (length (sixes ws))))
          ∙ ap holds (get_or-map-range_with_len want_table first (length (sixes ws)) k (first + k) (record { source = Input 0; lit = Any }) l refl)
          ∙ o k (omega (arith, length-map (sixes ws) (gate_table g false)))
          ∙ ap (λ t. truth vector h t) (get_or-map (gate_table g false) (sixes ws) k [] no_table l ∙ ap (gate_table g false) at)
          ∙ gate_value g false (take 6 (drop (6 * k) ws)) six
          ∙ ap (λ ys. together g (map holds ys)) (sym at)
          ∙ sym (get_or-map (λ ys. together g (map holds ys)) (sixes ws) k [] true l)

  one_value : (g : Gate) (off : Bool) (first : ℕ) (ws : List Want) → length ws ≤ 6 → (ts : List NetTable) → ts ≡ gate_table g off ws ∷ [] → Obeys first ts → h (first + length ts - 1) ≡ flip off (together g (map holds ws))
  one_value g off first ws few ts e o =
      ap h (let f : first + length ts - 1 ≡ first + 0 = omega (arith, ap length e) in f)
      ∙ o 0 (omega (arith, ap length e))
      ∙ ap (λ xs. truth vector h (table_in xs 0)) e
      ∙ gate_value g off ws few

  levels_value : (g : Gate) (off : Bool) (n first : ℕ) (ws : List Want) → length ws ≤ n → Obeys first (levels g off n first ws) → h (first + length (levels g off n first ws) - 1) ≡ flip off (together g (map holds ws))
  levels_value g off zero first ws le o = one_value g off first ws (omega arith) (levels g off zero first ws) (levels_low g off zero first ws (omega arith)) o
  levels_value g off (suc n) first ws le o = by (cases_lt 6 (length ws)) (λ f vs l p. levels_value g off n f vs l p)
    where
      by : (6 < length ws) ⊎ (length ws ≤ 6) → ((f : ℕ) (vs : List Want) → length vs ≤ n → Obeys f (levels g off n f vs) → h (f + length (levels g off n f vs) - 1) ≡ flip off (together g (map holds vs))) → h (first + length (levels g off (suc n) first ws) - 1) ≡ flip off (together g (map holds ws))
      by (inl l) again =
          let high = levels_high g off n first ws l in
          let count : length (sixes ws) ≡ (length ws + 5) / 6 = length-groups ((length ws + 5) / 6) ws in
          let few : length (wants_from first (length (sixes ws))) ≤ n = omega (arith, length-wants_from first (length (sixes ws))) in
          let o' : Obeys first (map (gate_table g false) (sixes ws) ++ levels g off n (first + length (sixes ws)) (wants_from first (length (sixes ws)))) = subst (λ ts. Obeys first ts) high o in
          let gates : length (map (gate_table g false) (sixes ws)) ≡ length (sixes ws) = length-map (sixes ws) (gate_table g false) in
          let rest : Obeys (first + length (sixes ws)) (levels g off n (first + length (sixes ws)) (wants_from first (length (sixes ws)))) = subst (λ m. Obeys (first + m) (levels g off n (first + length (sixes ws)) (wants_from first (length (sixes ws))))) gates (obeys_right first (map (gate_table g false) (sixes ws)) (levels g off n (first + length (sixes ws)) (wants_from first (length (sixes ws)))) o') in
          let some : 1 ≤ length (levels g off n (first + length (sixes ws)) (wants_from first (length (sixes ws)))) = levels_some g off n (first + length (sixes ws)) (wants_from first (length (sixes ws))) few in
          ap h (let f : first + length (levels g off (suc n) first ws) - 1 ≡ first + length (sixes ws) + length (levels g off n (first + length (sixes ws)) (wants_from first (length (sixes ws)))) - 1 = omega (arith, ap length high, length-append (map (gate_table g false) (sixes ws)) (levels g off n (first + length (sixes ws)) (wants_from first (length (sixes ws))))) in f)
          ∙ again (first + length (sixes ws)) (wants_from first (length (sixes ws))) few rest
          ∙ ap (λ bs. flip off (together g bs)) (next_level g first ws (obeys_left first (map (gate_table g false) (sixes ws)) (levels g off n (first + length (sixes ws)) (wants_from first (length (sixes ws)))) o'))
          ∙ ap (λ b. flip off b) (together_groups holds g ((length ws + 5) / 6) ws (omega arith))
      by (inr l) again = one_value g off first ws l (levels g off (suc n) first ws) (levels_low g off (suc n) first ws l) o

  tree_value : (g : Gate) (off : Bool) (first : ℕ) (ws : List Want) → Obeys first (tree g off first ws) → h (first + length (tree g off first ws) - 1) ≡ flip off (together g (map holds ws))
  tree_value g off first ws o = levels_value g off (length ws) first ws (omega arith) o

  trees_value : (first : ℕ) (wss : List (List Want)) → Obeys first (trees first wss) → map holds (tree_ends first wss) ≡ map (λ ws. every (map holds ws)) wss
  unfolding trees tree_ends
  trees_value first [] o = refl
  trees_value first (ws ∷ more) o =
      ap (λ b. b ∷ map holds (tree_ends (first + length (tree gate.All false first ws)) more)) (tree_value gate.All false first ws (obeys_left first (tree gate.All false first ws) (trees (first + length (tree gate.All false first ws)) more) o))
      ∙ ap (λ bs. every (map holds ws) ∷ bs) (trees_value (first + length (tree gate.All false first ws)) more (obeys_right first (tree gate.All false first ws) (trees (first + length (tree gate.All false first ws)) more) o))

  module _ (source : ℕ → Source) where
    -- what a signal has
    abbrev pub given : ℕ → Bool
    given s = bit_of vector h (source s)

    row_value : (row : List Lit) (ins : List ℕ) → length row ≡ length ins → every (map holds (row_wants source row ins)) ≡ matches row (map given ins)
    row_value [] ins e = refl
    row_value (l ∷ ls) [] e = absurd (omega arith)
    row_value (Zero ∷ ls) (s ∷ ss) e = ap (λ b. fits Zero (given s) && b) (row_value ls ss (omega arith))
    row_value (One ∷ ls) (s ∷ ss) e = ap (λ b. fits One (given s) && b) (row_value ls ss (omega arith))
    row_value (Any ∷ ls) (s ∷ ss) e = row_value ls ss (omega arith)

    rows_value : (rows : List (List Lit)) (ins : List ℕ) → ((k : ℕ) → k < length rows → length (slice_index_or rows k []) ≡ length ins) → any (map (λ ws. every (map holds ws)) (map (λ row. row_wants source row ins) rows)) ≡ some_matches rows (map given ins)
    rows_value [] ins e = refl
    rows_value (row ∷ rows) ins e =
        ap (λ b. b || any (map (λ ws. every (map holds ws)) (map (λ r. row_wants source r ins) rows))) (row_value row ins (e 0 (omega arith)))
        ∙ ap (λ b. matches row (map given ins) || b) (rows_value rows ins (λ k lk. e (suc k) (omega arith)))
        ∙ sym (if_or (matches row (map given ins)) (some_matches rows (map given ins)))

    named_value : (names : List ℕ) (bits : List Bool) (s : ℕ) → length names ≤ length bits → ((k : ℕ) → k < length names → get_or bits k true ≡ given (get_or names k 0)) → is_among names s ≡ true → pin_named names bits s ≡ given s
    named_value [] bits s le each e = absurd (no_both (sym e))
    named_value (n ∷ ns) [] s le each e = absurd (omega arith)
    named_value (n ∷ ns) (b ∷ bs) s le each e = by (cases_eq n s) (λ f. named_value ns bs s (omega arith) (λ k lk. each (suc k) (omega arith)) f)
      where
        by : (n ≡ s) ⊎ (n ≡ s → ⊥) → (is_among ns s ≡ true → pin_named ns bs s ≡ given s) → pin_named (n ∷ ns) (b ∷ bs) s ≡ given s
        by (inl f) rest = ap (λ t. if t then b else pin_named ns bs s) (eqb_true n s f) ∙ each 0 (omega arith) ∙ ap given f
        by (inr d) rest = ap (λ t. if t then b else pin_named ns bs s) (eqb_false n s d) ∙ rest (sym (among_other n s ns d) ∙ e)

    narrow_value : (c : Cover) → is_narrow c ≡ true → truth vector h (narrow_table source c) ≡ cover.truth given c
    narrow_value c e =
        let few : length (distinct c.ins) < 7 = nat_lt_true (length (distinct c.ins)) 7 e in
        let n : length (map source (distinct c.ins)) ≡ length (distinct c.ins) = length-map (distinct c.ins) source in
        gives_of (λ pins. cover.truth (pin_named (distinct c.ins) pins) c) (pins_of vector h (map source (distinct c.ins))) (length-pins (map source (distinct c.ins)))
        ∙ same_truth (pin_named (distinct c.ins) (pins_of vector h (map source (distinct c.ins)))) given c (λ k lk.
        named_value (distinct c.ins) (pins_of vector h (map source (distinct c.ins))) (get_or c.ins k 0) (omega (arith, length-pins (map source (distinct c.ins))))
        (λ j lj. pin_at (map source (distinct c.ins)) j (Input 0) (omega arith) (omega arith) ∙ ap (bit_of vector h) (get_or-map source (distinct c.ins) j 0 (Input 0) lj))
        (among_distinct c.ins k lk))

    -- the last table of a cover gives the cover's truth
    pub cover_value : (first : ℕ) (c : Cover) → AreRowsOf c → Obeys first (cover_tables source first c) → h (first + cover_size c - 1) ≡ cover.truth given c
    cover_value first c rows o = by (true_or (is_narrow c))
      where
        size : length (cover_tables source first c) ≡ cover_size c
        size = length-cover source first c rows

        by : (is_narrow c ≡ true) ⊎ (is_narrow c ≡ false) → h (first + cover_size c - 1) ≡ cover.truth given c
        by (inl e) =
            let ts = narrow_tables source first c e in
            ap h (let f : first + cover_size c - 1 ≡ first + 0 = omega (arith, narrow_size c e) in f)
            ∙ o 0 (omega (arith, narrow_size c e, size))
            ∙ ap (λ xs. truth vector h (table_in xs 0)) ts
            ∙ narrow_value c e
        by (inr e) =
            let ts = wide_are source first c e in
            let o' : Obeys first (wide_tables source first c) = subst (λ xs. Obeys first xs) ts o in
            let some = tree_size_some (length (tree_ends first (rows_wants source c))) in
            ap h (let f : first + cover_size c - 1 ≡ first + length (trees first (rows_wants source c)) + length (tree gate.Some c.off (first + length (trees first (rows_wants source c))) (tree_ends first (rows_wants source c))) - 1 = omega (arith, size, ap length ts, length-append (trees first (rows_wants source c)) (tree gate.Some c.off (first + length (trees first (rows_wants source c))) (tree_ends first (rows_wants source c)))) in f)
            ∙ tree_value gate.Some c.off (first + length (trees first (rows_wants source c))) (tree_ends first (rows_wants source c)) (obeys_right first (trees first (rows_wants source c)) (tree gate.Some c.off (first + length (trees first (rows_wants source c))) (tree_ends first (rows_wants source c))) o')
            ∙ ap (λ bs. flip c.off (any bs)) (trees_value first (rows_wants source c) (obeys_left first (trees first (rows_wants source c)) (tree gate.Some c.off (first + length (trees first (rows_wants source c))) (tree_ends first (rows_wants source c))) o'))
            ∙ ap (λ b. flip c.off b) (rows_value c.rows c.ins rows)
