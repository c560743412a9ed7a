-- The loops that add the tables of rows and covers.
use Rattle.std.proofs.Common.{◌≡◌, ℕ, zero, suc, ◌+◌, ◌-◌, ◌<◌, ◌≤◌, List, [], ◌∷◌, ◌++◌, false, length, drop, take, get_or, sym, ap, ◌∙◌, arith, sum_by, All, not, ◌==◌}
use Rattle.std.proofs.lemmas.List.{append_assoc, append-nil, length-append, length-map, drop_more, drop_all, get_or-map, get_or_default}
use Rattle.map_network.proofs.Vocabulary.{All-filter, sum_by-drop_more, sum_by_more, Cover, Lit, Source, Want, NetTable}
use Rattle.map_network.specs.declared.want.Gate.TheVariants as gate
use Rattle.map_network.specs.Vocabulary.{tree, trees, tree_ends, row_wants, rows_wants, cover_tables, cover_size, covers_tables, distinct, want_table, tree_size, row_size, rows_size}
use Rattle.map_network.proofs.PlainLemmas.{AreRowsOf, length-row_wants, length-cover}

pub distinct_all : (P : ℕ → Type 0) (xs : List ℕ) → All P xs → All P (distinct xs)
distinct_all P [] all = λ k d lk. absurd (let no : ⊥ = omega arith in no)
distinct_all P (s ∷ ss) all = λ k d lk. by k d lk (distinct_all P ss (λ k d lk. all (suc k) d (omega arith)))
  where
    by : (k d : ℕ) → k < length (distinct (s ∷ ss)) → All P (distinct ss) → P (get_or (distinct (s ∷ ss)) k d)
    by zero d lk rest = all 0 d (omega arith)
    by (suc k) d lk rest = All-filter (λ x. not (x == s)) P (distinct ss) rest k d (omega arith)

-- one more row
module _ (source : ℕ → Source) (c : Cover) (k : ℕ) (row : List Lit) (d : List Lit) (lk : k < length c.rows) (is : row ≡ get_or c.rows k d) where
  rest_is : drop k (rows_wants source c) ≡ row_wants source row c.ins ∷ drop (k + 1) (rows_wants source c)
  rest_is =
      drop_more (rows_wants source c) k [] (omega (arith, length-map c.rows (λ r. row_wants source r c.ins)))
      ∙ ap (λ ws. ws ∷ drop (k + 1) (rows_wants source c)) (get_or-map (λ r. row_wants source r c.ins) c.rows k d [] lk ∙ ap (λ r. row_wants source r c.ins) (sym is))

  module _ (tables tables' : List NetTable) (ws : List Want) (ew : ws ≡ row_wants source row c.ins) (et : tables' ≡ tables ++ tree gate.All false (length tables) ws) where
    length_now : length tables' ≡ length tables + length (tree gate.All false (length tables) ws)
    length_now = ap length et ∙ length-append tables (tree gate.All false (length tables) ws)

    pub row_tables : tables' ++ trees (length tables') (drop (k + 1) (rows_wants source c)) ≡ tables ++ trees (length tables) (drop k (rows_wants source c))
    unfolding trees
    row_tables =
        ap (λ ts. ts ++ trees (length tables') (drop (k + 1) (rows_wants source c))) et
        ∙ ap (λ n. (tables ++ tree gate.All false (length tables) ws) ++ trees n (drop (k + 1) (rows_wants source c))) length_now
        ∙ append_assoc tables (tree gate.All false (length tables) ws) (trees (length tables + length (tree gate.All false (length tables) ws)) (drop (k + 1) (rows_wants source c)))
        ∙ ap (λ xs. tables ++ (tree gate.All false (length tables) xs ++ trees (length tables + length (tree gate.All false (length tables) xs)) (drop (k + 1) (rows_wants source c)))) ew
        ∙ ap (λ wss. tables ++ trees (length tables) wss) (sym rest_is)

    pub row_ends : (ends ends' : List Want) → ends' ≡ ends ++ want_table (length tables' - 1) ∷ [] → ends' ++ tree_ends (length tables') (drop (k + 1) (rows_wants source c)) ≡ ends ++ tree_ends (length tables) (drop k (rows_wants source c))
    unfolding tree_ends
    row_ends ends ends' e =
        ap (λ xs. xs ++ tree_ends (length tables') (drop (k + 1) (rows_wants source c))) e
        ∙ append_assoc ends (want_table (length tables' - 1) ∷ []) (tree_ends (length tables') (drop (k + 1) (rows_wants source c)))
        ∙ ap (λ n. ends ++ want_table (n - 1) ∷ tree_ends n (drop (k + 1) (rows_wants source c))) length_now
        ∙ ap (λ xs. ends ++ want_table (length tables + length (tree gate.All false (length tables) xs) - 1) ∷ tree_ends (length tables + length (tree gate.All false (length tables) xs)) (drop (k + 1) (rows_wants source c))) ew
        ∙ ap (λ wss. ends ++ tree_ends (length tables) wss) (sym rest_is)

  pub row_room : (ws : List Want) → ws ≡ row_wants source row c.ins → AreRowsOf c → (n : ℕ) → n + rows_size (drop k c.rows) ≡ n + (tree_size (length ws) + rows_size (drop (k + 1) c.rows))
  row_room ws ew rows n =
      let len : length row ≡ length c.ins = ap length is ∙ ap length (get_or_default c.rows k d [] lk) ∙ rows k lk in
      let e : tree_size (length ws) ≡ row_size row = ap (λ xs. tree_size (length xs)) ew ∙ ap tree_size (length-row_wants source row c.ins len) in
      let f : row_size (get_or c.rows k d) ≡ row_size row = ap row_size (sym is) in
      let s = sum_by-drop_more row_size c.rows k d lk in
      omega arith

-- one more cover
module _ (source : ℕ → Source) (covers : List Cover) (k : ℕ) (c d : Cover) (lk : k < length covers) (is : c ≡ get_or covers k d) (rows : AreRowsOf c) (tables tables' : List NetTable) (et : tables' ≡ tables ++ cover_tables source (length tables) c) where
  cover_length : length tables' ≡ length tables + cover_size c
  cover_length = ap length et ∙ length-append tables (cover_tables source (length tables) c) ∙ ap (λ n. length tables + n) (length-cover source (length tables) c rows)

  pub cover_more : tables' ++ covers_tables source (length tables') (drop (k + 1) covers) ≡ tables ++ covers_tables source (length tables) (drop k covers)
  unfolding covers_tables
  cover_more =
      ap (λ ts. ts ++ covers_tables source (length tables') (drop (k + 1) covers)) et
      ∙ ap (λ n. (tables ++ cover_tables source (length tables) c) ++ covers_tables source n (drop (k + 1) covers)) cover_length
      ∙ append_assoc tables (cover_tables source (length tables) c) (covers_tables source (length tables + cover_size c) (drop (k + 1) covers))
      ∙ ap (λ cs. tables ++ covers_tables source (length tables) cs) (ap (λ x. x ∷ drop (k + 1) covers) is ∙ sym (drop_more covers k d lk))

  pub cover_room : length tables ≡ sum_by cover_size (take k covers) → length tables' ≡ sum_by cover_size (take (k + 1) covers)
  cover_room e = let s = sum_by_more cover_size covers k d lk in let f : cover_size (get_or covers k d) ≡ cover_size c = ap cover_size (sym is) in let g = cover_length in omega arith

module _ (source : ℕ → Source) (c : Cover) (k : ℕ) (le : length c.rows ≤ k) where
  none_left : drop k (rows_wants source c) ≡ []
  none_left = drop_all k (rows_wants source c) (omega (arith, length-map c.rows (λ r. row_wants source r c.ins)))

  pub rows_over : (tables : List NetTable) (first : ℕ) → tables ≡ tables ++ trees first (drop k (rows_wants source c))
  unfolding trees
  rows_over tables first = sym (append-nil tables) ∙ ap (λ wss. tables ++ trees first wss) (sym none_left)

  pub ends_over : (ends : List Want) (first : ℕ) → ends ≡ ends ++ tree_ends first (drop k (rows_wants source c))
  unfolding tree_ends
  ends_over ends first = sym (append-nil ends) ∙ ap (λ wss. ends ++ tree_ends first wss) (sym none_left)

pub covers_over : (source : ℕ → Source) (covers : List Cover) (k first : ℕ) → length covers ≤ k → (tables : List NetTable) → tables ≡ tables ++ covers_tables source first (drop k covers)
unfolding covers_tables
covers_over source covers k first le tables = sym (append-nil tables) ∙ ap (λ cs. tables ++ covers_tables source first cs) (sym (drop_all k covers le))
