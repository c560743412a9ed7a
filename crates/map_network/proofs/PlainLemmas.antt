-- The tables of covers: how many they are.
use Rattle.std.proofs.Common.{◌≡◌, ◌⊎◌, Bool, ℕ, suc, ◌+◌, ◌*◌, ◌<◌, ◌≤◌, List, [], ◌∷◌, ◌++◌, true, false, length, map, refl, sym, ap, ◌∙◌, inl, inr, arith, sum_by, if◌then◌else◌, slice_index_or}
use Rattle.map_network.proofs.Vocabulary.{length-append, length-map, sum_by-cons, sum_by-le-sum_by, Cover, Lit, Zero, One, Any}
use Rattle.map_network.proofs.Vocabulary.{row_characters, cover_characters, Source, Input, Want, NetTable}
use Rattle.map_network.specs.declared.want.Gate.TheVariants.{All, Some}
use Rattle.map_network.specs.Vocabulary.{tree, trees, tree_ends, row_wants, rows_wants, wide_tables, narrow_table, is_narrow, cover_tables, cover_size, is_wanted, wants_in, tree_size, row_size, rows_size}
use Rattle.map_network.proofs.TreeLemmas.{length-tree, tree_size_some, tree_size_few}
use Rattle.map_network.proofs.NameLemmas.{row_size_few}

pub length-row_wants : (source : ℕ → Source) (row : List Lit) (ins : List ℕ) → length row ≡ length ins → length (row_wants source row ins) ≡ wants_in row
length-row_wants source [] ins e = refl
length-row_wants source (l ∷ ls) [] e = absurd (omega arith)
length-row_wants source (Zero ∷ ls) (s ∷ ss) e = let h = length-row_wants source ls ss (omega arith) in let f = sum_by-cons is_wanted Zero ls in omega arith
length-row_wants source (One ∷ ls) (s ∷ ss) e = let h = length-row_wants source ls ss (omega arith) in let f = sum_by-cons is_wanted One ls in omega arith
length-row_wants source (Any ∷ ls) (s ∷ ss) e = let h = length-row_wants source ls ss (omega arith) in let f = sum_by-cons is_wanted Any ls in omega arith

abbrev trees_size : List (List Want) → ℕ
trees_size wss = sum_by (λ ws. tree_size (length ws)) wss

pub length-trees : (first : ℕ) (wss : List (List Want)) → length (trees first wss) ≡ trees_size wss
unfolding trees
length-trees first [] = refl
length-trees first (ws ∷ more) =
    length-append (tree All false first ws) (trees (first + length (tree All false first ws)) more)
    ∙ ap (λ n. n + length (trees (first + length (tree All false first ws)) more)) (length-tree All false first ws)
    ∙ ap (λ n. tree_size (length ws) + n) (length-trees (first + length (tree All false first ws)) more)
    ∙ sym (sum_by-cons (λ xs. tree_size (length xs)) ws more)

pub length-tree_ends : (first : ℕ) (wss : List (List Want)) → length (tree_ends first wss) ≡ length wss
unfolding tree_ends
length-tree_ends first [] = refl
length-tree_ends first (ws ∷ more) = ap suc (length-tree_ends (first + length (tree All false first ws)) more)

pub length-rows_wants : (source : ℕ → Source) (ins : List ℕ) (rows : List (List Lit)) → ((k : ℕ) → k < length rows → length (slice_index_or rows k []) ≡ length ins) → trees_size (map (λ row. row_wants source row ins) rows) ≡ rows_size rows
length-rows_wants source ins [] h = refl
length-rows_wants source ins (row ∷ rows) h =
    sum_by-cons (λ xs. tree_size (length xs)) (row_wants source row ins) (map (λ r. row_wants source r ins) rows)
    ∙ ap (λ n. tree_size n + trees_size (map (λ r. row_wants source r ins) rows)) (length-row_wants source row ins (h 0 (omega arith)))
    ∙ ap (λ n. row_size row + n) (length-rows_wants source ins rows (λ k lk. h (suc k) (omega arith)))
    ∙ sym (sum_by-cons row_size row rows)

abbrev pub AreRowsOf : Cover → Type 0
AreRowsOf c = (k : ℕ) → k < length c.rows → length (slice_index_or c.rows k []) ≡ length c.ins

pub length-rows : (source : ℕ → Source) (first : ℕ) (c : Cover) → AreRowsOf c → length (trees first (rows_wants source c)) ≡ rows_size c.rows
length-rows source first c h = length-trees first (rows_wants source c) ∙ length-rows_wants source c.ins c.rows h

pub length-ends : (source : ℕ → Source) (first : ℕ) (c : Cover) → length (tree_ends first (rows_wants source c)) ≡ length c.rows
length-ends source first c = length-tree_ends first (rows_wants source c) ∙ length-map c.rows (λ row. row_wants source row c.ins)

pub length-wide : (source : ℕ → Source) (first : ℕ) (c : Cover) → AreRowsOf c → length (wide_tables source first c) ≡ rows_size c.rows + tree_size (length c.rows)
length-wide source first c h =
    length-append (trees first (rows_wants source c)) (tree Some c.off (first + length (trees first (rows_wants source c))) (tree_ends first (rows_wants source c)))
    ∙ ap (λ n. n + length (tree Some c.off (first + length (trees first (rows_wants source c))) (tree_ends first (rows_wants source c)))) (length-rows source first c h)
    ∙ ap (λ n. rows_size c.rows + n) (length-tree Some c.off (first + length (trees first (rows_wants source c))) (tree_ends first (rows_wants source c)) ∙ ap tree_size (length-ends source first c))

pub true_or : (b : Bool) → (b ≡ true) ⊎ (b ≡ false)
true_or true = inl refl
true_or false = inr refl

pub narrow_tables : (source : ℕ → Source) (first : ℕ) (c : Cover) → is_narrow c ≡ true → cover_tables source first c ≡ narrow_table source c ∷ []
unfolding cover_tables
narrow_tables source first c e = ap (λ b. if b then narrow_table source c ∷ [] else wide_tables source first c) e

pub wide_are : (source : ℕ → Source) (first : ℕ) (c : Cover) → is_narrow c ≡ false → cover_tables source first c ≡ wide_tables source first c
unfolding cover_tables
wide_are source first c e = ap (λ b. if b then narrow_table source c ∷ [] else wide_tables source first c) e

pub narrow_size : (c : Cover) → is_narrow c ≡ true → cover_size c ≡ 1
unfolding cover_size
narrow_size c e = ap length (narrow_tables Input 0 c e)

pub wide_size : (c : Cover) → AreRowsOf c → is_narrow c ≡ false → cover_size c ≡ rows_size c.rows + tree_size (length c.rows)
unfolding cover_size
wide_size c h e = ap length (wide_are Input 0 c e) ∙ length-wide Input 0 c h

pub length-cover : (source : ℕ → Source) (first : ℕ) (c : Cover) → AreRowsOf c → length (cover_tables source first c) ≡ cover_size c
length-cover source first c h = by (true_or (is_narrow c))
  where
    by : (is_narrow c ≡ true) ⊎ (is_narrow c ≡ false) → length (cover_tables source first c) ≡ cover_size c
    by (inl e) = ap length (narrow_tables source first c e) ∙ sym (narrow_size c e)
    by (inr e) = ap length (wide_are source first c e) ∙ length-wide source first c h ∙ sym (wide_size c h e)

pub size_some : (c : Cover) → AreRowsOf c → 1 ≤ cover_size c
size_some c h = by (true_or (is_narrow c))
  where
    by : (is_narrow c ≡ true) ⊎ (is_narrow c ≡ false) → 1 ≤ cover_size c
    by (inl e) = let n = narrow_size c e in omega arith
    by (inr e) = let n = wide_size c h e in let t = tree_size_some (length c.rows) in omega arith

pub rows_few : (rows : List (List Lit)) → length rows ≤ sum_by row_characters rows
rows_few [] = omega arith
rows_few (r ∷ rs) = let h = rows_few rs in let e = sum_by-cons row_characters r rs in omega arith

-- a cover has few tables for its characters
pub size_few : (c : Cover) → AreRowsOf c → cover_size c ≤ 2 * cover_characters c + 1
size_few c h = by (true_or (is_narrow c))
  where
    by : (is_narrow c ≡ true) ⊎ (is_narrow c ≡ false) → cover_size c ≤ 2 * cover_characters c + 1
    by (inl e) = let n = narrow_size c e in omega arith
    by (inr e) =
        let n = wide_size c h e in
        let t = tree_size_few (length c.rows) in
        let s = sum_by-le-sum_by row_size row_characters c.rows row_size_few in
        let r = rows_few c.rows in
        omega arith

pub tree_length : (first : ℕ) (tables tables' : List NetTable) (ws : List Want) → tables' ≡ tables ++ tree All false first ws → length tables' ≡ length tables + tree_size (length ws)
tree_length first tables tables' ws e = ap length e ∙ length-append tables (tree All false first ws) ∙ ap (λ n. length tables + n) (length-tree All false first ws)
