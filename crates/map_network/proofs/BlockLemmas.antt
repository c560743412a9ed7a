-- What the tables of a cover read: what the cover reads, or earlier ones of them.
use Rattle.std.proofs.Common.{◌≡◌, ◌⊎◌, Bool, ℕ, zero, suc, ◌+◌, ◌*◌, ◌-◌, ◌/◌, ◌<◌, ◌≤◌, List, [], ◌∷◌, ◌++◌, true, false, length, drop, take, map, get_or, refl, sym, ap, subst, ◌∙◌, inl, inr, arith, slice_index_or}
use Rattle.map_network.proofs.Vocabulary.{Contains, cases_lt, Cover, Lit, Zero, One, Any, Source, Input, Table, Want, Gate, NetTable}
use Rattle.std.proofs.lemmas.List.{length-append, length-map, length-take, length-drop, get_or-map, get_or_default, get_or_append_left, get_or-append_right, get_or-take, get_or-drop, drop-drop}
use Rattle.std.proofs.lemmas.List.FromFn.{get_or-map-range_with_len}
use Rattle.map_network.specs.declared.want.Gate.TheVariants as gate
use Rattle.map_network.specs.Vocabulary.{no_table, groups, sixes, want_table, wants_from, gate_table, levels, tree, trees, tree_ends, row_wants, rows_wants, narrow_table, is_narrow, cover_tables, distinct}
use Rattle.map_network.proofs.TreeLemmas.{length-groups, length-wants_from, tree_size_some, length-tree, levels_low, levels_high, nat_lt_true}
use Rattle.map_network.proofs.PlainLemmas.{narrow_tables, wide_are, true_or}
use Rattle.map_network.proofs.CoverLemmas.{distinct_all}
use native.Mathlib.Numerals.{unary_clauses}

abbrev pub table_in : List NetTable → ℕ → NetTable
table_in tables k = slice_index_or tables k no_table

-- the source is that of one of the first n tables from a number on
abbrev pub IsBefore : ℕ → ℕ → Source → Type 0
IsBefore first n s = (j : ℕ) × (j < n) × (s ≡ Table (first + j))

-- combinational tables, which have few inputs and read what has the property, or earlier ones of them
pub record Block (P : Source → Type 0) (first : ℕ) (tables : List NetTable) : Type 0 where
  pub narrow : (k : ℕ) → k < length tables → length (table_in tables k).ins ≤ 6
  pub combinational : (k : ℕ) → k < length tables → (table_in tables k).latched ≡ false
  pub reads : (k : ℕ) → k < length tables → (s : Source) → Contains (table_in tables k).ins s → P s ⊎ IsBefore first k s

abbrev AreWants : (Source → Type 0) → List Want → Type 0
AreWants P ws = (k : ℕ) → k < length ws → P (get_or ws k (record { source = Input 0; lit = Any })).source

abbrev Wider : (Source → Type 0) → ℕ → ℕ → Source → Type 0
Wider P first n s = P s ⊎ IsBefore first n s

pub at_left : (xs ys : List NetTable) (k : ℕ) → k < length xs → table_in (xs ++ ys) k ≡ table_in xs k
at_left xs ys k lk = get_or_append_left xs ys no_table k lk

pub at_right : (xs ys : List NetTable) (k : ℕ) → length xs ≤ k → table_in (xs ++ ys) k ≡ table_in ys (k - length xs)
at_right xs ys k le = get_or-append_right xs ys (length xs) k no_table refl le

block_append : (P : Source → Type 0) (first : ℕ) (xs ys : List NetTable) → Block P first xs → Block (Wider P first (length xs)) (first + length xs) ys → Block P first (xs ++ ys)
block_append P first xs ys p q = record {
  narrow = λ k lk. elim (cases_lt k (length xs)) [ inl l ↦ subst (λ t. length t.ins ≤ 6) (sym (at_left xs ys k l)) (p.narrow k l) | inr g ↦ subst (λ t. length t.ins ≤ 6) (sym (at_right xs ys k g)) (q.narrow (k - length xs) (omega (arith, length-append xs ys))) ];
  combinational = λ k lk. elim (cases_lt k (length xs)) [ inl l ↦ subst (λ t. t.latched ≡ false) (sym (at_left xs ys k l)) (p.combinational k l) | inr g ↦ subst (λ t. t.latched ≡ false) (sym (at_right xs ys k g)) (q.combinational (k - length xs) (omega (arith, length-append xs ys))) ];
  reads = λ k lk s c. elim (cases_lt k (length xs)) [
    | inl l ↦ p.reads k l s (subst (λ t. Contains t.ins s) (at_left xs ys k l) c)
    | inr g ↦ later k g s (q.reads (k - length xs) (omega (arith, length-append xs ys)) s (subst (λ t. Contains t.ins s) (at_right xs ys k g) c))
  ];
}
  where
    later : (k : ℕ) → length xs ≤ k → (s : Source) → Wider P first (length xs) s ⊎ IsBefore (first + length xs) (k - length xs) s → P s ⊎ IsBefore first k s
    later k g s (inl (inl h)) = inl h
    later k g s (inl (inr b)) = inr (b.0, omega (arith, b.1), b.2)
    later k g s (inr b) = inr (length xs + b.0, omega (arith, b.1), b.2 ∙ ap (λ n. Table n) (let e : first + length xs + b.0 ≡ first + (length xs + b.0) = omega arith in e))

-- one table
block_one : (P : Source → Type 0) (first : ℕ) (t : NetTable) → length t.ins ≤ 6 → t.latched ≡ false → ((s : Source) → Contains t.ins s → P s) → Block P first (t ∷ [])
block_one P first t few is h = record {
  narrow = λ k lk. (let e : k ≡ 0 = omega arith in subst (λ n. length (table_in (t ∷ []) n).ins ≤ 6) (sym e) few);
  combinational = λ k lk. (let e : k ≡ 0 = omega arith in subst (λ n. (table_in (t ∷ []) n).latched ≡ false) (sym e) is);
  reads = λ k lk s c. (let e : k ≡ 0 = omega arith in inl (h s (subst (λ n. Contains (table_in (t ∷ []) n).ins s) e c)));
}

-- groups

pub group_at : {A : Type 0} (k g : ℕ) (xs : List A) → g < k → get_or (groups k xs) g [] ≡ take 6 (drop (6 * g) xs)
group_at zero g xs lg = absurd (omega arith)
group_at (suc k) zero xs lg = refl
group_at (suc k) (suc g) xs lg =
    group_at k g (drop 6 xs) (omega arith)
    ∙ ap (λ ys. take 6 ys) (drop-drop (6 * g) 6 xs ∙ ap (λ n. drop n xs) (let f : 6 + 6 * g ≡ 6 * suc g = simp unary_clauses (omega arith) in f))

-- what a list of wants reads
wants_read : (P : Source → Type 0) (ws : List Want) → AreWants P ws → (s : Source) → Contains (map (λ (w : Want). w.source) ws) s → P s
wants_read P ws h s c =
    let l : c.0 < length ws = omega (arith, c.1, length-map ws (λ (w : Want). w.source)) in
    subst P (sym (get_or-map (λ (w : Want). w.source) ws c.0 (record { source = Input 0; lit = Any }) s l) ∙ c.2) (h c.0 l)

group_wants : (P : Source → Type 0) (ws : List Want) (from : ℕ) → AreWants P ws → AreWants P (take 6 (drop from ws))
group_wants P ws from h k lk =
    let six : k < 6 = omega (arith, length-take 6 (drop from ws)) in
    let l : from + k < length ws = omega (arith, length-take 6 (drop from ws), length-drop from ws) in
    subst (λ (w : Want). P w.source) (sym (get_or-take 6 (drop from ws) k (record { source = Input 0; lit = Any }) six ∙ get_or-drop from ws k (record { source = Input 0; lit = Any }))) (h (from + k) l)

block_gates : (P : Source → Type 0) (first : ℕ) (g : Gate) (ws : List Want) → AreWants P ws → Block P first (map (gate_table g false) (sixes ws))
block_gates P first g ws h = record {
  narrow = λ k lk. subst (λ (t : NetTable). length t.ins ≤ 6) (sym (at k lk)) (rw length-map (omega (arith, length-take 6 (drop (6 * k) ws))));
  combinational = λ k lk. subst (λ (t : NetTable). t.latched ≡ false) (sym (at k lk)) refl;
  reads = λ k lk s c. inl (wants_read P (take 6 (drop (6 * k) ws)) (group_wants P ws (6 * k) h) s (subst (λ (t : NetTable). Contains t.ins s) (at k lk) c));
}
  where
    at : (k : ℕ) → k < length (map (gate_table g false) (sixes ws)) → table_in (map (gate_table g false) (sixes ws)) k ≡ gate_table g false (take 6 (drop (6 * k) ws))
    at k lk =
        let l : k < length (sixes ws) = omega (arith, length-map (sixes ws) (gate_table g false)) in
        get_or-map (gate_table g false) (sixes ws) k [] no_table l ∙ ap (gate_table g false) (group_at ((length ws + 5) / 6) k ws (omega (arith, length-groups ((length ws + 5) / 6) ws)))

wants_after : (P : Source → Type 0) (first count : ℕ) → AreWants (Wider P first count) (wants_from first count)
wants_after P first count k lk =
    let l : k < count = omega (arith, length-wants_from first count) in
    inr (k, l, ap (λ (w : Want). w.source) (get_or-map-range_with_len want_table first count k (first + k) (record { source = Input 0; lit = Any }) l refl))

block_levels : (P : Source → Type 0) (g : Gate) (off : Bool) (n first : ℕ) (ws : List Want) → length ws ≤ n → AreWants P ws → Block P first (levels g off n first ws)
block_levels P g off zero first ws le h = subst (λ ts. Block P first ts) (sym (levels_low g off zero first ws (omega arith))) (block_one P first (gate_table g off ws) (rw length-map (omega arith)) refl (wants_read P ws h))
block_levels P g off (suc n) first ws le h = by (cases_lt 6 (length ws)) (λ Q f vs l w. block_levels Q g off n f vs l w)
  where
    by : (6 < length ws) ⊎ (length ws ≤ 6) → ((Q : Source → Type 0) (f : ℕ) (vs : List Want) → length vs ≤ n → AreWants Q vs → Block Q f (levels g off n f vs)) → Block P first (levels g off (suc n) first ws)
    by (inl l) again =
        let e : length (map (gate_table g false) (sixes ws)) ≡ length (sixes ws) = length-map (sixes ws) (gate_table g false) in
        subst (λ ts. Block P first ts) (sym (levels_high g off n first ws l))
        (block_append P first (map (gate_table g false) (sixes ws)) (levels g off n (first + length (sixes ws)) (wants_from first (length (sixes ws)))) (block_gates P first g ws h)
        (subst (λ m. Block (Wider P first m) (first + m) (levels g off n (first + length (sixes ws)) (wants_from first (length (sixes ws))))) (sym e)
        (again (Wider P first (length (sixes ws))) (first + length (sixes ws)) (wants_from first (length (sixes ws))) (omega (arith, length-wants_from first (length (sixes ws)), length-groups ((length ws + 5) / 6) ws)) (wants_after P first (length (sixes ws))))))
    by (inr l) again = subst (λ ts. Block P first ts) (sym (levels_low g off (suc n) first ws l)) (block_one P first (gate_table g off ws) (rw length-map l) refl (wants_read P ws h))

block_tree : (P : Source → Type 0) (g : Gate) (off : Bool) (first : ℕ) (ws : List Want) → AreWants P ws → Block P first (tree g off first ws)
block_tree P g off first ws h = block_levels P g off (length ws) first ws (omega arith) h

-- trees

abbrev AreAllWants : (Source → Type 0) → List (List Want) → Type 0
AreAllWants P wss = (i : ℕ) → i < length wss → AreWants P (get_or wss i [])

wider : (P : Source → Type 0) (first n : ℕ) (ws : List Want) → AreWants P ws → AreWants (Wider P first n) ws
wider P first n ws h k lk = inl (h k lk)

block_trees : (P : Source → Type 0) (first : ℕ) (wss : List (List Want)) → AreAllWants P wss → Block P first (trees first wss)
unfolding trees
block_trees P first [] h = record { narrow = λ k lk. absurd (omega arith); combinational = λ k lk. absurd (let no : ⊥ = omega arith in no); reads = λ k lk s c. absurd (let no : ⊥ = omega arith in no) }
block_trees P first (ws ∷ more) h =
    block_append P first (tree gate.All false first ws) (trees (first + length (tree gate.All false first ws)) more) (block_tree P gate.All false first ws (h 0 (omega arith)))
    (block_trees (Wider P first (length (tree gate.All false first ws))) (first + length (tree gate.All false first ws)) more (λ i li. wider P first (length (tree gate.All false first ws)) (get_or more i []) (h (suc i) (omega arith))))

ends_before : (P : Source → Type 0) (first : ℕ) (wss : List (List Want)) → AreWants (Wider P first (length (trees first wss))) (tree_ends first wss)
unfolding trees tree_ends
ends_before P first [] k lk = absurd (omega arith)
ends_before P first (ws ∷ more) zero lk =
    let s = tree_size_some (length ws) in
    let t = length-tree gate.All false first ws in
    inr (length (tree gate.All false first ws) - 1, omega (arith, length-append (tree gate.All false first ws) (trees (first + length (tree gate.All false first ws)) more)), ap (λ n. Table n) (let e : first + length (tree gate.All false first ws) - 1 ≡ first + (length (tree gate.All false first ws) - 1) = omega arith in e))
ends_before P first (ws ∷ more) (suc k) lk = by (ends_before P (first + length (tree gate.All false first ws)) more k (omega arith))
  where
    by : Wider P (first + length (tree gate.All false first ws)) (length (trees (first + length (tree gate.All false first ws)) more)) (get_or (tree_ends (first + length (tree gate.All false first ws)) more) k (record { source = Input 0; lit = Any })).source → Wider P first (length (trees first (ws ∷ more))) (get_or (tree_ends (first + length (tree gate.All false first ws)) more) k (record { source = Input 0; lit = Any })).source
    by (inl p) = inl p
    by (inr b) = inr (length (tree gate.All false first ws) + b.0, omega (arith, b.1, length-append (tree gate.All false first ws) (trees (first + length (tree gate.All false first ws)) more)), b.2 ∙ ap (λ n. Table n) (let e : first + length (tree gate.All false first ws) + b.0 ≡ first + (length (tree gate.All false first ws) + b.0) = omega arith in e))

-- covers

rows_read : (P : Source → Type 0) (source : ℕ → Source) (row : List Lit) (ins : List ℕ) → ((k : ℕ) → k < length ins → P (source (get_or ins k 0))) → AreWants P (row_wants source row ins)
rows_read P source [] ins h = λ k lk. absurd (let no : ⊥ = omega arith in no)
rows_read P source (l ∷ ls) [] h = λ k lk. absurd (let no : ⊥ = omega arith in no)
rows_read P source (Any ∷ ls) (s ∷ ss) h = rows_read P source ls ss (λ k lk. h (suc k) (omega arith))
rows_read P source (Zero ∷ ls) (s ∷ ss) h = one (rows_read P source ls ss (λ k lk. h (suc k) (omega arith)))
  where
    one : AreWants P (row_wants source ls ss) → AreWants P (row_wants source (Zero ∷ ls) (s ∷ ss))
    one rest zero lk = h 0 (omega arith)
    one rest (suc k) lk = rest k (omega arith)
rows_read P source (One ∷ ls) (s ∷ ss) h = one (rows_read P source ls ss (λ k lk. h (suc k) (omega arith)))
  where
    one : AreWants P (row_wants source ls ss) → AreWants P (row_wants source (One ∷ ls) (s ∷ ss))
    one rest zero lk = h 0 (omega arith)
    one rest (suc k) lk = rest k (omega arith)

pub block_cover : (P : Source → Type 0) (source : ℕ → Source) (first : ℕ) (c : Cover) → ((k : ℕ) → k < length c.ins → P (source (get_or c.ins k 0))) → Block P first (cover_tables source first c)
block_cover P source first c h = by (true_or (is_narrow c))
  where
    names_read : (s : Source) → Contains (map source (distinct c.ins)) s → P s
    names_read s x =
        let l : x.0 < length (distinct c.ins) = omega (arith, x.1, length-map (distinct c.ins) source) in
        subst P (sym (get_or-map source (distinct c.ins) x.0 0 s l) ∙ x.2) (distinct_all (λ n. P (source n)) c.ins (λ k d lk. subst (λ n. P (source n)) (get_or_default c.ins k 0 d lk) (h k lk)) x.0 0 l)

    all_wants : AreAllWants P (rows_wants source c)
    all_wants i li =
        let l : i < length c.rows = omega (arith, length-map c.rows (λ row. row_wants source row c.ins)) in
        subst (AreWants P) (sym (get_or-map (λ row. row_wants source row c.ins) c.rows i [] [] l)) (rows_read P source (get_or c.rows i []) c.ins h)

    few : is_narrow c ≡ true → length (distinct c.ins) ≤ 6
    few e = let l : length (distinct c.ins) < 7 = nat_lt_true (length (distinct c.ins)) 7 e in omega arith

    by : (is_narrow c ≡ true) ⊎ (is_narrow c ≡ false) → Block P first (cover_tables source first c)
    by (inl e) = subst (λ ts. Block P first ts) (sym (narrow_tables source first c e)) (block_one P first (narrow_table source c) (rw length-map (few e)) refl names_read)
    by (inr e) = subst (λ ts. Block P first ts) (sym (wide_are source first c e)) (
        block_append P first (trees first (rows_wants source c)) (tree gate.Some c.off (first + length (trees first (rows_wants source c))) (tree_ends first (rows_wants source c)))
        (block_trees P first (rows_wants source c) all_wants)
        (block_tree (Wider P first (length (trees first (rows_wants source c)))) gate.Some c.off (first + length (trees first (rows_wants source c))) (tree_ends first (rows_wants source c)) (ends_before P first (rows_wants source c))))
