-- Sources, tables and outputs behind others.
use Rattle.std.proofs.Common.{◌≡◌, ℕ, ◌+◌, ◌<◌, ◌≤◌, ◌++◌, List, [], ◌∷◌, length, map, take, get_or, refl, sym, ap, ◌∙◌, arith}
use Rattle.place_pair.proofs.Vocabulary.{All, append_assoc, map_more, Source, Input, Table, NetTable, Network, IsNetwork, IsSourceOf, moved}
use Rattle.place_pair.proofs.Vocabulary.{moved_table, joint_network, IsMovable}

-- behind nothing all stays
stays : (x : Source) → moved 0 0 x ≡ x
stays (Input k) = ap Input (let e : 0 + k ≡ k = omega arith in e)
stays (Table k) = ap Table (let e : 0 + k ≡ k = omega arith in e)

pub sources_stay : (xs : List Source) → map (moved 0 0) xs ≡ xs
sources_stay [] = refl
sources_stay (x ∷ xs) = λ i. stays x i ∷ sources_stay xs i

pub tables_stay : (ts : List NetTable) → map (moved_table 0 0) ts ≡ ts
tables_stay [] = refl
tables_stay (t ∷ ts) = λ i. record { ins = sources_stay t.ins i; cells = t.cells; latched = t.latched; init = t.init } ∷ tables_stay ts i

-- what a network reads can be moved
pub movable : (n : Network) (inputs tables : ℕ) → inputs + n.inputs ≤ 4294967296 → tables + length n.tables ≤ 4294967296 → (x : Source) → IsSourceOf n x → IsMovable inputs tables x
movable n inputs tables few_inputs few_tables (Input k) h = omega (arith, h, few_inputs)
movable n inputs tables few_inputs few_tables (Table k) h = omega (arith, h, few_tables)

pub all_movable : (n : Network) (inputs tables : ℕ) → inputs + n.inputs ≤ 4294967296 → tables + length n.tables ≤ 4294967296 → (xs : List Source) → All (IsSourceOf n) xs → All (IsMovable inputs tables) xs
all_movable n inputs tables few_inputs few_tables xs all k d l = movable n inputs tables few_inputs few_tables (get_or xs k d) (all k d l)

pub tables_movable : (n : Network) (inputs tables : ℕ) → inputs + n.inputs ≤ 4294967296 → tables + length n.tables ≤ 4294967296 → IsNetwork n → All (λ t. All (IsMovable inputs tables) t.ins) n.tables
tables_movable n inputs tables few_inputs few_tables net j d l = all_movable n inputs tables few_inputs few_tables (get_or n.tables j d).ins (net.sources j d l)

-- one behind another
pub one_more : {A B : Type 0} (f : A → B) (old mid : List B) (xs : List A) (k : ℕ) (d : A) → k < length xs → mid ≡ old ++ map f (take k xs) → mid ++ f (get_or xs k d) ∷ [] ≡ old ++ map f (take (k + 1) xs)
one_more f old mid xs k d h so_far =
    ap (λ m. m ++ f (get_or xs k d) ∷ []) so_far ∙ append_assoc old (map f (take k xs)) (f (get_or xs k d) ∷ []) ∙ ap (λ m. old ++ m) (sym (map_more f xs k d h))

-- the two networks, one behind the other
pub joint_is : (n o : Network) (inputs before : ℕ) (ts us : List NetTable) (os ps : List Source) → inputs ≡ n.inputs → before ≡ length n.tables → ts ≡ map (moved_table 0 0) n.tables → us ≡ ts ++ map (moved_table inputs before) o.tables →
    os ≡ map (moved 0 0) n.outputs → ps ≡ os ++ map (moved inputs before) o.outputs → ◌≡◌ {A = Network} (record { inputs = n.inputs + o.inputs; tables = us; outputs = ps }) (joint_network n o)
joint_is n o inputs before ts us os ps ei eb et eu eo ep = λ i. record { inputs = n.inputs + o.inputs; tables = tables i; outputs = outputs i }
  where
    tables : us ≡ n.tables ++ map (moved_table n.inputs (length n.tables)) o.tables
    tables = eu ∙ (λ i. (et ∙ tables_stay n.tables) i ++ map (moved_table (ei i) (eb i)) o.tables)

    outputs : ps ≡ n.outputs ++ map (moved n.inputs (length n.tables)) o.outputs
    outputs = ep ∙ (λ i. (eo ∙ sources_stay n.outputs) i ++ map (moved (ei i) (eb i)) o.outputs)
