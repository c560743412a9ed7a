-- Groups, levels and trees, and how many tables these have.
use Rattle.std.proofs.Common.{◌≡◌, ◌⊎◌, Bool, ℕ, zero, suc, ◌+◌, ◌-◌, ◌*◌, ◌/◌, ◌<◌, ◌≤◌, List, [], ◌∷◌, ◌++◌, true, false, length, drop, take, map, refl, sym, ap, ◌∙◌, inl, inr, arith, min, if◌then◌else◌, nat_lt}
use Rattle.map_network.proofs.Vocabulary.{cases_lt, nat_tests, length-map-range_with_len, map-range_with_len_more, Want, Gate, NetTable}
use Rattle.std.proofs.lemmas.List.{append_assoc, length-append, length-map, length-drop, map_push, take_min, drop-drop}
use native.Mathlib.Numerals.{unary_clauses}
use Rattle.map_network.specs.Vocabulary.{groups, sixes, want_table, wants_from, gate_table, levels, tree, levels_size, tree_size}

pub lt_true : (m n : ℕ) → m < n → nat_lt m n ≡ true
lt_true m n h = grind (arith, nat_tests)

pub lt_false : (m n : ℕ) → n ≤ m → nat_lt m n ≡ false
lt_false m n h = grind (arith, nat_tests)

pub nat_lt_true : (m n : ℕ) → nat_lt m n ≡ true → m < n
nat_lt_true m n e = grind (arith, nat_tests)

-- groups

pub length-groups : {A : Type 0} (k : ℕ) (xs : List A) → length (groups k xs) ≡ k
length-groups zero xs = refl
length-groups (suc k) xs = ap suc (length-groups k (drop 6 xs))

pub groups_more : {A : Type 0} (k : ℕ) (xs : List A) → groups (k + 1) xs ≡ groups k xs ++ take 6 (drop (6 * k) xs) ∷ []
groups_more zero xs = refl
groups_more (suc k) xs =
    let e : suc k + 1 ≡ suc (k + 1) = omega arith in
    let f : 6 + 6 * k ≡ 6 * suc k = simp unary_clauses (omega arith) in
    ap (λ n. groups n xs) e
    ∙ ap (λ gs. take 6 xs ∷ gs) (groups_more k (drop 6 xs))
    ∙ ap (λ g. take 6 xs ∷ (groups k (drop 6 xs) ++ g ∷ [])) (ap (λ ys. take 6 ys) (drop-drop (6 * k) 6 xs ∙ ap (λ n. drop n xs) f))

pub length-wants_from : (first count : ℕ) → length (wants_from first count) ≡ count
length-wants_from first count = length-map-range_with_len want_table first count

-- levels

module _ (gate : Gate) (off : Bool) where
  pub levels_low : (n first : ℕ) (ws : List Want) → length ws ≤ 6 → levels gate off n first ws ≡ gate_table gate off ws ∷ []
  unfolding levels
  levels_low zero first ws h = refl
  levels_low (suc n) first ws h = ap (λ b. if b then map (gate_table gate false) (sixes ws) ++ levels gate off n (first + length (sixes ws)) (wants_from first (length (sixes ws))) else gate_table gate off ws ∷ []) (lt_false 6 (length ws) h)

  pub levels_high : (n first : ℕ) (ws : List Want) → 6 < length ws → levels gate off (suc n) first ws ≡ map (gate_table gate false) (sixes ws) ++ levels gate off n (first + length (sixes ws)) (wants_from first (length (sixes ws)))
  unfolding levels
  levels_high n first ws h = ap (λ b. if b then map (gate_table gate false) (sixes ws) ++ levels gate off n (first + length (sixes ws)) (wants_from first (length (sixes ws))) else gate_table gate off ws ∷ []) (lt_true 6 (length ws) h)

  next_length : (first : ℕ) (ws : List Want) → length (wants_from first (length (sixes ws))) ≡ (length ws + 5) / 6
  next_length first ws = length-wants_from first (length (sixes ws)) ∙ length-groups ((length ws + 5) / 6) ws

  levels_fuel : (m n first : ℕ) (ws : List Want) → length ws ≤ m → length ws ≤ n → levels gate off m first ws ≡ levels gate off n first ws
  levels_fuel zero n first ws lm ln = levels_low zero first ws (omega arith) ∙ sym (levels_low n first ws (omega arith))
  levels_fuel (suc m) zero first ws lm ln = levels_low (suc m) first ws (omega arith) ∙ sym (levels_low zero first ws (omega arith))
  levels_fuel (suc m) (suc n) first ws lm ln = by (cases_lt 6 (length ws)) (λ f vs p q. levels_fuel m n f vs p q)
    where
      by : (6 < length ws) ⊎ (length ws ≤ 6) → ((f : ℕ) (vs : List Want) → length vs ≤ m → length vs ≤ n → levels gate off m f vs ≡ levels gate off n f vs) → levels gate off (suc m) first ws ≡ levels gate off (suc n) first ws
      by (inl h) again =
          let e = next_length first ws in
          levels_high m first ws h
          ∙ ap (λ ts. map (gate_table gate false) (sixes ws) ++ ts) (again (first + length (sixes ws)) (wants_from first (length (sixes ws))) (omega arith) (omega arith))
          ∙ sym (levels_high n first ws h)
      by (inr h) again = levels_low (suc m) first ws h ∙ sym (levels_low (suc n) first ws h)

  pub tree_low : (first : ℕ) (ws : List Want) → length ws ≤ 6 → tree gate off first ws ≡ gate_table gate off ws ∷ []
  tree_low first ws h = levels_low (length ws) first ws h

  pub tree_high : (first : ℕ) (ws : List Want) → 6 < length ws → tree gate off first ws ≡ map (gate_table gate false) (sixes ws) ++ tree gate off (first + length (sixes ws)) (wants_from first (length (sixes ws)))
  tree_high first ws h =
      let e = next_length first ws in
      let f : suc (length ws - 1) ≡ length ws = omega arith in
      ap (λ n. levels gate off n first ws) (sym f)
      ∙ levels_high (length ws - 1) first ws h
      ∙ ap (λ ts. map (gate_table gate false) (sixes ws) ++ ts) (levels_fuel (length ws - 1) (length (wants_from first (length (sixes ws)))) (first + length (sixes ws)) (wants_from first (length (sixes ws))) (omega arith) (omega arith))

  -- one more level of a loop
  pub level_more : (tables tables' : List NetTable) (ws ws' : List Want) (count : ℕ) → 6 < length ws → tables' ≡ tables ++ map (gate_table gate false) (sixes ws) → count ≡ length tables' - length tables → ws' ≡ wants_from (length tables) count → tables' ++ tree gate off (length tables') ws' ≡ tables ++ tree gate off (length tables) ws
  level_more tables tables' ws ws' count h et ec ew =
      let n : length tables' ≡ length tables + length (sixes ws) = ap length et ∙ length-append tables (map (gate_table gate false) (sixes ws)) ∙ ap (λ m. length tables + m) (length-map (sixes ws) (gate_table gate false)) in
      let k : count ≡ length (sixes ws) = omega arith in
      ap (λ xs. xs ++ tree gate off (length tables') ws') et
      ∙ ap (λ m. (tables ++ map (gate_table gate false) (sixes ws)) ++ tree gate off m ws') n
      ∙ ap (λ vs. (tables ++ map (gate_table gate false) (sixes ws)) ++ tree gate off (length tables + length (sixes ws)) vs) (ew ∙ ap (λ m. wants_from (length tables) m) k)
      ∙ append_assoc tables (map (gate_table gate false) (sixes ws)) (tree gate off (length tables + length (sixes ws)) (wants_from (length tables) (length (sixes ws))))
      ∙ ap (λ ts. tables ++ ts) (sym (tree_high (length tables) ws h))

-- sizes

size_low : (m n : ℕ) → n ≤ 6 → levels_size m n ≡ 1
unfolding levels_size
size_low zero n h = refl
size_low (suc m) n h = ap (λ b. if b then (n + 5) / 6 + levels_size m ((n + 5) / 6) else 1) (lt_false 6 n h)

size_high : (m n : ℕ) → 6 < n → levels_size (suc m) n ≡ (n + 5) / 6 + levels_size m ((n + 5) / 6)
unfolding levels_size
size_high m n h = ap (λ b. if b then (n + 5) / 6 + levels_size m ((n + 5) / 6) else 1) (lt_true 6 n h)

size_fuel : (m k n : ℕ) → n ≤ m → n ≤ k → levels_size m n ≡ levels_size k n
size_fuel zero k n lm lk = size_low zero n (omega arith) ∙ sym (size_low k n (omega arith))
size_fuel (suc m) zero n lm lk = size_low (suc m) n (omega arith) ∙ sym (size_low zero n (omega arith))
size_fuel (suc m) (suc k) n lm lk = by (cases_lt 6 n) (λ x p q. size_fuel m k x p q)
  where
    by : (6 < n) ⊎ (n ≤ 6) → ((x : ℕ) → x ≤ m → x ≤ k → levels_size m x ≡ levels_size k x) → levels_size (suc m) n ≡ levels_size (suc k) n
    by (inl h) again = size_high m n h ∙ ap (λ x. (n + 5) / 6 + x) (again ((n + 5) / 6) (omega arith) (omega arith)) ∙ sym (size_high k n h)
    by (inr h) again = size_low (suc m) n h ∙ sym (size_low (suc k) n h)

pub tree_size_low : (n : ℕ) → n ≤ 6 → tree_size n ≡ 1
tree_size_low n h = size_low n n h

pub tree_size_high : (n : ℕ) → 6 < n → tree_size n ≡ (n + 5) / 6 + tree_size ((n + 5) / 6)
tree_size_high n h =
    let f : suc (n - 1) ≡ n = omega arith in
    ap (λ m. levels_size m n) (sym f) ∙ size_high (n - 1) n h ∙ ap (λ x. (n + 5) / 6 + x) (size_fuel (n - 1) ((n + 5) / 6) ((n + 5) / 6) (omega arith) (omega arith))

-- a tree has at least one table, and no more than wants
size_bounds : (m n : ℕ) → n ≤ m → (1 ≤ levels_size m n) × ((levels_size m n ≤ n) ⊎ (levels_size m n ≡ 1))
size_bounds zero n h = let e = size_low zero n (omega arith) in (omega arith, inr e)
size_bounds (suc m) n h = by (cases_lt 6 n) (λ x p. size_bounds m x p)
  where
    by : (6 < n) ⊎ (n ≤ 6) → ((x : ℕ) → x ≤ m → (1 ≤ levels_size m x) × ((levels_size m x ≤ x) ⊎ (levels_size m x ≡ 1))) → (1 ≤ levels_size (suc m) n) × ((levels_size (suc m) n ≤ n) ⊎ (levels_size (suc m) n ≡ 1))
    by (inl l) again =
        let e = size_high m n l in
        let a = again ((n + 5) / 6) (omega arith) in
        (omega (arith, a.0), inl (elim a.1 [ inl s ↦ (let t : (n + 5) / 6 + (n + 5) / 6 ≤ n = omega arith in omega arith) | inr s ↦ omega arith ]))
    by (inr l) again = let e = size_low (suc m) n l in (omega arith, inr e)

pub tree_size_some : (n : ℕ) → 1 ≤ tree_size n
tree_size_some n = (size_bounds n n (omega arith)).0

pub tree_size_few : (n : ℕ) → tree_size n ≤ n + 1
tree_size_few n = elim ((size_bounds n n (omega arith)).1) [ inl h ↦ omega arith | inr h ↦ omega arith ]

length-levels : (gate : Gate) (off : Bool) (m first : ℕ) (ws : List Want) → length ws ≤ m → length (levels gate off m first ws) ≡ levels_size m (length ws)
length-levels gate off zero first ws h = ap length (levels_low gate off zero first ws (omega arith)) ∙ sym (size_low zero (length ws) (omega arith))
length-levels gate off (suc m) first ws h = by (cases_lt 6 (length ws)) (λ f vs p. length-levels gate off m f vs p)
  where
    by : (6 < length ws) ⊎ (length ws ≤ 6) → ((f : ℕ) (vs : List Want) → length vs ≤ m → length (levels gate off m f vs) ≡ levels_size m (length vs)) → length (levels gate off (suc m) first ws) ≡ levels_size (suc m) (length ws)
    by (inl l) again =
        let e = next_length gate off first ws in
        ap length (levels_high gate off m first ws l)
        ∙ length-append (map (gate_table gate false) (sixes ws)) (levels gate off m (first + length (sixes ws)) (wants_from first (length (sixes ws))))
        ∙ ap (λ x. x + length (levels gate off m (first + length (sixes ws)) (wants_from first (length (sixes ws))))) (length-map (sixes ws) (gate_table gate false) ∙ length-groups ((length ws + 5) / 6) ws)
        ∙ ap (λ x. (length ws + 5) / 6 + x) (again (first + length (sixes ws)) (wants_from first (length (sixes ws))) (omega arith) ∙ ap (λ x. levels_size m x) e)
        ∙ sym (size_high m (length ws) l)
    by (inr l) again = ap length (levels_low gate off (suc m) first ws l) ∙ sym (size_low (suc m) (length ws) l)

pub length-tree : (gate : Gate) (off : Bool) (first : ℕ) (ws : List Want) → length (tree gate off first ws) ≡ tree_size (length ws)
length-tree gate off first ws = length-levels gate off (length ws) first ws (omega arith)

-- one more group of a loop
pub group_cut : {A : Type 0} (xs : List A) (from to : ℕ) → from ≤ length xs → to ≡ min (length xs) (from + 6) → take (to - from) (drop from xs) ≡ take 6 (drop from xs)
group_cut xs from to h e =
    let f : to - from ≡ min 6 (length (drop from xs)) = omega (arith, length-drop from xs) in
    ap (λ n. take n (drop from xs)) f ∙ take_min 6 (drop from xs)

module _ (gate : Gate) where
  pub push_group : (tables tables' tables'' : List NetTable) (ws group : List Want) (k : ℕ) → tables' ≡ tables ++ map (gate_table gate false) (groups k ws) → group ≡ take 6 (drop (6 * k) ws) → tables'' ≡ tables' ++ gate_table gate false group ∷ [] → tables'' ≡ tables ++ map (gate_table gate false) (groups (k + 1) ws)
  push_group tables tables' tables'' ws group k e g f =
      f
      ∙ ap (λ ts. ts ++ gate_table gate false group ∷ []) e
      ∙ append_assoc tables (map (gate_table gate false) (groups k ws)) (gate_table gate false group ∷ [])
      ∙ ap (λ ts. tables ++ ts) (ap (λ x. map (gate_table gate false) (groups k ws) ++ gate_table gate false x ∷ []) g ∙ sym (map_push (gate_table gate false) (groups k ws) (take 6 (drop (6 * k) ws))) ∙ ap (λ gs. map (gate_table gate false) gs) (sym (groups_more k ws)))

pub wants_more : (first k : ℕ) (ws ws' : List Want) → ws ≡ wants_from first k → ws' ≡ ws ++ want_table (first + k) ∷ [] → ws' ≡ wants_from first (k + 1)
wants_more first k ws ws' e f = f ∙ ap (λ xs. xs ++ want_table (first + k) ∷ []) e ∙ sym (map-range_with_len_more want_table first k (first + k) refl)

pub level_length : (gate : Gate) (tables tables' : List NetTable) (ws : List Want) → tables' ≡ tables ++ map (gate_table gate false) (sixes ws) → length tables' ≡ length tables + (length ws + 5) / 6
level_length gate tables tables' ws e = ap length e ∙ length-append tables (map (gate_table gate false) (sixes ws)) ∙ ap (λ m. length tables + m) (length-map (sixes ws) (gate_table gate false) ∙ length-groups ((length ws + 5) / 6) ws)

pub levels_some : (gate : Gate) (off : Bool) (m first : ℕ) (ws : List Want) → length ws ≤ m → 1 ≤ length (levels gate off m first ws)
levels_some gate off m first ws h = let e = length-levels gate off m first ws h in let b = (size_bounds m (length ws) h).0 in omega arith
