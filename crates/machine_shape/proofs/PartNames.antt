-- The names of nodes and tables by the names above them.
use Rattle.std.proofs.Common.{◌≡◌, ℕ, ◌+◌, ◌*◌, ◌/◌, ◌%◌, ◌<◌, Some, List, [], ◌∷◌, ◌++◌, length, refl, sym, ap, ◌∙◌, subst, arith, append_assoc, length-append}
use Rattle.machine_shape.proofs.Vocabulary.{append-nil, mod-mul-add, div-mul-add, Shape}
use Rattle.std.proofs.Math.{Nat.mul_assoc, ListN.drop_of_length-le}
use Rattle.machine_shape.specs.Vocabulary.{levels_from, Levels, Path, IsSpot, stop, step, rest, next, size, start, trunk, children_in, nodes_in, tables_in, numbered, way_name, node_name, table_name, child_at, HasPartNames, levels_of, tables_of, way_to, way_to_table, node_at, hextant_of, parent_of}
use Rattle.machine_shape.proofs.Ways.{step_more, start_more, trunk_last, trunk_is_spot}
use Rattle.machine_shape.proofs.Numbering.{way_is, way-node, table_way_is, way_to-root, root_is_node, trunk_in}
use Rattle.machine_shape.proofs.Tapped.{child_from, has_parent, parent_of-way, hextant_of-way}
use Rattle.machine_shape.proofs.Parents.{parent_below}
use Rattle.machine_shape.proofs.Barred.{rest-drop}
use Rattle.machine_shape.proofs.Totals.{four_levels}
use Rattle.machine_shape.proofs.Naming.{node_name-way, table_name-way}
use Rattle.machine_shape.proofs.CalledTables.{spot_full, table_start, children_at}

-- a name and the name of the way one step further
one_more : (p : Path) (i : ℕ) → length p ≡ 0 → way_name (p ++ i ∷ []) ≡ numbered 109 i
one_more [] i h = append-nil (numbered 109 i)
one_more (a ∷ p) i h = absurd (omega arith)

two_more : (p : Path) (i : ℕ) → length p ≡ 1 → way_name (p ++ i ∷ []) ≡ way_name p ++ 46 ∷ numbered 99 i
two_more [] i h = absurd (omega arith)
two_more (a ∷ b ∷ p) i h = absurd (omega arith)
two_more (a ∷ []) i h =
    ap (λ (s : List ℕ). numbered 109 a ++ (46 ∷ s)) (append-nil (numbered 99 i))
    ∙ sym (append_assoc (numbered 109 a) [] (46 ∷ numbered 99 i))

three_more : (p : Path) (i : ℕ) → length p ≡ 2 → way_name (p ++ i ∷ []) ≡ way_name p ++ 46 ∷ numbered 104 i
three_more [] i h = absurd (omega arith)
three_more (a ∷ []) i h = absurd (omega arith)
three_more (a ∷ b ∷ c ∷ p) i h = absurd (omega arith)
three_more (a ∷ b ∷ []) i h =
    ap (λ (s : List ℕ). numbered 109 a ++ (46 ∷ (numbered 99 b ++ (46 ∷ s)))) (append-nil (numbered 104 i))
    ∙ ap (λ (s : List ℕ). numbered 109 a ++ (46 ∷ s)) (sym (append_assoc (numbered 99 b) [] (46 ∷ numbered 104 i)))
    ∙ sym (append_assoc (numbered 109 a) (46 ∷ (numbered 99 b ++ [])) (46 ∷ numbered 104 i))

four_more : (p : Path) (i : ℕ) → length p ≡ 3 → way_name (p ++ i ∷ []) ≡ way_name p ++ 46 ∷ numbered 116 i
four_more [] i h = absurd (omega arith)
four_more (a ∷ []) i h = absurd (omega arith)
four_more (a ∷ b ∷ []) i h = absurd (omega arith)
four_more (a ∷ b ∷ c ∷ d ∷ p) i h = absurd (omega arith)
four_more (a ∷ b ∷ c ∷ []) i h =
    ap (λ (s : List ℕ). numbered 109 a ++ (46 ∷ (numbered 99 b ++ (46 ∷ (numbered 104 c ++ (46 ∷ s)))))) (append-nil (numbered 116 i))
    ∙ ap (λ (s : List ℕ). numbered 109 a ++ (46 ∷ (numbered 99 b ++ (46 ∷ s))))
    (sym (append_assoc (numbered 104 c) [] (46 ∷ numbered 116 i)))
    ∙ ap (λ (s : List ℕ). numbered 109 a ++ (46 ∷ s))
    (sym (append_assoc (numbered 99 b) (46 ∷ (numbered 104 c ++ [])) (46 ∷ numbered 116 i)))
    ∙ sym (append_assoc (numbered 109 a) (46 ∷ (numbered 99 b ++ (46 ∷ (numbered 104 c ++ [])))) (46 ∷ numbered 116 i))

node_own : (ls : Levels) → 0 < nodes_in ls → nodes_in ls ≡ 1
node_own [] h = absurd (omega arith)
node_own (l ∷ ls) h = refl

node_some : (ls : Levels) → 0 < nodes_in ls → 0 < size nodes_in ls
node_some [] h = absurd (omega arith)
node_some (l ∷ ls) h = omega arith

-- the tables before a hextant are as many as some hextants have
tables_even : {ls : Levels} {p : Path} → IsSpot ls p → next (rest ls p) ≡ [] → 0 < children_in (rest ls p) →
    (k : ℕ) × (size tables_in ls ≡ k * children_in (rest ls p))
tables_even {ls = []} stop e h = absurd (omega arith)
tables_even {ls = l ∷ ls} stop e h = (
  1,
  (let o : size tables_in ls ≡ 1 = ap (size tables_in) e in
      let x : l.children * size tables_in ls ≡ l.children * 1 = ap (λ (n : ℕ). l.children * n) o in omega arith),
)
tables_even (step {l} {ls} {i} {p} b s) e h =
    let r = tables_even s e h in (
      l.children * r.0,
      (let x : l.children * size tables_in ls ≡ l.children * (r.0 * children_in (rest ls p)) =
          ap (λ (n : ℕ). l.children * n) r.1 in let y = mul_assoc l.children r.0 (children_in (rest ls p)) in omega arith),
    )

tables_before : {ls : Levels} {p : Path} → IsSpot ls p → next (rest ls p) ≡ [] → 0 < children_in (rest ls p) →
    (k : ℕ) × (start tables_in ls p ≡ k * children_in (rest ls p))
tables_before stop e h = (0, omega arith)
tables_before (step {l} {ls} {i} {p} b s) e h =
    let r = tables_before s e h in
    let z = tables_even s e h in (
      i * z.0 + r.0,
      (
          let x : i * size tables_in ls ≡ i * (z.0 * children_in (rest ls p)) = ap (λ (n : ℕ). i * n) z.1 in
          let y = mul_assoc i z.0 (children_in (rest ls p)) in
          let f = r.1 in omega arith),
    )

module _ (m : Shape) where
  start_at : (p : Path) → node_at m p ≡ start nodes_in (levels_of m) p
  unfolding node_at
  start_at p = refl

  child_is : (n i : ℕ) → child_at m n i ≡ n + (1 + i * size nodes_in (next (rest (levels_of m) (way_to m n))))
  unfolding child_at
  child_is n i = refl

  -- the way to a child, and which number that is
  way_further : (c n : ℕ) → parent_of m c ≡ Some n → (j : ℕ) × (way_to m c ≡ way_to m n ++ j ∷ []) × (c ≡ child_at m n j) ×
      (0 < size nodes_in (next (rest (levels_of m) (way_to m n))))
  way_further c n e =
      let h = has_parent m c n e in
      let at = way_is m c h in
      let k = child_from m n (way_to m c) at.0 (sym (parent_of-way m c h) ∙ e) in
      let more = step_more k.0 k.3 k.1 in
      let node : 0 < nodes_in (next (rest (levels_of m) (way_to m n))) = subst (λ (ls : Levels). 0 < nodes_in ls)
      (ap (rest (levels_of m)) k.2 ∙ more.1) at.1 in
      let b = parent_below m c n e in
      let up = way_is m n b in
      let own = node_own (rest (levels_of m) (way_to m n)) up.1 in
      let s = start_more nodes_in k.0 k.3 k.1 in
      let to : start nodes_in (levels_of m) (way_to m c) ≡ c = sym (start_at (way_to m c)) ∙ at.2 in
      let from : start nodes_in (levels_of m) (way_to m n) ≡ n = sym (start_at (way_to m n)) ∙ up.2 in
      let way : start nodes_in (levels_of m) (way_to m c) ≡ start nodes_in (levels_of m) (way_to m n ++ k.0 ∷ []) =
      ap (start nodes_in (levels_of m)) k.2 in
      let is = child_is n k.0 in
      (k.0, k.2, omega arith, node_some _ node)

  same_position : (i j s : ℕ) → 0 < s → i * s ≡ j * s → i ≡ j
  same_position i j s h e = sym (div-mul-add i s 0 h) ∙ ap (λ (k : ℕ). (k + 0) / s) e ∙ div-mul-add j s 0 h

  way_of_child : (c n i : ℕ) → parent_of m c ≡ Some n → c ≡ child_at m n i → way_to m c ≡ way_to m n ++ i ∷ []
  way_of_child c n i e at =
      let r = way_further c n e in
      let a = child_is n i in
      let b = child_is n r.0 in
      let x = r.2 in
      let s = size nodes_in (next (rest (levels_of m) (way_to m n))) in
      let same : i * s ≡ r.0 * s = omega arith in
      r.1 ∙ ap (λ (j : ℕ). way_to m n ++ j ∷ []) (same_position r.0 i s r.3 (sym same))

  -- how far nodes are below the root
  length_root : length (way_to m 0) ≡ 0
  length_root = ap length (way_to-root m)

  length_more : (c n : ℕ) → parent_of m c ≡ Some n → length (way_to m c) ≡ length (way_to m n) + 1
  length_more c n e = let r = way_further c n e in ap length r.1 ∙ length-append (way_to m n) (r.0 ∷ [])

  called : (c n i : ℕ) → parent_of m c ≡ Some n → c ≡ child_at m n i → node_name m c ≡ way_name (way_to m n ++ i ∷ [])
  called c n i e at = node_name-way m c ∙ ap way_name (way_of_child c n i e at)

  modules_named : (c i : ℕ) → parent_of m c ≡ Some 0 → c ≡ child_at m 0 i → node_name m c ≡ numbered 109 i
  modules_named c i e at = called c 0 i e at ∙ one_more (way_to m 0) i length_root

  chips_named : (p c i : ℕ) → parent_of m p ≡ Some 0 → parent_of m c ≡ Some p → c ≡ child_at m p i →
      node_name m c ≡ node_name m p ++ 46 ∷ numbered 99 i
  chips_named p c i f e at =
      let one = length_more p 0 f in
      let zero_ = length_root in
      called c p i e at ∙ two_more (way_to m p) i (omega arith) ∙ ap (λ (s : List ℕ). s ++ 46 ∷ numbered 99 i) (sym (node_name-way m p))

  hextants_named : (q p c i : ℕ) → parent_of m q ≡ Some 0 → parent_of m p ≡ Some q → parent_of m c ≡ Some p → c ≡ child_at m p i →
      node_name m c ≡ node_name m p ++ 46 ∷ numbered 104 i
  hextants_named q p c i g f e at =
      let one = length_more q 0 g in
      let two = length_more p q f in
      let zero_ = length_root in
      called c p i e at ∙ three_more (way_to m p) i (omega arith) ∙ ap (λ (s : List ℕ). s ++ 46 ∷ numbered 104 i)
      (sym (node_name-way m p))

  no_more : (q p c d : ℕ) → parent_of m q ≡ Some 0 → parent_of m p ≡ Some q → parent_of m c ≡ Some p → parent_of m d ≡ Some c → ⊥
  no_more q p c d g f e k =
      let zero_ = length_root in
      let one = length_more q 0 g in
      let two = length_more p q f in
      let three = length_more c p e in
      let four = length_more d c k in
      let at = way_is m d (has_parent m d c k) in
      let levels = four_levels m in
      let none : rest (levels_of m) (way_to m d) ≡ [] = rest-drop at.0 ∙ drop_of_length-le (levels_of m) (omega arith) in
      let no_ : nodes_in (rest (levels_of m) (way_to m d)) ≡ 0 = ap nodes_in none in
      let is = at.1 in absurd (omega arith)

  -- tables
  each_hextant : (p : Path) → IsSpot (levels_of m) p → length p ≡ 3 → children_in (rest (levels_of m) p) ≡ m.counts.tables
  unfolding levels_of levels_from
  each_hextant p s h = sym (children_at m p (record { ports = 0; lines = 0; children = 0 }) (levels_of m) refl s h)

  tables_named : (t : ℕ) → t < tables_of m → table_name m t ≡ node_name m (hextant_of m t) ++ 46 ∷ numbered 116 (t % m.counts.tables)
  tables_named t h =
      let w = table_way_is m t h in
      let l = trunk_last w.0 w.1 (root_is_node m) in
      let s = trunk_is_spot w.0 in
      let path = trunk (levels_of m) (way_to_table m t) in
      let three : length path ≡ 3 = (let a = spot_full w.0 w.1 in let b = four_levels m in let c = ap length l.2
      ∙ length-append path (l.0 ∷ []) in omega arith) in
      let each = each_hextant path s three in
      let before = tables_before s l.3 (let b = l.1 in omega arith) in
      let number : t ≡ start tables_in (levels_of m) path + l.0 = sym w.2 ∙ ap (start tables_in (levels_of m)) l.2
      ∙ table_start l.0 s l.1 l.3 in
      let whole : t ≡ before.0 * m.counts.tables + l.0 = number ∙ ap (λ (k : ℕ). k + l.0)
      (before.1 ∙ ap (λ (k : ℕ). before.0 * k) each) in
      let position : t % m.counts.tables ≡ l.0 = ap (λ (k : ℕ). k % m.counts.tables) whole
      ∙ mod-mul-add before.0 m.counts.tables l.0 (let b = l.1 in omega arith) in
      let way : way_to m (hextant_of m t) ≡ path = ap (way_to m) (hextant_of-way m t (way_to_table m t) refl)
      ∙ (way-node m path s (trunk_in m (way_to_table m t))).1 in
      table_name-way m t ∙ ap way_name l.2 ∙ four_more path l.0 three ∙ ap (λ (x : List ℕ). x ++ 46 ∷ numbered 116 l.0)
      (ap way_name (sym way) ∙ sym (node_name-way m (hextant_of m t)))
      ∙ ap (λ (k : ℕ). node_name m (hextant_of m t) ++ 46 ∷ numbered 116 k) (sym position)

  pub has_part_names : HasPartNames m
  has_part_names = record {
    position = λ c n e. let r = way_further c n e in (r.0, r.2);
    modules = modules_named;
    chips = chips_named;
    hextants = hextants_named;
    last = no_more;
    tables = tables_named;
  }
