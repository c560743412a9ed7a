-- The names of tables.
use Rattle.std.proofs.Common.{◌≡◌, ℕ, suc, ◌+◌, ◌*◌, ◌<◌, List, [], ◌∷◌, ◌++◌, length, drop, get_or, refl, sym, ap, ◌∙◌, subst, arith, length-append}
use Rattle.machine_shape.proofs.Vocabulary.{append-nil, Level, Shape}
use Rattle.machine_shape.specs.Vocabulary.{Levels, Path, IsSpot, stop, step, rest, next, size, start, trunk, children_in, tables_in, levels_of, tables_of, way_to_table, numbered, way_name, table_name, NoDot, way_text, IsRead, IsReadable}
use Rattle.machine_shape.proofs.Ways.{step_more, start_more, trunk_last, trunk_is_spot}
use Rattle.machine_shape.proofs.Numbering.{table_way_is, root_is_node}
use Rattle.machine_shape.proofs.Meanings.{way-table}
use Rattle.machine_shape.proofs.Barred.{rest-drop}
use Rattle.machine_shape.proofs.Totals.{four_levels, tables_are}
use Rattle.machine_shape.proofs.Naming.{short_steps, table_name-way}
use Rattle.machine_shape.proofs.Dotted.{no_dot-numbered}
use Rattle.machine_shape.proofs.Called.{letters, letters_undotted, one_reading}

-- a way to a table has a step at each level
pub spot_full : {ls : Levels} {p : Path} → IsSpot ls p → rest ls p ≡ [] → length p ≡ length ls
spot_full stop e = sym (ap length e)
spot_full (step h s) e = ap suc (spot_full s e)

-- one step short of it no levels are left below the node
none_below : {ls : Levels} {p : Path} → IsSpot ls p → length p + 1 ≡ length ls → next (rest ls p) ≡ []
none_below (stop {ls = []}) h = absurd (omega arith)
none_below (stop {ls = l ∷ []}) h = refl
none_below (stop {ls = l ∷ k ∷ ls}) h = absurd (omega arith)
none_below (step b s) h = none_below s (omega arith)

no_table_here : (ls : Levels) (j : ℕ) → j < children_in ls → tables_in ls ≡ 0
no_table_here [] j h = absurd (omega arith)
no_table_here (l ∷ ls) j h = refl

-- the tables of a hextant are numbered one by one
pub table_start : {ls : Levels} {p : Path} (j : ℕ) → IsSpot ls p → j < children_in (rest ls p) → next (rest ls p) ≡ [] →
    start tables_in ls (p ++ j ∷ []) ≡ start tables_in ls p + j
table_start {ls} {p} j s h e =
    let m = start_more tables_in j s h in
    let z = no_table_here (rest ls p) j h in
    let o : size tables_in (next (rest ls p)) ≡ 1 = ap (size tables_in) e in
    let k : j * size tables_in (next (rest ls p)) ≡ j * 1 = ap (λ n. j * n) o in omega arith

name_three : (p : Path) (e : ℕ) → length p ≡ 3 → way_name (p ++ e ∷ []) ≡ way_text letters p (numbered 116 e)
name_three [] e h = absurd (omega arith)
name_three (a ∷ []) e h = absurd (omega arith)
name_three (a ∷ b ∷ []) e h = absurd (omega arith)
name_three (a ∷ b ∷ c ∷ d ∷ p) e h = absurd (omega arith)
name_three (a ∷ b ∷ c ∷ []) e h = ap (λ (s : List ℕ). numbered 109 a ++ (46 ∷ (numbered 99 b ++ (46 ∷ (numbered 104 c ++ (46 ∷ s)))))) (append-nil (numbered 116 e))

children-drop : (ls : Levels) (d : Level) → 3 < length ls → children_in (drop 3 ls) ≡ (get_or ls 3 d).children
children-drop [] d h = absurd (omega arith)
children-drop (a ∷ []) d h = absurd (omega arith)
children-drop (a ∷ b ∷ []) d h = absurd (omega arith)
children-drop (a ∷ b ∷ c ∷ []) d h = absurd (omega arith)
children-drop (a ∷ b ∷ c ∷ e ∷ ls) d h = refl

module _ (m : Shape) where
  pub children_at : (p : Path) (d : Level) (levels : Levels) → levels ≡ levels_of m → IsSpot (levels_of m) p → length p ≡ 3 → (get_or levels 3 d).children ≡ children_in (rest (levels_of m) p)
  children_at p d levels e s h = ap (λ ls. (get_or ls 3 d).children) e ∙ sym (children-drop (levels_of m) d (let f = four_levels m in omega arith)) ∙ ap (λ k. children_in (drop k (levels_of m))) (sym h) ∙ ap children_in (sym (rest-drop s))

  -- how a table is called: by its hextant's way and its position there
  pub record IsCalled (t : ℕ) : Type 0 where
    pub path : Path
    pub position : ℕ
    pub spot : IsSpot (levels_of m) path
    pub three : length path ≡ 3
    pub within : position < children_in (rest (levels_of m) path)
    pub number : start tables_in (levels_of m) path + position ≡ t
    pub named : table_name m t ≡ way_text letters path (numbered 116 position)

  pub called : (t : ℕ) → t < tables_of m → IsCalled t
  called t h =
      let w = table_way_is m t h in
      let l = trunk_last w.0 w.1 (root_is_node m) in
      let s = trunk_is_spot w.0 in
      let three : length (trunk (levels_of m) (way_to_table m t)) ≡ 3 = (let a = spot_full w.0 w.1 in let b = four_levels m in let c = ap length l.2 ∙ length-append (trunk (levels_of m) (way_to_table m t)) (l.0 ∷ []) in omega arith) in
      record {
        path = trunk (levels_of m) (way_to_table m t);
        position = l.0;
        spot = s;
        three = three;
        within = l.1;
        number = sym (table_start l.0 s l.1 l.3) ∙ ap (start tables_in (levels_of m)) (sym l.2) ∙ w.2;
        named = table_name-way m t ∙ ap way_name l.2 ∙ name_three (trunk (levels_of m) (way_to_table m t)) l.0 three;
      }

  pub position_small : (t : ℕ) (c : IsCalled t) → t < tables_of m → NoDot (numbered 116 c.position)
  position_small t c h = no_dot-numbered 116 c.position (λ e. omega arith) (let n = c.number in let k = tables_are m in omega arith)

  pub table_readable : (t : ℕ) → t < tables_of m → IsReadable (levels_of m) letters (table_name m t)
  table_readable t h = let c = called t h in record { path = c.path; last = numbered 116 c.position; spot = c.spot; undotted = position_small t c h; named = c.named }

  -- and what is read of its name
  pub table_read : (name : List ℕ) (r : Path) (last t : ℕ) → IsRead (levels_of m) letters name r last → t < tables_of m → table_name m t ≡ name →
      (length r ≡ 3) × ((j : ℕ) × (j < children_in (rest (levels_of m) r)) × (drop last name ≡ numbered 116 j))
  table_read name r last t read h n =
      let c = called t h in
      let x = one_reading (levels_of m) letters c.path r (numbered 116 c.position) (drop last name) letters_undotted (let f = four_levels m in omega arith) c.spot read.spot (short_steps m c.path c.spot) (short_steps m r read.spot) (position_small t c h) read.undotted
      (sym c.named ∙ n ∙ read.named) in
      (sym (ap length x.0) ∙ c.three, (c.position, subst (λ p. c.position < children_in (rest (levels_of m) p)) x.0 c.within, sym x.1))

  pub table_named : (name : List ℕ) (p : Path) (last j : ℕ) → IsRead (levels_of m) letters name p last → length p ≡ 3 → j < children_in (rest (levels_of m) p) → drop last name ≡ numbered 116 j →
      (start tables_in (levels_of m) p + j < tables_of m) × (table_name m (start tables_in (levels_of m) p + j) ≡ name)
  table_named name p last j read three h e =
      let none : next (rest (levels_of m) p) ≡ [] = none_below read.spot (let f = four_levels m in omega arith) in
      let more = step_more j read.spot h in
      let w = way-table m (p ++ j ∷ []) more.0 (more.1 ∙ none) in
      let same = table_start j read.spot h none in (
        subst (λ t. t < tables_of m) same w.0,
        table_name-way m _ ∙ ap way_name (subst (λ t. way_to_table m t ≡ p ++ j ∷ []) same w.1) ∙ name_three p j three ∙ ap (way_text letters p) (sym e) ∙ sym read.named,
      )
