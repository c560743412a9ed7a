-- What is kept tells what is free.
use Rattle.std.proofs.Common.{◌≡◌, ℕ, ◌<◌, Bool, true, false, not, ◌&&◌, ◌||◌, refl, sym, ap, ◌∙◌, subst, eqb-true, ◌==◌, ◌↔◌}
use Rattle.machine_defects.proofs.Vocabulary.{eq-eqb, false_from_ne_true, and_parts, both_ways, has_number}
use Rattle.std.specs.FinSet as sets
use Rattle.machine_shape.specs.Shape.{wires_of, crosses_of, tables_of, nodes_of, lines_of, pins_of, ends_of, table_wire, line_at}
use Rattle.machine_meaning.specs.Defects.{Defects, IsFreeWire, IsFreeCross, IsFreeTable, IsOpenLine}
use Rattle.machine_defects.specs.declared.kept.Kept.{Kept}
use Rattle.machine_defects.specs.Vocabulary.{IsKept, list_in, is_clear_line, count_at, IsDefectList, is_free_wire, is_free_cross, is_free_table, is_open_line, leaves_open, all_below, open_lines_of, free_ports_of, free_tables_of, free_pins_of}
use Rattle.machine_defects.proofs.Marks.{in_marked, has_below, all_each, each_all, all_same}
use Rattle.machine_defects.proofs.Counting.{how_many_same, how_many_none, none_passes}
use Rattle.machine_defects.proofs.Telling.{wire_tells, cross_tells, table_tells, open_tells, leaves, leaves_from}

or_none : (a b c : Bool) → not (a || (b || c)) ≡ (not a && (not b && not c))
or_none true b c = refl
or_none false true c = refl
or_none false false c = refl

lost_none : (a b : Bool) → not (a || not b) ≡ (not a && b)
lost_none true b = refl
lost_none false true = refl
lost_none false false = refl

module _ (k : Kept) (is : IsKept k) where
  abbrev d : Defects
  d = (list_in k).list

  pub wire_marked : (w : ℕ) → not (has_number k.wires w) ≡ is_free_wire d w
  wire_marked w = ap not (sym (in_marked k.wires w))

  pub cross_marked : (x : ℕ) → x < crosses_of k.shape → not (has_number k.barred x) ≡ is_free_cross k.shape d x
  cross_marked x lt =
      ap not (is.barred x lt)
      ∙ or_none (has_number k.crosses x) (has_number k.wires (ends_of k.shape x).0) (has_number k.wires (ends_of k.shape x).1)
      ∙ (λ i. not (sym (in_marked k.crosses x) i) && (wire_marked (ends_of k.shape x).0 i && wire_marked (ends_of k.shape x).1 i))

  pub table_marked : (t : ℕ) → t < tables_of k.shape → not (has_number k.lost t) ≡ is_free_table k.shape d t
  table_marked t lt =
      ap not (is.lost t lt)
      ∙ lost_none (has_number k.tables t) _
      ∙ (λ i. not (sym (in_marked k.tables t) i) && all_same (λ j. not (has_number k.wires (table_wire k.shape t j))) (λ j. is_free_wire d (table_wire k.shape t j)) 7 (λ j lj. wire_marked (table_wire k.shape t j)) i)

  pub free_wire_is : (w : ℕ) (b : Bool) → b ≡ has_number k.wires w → (not b ≡ true) ↔ IsFreeWire d w
  free_wire_is w b e = subst (λ c. (c ≡ true) ↔ IsFreeWire d w) (sym (ap not e ∙ wire_marked w)) (wire_tells d w)

  pub free_cross_is : (x : ℕ) (b : Bool) → x < crosses_of k.shape → b ≡ has_number k.barred x → (not b ≡ true) ↔ IsFreeCross k.shape d x
  free_cross_is x b lt e = subst (λ c. (c ≡ true) ↔ IsFreeCross k.shape d x) (sym (ap not e ∙ cross_marked x lt)) (cross_tells k.shape d x)

  pub free_table_is : (t : ℕ) (b : Bool) → t < tables_of k.shape → b ≡ has_number k.lost t → (not b ≡ true) ↔ IsFreeTable k.shape d t
  free_table_is t b lt e = subst (λ c. (c ≡ true) ↔ IsFreeTable k.shape d t) (sym (ap not e ∙ table_marked t lt)) (table_tells k.shape d t)

  -- ---- open lines

  listed_here : (line x : ℕ) → x < crosses_of k.shape → is_free_wire d line ≡ true → all_below (crosses_of k.shape) (leaves_open k.shape d line) ≡ true → (has_number k.crosses x && ((ends_of k.shape x).1 == line)) ≡ true → ⊥
  listed_here line x lt free all e =
      let p = and_parts (has_number k.crosses x) ((ends_of k.shape x).1 == line) e in
      let tap : IsFreeWire d (ends_of k.shape x).0 = in_marked k.wires (ends_of k.shape x).0 ∙ (is.ends x lt p.0).0 in
      let f = leaves k.shape d line x (all_each (leaves_open k.shape d line) (crosses_of k.shape) x all lt) (eqb-true (ends_of k.shape x).1 line p.1) tap in
      let g = ((cross_tells k.shape d x).0 f).itself in
      let h : true ≡ false = sym p.0 ∙ sym (in_marked k.crosses x) ∙ g in
      cc

  leaves_here : (line x : ℕ) → x < crosses_of k.shape → is_free_wire d line ≡ true → (has_number k.crosses x && ((ends_of k.shape x).1 == line)) ≡ false → leaves_open k.shape d line x ≡ true
  leaves_here line x lt free none = leaves_from k.shape d line x (λ at tap. (cross_tells k.shape d x).1 (record {
    itself = in_marked k.crosses x ∙ unlisted (has_number k.crosses x) ((ends_of k.shape x).1 == line) none (eq-eqb (ends_of k.shape x).1 line at);
    tap = tap;
    line = subst (IsFreeWire d) (sym at) ((wire_tells d line).0 free);
  }))
    where
      unlisted : (a b : Bool) → (a && b) ≡ false → b ≡ true → a ≡ false
      unlisted false b e f = refl
      unlisted true b e f = absurd (let g : true ≡ false = sym f ∙ e in cc)

  shut_is : (line : ℕ) → line < wires_of k.shape → is_free_wire d line ≡ true → (count_at k.shut.items line == 0) ≡ all_below (crosses_of k.shape) (leaves_open k.shape d line)
  shut_is line lt free = both_ways _ _
      (λ e. each_all (leaves_open k.shape d line) (crosses_of k.shape) (λ x lx. leaves_here line x lx free (none_passes (λ x. has_number k.crosses x && ((ends_of k.shape x).1 == line)) (crosses_of k.shape) x lx (sym (is.shut line lt) ∙ eqb-true (count_at k.shut.items line) 0 e))))
      (λ e. eq-eqb (count_at k.shut.items line) 0 (is.shut line lt ∙ how_many_none (λ x. has_number k.crosses x && ((ends_of k.shape x).1 == line)) (crosses_of k.shape) (λ x lx. false_from_ne_true _ (listed_here line x lx free e))))

  pub clear_is_open : (line : ℕ) → line < wires_of k.shape → is_clear_line k.wires k.shut.items line ≡ is_open_line k.shape d line
  clear_is_open line lt = by_wire (not (has_number k.wires line)) (is_free_wire d line) (wire_marked line) refl
    where
      by_wire : (a b : Bool) → a ≡ b → is_free_wire d line ≡ b → (a && (count_at k.shut.items line == 0)) ≡ (b && all_below (crosses_of k.shape) (leaves_open k.shape d line))
      by_wire false false e f = refl
      by_wire true true e f = shut_is line lt f
      by_wire false true e f = absurd cc
      by_wire true false e f = absurd cc

  pub open_line_is : (line : ℕ) (b : Bool) → line < wires_of k.shape → b ≡ is_clear_line k.wires k.shut.items line → (b ≡ true) ↔ IsOpenLine k.shape d line
  open_line_is line b lt e = subst (λ c. (c ≡ true) ↔ IsOpenLine k.shape d line) (sym (e ∙ clear_is_open line lt)) (open_tells k.shape d line)

  -- ---- the numbers

  pub open_lines_are : (n : ℕ) → n < nodes_of k.shape → ((i : ℕ) → i < lines_of k.shape n → line_at k.shape n i < wires_of k.shape) → count_at k.open_lines.items n ≡ open_lines_of k.shape d n
  open_lines_are n lt within = is.open_lines n lt ∙ how_many_same _ _ (lines_of k.shape n) (λ i li. clear_is_open (line_at k.shape n i) (within i li))

  pub free_ports_are : (n : ℕ) → n < nodes_of k.shape → count_at k.free_ports.items n ≡ free_ports_of k.shape d n
  free_ports_are n lt = is.free_ports n lt ∙ how_many_same _ _ _ (λ i li. wire_marked _)

  pub free_tables_are : k.free_tables ≡ free_tables_of k.shape d
  free_tables_are = is.free_tables ∙ how_many_same _ _ (tables_of k.shape) table_marked

  pub free_pins_are : k.free_pins ≡ free_pins_of k.shape d
  free_pins_are = is.free_pins ∙ how_many_same _ _ (pins_of k.shape) (λ i li. wire_marked _)

  -- ---- what holds of every list

  pub is_list : IsDefectList (list_in k)
  is_list =
      let cross : (x : ℕ) → sets.contains d.crosses x ≡ true → x < crosses_of k.shape = λ x e. subst (λ n. x < n) is.wide.crosses (has_below k.crosses x (sym (in_marked k.crosses x) ∙ e)) in
      let table : (t : ℕ) → sets.contains d.tables t ≡ true → t < tables_of k.shape = λ t e. subst (λ n. t < n) is.wide.tables (has_below k.tables t (sym (in_marked k.tables t) ∙ e)) in
      record {
        wires = λ w e. subst (λ n. w < n) is.wide.wires (has_below k.wires w (sym (in_marked k.wires w) ∙ e));
        crosses = cross;
        tables = table;
        taps = λ x e. in_marked k.wires _ ∙ (is.ends x (cross x e) (sym (in_marked k.crosses x) ∙ e)).0;
        lines = λ x e. in_marked k.wires _ ∙ (is.ends x (cross x e) (sym (in_marked k.crosses x) ∙ e)).1;
        pins = λ t i e lt. in_marked k.wires _ ∙ is.pins t i (table t e) (sym (in_marked k.tables t) ∙ e) lt;
      }
