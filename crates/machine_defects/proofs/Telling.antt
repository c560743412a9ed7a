-- The tests tell what is free.
use Rattle.std.proofs.Common.{◌≡◌, ℕ, Bool, true, false, not, ◌&&◌, ◌||◌, refl, eqb-true, ◌==◌, ◌↔◌}
use Rattle.machine_defects.proofs.Vocabulary.{not-true, eq-eqb, and_parts, not_from_false, Shape, crosses_of, ends_of, table_wire}
use Rattle.std.specs.FinSet as sets
use Rattle.machine_meaning.specs.Defects.{Defects, IsFreeWire, IsFreeCross, IsFreeTable, IsOpenLine}
use Rattle.machine_defects.specs.Lists.{is_free_wire, is_free_cross, is_free_table, is_open_line, leaves_open, has_free_ends, has_free_pins}
use Rattle.machine_defects.proofs.Marks.{all_each, each_all}

pub wire_tells : (d : Defects) (w : ℕ) → (is_free_wire d w ≡ true) ↔ IsFreeWire d w
wire_tells d w = ((λ e. not-true (sets.contains d.wires w) e), (λ e. not_from_false (sets.contains d.wires w) e))

pub cross_tells : (m : Shape) (d : Defects) (x : ℕ) → (is_free_cross m d x ≡ true) ↔ IsFreeCross m d x
cross_tells m d x = (
  (λ e.
      let p = and_parts (not (sets.contains d.crosses x)) (has_free_ends m d x) e in
      let q = and_parts (is_free_wire d (ends_of m x).0) (is_free_wire d (ends_of m x).1) p.1 in
      record { itself = not-true (sets.contains d.crosses x) p.0; tap = (wire_tells d (ends_of m x).0).0 q.0; line = (wire_tells d (ends_of m x).1).0 q.1 }),
  (λ f. (λ i. not_from_false (sets.contains d.crosses x) f.itself i && (not_from_false (sets.contains d.wires (ends_of m x).0) f.tap i && not_from_false (sets.contains d.wires (ends_of m x).1) f.line i))),
)

pub table_tells : (m : Shape) (d : Defects) (t : ℕ) → (is_free_table m d t ≡ true) ↔ IsFreeTable m d t
table_tells m d t = (
  (λ e.
      let p = and_parts (not (sets.contains d.tables t)) (has_free_pins m d t) e in
      record { itself = not-true (sets.contains d.tables t) p.0; pins = λ k lt. (wire_tells d (table_wire m t k)).0 (all_each (λ k. is_free_wire d (table_wire m t k)) 7 k p.1 lt) }),
  (λ f. (λ i. not_from_false (sets.contains d.tables t) f.itself i && each_all (λ k. is_free_wire d (table_wire m t k)) 7 (λ k lt. (wire_tells d (table_wire m t k)).1 (f.pins k lt)) i)),
)

pub leaves : (m : Shape) (d : Defects) (line x : ℕ) → leaves_open m d line x ≡ true → (ends_of m x).1 ≡ line → IsFreeWire d (ends_of m x).0 → is_free_cross m d x ≡ true
leaves m d line x e is free = by_line ((ends_of m x).1 == line) (eq-eqb (ends_of m x).1 line is) (is_free_wire d (ends_of m x).0) ((wire_tells d (ends_of m x).0).1 free) (is_free_cross m d x) e
  where
    by_line : (b : Bool) → b ≡ true → (c : Bool) → c ≡ true → (f : Bool) → (not b || (not c || f)) ≡ true → f ≡ true
    by_line true g true h f e = e
    by_line false g c h f e = absurd cc
    by_line true g false h f e = absurd cc

pub leaves_from : (m : Shape) (d : Defects) (line x : ℕ) → ((ends_of m x).1 ≡ line → IsFreeWire d (ends_of m x).0 → is_free_cross m d x ≡ true) → leaves_open m d line x ≡ true
leaves_from m d line x h = by_line ((ends_of m x).1 == line) refl (is_free_wire d (ends_of m x).0) refl
  where
    by_line : (b : Bool) → ((ends_of m x).1 == line) ≡ b → (c : Bool) → is_free_wire d (ends_of m x).0 ≡ c → (not b || (not c || is_free_cross m d x)) ≡ true
    by_line false g c k = refl
    by_line true g false k = refl
    by_line true g true k = h (eqb-true (ends_of m x).1 line g) ((wire_tells d (ends_of m x).0).0 k)

pub open_tells : (m : Shape) (d : Defects) (line : ℕ) → (is_open_line m d line ≡ true) ↔ IsOpenLine m d line
open_tells m d line = (
  (λ e.
      let p = and_parts (is_free_wire d line) _ e in
      record {
        itself = (wire_tells d line).0 p.0;
        crosses = λ x lt is free. (cross_tells m d x).0 (leaves m d line x (all_each (leaves_open m d line) (crosses_of m) x p.1 lt) is free);
      }),
  (λ f. (λ i. (wire_tells d line).1 f.itself i && each_all (leaves_open m d line) (crosses_of m) (λ x lt. leaves_from m d line x (λ is free. (cross_tells m d x).1 (f.crosses x lt is free))) i)),
)
