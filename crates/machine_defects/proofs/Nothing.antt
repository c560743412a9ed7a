-- At first nothing is listed.
use Rattle.std.proofs.Common.{◌≡◌, ℕ, ◌<◌, Bool, true, false, not, ◌&&◌, ◌||◌, Option, List, length, replicate, sym, ap, ◌∙◌, arith, ◌==◌}
use Rattle.machine_defects.proofs.Vocabulary.{get_or-replicate, get_or_past, length-replicate, has_number, Shape}
use native.Mathlib.Decide.{dec_lt}
use Rattle.machine_shape.specs.declared.Table.{Table}
use Rattle.machine_shape.specs.Shape.{wires_of, crosses_of, tables_of, nodes_of, pins_of, ends_of, table_wire, pin_wire}
use Rattle.machine_defects.specs.Vocabulary.{no_defects, Marks, AreRight, AreOwners, AreRecounted, listed_by, count_at, is_lost, is_barred}
use Rattle.machine_defects.proofs.Marks.{unmarked, marked_none, each_all}
use Rattle.machine_defects.proofs.Counting.{how_many_none, how_many_all}

abbrev none : ℕ → List Bool
none n = replicate n false

zeros : (n q : ℕ) → count_at (replicate n 0) q ≡ 0
zeros n q = by_place (dec_lt q n)
  where
    by_place : Dec (q < n) → count_at (replicate n 0) q ≡ 0
    by_place (yes lt) = get_or-replicate n q 0 0 lt
    by_place (no ge) = get_or_past (replicate n 0) q 0 (let e = length-replicate {A = ℕ} n 0 in omega (arith, ge, e))

no_mark : (n q : ℕ) → has_number (none n) q ≡ true → ⊥
no_mark n q e = let g : false ≡ true = sym (unmarked n q) ∙ e in cc

module _ (m : Shape) (owners : List (Option Table)) (open_lines free_ports : List ℕ) where
  abbrev pub empty_marks : Marks
  empty_marks = record {
    shape = m;
    wires = none (wires_of m);
    crosses = none (crosses_of m);
    tables = none (tables_of m);
    barred = none (crosses_of m);
    lost = none (tables_of m);
    owners = owners;
    shut = replicate (wires_of m) 0;
    open_lines = open_lines;
    free_ports = free_ports;
    free_tables = tables_of m;
    free_pins = pins_of m;
  }

  barred_none : (x : ℕ) → has_number (none (crosses_of m)) x ≡ is_barred m (none (wires_of m)) (none (crosses_of m)) x
  barred_none x = unmarked (crosses_of m) x ∙ sym (λ i. unmarked (crosses_of m) x i || (unmarked (wires_of m) (ends_of m x).0 i || unmarked (wires_of m) (ends_of m x).1 i))

  lost_none : (t : ℕ) → has_number (none (tables_of m)) t ≡ is_lost m (none (wires_of m)) (none (tables_of m)) t
  lost_none t = unmarked (tables_of m) t ∙ sym (λ i. unmarked (tables_of m) t i || not (each_all (λ k. not (has_number (none (wires_of m)) (table_wire m t k))) 7 (λ k lk. ap not (unmarked (wires_of m) (table_wire m t k))) i))

  pub empty_right : (length owners ≡ wires_of m) → AreOwners m owners → AreRecounted m (none (wires_of m)) (replicate (wires_of m) 0) (nodes_of m) open_lines free_ports → AreRight empty_marks
  empty_right wide owned counted = record {
    wide = record {
      wires = length-replicate (wires_of m) false;
      crosses = length-replicate (crosses_of m) false;
      tables = length-replicate (tables_of m) false;
      barred = length-replicate (crosses_of m) false;
      lost = length-replicate (tables_of m) false;
      owners = wide;
      shut = length-replicate (wires_of m) 0;
      open_lines = counted.lines_width;
      free_ports = counted.ports_width;
    };
    owners = owned;
    ends = λ x lx on. absurd (no_mark (crosses_of m) x on);
    pins = λ t i lt on li. absurd (no_mark (tables_of m) t on);
    barred = λ x lx. barred_none x;
    lost = λ t lt. lost_none t;
    shut = λ line ll. zeros (wires_of m) line ∙ sym (how_many_none (λ x. has_number (none (crosses_of m)) x && ((ends_of m x).1 == line)) (crosses_of m) (λ x lx. ap (λ b. b && ((ends_of m x).1 == line)) (unmarked (crosses_of m) x)));
    open_lines = counted.lines;
    free_ports = counted.ports;
    free_tables = sym (how_many_all (λ t. not (has_number (none (tables_of m)) t)) (tables_of m) (λ t lt. ap not (unmarked (tables_of m) t)));
    free_pins = sym (how_many_all (λ k. not (has_number (none (wires_of m)) (pin_wire m k))) (pins_of m) (λ k lk. ap not (unmarked (wires_of m) (pin_wire m k))));
  }

  pub empty_listed : listed_by empty_marks ≡ record { shape = m; list = no_defects }
  empty_listed = (λ i. record { shape = m; list = record { wires = marked_none (wires_of m) i; crosses = marked_none (crosses_of m) i; tables = marked_none (tables_of m) i } })
