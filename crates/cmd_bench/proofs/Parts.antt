-- What generated faults leave sound of the generated machine.
use Rattle.std.proofs.Common.{◌≡◌, ◌≢◌, ◌∙◌, ℕ, zero, suc, ◌+◌, ◌*◌, ◌/◌, ◌%◌, ◌<◌, ◌==◌, nat_lt, true, map, length, get_or, refl, sym, ap, subst, arith}
use Rattle.cmd_bench.proofs.Vocabulary.{range_with_len, eqb-true, ltb-true, get_or-map-range_with_len, length-map-range_with_len, Shape}
use Rattle.cmd_bench.proofs.Vocabulary.{Faults, IsServed, plain_network, covers_tables, cover_tables, bench_counts, bench_draft}
use Rattle.machine_shape.specs.Vocabulary.{levels_from, Levels, size, place_in, rest, nodes_in, tables_in, lines_in, ports_in, levels_of, nodes_of, tables_of, pins_of, lines_of, ports_of, own_ports_of, way_to, line_at, port_at, HasSites}
use Rattle.place_plan.specs.Vocabulary.{nets_in, AtLeast, HasSoundParts, IsSoundTableOf, IsSoundPinOf, IsWholeLineOf, IsSoundPort}
use Rattle.machine_bench.specs.Left.{LeavesSound}
use Rattle.cmd_bench.proofs.Below.{each_below}

-- ---- the network

pub tables_are : length (plain_network bench_draft).tables ≡ 17
unfolding plain_network covers_tables cover_tables
tables_are = refl

inputs_are : (plain_network bench_draft).inputs ≡ 1
unfolding plain_network
inputs_are = refl

outputs_are : length (plain_network bench_draft).outputs ≡ 2
unfolding plain_network
outputs_are = refl

pub nets_are : nets_in (plain_network bench_draft) ≡ 18
nets_are = omega (arith, tables_are, inputs_are)

pins_wanted : (plain_network bench_draft).inputs + length (plain_network bench_draft).outputs ≡ 3
pins_wanted = omega (arith, inputs_are, outputs_are)

-- ---- the machine

abbrev lines_at : Levels → ℕ → ℕ
lines_at ls n = lines_in (rest ls (place_in nodes_in ls n).path)

abbrev ports_at : Levels → ℕ → ℕ
ports_at ls n = ports_in (rest ls (place_in nodes_in ls n).path)

lines_tried : (n : ℕ) → n < 23 → (lines_at (levels_from bench_counts) n == 32) ≡ true
unfolding levels_from
lines_tried = each_below 23 (λ n. lines_at (levels_from bench_counts) n == 32) refl

ports_tried : (n : ℕ) → n < 22 → (ports_at (levels_from bench_counts) (suc n) == 24) ≡ true
unfolding levels_from
ports_tried = each_below 22 (λ n. ports_at (levels_from bench_counts) (suc n) == 24) refl

module _ (m : Shape) (is : m.counts ≡ bench_counts) where
  levels_are : levels_of m ≡ levels_from bench_counts
  unfolding levels_of
  levels_are = ap levels_from is

  nodes_are : nodes_of m ≡ 23
  unfolding nodes_of levels_from
  nodes_are = ap (size nodes_in) levels_are

  tables_there : tables_of m ≡ 128
  unfolding tables_of levels_from
  tables_there = ap (size tables_in) levels_are

  pins_there : pins_of m ≡ 28
  unfolding pins_of levels_from
  pins_there = ap ports_in levels_are

  lines_there : (n : ℕ) → n < nodes_of m → lines_of m n ≡ 32
  unfolding lines_of way_to
  lines_there n within = ap (λ ls. lines_at ls n) levels_are ∙ eqb-true _ _ (lines_tried n (omega (arith, within, nodes_are)))

  ports_there : (n : ℕ) → 0 < n → n < nodes_of m → own_ports_of m n ≡ 24
  unfolding own_ports_of ports_of way_to
  ports_there zero other within = absurd (omega (arith, other))
  ports_there (suc n) other within = ap (λ ls. ports_at ls (suc n)) levels_are ∙ eqb-true _ _ (ports_tried n (omega (arith, within, nodes_are)))

-- ---- so many parts

-- different numbers with P, one for each number below the count
for_each : (P : ℕ → Type 0) (f : ℕ → ℕ) (count : ℕ) → ((k : ℕ) → k < count → P (f k)) → ((j k : ℕ) → j < k → k < count → f j ≢ f k) → AtLeast P count
for_each P f count have apart = record {
  each = map f (range_with_len 0 count);
  have = λ k d less. let within : k < count = omega (arith, less, long) in subst P (sym (at k d within)) (have k within);
  different = λ j k d less within e. let b : k < count = omega (arith, within, long) in
      apart j k less b (sym (at j d (omega (arith, less, b))) ∙ e ∙ at k d b);
  many = omega (arith, long);
}
  where
    long : length (map f (range_with_len 0 count)) ≡ count
    long = length-map-range_with_len f 0 count

    at : (k d : ℕ) → k < count → get_or (map f (range_with_len 0 count)) k d ≡ f k
    at k d within = get_or-map-range_with_len f 0 count k k d within (omega arith)

-- the first four tables of each hextant, one after the other, and back
abbrev table_number : ℕ → ℕ
table_number k = 8 * (k / 4) + k % 4

abbrev table_place : ℕ → ℕ
table_place t = 4 * (t / 8) + t % 8

tables_back : (k : ℕ) → k < 17 → (table_place (table_number k) == k) ≡ true
tables_back = each_below 17 (λ k. table_place (table_number k) == k) refl

tables_within : (k : ℕ) → k < 17 → nat_lt (table_number k) 128 ≡ true
tables_within = each_below 17 (λ k. nat_lt (table_number k) 128) refl

tables_first : (k : ℕ) → k < 17 → nat_lt (table_number k % 8) 4 ≡ true
tables_first = each_below 17 (λ k. nat_lt (table_number k % 8) 4) refl

tables_apart : (j k : ℕ) → j < k → k < 17 → table_number j ≢ table_number k
tables_apart j k less within same =
    let a : table_place (table_number j) ≡ j = eqb-true _ _ (tables_back j (omega (arith, less, within))) in
    let b : table_place (table_number k) ≡ k = eqb-true _ _ (tables_back k within) in
    let e : j ≡ k = sym a ∙ ap table_place same ∙ b in
    omega (arith, less, e)

module _ (m : Shape) (is : m.counts ≡ bench_counts) (f : Faults) (left : LeavesSound m f) (sites : HasSites m) where
  some_tables : AtLeast (IsSoundTableOf m f) 17
  some_tables = for_each (IsSoundTableOf m f) table_number 17
      (λ k less.
      let w = ltb-true _ _ (tables_within k less) in
      let within : table_number k < tables_of m = omega (arith, w, tables_there m is) in
      let first : table_number k % m.counts.tables < 4 = rw is (ltb-true _ _ (tables_first k less)) in
      (within, left.tables (table_number k) within first))
      tables_apart

  some_pins : AtLeast (IsSoundPinOf m f) 3
  some_pins = for_each (IsSoundPinOf m f) (λ k. k) 3
      (λ k less. let within : k < pins_of m = omega (arith, less, pins_there m is) in (within, left.pins k (omega (arith, less)) within))
      (λ j k less within e. omega (arith, less, e))

  some_lines : (n : ℕ) → n < nodes_of m → AtLeast (IsWholeLineOf m f n) 18
  some_lines n node = for_each (IsWholeLineOf m f n) (line_at m n) 18
      (λ k less. let within : k < lines_of m n = omega (arith, less, lines_there m is n node) in
      (sites.line n k node within, left.lines n k node (omega (arith, less)) within))
      (λ j k less within e. let b = sites.lines_ascend n j k less in omega (arith, b, e))

  some_ports : (n : ℕ) → 0 < n → n < nodes_of m → AtLeast (IsSoundPort m f n) 18
  some_ports n other node = for_each (IsSoundPort m f n) (port_at m n) 18
      (λ k less. let within : k < own_ports_of m n = omega (arith, less, ports_there m is n other node) in
      (sites.port n k node within, left.ports n k node (omega (arith, less)) within))
      (λ j k less within e. let b = sites.ports_ascend n j k less in omega (arith, b, e))

  pub sound_parts : ((k : ℕ) → k < nodes_of m → IsServed m f k) → HasSoundParts m f (plain_network bench_draft)
  sound_parts served = record {
    served = served;
    tables = subst (AtLeast (IsSoundTableOf m f)) (sym tables_are) some_tables;
    pins = subst (AtLeast (IsSoundPinOf m f)) (sym pins_wanted) some_pins;
    lines = λ k node. subst (AtLeast (IsWholeLineOf m f k)) (sym nets_are) (some_lines k node);
    ports = λ k other node. subst (AtLeast (IsSoundPort m f k)) (sym nets_are) (some_ports k other node);
  }
