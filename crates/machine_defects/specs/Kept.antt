-- How a list of defects is kept: by marks and counts.
use Rattle.std.specs.Prelude.{◌≡◌, ◌⊎◌, ℕ, ◌+◌, ◌<◌, ◌==◌, if◌then◌else◌, slice_set, Bool, true, false, not, ◌&&◌, ◌||◌, Option, Some, None}
use Rattle.std.specs.{Prelude.List, Prelude.length, Prelude.slice_index_or, Ordering.nat_cmp}
use Rattle.std.specs.FinSet as set
use Rattle.base_bits.specs.Numbers.{has_number}
use Rattle.machine_shape.specs.declared.{Shape.Shape, Table.Table}
use Rattle.machine_shape.specs.Shape.{wires_of, crosses_of, tables_of, nodes_of, lines_of, own_ports_of, pins_of, ends_of, table_wire, line_at}
use Rattle.machine_shape.specs.Shape.{port_at, pin_wire, parent_of}
use Rattle.machine_defects.specs.declared.kept.Kept.{Kept}
use Rattle.machine_defects.specs.Lists.{DefectList, those, how_many, all_below, touches_cross}

-- the set of the numbers with a mark
abbrev pub marked : List Bool → set.FinSet nat_cmp
marked marks = set.from_list (those (has_number marks) (length marks))

-- the count at a number
abbrev pub count_at : List ℕ → ℕ → ℕ
count_at counts n = slice_index_or counts n 0

-- by marks: a crosspoint is not free, and a table
abbrev pub is_barred : Shape → List Bool → List Bool → ℕ → Bool
is_barred m wires crosses x = has_number crosses x || (has_number wires (ends_of m x).0 || has_number wires (ends_of m x).1)

abbrev pub is_lost : Shape → List Bool → List Bool → ℕ → Bool
is_lost m wires tables t = has_number tables t || not (all_below 7 (λ k. not (has_number wires (table_wire m t k))))

-- how many listed crosspoints a line has
abbrev pub shut_at : Shape → List Bool → ℕ → ℕ
shut_at m crosses line = how_many (λ x. has_number crosses x && ((ends_of m x).1 == line)) (crosses_of m)

-- a line that isn't listed, and has no listed crosspoint
abbrev pub is_clear_line : List Bool → List ℕ → ℕ → Bool
is_clear_line wires shut line = not (has_number wires line) && (count_at shut line == 0)

-- the marks and counts as lists
pub record Marks : Type 0 where
  pub shape : Shape
  pub wires : List Bool
  pub crosses : List Bool
  pub tables : List Bool
  pub barred : List Bool
  pub lost : List Bool
  pub owners : List (Option Table)
  pub shut : List ℕ
  pub open_lines : List ℕ
  pub free_ports : List ℕ
  pub free_tables : ℕ
  pub free_pins : ℕ

abbrev pub marks_in : Kept → Marks
marks_in k = record {
  shape = k.shape;
  wires = k.wires;
  crosses = k.crosses;
  tables = k.tables;
  barred = k.barred;
  lost = k.lost;
  owners = k.owners.items;
  shut = k.shut.items;
  open_lines = k.open_lines.items;
  free_ports = k.free_ports.items;
  free_tables = k.free_tables;
  free_pins = k.free_pins;
}

abbrev pub listed_by : Marks → DefectList
listed_by k = record { shape = k.shape; list = record { wires = marked k.wires; crosses = marked k.crosses; tables = marked k.tables } }

abbrev pub list_in : Kept → DefectList
list_in k = listed_by (marks_in k)

-- ---- the tables of wires

-- the owner of each wire is the table whose pin it is
pub record AreOwners (m : Shape) (owners : List (Option Table)) : Type 0 where
  pub owned : (t k : ℕ) → t < tables_of m → k < 7 → slice_index_or owners (table_wire m t k) None ≡ Some (record { 0 = t })
  pub others : (w : ℕ) (t : Table) → slice_index_or owners w None ≡ Some t → (t.0 < tables_of m)
      × ((k : ℕ) × (k < 7) × (table_wire m t.0 k ≡ w))

-- the first i pins of a table have it as owner, and of the tables before it all; no other wire has an owner
pub record AreOwnersBefore (m : Shape) (n i : ℕ) (owners : List (Option Table)) : Type 0 where
  pub earlier : (t k : ℕ) → t < n → k < 7 → slice_index_or owners (table_wire m t k) None ≡ Some (record { 0 = t })
  pub own : (k : ℕ) → k < i → slice_index_or owners (table_wire m n k) None ≡ Some (record { 0 = n })
  pub others : (w : ℕ) (t : Table) → slice_index_or owners w None ≡ Some t → (t.0 < tables_of m)
      × ((k : ℕ) × (k < 7) × (table_wire m t.0 k ≡ w))

-- ---- counts

-- each line has its number of listed crosspoints
abbrev pub AreShutBy : Shape → List Bool → List ℕ → Type 0
AreShutBy m crosses shut = (line : ℕ) → line < wires_of m → count_at shut line ≡ shut_at m crosses line

-- how many lines of a node are clear, how many of its ports aren't listed, and how many pins of the machine
abbrev pub clear_lines_at : Shape → List Bool → List ℕ → ℕ → ℕ
clear_lines_at m wires shut n = how_many (λ i. is_clear_line wires shut (line_at m n i)) (lines_of m n)

abbrev pub free_ports_at : Shape → List Bool → ℕ → ℕ
free_ports_at m wires n = how_many (λ i. not (has_number wires (port_at m n i))) (own_ports_of m n)

abbrev pub free_pins_in : Shape → List Bool → ℕ
free_pins_in m wires = how_many (λ i. not (has_number wires (pin_wire m i))) (pins_of m)

-- the counts of the first n nodes are right
pub record AreRecounted (m : Shape) (wires : List Bool) (shut : List ℕ) (n : ℕ) (open_lines free_ports : List ℕ) : Type 0 where
  pub lines_width : length open_lines ≡ nodes_of m
  pub ports_width : length free_ports ≡ nodes_of m
  pub lines : (i : ℕ) → i < n → count_at open_lines i ≡ clear_lines_at m wires shut i
  pub ports : (i : ℕ) → i < n → count_at free_ports i ≡ free_ports_at m wires i

-- a node, or the one above it
abbrev pub IsItOrAbove : Shape → ℕ → ℕ → Type 0
IsItOrAbove m n i = (i ≡ n) ⊎ (parent_of m n ≡ Some i)

-- the counts of these nodes are right, and those of the others are as they were
pub record IsRecounted (m : Shape) (wires : List Bool) (shut : List ℕ) (these : ℕ → Type 0)
    (lines_old ports_old lines ports : List ℕ) : Type 0 where
  pub lines_width : length lines ≡ nodes_of m
  pub ports_width : length ports ≡ nodes_of m
  pub these_lines : (i : ℕ) → these i → count_at lines i ≡ clear_lines_at m wires shut i
  pub these_ports : (i : ℕ) → these i → count_at ports i ≡ free_ports_at m wires i
  pub other_lines : (i : ℕ) → ¬ these i → count_at lines i ≡ count_at lines_old i
  pub other_ports : (i : ℕ) → ¬ these i → count_at ports i ≡ count_at ports_old i

-- ---- a wire's crosspoints are barred

-- Those that are done are barred and listed no more. Those that the wire doesn't touch are as they were.
pub record IsSwept (m : Shape) (w : ℕ) (done : ℕ → Type 0) (crosses_old barred_old crosses barred : List Bool)
    (shut : List ℕ) : Type 0 where
  pub crosses_width : length crosses ≡ crosses_of m
  pub barred_width : length barred ≡ crosses_of m
  pub shut_width : length shut ≡ wires_of m
  pub fewer : (x : ℕ) → has_number crosses x ≡ true → has_number crosses_old x ≡ true
  pub more : (x : ℕ) → has_number barred_old x ≡ true → has_number barred x ≡ true
  pub done_crosses : (x : ℕ) → x < crosses_of m → done x → has_number crosses x ≡ false
  pub done_barred : (x : ℕ) → x < crosses_of m → done x → has_number barred x ≡ true
  pub other_crosses : (x : ℕ) → touches_cross m w x ≡ false → has_number crosses x ≡ has_number crosses_old x
  pub other_barred : (x : ℕ) → touches_cross m w x ≡ false → has_number barred x ≡ has_number barred_old x
  pub counted : AreShutBy m crosses shut

-- a table of these, if there is one, is listed no more and free no more
abbrev pub Loses : Option Table → List Bool → List Bool → ℕ → List Bool → List Bool → ℕ → Type 0
Loses None tables_old lost_old free_old tables lost free = (tables ≡ tables_old) × (lost ≡ lost_old) × (free ≡ free_old)
Loses (Some t) tables_old lost_old free_old tables lost free =
    (tables ≡ slice_set tables_old t.0 false) × (lost ≡ slice_set lost_old t.0 true)
    × (free + (if has_number lost_old t.0 then 0 else 1) ≡ free_old)

-- ---- all of it

-- there is a place for each
pub record IsWide (k : Marks) : Type 0 where
  pub wires : length k.wires ≡ wires_of k.shape
  pub crosses : length k.crosses ≡ crosses_of k.shape
  pub tables : length k.tables ≡ tables_of k.shape
  pub barred : length k.barred ≡ crosses_of k.shape
  pub lost : length k.lost ≡ tables_of k.shape
  pub owners : length k.owners ≡ wires_of k.shape
  pub shut : length k.shut ≡ wires_of k.shape
  pub open_lines : length k.open_lines ≡ nodes_of k.shape
  pub free_ports : length k.free_ports ≡ nodes_of k.shape

-- they are right
pub record AreRight (k : Marks) : Type 0 where
  pub wide : IsWide k
  pub owners : AreOwners k.shape k.owners
  pub ends : (x : ℕ) → x < crosses_of k.shape → has_number k.crosses x ≡ true → (has_number k.wires (ends_of k.shape x).0 ≡ false)
      × (has_number k.wires (ends_of k.shape x).1 ≡ false)
  pub pins : (t i : ℕ) → t < tables_of k.shape → has_number k.tables t ≡ true → i < 7 → has_number k.wires (table_wire k.shape t i) ≡ false
  pub barred : (x : ℕ) → x < crosses_of k.shape → has_number k.barred x ≡ is_barred k.shape k.wires k.crosses x
  pub lost : (t : ℕ) → t < tables_of k.shape → has_number k.lost t ≡ is_lost k.shape k.wires k.tables t
  pub shut : AreShutBy k.shape k.crosses k.shut
  pub open_lines : (n : ℕ) → n < nodes_of k.shape → count_at k.open_lines n ≡ clear_lines_at k.shape k.wires k.shut n
  pub free_ports : (n : ℕ) → n < nodes_of k.shape → count_at k.free_ports n ≡ free_ports_at k.shape k.wires n
  pub free_tables : k.free_tables ≡ how_many (λ t. not (has_number k.lost t)) (tables_of k.shape)
  pub free_pins : k.free_pins ≡ free_pins_in k.shape k.wires

-- what is kept is right
abbrev pub IsKept : Kept → Type 0
IsKept k = AreRight (marks_in k)
